use Rattle.std.proofs.Common.{take, Some, ap, ◌∙◌, sym, arith}
use Rattle.hpb_tree.proofs.Accepted.{most_bidders}
use Rattle.hpb_tree.proofs.Keys.{bytes_taken}
use Rattle.hpb_tree.proofs.Kept.{accepted_value, bidder_hinted}
use Rattle.hpb_tree.proofs.definition.Definition.find_bidder_at_front.Goals as goal

pub new-requires : goal.new-requires
new-requires c =
    let rules = c.args.self.now in
    let bytes = bytes_taken c.args.len c.args.bytes.now (λ i. omega (arith, c.type_inv.bytes i)) in
    let found = bidder_hinted c.self.inside rules c.self.invariant c.self.view_is c.in-Some.place (take c.args.len c.args.bytes.now) bytes c.in-Some.ensures in
    omega (arith, found.1, most_bidders rules (accepted_value c.self.inside rules c.self.invariant c.self.view_is))

pub returns-in-Some : goal.returns-in-Some
returns-in-Some c =
    let bytes = bytes_taken c.args.len c.args.bytes.now (λ i. omega (arith, c.type_inv.bytes i)) in
    let found = bidder_hinted c.self.inside c.args.self.now c.self.invariant c.self.view_is c.in-Some.place (take c.args.len c.args.bytes.now) bytes c.in-Some.ensures in
    record { value = ap Some c.new.ensures ∙ sym found.0; within = omega (arith, c.new.ensures, found.1) }
