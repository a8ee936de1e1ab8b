use Rattle.std.proofs.Common.{sym, ◌∙◌, arith}
use Rattle.std.proofs.lemmas.Bool.{both_ways}
use Rattle.hpb_bids.proofs.Entries.{nodes_of, bidders_of, waived_of, quiet_of, is_saved_of}
use Rattle.hpb_bids.proofs.restorable.is_saved.Goals as goal

pub returns-then-not-are_nodes-clause-only : goal.returns-then-not-are_nodes-clause-only
returns-then-not-are_nodes-clause-only c is = absurd (both_ways _ c.if-not-are_nodes.true (c.are_nodes.ensures.1 (nodes_of c.args.definition.now c.args.saved.now is)))

pub returns-then-not-are_bidders-clause-only : goal.returns-then-not-are_bidders-clause-only
returns-then-not-are_bidders-clause-only c is = absurd (both_ways _ c.if-not-are_bidders.true (c.are_bidders.ensures.1 (bidders_of c.args.definition.now c.args.saved.now is)))

pub returns-then-not-saved-clause-found : goal.returns-then-not-saved-clause-found
returns-then-not-saved-clause-found c done = is_saved_of c.args.definition.now c.args.saved.now (omega arith) (omega arith)
    (c.are_numbers.ensures.0 c.if-not-are_numbers.false)
    (c.is_auctioneers.ensures.0 c.if-not-is_auctioneers.false)
    (c.are_nodes.ensures.0 c.if-not-are_nodes.false)
    (c.are_bidders.ensures.0 c.if-not-are_bidders.false)
    (λ over. absurd (both_ways _ c.if-not-saved.true over))
    (λ over. absurd (both_ways _ c.if-not-saved.true over))

pub returns-then-has_waiver-clause-only : goal.returns-then-has_waiver-clause-only
returns-then-has_waiver-clause-only c is = absurd (both_ways _ (waived_of c.args.definition.now c.args.saved.now is c.if-not-saved.false) (sym c.has_waiver.ensures ∙ c.if-has_waiver.true))

pub returns-clause-found : goal.returns-clause-found
returns-clause-found c quiet = is_saved_of c.args.definition.now c.args.saved.now (omega arith) (omega arith)
    (c.are_numbers.ensures.0 c.if-not-are_numbers.false)
    (c.is_auctioneers.ensures.0 c.if-not-is_auctioneers.false)
    (c.are_nodes.ensures.0 c.if-not-are_nodes.false)
    (c.are_bidders.ensures.0 c.if-not-are_bidders.false)
    (λ over. c.are_quiet.ensures.0 quiet)
    (λ over. sym c.has_waiver.ensures ∙ c.if-has_waiver.false)

pub returns-clause-only : goal.returns-clause-only
returns-clause-only c is = c.are_quiet.ensures.1 (quiet_of c.args.definition.now c.args.saved.now is c.if-not-saved.false)
