use Rattle.std.proofs.Common.{◌≡◌, ◌≤◌, ℕ, List, ◌++◌, ◌-◌, length, min, take, sym, ap, ◌∙◌, arith}
use Rattle.std.proofs.lemmas.List.{take_min}
use Rattle.hpb_server.specs.declared.input.TheConstants.{KEPT_DEFINITION_BYTES}
use Rattle.hpb_server.proofs.Kept.{kept_within}
use Rattle.hpb_server.proofs.input.keep.Goals as goal

pub returns : goal.returns
returns c =
    let old = c.args.bytes.now.items in
    let part = c.args.part.now in
    let used : c.len-room.result ≡ length old = omega (arith, c.len-room.ensures, c.args.bytes.now.ok.0) in
    let within : length old ≤ KEPT_DEFINITION_BYTES = omega (arith, c.requires, c.args.bytes.now.ok.0) in
    let room = KEPT_DEFINITION_BYTES - length old in
    let added : c.min.result ≡ min room (length part) = c.min.ensures ∙ ap (λ (n : ℕ). min (KEPT_DEFINITION_BYTES - n) (length part)) used in
    c.in_ok-extend_from_slice.ensures.items
    ∙ ap (λ (xs : List ℕ). old ++ xs) (ap (λ (i : ℕ). take i part) added ∙ take_min room part)
    ∙ sym (kept_within KEPT_DEFINITION_BYTES old part within)
