-- The letters that a client sent, and the answer that isn't the one for which it waits.
use Rattle.std.proofs.Common.{◌≡◌, ℕ, List, ◌++◌, Some, take, slice_get, sym, ap, subst, ◌∙◌}
use Rattle.hpb_rules.specs.declared.letter.Answer.{Answer}
use Rattle.hpb_rules.proofs.Lists.{get_front}
use Rattle.hpb_board.specs.Publication.{Viewing, answers_of}
use Rattle.hpb_rings.specs.Taking.{posted, slips}
use Rattle.hpb_rules.specs.Judging.{letters_of}
use Rattle.hpb_rings.proofs.Later.{answers-later}
use Rattle.hpb_serve.specs.Sessions.{Follows}
use Rattle.hpb_serve.specs.Stops.{IsInOrder}
use Rattle.hpb_rings.specs.declared.slip.Slip.{Slip}
use Rattle.hpb_rings.specs.declared.waiting.Waiting.{Waiting}

-- if these are the same, nothing was sent
pub same_sent : (seat seat' : ℕ) (viewer viewer' : Viewing) (taken taken' : ℕ) (waiting waiting' : List Waiting) (sent sent' : List Slip)
    → seat' ≡ seat → viewer' ≡ viewer → taken' ≡ taken → waiting' ≡ waiting
    → sent ≡ slips (letters_of (take taken (answers_of seat viewer)) ++ posted waiting)
    → sent' ≡ slips (letters_of (take taken' (answers_of seat' viewer')) ++ posted waiting') → sent' ≡ sent
same_sent seat seat' viewer viewer' taken taken' waiting waiting' sent sent' s v t w is is' =
    is'
    ∙ ap (λ n. slips (letters_of (take taken' (answers_of n viewer')) ++ posted waiting')) s
    ∙ ap (λ (eye : Viewing). slips (letters_of (take taken' (answers_of seat eye)) ++ posted waiting')) v
    ∙ ap (λ n. slips (letters_of (take n (answers_of seat viewer)) ++ posted waiting')) t
    ∙ ap (λ (ws : List Waiting). slips (letters_of (take taken (answers_of seat viewer)) ++ posted ws)) w
    ∙ sym is

-- ---- an answer out of order
-- it is out of order in a later view too
still_out : (seat taken : ℕ) (before after : Viewing) (waiting : List Waiting) → Follows before after → (IsInOrder seat before taken waiting → ⊥) → IsInOrder seat after taken waiting → ⊥
still_out seat taken before after waiting follows not in_order =
    let later = answers-later before after follows.1 follows.3 seat in
    not (λ given at. in_order given (subst (λ (answers : List Answer). slice_get answers taken ≡ Some given) later.1 (get_front (answers_of seat before) later.0 taken given at)))

-- and for a client that only viewed
pub moved : (seat seat' taken taken' : ℕ) (before after : Viewing) (waiting waiting' : List Waiting) → seat' ≡ seat → taken' ≡ taken → waiting' ≡ waiting
    → Follows before after → (IsInOrder seat before taken waiting → ⊥) → IsInOrder seat' after taken' waiting' → ⊥
moved seat seat' taken taken' before after waiting waiting' s t w follows not in_order =
    still_out seat taken before after waiting follows not
    (subst (λ n. IsInOrder n after taken waiting) s
    (subst (λ n. IsInOrder seat' after n waiting) t (subst (λ (ws : List Waiting). IsInOrder seat' after taken' ws) w in_order)))
