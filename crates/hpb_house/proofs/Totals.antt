-- The facts that reports show together.
use Rattle.std.proofs.Common.{◌≡◌, ℕ, All, zero, suc, ◌+◌, ◌<◌, List, [], ◌∷◌, length, take, slice_index_or, ap, ◌∙◌, arith}
use Rattle.rtrb.specs.Ring.{sent}
use Rattle.hpb_rings.specs.declared.report.Report.{Report}
use Rattle.hpb_board.specs.Publication.{Viewing}
use Rattle.hpb_house.specs.Boards.{SameBoard}
use Rattle.hpb_house.specs.Reports.{AreApart, Said, Viewed, book_of, opened_of, total, said}
use Rattle.hpb_house.proofs.Lists.{map-each, map-pairs}

pub total-next : (xs : List Report) (i : ℕ) (d : Report) → i < length xs → total (take (suc i) xs) ≡ total (take i xs) + (slice_index_or xs i d).accepted
total-next [] i d lt = absurd (omega arith)
total-next (x ∷ xs) zero d lt = omega arith
total-next (x ∷ xs) (suc i) d lt = let r = total-next xs i d (omega arith) in omega (arith, r)

pub said_same : (r s : Report) → r.seat ≡ s.seat → r.letters ≡ s.letters → r.taken ≡ s.taken → r.accepted ≡ s.accepted → r.is_halted ≡ s.is_halted → said r ≡ said s
said_same r s a b c d e =
    ap (λ x. record { seat = x; sent = sent r.letters; taken = r.taken; accepted = r.accepted; is_halted = r.is_halted }) a
    ∙ (ap (λ x. record { seat = s.seat; sent = sent x; taken = r.taken; accepted = r.accepted; is_halted = r.is_halted }) b
    ∙ (ap (λ x. record { seat = s.seat; sent = sent s.letters; taken = x; accepted = r.accepted; is_halted = r.is_halted }) c
    ∙ (ap (λ x. record { seat = s.seat; sent = sent s.letters; taken = s.taken; accepted = x; is_halted = r.is_halted }) d
    ∙ ap (λ x. record { seat = s.seat; sent = sent s.letters; taken = s.taken; accepted = s.accepted; is_halted = x }) e)))

-- after a last view they follow the same board
pub board_after : (eye : Viewing) {old new : List Report} → Viewed old new → All (λ r. SameBoard eye r.viewer) old → All (λ r. SameBoard eye r.viewer) new
board_after eye {old} {new} viewed on = λ k d lt.
    (map-each book_of (λ b. b ≡ eye.book) new old viewed.book (λ j e le. (on j e le).0) k d lt, map-each opened_of (λ v. v ≡ eye.opened) new old viewed.opened (λ j e le. (on j e le).1) k d lt)

-- and no two are of one seat
pub apart_after : {old new : List Report} → Viewed old new → AreApart old → AreApart new
apart_after {old} {new} viewed apart = map-pairs said (λ (s : Said). s.seat) new old viewed.said apart
