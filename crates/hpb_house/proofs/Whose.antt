-- Reports that are those of clients, one of each.
use Rattle.std.proofs.Common.{◌≡◌, ◌∙◌, ℕ, zero, suc, ◌+◌, ◌<◌, List, [], ◌∷◌, length, map, get_or, slice_index_or, arith, refl, sym, ap}
use Rattle.std.specs.List.{All, range_with_len}
use Rattle.std.proofs.lemmas.List.{get_or-map, length-map}
use Rattle.std.proofs.lemmas.List.FromFn.{get_or-range_with_len, length-range_with_len}
use Rattle.hpb_board.specs.Publication.{Viewing}
use Rattle.hpb_house.specs.Reports.{AreApart}
use Rattle.hpb_house.specs.Boards.{SameBoard}
use Rattle.hpb_house.specs.Clients.{AreReportsOf, IsReportOf}
use Rattle.hpb_house.specs.Starts.{AreBegun, AreOneByOne}
use Rattle.hpb_house.specs.declared.keeper.Halt.{Halt}
use Rattle.hpb_rings.specs.declared.client.Client.{Client}
use Rattle.hpb_rings.specs.declared.report.Report.{Report}

-- a fact about each of a list gives one about its counterpart
pub each_of : {A B : Type 0} (has : A → B → Type 0) (P : A → Type 0) (Q : B → Type 0) → ((x : A) (y : B) → P x → has x y → Q y) → (xs : List A) (ys : List B)
    → All P xs → AreOneByOne has xs ys → All Q ys
each_of has P Q f [] [] all each k d lt = absurd (omega arith)
each_of has P Q f [] (y ∷ ys) all each k d lt = absurd each
each_of has P Q f (x ∷ xs) [] all each k d lt = absurd each
each_of has P Q f (x ∷ xs) (y ∷ ys) all each zero d lt = f x y (all zero x (omega arith)) each.0
each_of has P Q f (x ∷ xs) (y ∷ ys) all each (suc k) d lt = each_of has P Q f xs ys (λ j e l. all (suc j) e (omega (arith, l))) each.1 k d (omega (arith, lt))

-- if counterparts have the same value, the maps are equal
pub told_of_each : {A B C : Type 0} (has : A → B → Type 0) (f : A → C) (g : B → C) → ((x : A) (y : B) → has x y → g y ≡ f x) → (xs : List A) (ys : List B)
    → AreOneByOne has xs ys → map g ys ≡ map f xs
told_of_each has f g same [] [] each = refl
told_of_each has f g same [] (y ∷ ys) each = absurd each
told_of_each has f g same (x ∷ xs) [] each = absurd each
told_of_each has f g same (x ∷ xs) (y ∷ ys) each = ap (λ c. c ∷ map g ys) (same x y each.0) ∙ ap (λ cs. f x ∷ cs) (told_of_each has f g same xs ys each.1)

-- reports with the seats from 0 on are of different seats
apart_by : (reports : List Report) (count : ℕ) → map (λ (report : Report). report.seat) reports ≡ range_with_len 0 count → AreApart reports
apart_by reports count is i j d below within same =
    let long : length reports ≡ count = sym (length-map reports (λ (report : Report). report.seat)) ∙ ap length is ∙ length-range_with_len 0 count in
    let at : (k : ℕ) → k < length reports → (slice_index_or reports k d).seat ≡ 0 + k =
    λ k lt. sym (get_or-map (λ (report : Report). report.seat) reports k d 0 lt) ∙ ap (λ seats. get_or seats k 0) is ∙ get_or-range_with_len 0 count k 0 (omega (arith, long)) in
    absurd (omega (arith, at i (omega arith), at j within, same))

-- facts about the reports of clients that began with a house
module _ (eye : Viewing) (clients : List (Client Halt)) (count : ℕ) (begun : AreBegun eye clients count) (reports : List Report) (own : AreReportsOf clients reports) where
  pub on_board : All (λ report. SameBoard eye report.viewer) reports
  on_board = each_of IsReportOf (λ (client : Client Halt). SameBoard eye client.viewer) (λ (report : Report). SameBoard eye report.viewer)
      (λ client report same its. (its.0.0 ∙ same.0, its.0.1 ∙ same.1)) clients reports
      (λ k d lt. let viewer = (begun.begun k d lt).viewer in (viewer.0, viewer.1)) own

  pub seated : map (λ (report : Report). report.seat) reports ≡ range_with_len 0 count
  seated = told_of_each IsReportOf (λ (client : Client Halt). client.seat) (λ (report : Report). report.seat) (λ client report its. its.1) clients reports own ∙ begun.numbered

  pub apart : AreApart reports
  apart = apart_by reports count seated
