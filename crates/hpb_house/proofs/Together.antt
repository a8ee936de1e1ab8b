-- The commands that answers newly accepted, by the reports of one publisher's clients.
use Rattle.std.proofs.Common.{◌≡◌, ℕ, zero, suc, ◌<◌, ◌≤◌, ◌==◌, ◌⊎◌, inl, inr, List, [], ◌∷◌, ◌++◌, map, take, drop, length, refl, sym, ap, subst, ◌∙◌, arith, slice_index_or}
use Rattle.std.specs.Prelude.{filter, flat_map, AllPairs, IsPermutation}
use Rattle.std.proofs.lemmas.List.{length-append, length-map, take-append-drop}
use Rattle.std.proofs.lemmas.List.Elements.{filter-append}
use Rattle.std.proofs.lemmas.List.Sorted.{IsPermutation-map}
use mathlib.Core.List.{IsPrefix}
use Rattle.hpb_rules.specs.declared.command.Command.{Command}
use Rattle.hpb_rules.specs.declared.letter.Answer.{Answer}
use Rattle.hpb_rules.specs.declared.letter.Letter.{Letter}
use Rattle.hpb_rules.specs.AuctionValue.{AuctionValue}
use Rattle.hpb_rules.specs.Letters.{is_answer_new, new_commands}
use Rattle.hpb_rules.specs.Judging.{judged_in}
use Rattle.hpb_board.specs.Publication.{Viewing, answers_of}
use Rattle.hpb_rules.specs.Fronts.{joined}
use Rattle.hpb_rings.specs.declared.report.Report.{Report}
use Rattle.hpb_house.specs.Histories.{history_of}
use Rattle.hpb_house.specs.Reports.{total, accepted_by}
use Rattle.hpb_rules.proofs.Prefixes.{prefix_shorter}
use Rattle.hpb_house.proofs.Histories.{judged_prefix}
use Rattle.hpb_house.proofs.Parts.{parts, parts_few, parts_all, begins_each, all_same, map_parts, filter_swap}
use Rattle.hpb_rules.proofs.Judged.{new_join}

abbrev command_of : Answer → Command
command_of a = a.letter.command

abbrev seat_of : Answer → ℕ
seat_of a = a.letter.seat

-- ---- the commands of one seat
-- if none is newly accepted, none of a seat is
none_of_seat : (seat : ℕ) (answers : List Answer) → length (new_commands answers) ≡ 0 → new_commands (filter (λ a. seat_of a == seat) answers) ≡ []
none_of_seat seat answers none =
    let long = length-map (filter is_answer_new answers) command_of in
    ap (map command_of) (filter_swap is_answer_new (λ a. seat_of a == seat) answers ∙ ap (filter (λ a. seat_of a == seat)) (empty (filter is_answer_new answers) (omega (arith, long, none))))
  where
    empty : (xs : List Answer) → length xs ≡ 0 → xs ≡ []
    empty [] e = refl
    empty (x ∷ xs) e = absurd (omega (arith, e))

-- if a longer list accepts no more, its answers to a seat accept no more
seat_later : (seat : ℕ) (v w : Viewing) → w.opened ≡ v.opened → IsPrefix v.list w.list → history_of v ≡ history_of w → new_commands (answers_of seat w) ≡ new_commands (answers_of seat v)
seat_later seat v w o p same =
    let q = judged_prefix v.opened v.list w.list p in
    let old : List Answer = judged_in v.opened (joined v.list) in
    let opened : judged_in w.opened (joined w.list) ≡ judged_in v.opened (joined w.list) = ap (λ (value : AuctionValue). judged_in value (joined w.list)) o in
    let all : judged_in w.opened (joined w.list) ≡ old ++ q.0 = opened ∙ sym q.1 in
    let long = ap length (same ∙ (ap new_commands all ∙ new_join old q.0)) in
    let none : length (new_commands q.0) ≡ 0 = omega (arith, long, length-append (new_commands old) (new_commands q.0)) in
    let split = filter-append (λ (a : Answer). seat_of a == seat) old q.0 in
    ap (λ (as' : List Answer). new_commands (filter (λ a. seat_of a == seat) as')) all ∙ (ap new_commands split
    ∙ (new_join (filter (λ a. seat_of a == seat) old) (filter (λ a. seat_of a == seat) q.0)
    ∙ (ap (λ (l : List Command). new_commands (filter (λ a. seat_of a == seat) old) ++ l) (none_of_seat seat q.0 none) ∙ nil (new_commands (filter (λ a. seat_of a == seat) old)))))
  where
    nil : (l : List Command) → l ++ [] ≡ l
    nil [] = refl
    nil (x ∷ l) = ap (λ (m : List Command). x ∷ m) (nil l)

order : (m n : ℕ) → (m ≤ n) ⊎ (n ≤ m)
order zero n = inl (omega arith)
order (suc m) zero = inr (omega arith)
order (suc m) (suc n) = elim (order m n) [ inl h ↦ inl (omega (arith, h)) | inr h ↦ inr (omega (arith, h)) ]

seat_same : (seat : ℕ) (v w : Viewing) (all : List (List Letter)) → w.opened ≡ v.opened → IsPrefix v.list all → IsPrefix w.list all → history_of v ≡ history_of w
    → new_commands (answers_of seat w) ≡ new_commands (answers_of seat v)
seat_same seat v w all o p q same =
    elim (order (length v.list) (length w.list)) [
      | inl h ↦ seat_later seat v w o (prefix_shorter v.list w.list all p q h) same
      | inr h ↦ sym (seat_later seat w v (sym o) (prefix_shorter w.list v.list all q p h) (sym same))
    ]

-- ---- all reports
total_counts : (rs : List Report) → total rs ≡ length (flat_map accepted_by rs)
total_counts [] = refl
total_counts (r ∷ rs) = let rest = total_counts rs in let one = r.counted in omega (arith, one, rest, length-append (accepted_by r) (flat_map accepted_by rs))

-- the newly accepted commands of a report's seat, by a viewer
abbrev pub of_seat : Viewing → Report → List Command
of_seat v r = map command_of (filter (λ a. seat_of a == r.seat) (filter is_answer_new (judged_in v.opened (joined v.list))))

module _ (rs : List Report) (v : Viewing) (all : List (List Letter)) (shown : IsPrefix v.list all)
    (opened : (j : ℕ) (d : Report) → j < length rs → (slice_index_or rs j d).viewer.opened ≡ v.opened)
    (trail : (j : ℕ) (d : Report) → j < length rs → IsPrefix (slice_index_or rs j d).viewer.list all)
    (same : (j : ℕ) (d : Report) → j < length rs → history_of v ≡ history_of (slice_index_or rs j d).viewer)
    (counted : total rs ≡ length (history_of v))
    (apart : AllPairs (λ (r s : Report). r.seat ≡ s.seat → ⊥) rs) where
  begins : (j : ℕ) (d : Report) → j < length rs → IsPrefix (accepted_by (slice_index_or rs j d)) (of_seat v (slice_index_or rs j d))
  begins j d lt =
      let r = slice_index_or rs j d in
      let answers : List Answer = answers_of r.seat r.viewer in
      let split = sym (new_join (take r.taken answers) (drop r.taken answers)) ∙ ap new_commands (take-append-drop r.taken answers) in
      let seat = seat_same r.seat v r.viewer all (opened j d lt) shown (trail j d lt) (same j d lt) in
      let swap = ap (map command_of) (filter_swap is_answer_new (λ (a : Answer). seat_of a == r.seat) (judged_in v.opened (joined v.list))) in
      (new_commands (drop r.taken answers), split ∙ (seat ∙ swap))

  together : map command_of (parts seat_of (λ (r : Report). r.seat) (filter is_answer_new (judged_in v.opened (joined v.list))) rs) ≡ flat_map (of_seat v) rs
  together = map_parts command_of (λ (r : Report). filter (λ (a : Answer). seat_of a == r.seat) (filter is_answer_new (judged_in v.opened (joined v.list)))) rs

  enough : length (flat_map (of_seat v) rs) ≤ length (flat_map accepted_by rs)
  enough =
      let news : List Answer = filter is_answer_new (judged_in v.opened (joined v.list)) in
      let few = parts_few seat_of (λ (r : Report). r.seat) news rs apart in
      let long = ap length together in
      let one = length-map (parts seat_of (λ (r : Report). r.seat) news rs) command_of in
      let two = length-map news command_of in
      let sum = total_counts rs in
      omega (arith, few, long, one, two, sum, counted)

  pub each_taken : (j : ℕ) (d : Report) → j < length rs → accepted_by (slice_index_or rs j d) ≡ new_commands (answers_of (slice_index_or rs j d).seat (slice_index_or rs j d).viewer)
  each_taken j d lt =
      let r = slice_index_or rs j d in
      let mine = begins_each accepted_by (of_seat v) rs begins enough j d lt in
      let seat = seat_same r.seat v r.viewer all (opened j d lt) shown (trail j d lt) (same j d lt) in
      let swap = ap (map command_of) (filter_swap is_answer_new (λ (a : Answer). seat_of a == r.seat) (judged_in v.opened (joined v.list))) in
      mine ∙ sym (seat ∙ swap)

  pub all_once : IsPermutation (flat_map accepted_by rs) (history_of v)
  all_once =
      let news : List Answer = filter is_answer_new (judged_in v.opened (joined v.list)) in
      let mine : flat_map accepted_by rs ≡ flat_map (of_seat v) rs = all_same accepted_by (of_seat v) rs (begins_each accepted_by (of_seat v) rs begins enough) in
      let whole : flat_map accepted_by rs ≡ map command_of (parts seat_of (λ (r : Report). r.seat) news rs) = mine ∙ sym together in
      let long = ap length whole in
      let one = length-map (parts seat_of (λ (r : Report). r.seat) news rs) command_of in
      let two = length-map news command_of in
      let sum = total_counts rs in
      let moved = parts_all seat_of (λ (r : Report). r.seat) news rs apart (omega (arith, long, one, two, sum, counted)) in
      subst (λ (l : List Command). IsPermutation l (history_of v)) (sym whole) (IsPermutation-map command_of (parts seat_of (λ (r : Report). r.seat) news rs) news moved)
