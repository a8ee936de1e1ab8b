-- The licences by their numbers, and a table of their units.
use Rattle.std.proofs.Common.{◌≡◌, ℕ, zero, suc, ◌+◌, ◌<◌, ◌≤◌, Bool, true, false, cond, eqb, List, set, length, refl, sym, ap, ◌∙◌, arith, ⊎_elim}
use Rattle.std.specs.Prelude.{slice_index}
use Rattle.std.specs.Option.{IsSome, is_some}
use Rattle.std.specs.List.{range_with_len}
use Rattle.std.proofs.Math.Numerals.{add-one}
use Rattle.std.proofs.lemmas.Bool.{cases_lt, both_ways, eqb-true, eq-eqb, false_from_ne_true}
use Rattle.std.proofs.lemmas.List.{get_or-set_same, get_or-set_other}
use Rattle.hpb_rules.specs.Tree.{Node, IsTree, terms_of, sum_over, units, units_at}
use Rattle.hpb_rules.proofs.Places.{sum_more, sum_has, count_yes, count_no, terms_in}
use Rattle.hpb_tree.specs.Licences.{licences_among, licence_number, part_over}
use Rattle.hpb_units.proofs.Counting.{part_some, part_none, sum_one, units_own}

module _ (nodes : List Node) where
  -- a licence's number is below those of the licences behind it
  number_before : (l m : ℕ) → is_some (terms_of nodes l) ≡ true → l < m → licence_number nodes l < licence_number nodes m
  number_before l m some less =
      let one : cond {A = ℕ} (is_some (terms_of nodes l)) 1 0 ≡ 1 = ap (λ b. cond {A = ℕ} b 1 0) some in
      omega (arith, sum_has (λ n. cond {A = ℕ} (is_some (terms_of nodes n)) 1 0) l m less)

  -- licences with the same number are the same
  number_same : (l m : ℕ) → is_some (terms_of nodes l) ≡ true → is_some (terms_of nodes m) ≡ true → licence_number nodes l ≡ licence_number nodes m → l ≡ m
  number_same l m some other same = ⊎_elim
      (λ less. absurd (omega (arith, same, number_before l m some less)))
      (λ le. ⊎_elim
      (λ less. absurd (omega (arith, same, number_before m l other less)))
      (λ le'. omega (arith, le, le'))
      (cases_lt m l))
      (cases_lt l m)

  -- each number below the count is that of a licence
  pub record IsNumbered (number licence : ℕ) : Type 0 where
    pub some : is_some (terms_of nodes licence) ≡ true
    pub is : licence_number nodes licence ≡ number

  pub numbered : (number n : ℕ) → number < licences_among nodes (range_with_len 0 n) → (l : ℕ) × IsNumbered number l
  numbered number zero h = absurd (omega arith)
  numbered number (suc n) h = ⊎_elim (λ less. numbered number n less) (λ le. by (is_some (terms_of nodes n)) refl le) (cases_lt number (licence_number nodes n))
    where
      up : licence_number nodes (suc n) ≡ licence_number nodes n + cond {A = ℕ} (is_some (terms_of nodes n)) 1 0
      up = ap (licence_number nodes) (sym (add-one n)) ∙ sum_more (λ m. cond {A = ℕ} (is_some (terms_of nodes m)) 1 0) n

      by : (b : Bool) → is_some (terms_of nodes n) ≡ b → licence_number nodes n ≤ number → (l : ℕ) × IsNumbered number l
      by true e le = (n, record { some = e; is = omega (arith, h, up, le, ap (λ b. cond {A = ℕ} b 1 0) e) })
      by false e le = absurd (omega (arith, h, up, le, ap (λ b. cond {A = ℕ} b 1 0) e))

  -- whether a licence has a number
  abbrev pub has_number : ℕ → ℕ → Bool
  has_number number licence = eqb (licence_number nodes licence) number

  -- the sum over the licences with a given number is that of the one licence
  pub sum_numbered : (number l : ℕ) → IsNumbered number l → sum_over nodes (has_number number) (units_at nodes) ≡ units_at nodes l
  sum_numbered number l at =
      sum_one (part_over nodes (has_number number) (units_at nodes)) l (length nodes) (terms_in nodes l at.some) (λ m other. elsewhere m other (is_some (terms_of nodes m)) refl)
      ∙ part_some nodes (has_number number) (units_at nodes) l at.some
      ∙ ap (λ b. cond b (units_at nodes l) 0) (eq-eqb (licence_number nodes l) number at.is)
    where
      elsewhere : (m : ℕ) → (m ≡ l → ⊥) → (b : Bool) → is_some (terms_of nodes m) ≡ b → part_over nodes (has_number number) (units_at nodes) m ≡ 0
      elsewhere m other true e =
          part_some nodes (has_number number) (units_at nodes) m e
          ∙ ap (λ b. cond b (units_at nodes m) 0) (false_from_ne_true (has_number number m) (λ h. other (number_same m l e at.some (eqb-true (licence_number nodes m) number h ∙ sym at.is))))
      elsewhere m other false e = part_none nodes (has_number number) (units_at nodes) m e

  -- the number of licences before place i, and the units of each of them at its number
  pub record Tabled (i number : ℕ) (table : List ℕ) : Type 0 where
    pub counted : number ≡ licence_number nodes i
    pub units : (l : ℕ) → l < i → IsSome (terms_of nodes l) → slice_index table (licence_number nodes l) ≡ units_at nodes l

  module _ {i number : ℕ} {table : List ℕ} (t : Tabled i number table) where
    -- a package is passed over
    pub tabled_package : is_some (terms_of nodes i) ≡ false → Tabled (i + 1) number table
    tabled_package none = record {
      counted = count_no (λ m. is_some (terms_of nodes m)) i number none t.counted;
      units = λ l less some. ⊎_elim
          (λ before. t.units l before some)
          (λ le. let same : l ≡ i = omega (arith, less, le) in absurd (both_ways _ (ap (λ k. is_some (terms_of nodes k)) same ∙ none) some))
          (cases_lt l i);
    }

    -- a licence's units are written
    pub tabled_licence : {own : ℕ} → IsTree nodes → is_some (terms_of nodes i) ≡ true → own ≡ units nodes i → number < length table → Tabled (i + 1) (number + 1) (set table number own)
    tabled_licence {own = own} tree here read within = record {
      counted = count_yes (λ m. is_some (terms_of nodes m)) i number here t.counted;
      units = λ l less some. ⊎_elim
          (λ before. get_or-set_other table number (licence_number nodes l) own 0 (λ same. omega (arith, same, t.counted, number_before l i some before)) ∙ t.units l before some)
          (λ le.
          let same : l ≡ i = omega (arith, less, le) in
          ap (λ k. slice_index (set table number own) (licence_number nodes k)) same
          ∙ ap (slice_index (set table number own)) (sym t.counted)
          ∙ get_or-set_same table number own 0 within
          ∙ read
          ∙ units_own nodes tree i here
          ∙ ap (units_at nodes) (sym same))
          (cases_lt l i);
    }
