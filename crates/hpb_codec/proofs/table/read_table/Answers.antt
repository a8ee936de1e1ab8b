use Rattle.std.proofs.Common.{◌≡◌, ◌+◌, ◌-◌, ◌*◌, ◌++◌, ◌<◌, ◌∷◌, [], ℕ, length, take, drop, get_or, sym, ap, ◌∙◌, arith, length-set}
use Rattle.std.proofs.Math.Nat.{add-mul}
use Rattle.std.proofs.lemmas.List.{take_more_set, take_more, length-drop}
use Rattle.hpb_codec.proofs.Tables.{next_entry, recursion_at, recursion_push, entry_added}
use Rattle.hpb_codec.proofs.table.read_table.Goals as goal

pub returns-in-None-clause-only : goal.returns-in-None-clause-only
returns-in-None-clause-only g c values len all spelled =
    let i = c.loop-place.place-index in
    let same = c.loop-place.invariant.only values (omega arith) all spelled in
    let lt : i < length values = omega arith in
    let next = next_entry g.T.Entry.spelling g.T.Entry.SIZE g.met.T.Entry.sized values i c.place-item.result c.loop-place.rest.now lt same.0 in
    let fit = recursion_at g.T.Entry.fits values i c.place-item.result lt all in
    let front = c.split_at.ensures.front ∙ ap (λ (k : ℕ). take k c.loop-place.rest.now) c.SIZE.ensures ∙ next.0 in
    absurd (cc ((c.read.ensures (get_or values i c.place-item.result)).1 (fit, front)))

pub loop-place-preserved : goal.loop-place-preserved
loop-place-preserved g c =
    let i = c.loop-place.place-index in
    let lt : i < length c.loop-place.table = omega arith in
    let pushed = take_more_set c.loop-place.table i c.in-Some.value lt in
    let one = (c.read.ensures c.in-Some.value).0 c.in-Some.is in
    let size = c.SIZE.ensures in
    let front = c.split_at.ensures.front in
    let back = c.split_at.ensures.back in
    let inv = c.loop-place.invariant in
    record {
      left = rw (length-set, back, length-drop, inv.left, size) (one_less (length c.loop-place.table) i g.T.Entry.SIZE lt);
      whole = entry_added g.T.Entry.spelling c.args.bytes.now c.loop-place.table i c.in-Some.value c.SIZE.result c.loop-place.rest.now c.split_at.result.0.now c.split_at.result.1.now lt inv.whole front back one.1;
      fits = rw pushed (recursion_push g.T.Entry.fits _ _ inv.fits one.0);
      only = λ values len all spelled.
          let same = inv.only values (len ∙ simp length-set) all spelled in
          let lt' : i < length values = omega (arith, len, length-set c.loop-place.table i c.in-Some.value) in
          let next = next_entry g.T.Entry.spelling g.T.Entry.SIZE g.met.T.Entry.sized values i c.in-Some.value c.loop-place.rest.now lt' same.0 in
          let fit = recursion_at g.T.Entry.fits values i c.in-Some.value lt' all in
          let at : c.split_at.result.0.now ≡ g.T.Entry.spelling (get_or values i c.in-Some.value) = front ∙ ap (λ (k : ℕ). take k c.loop-place.rest.now) size ∙ next.0 in
          let is : c.in-Some.value ≡ get_or values i c.in-Some.value = cc ((c.read.ensures (get_or values i c.in-Some.value)).1 (fit, at)) in
          (back ∙ ap (λ (k : ℕ). drop k c.loop-place.rest.now) size ∙ next.1, pushed ∙ ap (λ xs. xs ++ c.in-Some.value ∷ []) same.1 ∙ ap (λ x. take i values ++ x ∷ []) is ∙ sym (take_more values i c.in-Some.value lt'));
    }
  where
    one_less : (n i s : ℕ) → i < n → (n - i) * s - s ≡ (n - (i + 1)) * s
    one_less n i s lt = let k : n - i ≡ (n - (i + 1)) + 1 = omega arith in rw k (omega (arith, add-mul (n - (i + 1)) 1 s))
