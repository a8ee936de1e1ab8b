-- A line cut off the bytes that were read.
use Rattle.std.proofs.Common.{◌≡◌, ℕ, suc, ◌+◌, ◌-◌, ◌<◌, ◌≤◌, List, ◌∷◌, ◌++◌, length, get_or, take, drop, refl, sym, ap, ◌∙◌, subst, arith, add-one, take-append-drop}
use Rattle.std.specs.Prelude.{slice_range, Some}
use Rattle.std.proofs.lemmas.List.{drop-drop, drop-take, length-take}
use Rattle.std.proofs.Math.Seq.{drop-cons}
use Rattle.hpb_server.specs.declared.input.TheConstants.{LINE_FEED}
use Rattle.hpb_server.specs.declared.line.TheConstants.{KEPT_BYTES}
use Rattle.hpb_server.specs.Reading.{Pending, FindsEnd, HasNoEnd, SkipsLine, TakesToEnd}

-- the rest of a part behind its first bytes
drop-slice_range : (xs : List ℕ) (i j n : ℕ) → n ≤ j - i → drop n (slice_range xs i j) ≡ slice_range xs (i + n) j
drop-slice_range xs i j n within =
    let whole : j - i ≡ n + (j - (i + n)) = omega arith in
    ap (λ k. drop n (take k (drop i xs))) whole
    ∙ drop-take n (j - (i + n)) (drop i xs)
    ∙ ap (take (j - (i + n))) (drop-drop n i xs)

-- a list around one place
around : (xs : List ℕ) (n x : ℕ) → n < length xs → get_or xs n 0 ≡ x → xs ≡ take n xs ++ x ∷ drop (n + 1) xs
around xs n x within is =
    sym (take-append-drop n xs)
    ∙ ap (λ ys. take n xs ++ ys) (drop-cons xs n 0 within ∙ ap (λ y. y ∷ drop (suc n) xs) is)
    ∙ ap (λ k. take n xs ++ x ∷ drop k xs) (sym (add-one n))

-- a line whose end was found, with the kept bytes of its start
module _ {before : Pending} {size : ℕ} {front line : List ℕ} (found : FindsEnd before.unread (Some size)) (lies : front ≡ take size before.unread) where
  -- the line isn't taken yet
  pub line_found : TakesToEnd KEPT_BYTES before (record { unread = drop (size + 1) before.unread; budget = before.budget }) line (take KEPT_BYTES (line ++ front))
  line_found = record {
    bytes = front;
    no_end = subst HasNoEnd (sym lies) found.2;
    parts = around before.unread size LINE_FEED found.0 found.1 ∙ ap (λ xs. xs ++ LINE_FEED ∷ drop (size + 1) before.unread) (sym lies);
    kept = refl;
    nothing_read = refl;
  }

  -- the line is taken
  pub line_taken : {after : Pending} → SkipsLine size before after → TakesToEnd KEPT_BYTES before after line (take KEPT_BYTES (line ++ front))
  line_taken {after = after} skips = record {
    bytes = front;
    no_end = subst HasNoEnd (sym lies) found.2;
    parts = skips.parts ∙ ap (λ xs. xs ++ LINE_FEED ∷ after.unread) (sym lies);
    kept = refl;
    nothing_read = skips.nothing_read;
  }

-- a part around one place, and the rest of it behind that place
pub cut_part : (chunk xs part : List ℕ) (i j n x : ℕ) → xs ≡ chunk → slice_range chunk i j ≡ part → n < length (slice_range xs i j) → get_or (slice_range xs i j) n 0 ≡ x
    → part ≡ take n (slice_range xs i j) ++ x ∷ slice_range chunk (i + (n + 1)) j
cut_part chunk xs part i j n x same seen within is =
    let front = take n (slice_range xs i j) in
    let more : n + 1 ≤ j - i = omega (arith, within, length-take (j - i) (drop i xs)) in
    sym seen
    ∙ ap (λ ys. slice_range ys i j) (sym same)
    ∙ around (slice_range xs i j) n x within is
    ∙ ap (λ ys. front ++ x ∷ ys) (drop-slice_range xs i j (n + 1) more ∙ ap (λ ys. slice_range ys (i + (n + 1)) j) same)
