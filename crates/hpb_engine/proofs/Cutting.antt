-- The acknowledged commands, cut into batches: with one more batch, and with a checkpoint that covers more of them.
use Rattle.std.proofs.Common.{◌≡◌, ℕ, zero, suc, ◌+◌, ◌≤◌, List, [], ◌∷◌, ◌++◌, length, take, drop, refl, sym, ◌∙◌, ap, arith, append_assoc}
use Rattle.std.proofs.lemmas.List.{append-nil, take_all, take-append-le}
use Rattle.hpb_rules.specs.declared.command.Command.{Command}
use Rattle.hpb_rules.specs.Fronts.{joined}
use Rattle.hpb_rules.proofs.Judged.{joined_append}
use Rattle.hpb_engine.specs.Cuts.{Cut, all, landed, upto, shortened}

pub all_landed : (k : Cut) (commands : List Command) → all (landed k commands) ≡ all k ++ commands
all_landed k commands =
    ap (λ (l : List Command). k.before ++ l) (joined_append k.batches (commands ∷ []) ∙ ap (λ (l : List Command). joined k.batches ++ l) (append-nil commands))
    ∙ sym (append_assoc k.before (joined k.batches) commands)

-- After all batches there are all commands.
pub upto_all : (k : Cut) (count : ℕ) → count ≡ length k.batches → upto k count ≡ all k
upto_all k count is = ap (λ (l : List (List Command)). k.before ++ joined l) (take_all count k.batches (omega (arith, is)))

-- The batches before the new one are as they were.
pub upto_landed : (k : Cut) (commands : List Command) (count : ℕ) → count ≤ length k.batches → upto (landed k commands) count ≡ upto k count
upto_landed k commands count le = ap (λ (l : List (List Command)). k.before ++ joined l) (take-append-le count k.batches (commands ∷ []) le)

pub take_drop : (n : ℕ) (batches : List (List Command)) → take n batches ++ drop n batches ≡ batches
take_drop zero batches = refl
take_drop (suc n) [] = refl
take_drop (suc n) (commands ∷ batches) = ap (λ (l : List (List Command)). commands ∷ l) (take_drop n batches)

joined_parts : (n : ℕ) (batches : List (List Command)) → joined (take n batches) ++ joined (drop n batches) ≡ joined batches
joined_parts n batches = sym (joined_append (take n batches) (drop n batches)) ∙ ap joined (take_drop n batches)

-- The commands are the same.
pub all_shortened : (k : Cut) (n : ℕ) → all (shortened k n) ≡ all k
all_shortened k n =
    append_assoc k.before (joined (take n k.batches)) (joined (drop n k.batches)) ∙ ap (λ (l : List Command). k.before ++ l) (joined_parts n k.batches)

joined_none : (n : ℕ) → joined {A = Command} (take n []) ≡ []
joined_none zero = refl
joined_none (suc n) = refl

joined_takes : (n m : ℕ) (batches : List (List Command)) → joined (take n batches) ++ joined (take m (drop n batches)) ≡ joined (take (n + m) batches)
joined_takes zero m batches = let e : m ≡ zero + m = omega arith in ap (λ (i : ℕ). joined (take i batches)) e
joined_takes (suc n) m [] = joined_none m ∙ sym (joined_none (suc n + m))
joined_takes (suc n) m (commands ∷ batches) =
    let e : suc n + m ≡ suc (n + m) = omega arith in
    append_assoc commands (joined (take n batches)) (joined (take m (drop n batches)))
    ∙ ap (λ (l : List Command). commands ++ l) (joined_takes n m batches)
    ∙ ap (λ (i : ℕ). joined (take i (commands ∷ batches))) (sym e)

-- The first m batches after the first n are the first n + m of the whole.
pub upto_shortened : (k : Cut) (n m : ℕ) → upto (shortened k n) m ≡ upto k (n + m)
upto_shortened k n m =
    append_assoc k.before (joined (take n k.batches)) (joined (take m (drop n k.batches)))
    ∙ ap (λ (l : List Command). k.before ++ l) (joined_takes n m k.batches)
