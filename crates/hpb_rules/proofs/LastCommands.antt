-- A sender's last command stands in the history under its number, and no later one is the sender's.
use Rattle.std.proofs.Common.{◌≡◌, ℕ, suc, ◌-◌, Bool, true, false, cond, List, [], ◌∷◌, ◌++◌, reverse, length, Option, Some, None, refl, sym, ap, ◌∙◌, ⊎_elim, arith, subst}
use Rattle.std.specs.Prelude.{◌≢◌, MatchOption, slice_get}
use Rattle.std.proofs.lemmas.Bool.{both_ways}
use Rattle.std.proofs.lemmas.List.{reverse-append, reverse-reverse, length-reverse, length-append}
use Rattle.std.proofs.lemmas.Option.{slice_get_within}
use Rattle.hpb_rules.specs.declared.command.Command.{Command}
use Rattle.hpb_rules.specs.History.{Sender, sender_of, is_from, last_of}
use Rattle.hpb_rules.specs.HistoryLaws.{IsLast, LastStands}
use Rattle.hpb_rules.proofs.Lists.{get_front, get_seam, get_push}
use Rattle.hpb_rules.proofs.Sameness.{same_is_equal}

module _ (sender : Sender) where
  abbrev SentNothing : List Command → Type 0
  SentNothing history = (place : ℕ) (command : Command) → slice_get history place ≡ Some command → sender_of command ≢ sender

  abbrev Found : List Command → Option (Command × ℕ) → Type 0
  Found history last = MatchOption last (SentNothing history) (IsLast history sender)

  -- a newest command of the sender's is its last
  own_newest : (history : List Command) (newest : Command) → is_from sender newest ≡ true → IsLast (history ++ newest ∷ []) sender (newest, suc (length history))
  own_newest history newest own = record {
    own = sym ((same_is_equal.1 sender (sender_of newest)).0 own);
    numbered = omega arith;
    stands = ap (slice_get (history ++ newest ∷ [])) (let place : suc (length history) - 1 ≡ length history = omega arith in place) ∙ get_seam history [] newest;
    none_later = λ place later behind e. absurd (omega (arith, slice_get_within (history ++ newest ∷ []) place later e, length-append history (newest ∷ [])));
  }

  -- a newest command of another's changes nothing
  other_newest : (history : List Command) (newest : Command) (last : Option (Command × ℕ)) → is_from sender newest ≡ false → Found history last → Found (history ++ newest ∷ []) last
  other_newest history newest last other found = by last found
    where
      not_own : sender_of newest ≢ sender
      not_own e = both_ways _ other ((same_is_equal.1 sender (sender_of newest)).1 (sym e))

      by : (last : Option (Command × ℕ)) → Found history last → Found (history ++ newest ∷ []) last
      by None nothing = λ place command e. ⊎_elim
          (λ old. nothing place command old)
          (λ new. subst (λ c. sender_of c ≢ sender) (sym new) not_own)
          (get_push history newest place command e)
      by (Some last) is = record {
        own = is.own;
        numbered = is.numbered;
        stands = get_front history (newest ∷ []) (last.1 - 1) last.0 is.stands;
        none_later = λ place later behind e. ⊎_elim
            (λ old. is.none_later place later behind old)
            (λ new. subst (λ c. sender_of c ≢ sender) (sym new) not_own)
            (get_push history newest place later e);
      }

  found : (past : List Command) → Found (reverse past) (last_of past sender)
  found [] = λ place command e. absurd (cc)
  found (newest ∷ past) = subst (λ history. Found history (last_of (newest ∷ past) sender)) (sym (reverse-append (newest ∷ []) past)) (by (is_from sender newest) refl (found past))
    where
      by : (own : Bool) → is_from sender newest ≡ own → Found (reverse past) (last_of past sender) → Found (reverse past ++ newest ∷ []) (cond own (Some (newest, suc (length past))) (last_of past sender))
      by true own rest = subst (λ count. IsLast (reverse past ++ newest ∷ []) sender (newest, suc count)) (length-reverse past) (own_newest (reverse past) newest own)
      by false other rest = other_newest (reverse past) newest (last_of past sender) other rest

pub last_stands : LastStands
last_stands history sender = subst (λ h. Found sender h (last_of (reverse history) sender)) (reverse-reverse history) (found sender (reverse history))
