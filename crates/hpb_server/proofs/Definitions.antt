-- A definition, chunk by chunk.
use Rattle.std.proofs.Common.{◌≡◌, ℕ, ◌+◌, ◌<◌, ◌≤◌, true, false, List, [], ◌∷◌, ◌++◌, length, take, Option, refl, sym, ap, subst, ◌∙◌, arith, take_all, append_assoc, append-nil, length-append, ⊎_elim, inl, inr}
use Rattle.std.specs.Io.KnownBytes.{Consumes, IsAtEnd}
use Rattle.std.proofs.KnownBytes.{Consumes-nil, Consumes-trans}
use Rattle.std.proofs.lemmas.Bool.{cases_lt}
use Rattle.std.proofs.lemmas.List.{take-append-le, length-take}
use Rattle.std.proofs.lemmas.List.Elements.{All-append}
use Rattle.hpb_rules.specs.declared.limits.TheConstants.{MOST_DEFINITION_BYTES}
use Rattle.hpb_server.specs.declared.input.DefinitionText.{DefinitionText}
use Rattle.hpb_server.specs.declared.input.TheConstants.{LINE_FEED, KEPT_DEFINITION_BYTES}
use Rattle.hpb_rules.specs.Lines.{is_line_feed}
use Rattle.hpb_server.specs.Reading.{Pending, HasNoEnd, TakesToEnd, TakesAll, TakesWithin, EndsDefinition, GivesDefinition, ReadsInVain, ReadsWithin}

-- bytes without a line's end were taken, and the first of them are kept; the rest is unread
pub record Taken (old new : Option (List ℕ)) (budget : ℕ) (input : Pending) (text : List ℕ) : Type 0 where
  pub bytes : List ℕ
  pub no_end : HasNoEnd bytes
  pub kept : text ≡ take KEPT_DEFINITION_BYTES bytes
  pub consumed : TakesWithin old new budget input.budget (bytes ++ input.unread)

pub within_taken : {old new : Option (List ℕ)} {budget : ℕ} {input : Pending} {text : List ℕ} → Taken old new budget input text → length text ≤ KEPT_DEFINITION_BYTES
within_taken t = omega (arith, ap length t.kept, length-take KEPT_DEFINITION_BYTES t.bytes)

pub none_taken : (old : Option (List ℕ)) (input : Pending) (text : List ℕ) → input.unread ≡ [] → text ≡ [] → Taken old old input.budget input text
none_taken old input text none empty = record {
  bytes = [];
  no_end = λ k d h. absurd (omega arith);
  kept = empty;
  consumed = subst (TakesWithin old old input.budget input.budget) (sym none) (Consumes-nil old, omega arith);
}

-- bytes were taken, and no more than may be
pub taken_within : {old new : Option (List ℕ)} {budget : ℕ} {input : Pending} {text : List ℕ} → Taken old new budget input text → ReadsWithin old new budget
taken_within {input = input} t = (t.bytes ++ input.unread, t.consumed.0, omega (arith, t.consumed.1))

-- bytes read in vain are within those that may be taken
abbrev pub vain_within : (old new : Option (List ℕ)) (budget : ℕ) → ReadsInVain old new budget → ReadsWithin old new budget
vain_within old new budget vain = (vain.0, vain.1, ⊎_elim (λ none. omega (arith, ap length none)) (λ some. omega (arith, some.1)) vain.2)

-- the same bytes are taken within the same budget
same_taken : (old new : Option (List ℕ)) (budget before after : ℕ) (xs ys : List ℕ) → before ≡ after → xs ≡ ys → TakesWithin old new budget before xs → TakesWithin old new budget after ys
same_taken old new budget before after xs ys e f t = (subst (Consumes old new) f t.0, omega (arith, t.1, e, ap length f))

-- keeping the first of kept bytes and more is the same as keeping the first of all
pub take-take-append : (n : ℕ) (xs ys : List ℕ) → take n (take n xs ++ ys) ≡ take n (xs ++ ys)
take-take-append n xs ys = ⊎_elim
    (λ short. ap (λ zs. take n (zs ++ ys)) (take_all n xs (omega arith)))
    (λ long. take-append-le n (take n xs) ys (omega (arith, length-take n xs)) ∙ take_all n (take n xs) (omega (arith, length-take n xs)) ∙ sym (take-append-le n xs ys long))
    (cases_lt (length xs) n)

-- if an end was met, the definition is whole
pub taken_line : {old new : Option (List ℕ)} {budget : ℕ} {before after : Pending} {kept : List ℕ} {text : DefinitionText} → Taken old new budget before kept → TakesToEnd KEPT_DEFINITION_BYTES before after kept text.bytes.items → text.has_end ≡ true
    → GivesDefinition old new budget after text
taken_line {old = old} {new = new} {budget = budget} {before = before} {after = after} {text = text} t part end = record {
  bytes = t.bytes ++ part.bytes;
  no_end = All-append (λ b. is_line_feed b ≡ false) t.bytes part.bytes t.no_end part.no_end;
  kept = part.kept ∙ ap (λ zs. take KEPT_DEFINITION_BYTES (zs ++ part.bytes)) t.kept ∙ take-take-append KEPT_DEFINITION_BYTES t.bytes part.bytes;
  ends = subst (EndsDefinition old new budget after (t.bytes ++ part.bytes)) (sym end)
      (same_taken old new budget before.budget after.budget (t.bytes ++ before.unread) ((t.bytes ++ part.bytes) ++ LINE_FEED ∷ after.unread) (sym part.nothing_read) (ap (λ zs. t.bytes ++ zs) part.parts ∙ sym (append_assoc t.bytes part.bytes (LINE_FEED ∷ after.unread))) t.consumed);
}

-- if no end was met
module _ {old new : Option (List ℕ)} {budget : ℕ} {before between : Pending} {kept more : List ℕ} (t : Taken old new budget before kept) (part : TakesAll KEPT_DEFINITION_BYTES before between kept more) where
  all_bytes : List ℕ
  all_bytes = t.bytes ++ before.unread

  all_no_end : HasNoEnd all_bytes
  unfolding all_bytes
  all_no_end = All-append (λ b. is_line_feed b ≡ false) t.bytes before.unread t.no_end part.no_end

  all_kept : more ≡ take KEPT_DEFINITION_BYTES all_bytes
  unfolding all_bytes
  all_kept = part.kept ∙ ap (λ zs. take KEPT_DEFINITION_BYTES (zs ++ before.unread)) t.kept ∙ take-take-append KEPT_DEFINITION_BYTES t.bytes before.unread

  all_consumed : TakesWithin old new budget between.budget all_bytes
  unfolding all_bytes
  all_consumed = same_taken old new budget before.budget between.budget (t.bytes ++ before.unread) (t.bytes ++ before.unread) (sym part.nothing_read) refl t.consumed

  -- more was read
  pub taken_more : {now : Option (List ℕ)} {after : Pending} → Consumes new now after.unread → after.budget + length after.unread ≡ between.budget → Taken old now budget after more
  taken_more {now = now} {after = after} next less = record {
    bytes = all_bytes;
    no_end = all_no_end;
    kept = all_kept;
    consumed = (Consumes-trans old new now all_bytes after.unread all_consumed.0 next, omega (arith, all_consumed.1, less, length-append all_bytes after.unread));
  }

  -- more bytes were read in vain
  pub taken_in_vain : (now : Option (List ℕ)) → ReadsWithin new now between.budget → ReadsWithin old now budget
  taken_in_vain now vain = (all_bytes ++ vain.0, Consumes-trans old new now all_bytes vain.0 all_consumed.0 vain.1, omega (arith, all_consumed.1, vain.2, length-append all_bytes vain.0))

  -- so many bytes were read that they can't be a definition
  pub taken_too_much : {text : DefinitionText} → more ≡ text.bytes.items → text.has_end ≡ false → MOST_DEFINITION_BYTES < length more → GivesDefinition old new budget between text
  taken_too_much {text = text} is end long = record {
    bytes = all_bytes;
    no_end = all_no_end;
    kept = sym is ∙ all_kept;
    ends = subst (EndsDefinition old new budget between all_bytes) (sym end) (all_consumed, inl (omega (arith, long, ap length all_kept, length-take KEPT_DEFINITION_BYTES all_bytes)));
  }

  -- the reader has ended
  pub taken_to_end : {now : Option (List ℕ)} {after : Pending} {text : DefinitionText} → more ≡ text.bytes.items → text.has_end ≡ false → Consumes new now [] → IsAtEnd now → after ≡ between → GivesDefinition old now budget after text
  taken_to_end {now = now} {after = after} {text = text} is end nothing at_end same = record {
    bytes = all_bytes;
    no_end = all_no_end;
    kept = sym is ∙ all_kept;
    ends = subst (EndsDefinition old now budget after all_bytes) (sym end)
        ((subst (Consumes old now) (append-nil all_bytes) (Consumes-trans old new now all_bytes [] all_consumed.0 nothing), omega (arith, all_consumed.1, ap (λ (p : Pending). p.budget) same)), inr at_end);
  }
