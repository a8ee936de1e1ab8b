-- The bytes written to an output, or none.
use Rattle.std.proofs.Common.{◌≡◌, ℕ, Bool, true, false, List, [], Option, Result, Ok, Err, MatchResult, refl, sym, subst}
use Rattle.std.proofs.KnownBytes.{Appends-nil}
use Rattle.std.specs.Bool.{⊤}
use Rattle.std.specs.Io.KnownBytes.{Appends}
use Rattle.hpb_rules.specs.declared.refusal.Refusal.{Refusal}
use Rattle.hpb_rules.specs.Fronts.{IsFront}
use Rattle.hpb_rules.specs.Rendering.{refusal_text}
use Rattle.hpb_rules.specs.Text.{line_of}
use Rattle.hpb_server.specs.Writing.{Puts}
use Rattle.hpb_messages.specs.Telling.{TellsLine}
use Rattle.hpb_server.proofs.Fronts.{put_front}

-- nothing if the output was cut
pub told_nothing : (cut : Bool) (contents : Option (List ℕ)) (refusal : Refusal) → cut ≡ true → TellsLine cut contents contents refusal
told_nothing cut contents refusal is =
    let text = line_of (refusal_text refusal) in
    let front : IsFront [] text = (text, refl) in
    subst (λ (c : Bool). TellsLine c contents contents refusal) (sym is) ([], Appends-nil contents, front)

-- the text that was sent
pub told_sent : {E : Type 0} (cut : Bool) (old new : Option (List ℕ)) (text : List ℕ) (refusal : Refusal) (result : Result ⊤ E) → text ≡ line_of (refusal_text refusal) → Puts old new text result
    → MatchResult result (λ _. cut ≡ false) (λ _. cut ≡ true) → TellsLine cut old new refusal
told_sent cut old new text refusal (Ok done) same put is = subst (λ (c : Bool). TellsLine c old new refusal) (sym is) (subst (Appends old new) same put)
told_sent cut old new text refusal (Err e) same put is =
    let front = put_front old new text (Err e) put in
    subst (λ (c : Bool). TellsLine c old new refusal) (sym is) (front.0, front.1, subst (IsFront front.0) same front.2)
