-- The reasons for people behind the answers to refused commands.
use Rattle.std.proofs.Common.{ℕ, Bool, true, false, List, [], ◌∷◌, ◌++◌, Option, refl, sym, subst, append-nil}
use Rattle.std.specs.Io.KnownBytes.{Appends}
use Rattle.std.specs.List.{concat}
use Rattle.std.proofs.KnownBytes.{Appends-nil, Appends-trans, Keeps-refl, Keeps-trans}
use Rattle.std.proofs.lemmas.List.Elements.{All-append, All-cons, All-nil}
use Rattle.std.proofs.lemmas.List.Folds.{concat-append}
use Rattle.hpb_rules.specs.declared.command.Command.{Command}
use Rattle.hpb_rules.specs.declared.refusal.Refusal.{Refusal}
use Rattle.hpb_rules.specs.AuctionValue.{AuctionValue}
use Rattle.hpb_server.specs.AuctionDesk.{auction_ways}
use Rattle.hpb_server.specs.Desk.{LooksStay}
use Rattle.hpb_server.specs.Ways.{Ways}
use Rattle.hpb_server.specs.Telling.{accepted_text, sentence, Explains, ExplainsAt, IsOfSentence, Says, SaysAccepted}

-- the empty text is a front of each text
pub said_none : (a : Option (List ℕ)) (text : List ℕ) → Says a a text
said_none a text = ([], Appends-nil a, (text, refl))

-- no reason was written
pub explained_none : (a : Option (List ℕ)) → Explains a a
explained_none a = ([], All-nil IsOfSentence, Appends-nil a)

-- a reason for one command was written
pub explained_one : (a b : Option (List ℕ)) (value : AuctionValue) (command : Command) (refusal : Refusal) → Says a b (sentence value command refusal) → Explains a b
explained_one a b value command refusal says = (
  says.0 ∷ [],
  All-cons IsOfSentence says.0 [] (value, command, refusal, says.2) (All-nil IsOfSentence),
  subst (λ (sent : List ℕ). Appends a b sent) (sym (append-nil says.0)) says.1,
)

-- reasons after reasons
explained_more : (a b c : Option (List ℕ)) → Explains a b → Explains b c → Explains a c
explained_more a b c first second = (
  first.0 ++ second.0,
  All-append IsOfSentence first.0 second.0 first.1 second.1,
  subst (λ (sent : List ℕ). Appends a c sent) (sym (concat-append first.0 second.0)) (Appends-trans a b c (concat first.0) (concat second.0) first.2 second.2),
)

-- no reason was written, at a terminal or elsewhere
pub explained_at_none : (is_terminal : Bool) (a : Option (List ℕ)) → ExplainsAt is_terminal a a
explained_at_none true a = explained_none a
explained_at_none false a = Keeps-refl a

-- reasons after reasons, at a terminal or elsewhere
pub explained_at_more : (is_terminal : Bool) (a b c : Option (List ℕ)) → ExplainsAt is_terminal a b → ExplainsAt is_terminal b c → ExplainsAt is_terminal a c
explained_at_more true a b c first second = explained_more a b c first second
explained_at_more false a b c first second = Keeps-trans a b c first second

-- a definition was accepted, and nothing else was written
pub accepted_only : (is_terminal : Bool) (a b : Option (List ℕ)) → Says a b (accepted_text is_terminal) → SaysAccepted is_terminal a b
accepted_only is_terminal a b says = (b, says, explained_at_none is_terminal b)

-- not even that was written
pub accepted_none : (is_terminal : Bool) (a : Option (List ℕ)) → SaysAccepted is_terminal a a
accepted_none is_terminal a = accepted_only is_terminal a a (said_none a (accepted_text is_terminal))

-- a look that leaves a desk at some state leaves it at its state before
module _ {Desk State : Type 0} (is_at : Desk → State → Type 0) (ways : Ways State) (stays : LooksStay ways) (state : State) (shown : Option AuctionValue) {desk : Desk} (looked : (next : State) × ways.looks state shown next × is_at desk next) where
  pub look_keeps : is_at desk state
  look_keeps = subst (λ (next : State). is_at desk next) (stays state looked.0 shown looked.1) looked.2

  pub look_shows : ways.looks state shown state
  look_shows = subst (λ (next : State). ways.looks state shown next) (stays state looked.0 shown looked.1) looked.1

-- a look at an auction in memory doesn't change it
pub itself_stays : LooksStay auction_ways
itself_stays old new shown looks = looks.1
