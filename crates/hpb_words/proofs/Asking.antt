-- The jobs that words ask for, by the kind of error that they give.
use Rattle.std.proofs.Common.{◌≡◌, ◌⊎◌, ◌∙◌, ℕ, Bool, true, false, List, [], ◌∷◌, Option, Some, None, ap, subst, refl, inl, inr, ⊎_elim}
use Rattle.std.specs.Prelude.{Err, find, option_map, if◌then◌else◌}
use Rattle.clap.specs.Built.{AddsSubcommand}
use Rattle.clap.specs.Simple.{App, Shape, app_of, argument_words, built, entered, label_of, names_of, rows_at, shape_of, subcommand_of, with_subcommand}
use Rattle.clap.specs.Walk.{Text, answers_to, stop_after}
use Rattle.clap.specs.declared.builder.command.Command.{Command}
use Rattle.clap.specs.declared.builder.command.Command.TheViews.{out-Command}
use Rattle.clap.specs.Kinds.{IsAmong}
use Rattle.clap.specs.Faults.{fault_of, is_simple_and_free}
use Rattle.clap.specs.declared.error.kind.ErrorKind.{ErrorKind}
use Rattle.clap.specs.declared.error.kind.ErrorKind.TheVariants.{OutOfMemory}
use Rattle.hpb_words.specs.Words.{hpb, AreWellGiven, AsksFor, HasKnownCommand, IsKnownName, IsTold, IsWrong}
use Rattle.hpb_words.specs.declared.words.WordsFault.{WordsFault}
use Rattle.hpb_words.specs.declared.words.WordsFault.TheVariants.{Memory, Refused}

-- one more command
pub added_command : (old sub new : Command) (app : App) (shape : Shape) → AddsSubcommand old sub new → (out-Command sub).has_globals ≡ false
    → app_of old ≡ app → shape_of sub ≡ shape → app_of new ≡ with_subcommand app shape
added_command old sub new app shape adds local of is =
    adds.shape local ∙ ap (λ (a : App). with_subcommand a (shape_of sub)) of ∙ ap (λ (s : Shape). with_subcommand app s) is

-- Each of these commands has a known name.
abbrev AreKnown : List Shape → Type 0
AreKnown [] = Unit {0}
AreKnown (shape ∷ shapes) = IsKnownName shape.name × AreKnown shapes

known_among : (test : Shape → Bool) (words : List Text) (shapes : List Shape) → AreKnown shapes → HasKnownCommand (option_map (λ s. rows_at s words) (find test shapes))
known_among test words [] known = tt
known_among test words (shape ∷ shapes) known = go (test shape) (known_among test words shapes known.1)
  where
    go : (b : Bool) → HasKnownCommand (option_map (λ s. rows_at s words) (find test shapes))
        → HasKnownCommand (option_map (λ s. rows_at s words) (if b then Some shape else find test shapes))
    go true rest = known.0
    go false rest = rest

known_at : (stop : Option (Text × List Text)) → HasKnownCommand (entered (built hpb) stop)
known_at None = tt
known_at (Some stop) = known_among (λ s. answers_to stop.0 (label_of s)) stop.1 (built hpb).subs (inl refl, (inr (inl refl), (inr (inr (inl refl)), (inr (inr (inr refl)), tt))))

-- words name no other command than the program's
pub known_command : (words : List Text) → HasKnownCommand (subcommand_of hpb words)
known_command words = known_at (stop_after (built hpb).top.rules (names_of (built hpb)) (argument_words hpb words))

-- an error is reported
pub told_asked : (words : List (List ℕ)) (app : App) (kind : ErrorKind) (fault : WordsFault) → app ≡ hpb
    → (is_simple_and_free app ≡ true → (kind ≡ OutOfMemory) ⊎ IsAmong kind (fault_of app words)) → IsTold kind fault → AsksFor words (Err fault)
told_asked words app kind Memory is fails told = tt
told_asked words app kind (Refused text status) is fails told = inl (
  kind,
  ⊎_elim (λ none. absurd (told.0 none)) (λ among. subst (λ (a : App). IsAmong kind (fault_of a words)) is among) (fails (ap is_simple_and_free is)),
  told.1,
)

-- a value that isn't given well is reported
pub told_value : (words : List (List ℕ)) (fault : WordsFault) → fault_of hpb words ≡ [] → (AreWellGiven (subcommand_of hpb words) → ⊥) → IsWrong fault → AsksFor words (Err fault)
told_value words Memory none ill wrong = absurd wrong
told_value words (Refused text status) none ill wrong = inr (none, ill, wrong)
