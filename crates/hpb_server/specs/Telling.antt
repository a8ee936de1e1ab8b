-- Lines for people, beside the answers.
use Rattle.std.specs.Prelude.{ℕ, Bool, true, false, List, [], ◌++◌, ◌⊎◌, Option, None, Some, Result, Ok, Err, codes, decimal}
use Rattle.std.specs.Io.KnownBytes.{Appends, Keeps}
use Rattle.std.specs.List.{concat, All}
use Rattle.hpb_rules.specs.declared.command.Command.{Command}
use Rattle.hpb_rules.specs.declared.refusal.Refusal.{Refusal}
use Rattle.hpb_rules.specs.declared.reply.Reply.{Reply}
use Rattle.hpb_rules.specs.declared.reply.Reply.TheVariants as replies
use Rattle.hpb_rules.specs.AuctionValue.{AuctionValue}
use Rattle.hpb_rules.specs.Fronts.{IsFront}
use Rattle.hpb_rules.specs.Refusals.{number_of, word_of}
use Rattle.hpb_wire.specs.Reasons.{reason_in}
use Rattle.hpb_server.specs.declared.fault.SessionFault.{SessionFault}
use Rattle.hpb_server.specs.declared.script.ScriptEnd.{ScriptEnd}
use Rattle.hpb_server.specs.declared.script.ScriptEnd.TheVariants.{Answered, Refused}
use Rattle.hpb_server.specs.declared.telling.TheConstants.{ACCEPTED}
use Rattle.hpb_server.specs.Ways.{Ways}

-- A front of a text was written: all of it, some of it or nothing.
abbrev pub Says : (errors_old errors_new : Option (List ℕ)) → List ℕ → Type 0
Says errors_old errors_new text = (sent : List ℕ) × Appends errors_old errors_new sent × IsFront sent text

-- The line that reports a refusal to people: its number, its word and a reason.
abbrev pub told_line : Refusal → (reason : List ℕ) → List ℕ
told_line refusal reason = codes "hpb: " ++ decimal (number_of refusal) ++ codes " " ++ word_of refusal ++ codes ": " ++ reason ++ codes "\n"

-- A front of such a line, with some reason, was written.
abbrev pub TellsOf : (errors_old errors_new : Option (List ℕ)) → Refusal → Type 0
TellsOf errors_old errors_new refusal = (reason : List ℕ) × Says errors_old errors_new (told_line refusal reason)

-- The line about an accepted definition: a terminal gets one.
abbrev pub accepted_text : (is_terminal : Bool) → List ℕ
accepted_text true = ACCEPTED.now
accepted_text false = []

-- **At a terminal.** The line with the number that would do in place of a refused command, by an auction as it stands.
-- It is empty if no number would.
abbrev pub told_by : Refusal → (reason : Option (List ℕ)) → List ℕ
told_by refusal None = []
told_by refusal (Some reason) = told_line refusal reason

abbrev pub sentence : AuctionValue → Command → Refusal → List ℕ
sentence value command refusal = told_by refusal (reason_in value command refusal)

-- The same, by the auction that a desk shows. It is empty if the desk shows none.
abbrev pub sentence_of : Option AuctionValue → Command → Refusal → List ℕ
sentence_of None command refusal = []
sentence_of (Some value) command refusal = sentence value command refusal

-- A front was written of the sentence for this command and this refusal, by an auction that the desk may show at its
-- state, if it shows any.
abbrev pub TellsShown : {State : Type 0} → Ways State → State → Command → Refusal → (errors_old errors_new : Option (List ℕ)) → Type 0
TellsShown ways state command refusal errors_old errors_new = (shown : Option AuctionValue) × ways.looks state shown state × Says errors_old errors_new (sentence_of shown command refusal)

-- That holds if the reply is a refusal. If it isn't one, nothing was written.
abbrev pub TellsReply : {State : Type 0} → Ways State → State → Command → Reply → (errors_old errors_new : Option (List ℕ)) → Type 0
TellsReply ways state command (replies.Ok number) errors_old errors_new = Keeps errors_old errors_new
TellsReply ways state command (replies.Refused refusal) errors_old errors_new = TellsShown ways state command refusal errors_old errors_new

-- A front, which may be empty, of the sentence that some auction, with any names, gives for some command and some
-- refusal. It isn't claimed here that the command came, that it was refused so, or that the auction is the one that was
-- asked. For one command `TellsReply` claims it.
abbrev pub IsOfSentence : List ℕ → Type 0
IsOfSentence sent = (value : AuctionValue) × (command : Command) × (refusal : Refusal) × IsFront sent (sentence value command refusal)

-- Such fronts were written one after another, or nothing. It isn't claimed which commands they belong to, how many
-- there are, and at which places among the answers they stand.
abbrev pub Explains : (errors_old errors_new : Option (List ℕ)) → Type 0
Explains errors_old errors_new = (parts : List (List ℕ)) × All IsOfSentence parts × Appends errors_old errors_new (concat parts)

-- At a terminal such fronts were written, and elsewhere nothing was.
abbrev pub ExplainsAt : (is_terminal : Bool) (errors_old errors_new : Option (List ℕ)) → Type 0
ExplainsAt true errors_old errors_new = Explains errors_old errors_new
ExplainsAt false errors_old errors_new = Keeps errors_old errors_new

-- The lines for people about a script whose definition is accepted. A terminal gets a front of the line that says so,
-- and behind it fronts of that form. Otherwise nothing is written.
abbrev pub SaysAccepted : (is_terminal : Bool) (errors_old errors_new : Option (List ℕ)) → Type 0
SaysAccepted is_terminal errors_old errors_new =
    (greeted : Option (List ℕ)) × Says errors_old greeted (accepted_text is_terminal) × ExplainsAt is_terminal greeted errors_new

-- The lines for people about a script. If it was answered, they are those of an accepted definition. If it was refused,
-- they are a front of the line of its refusal. If a fault ended it, they are one of the two, for whichever refusal.
abbrev pub SaysOfScript : (is_terminal : Bool) (errors_old errors_new : Option (List ℕ)) → Result ScriptEnd SessionFault → Type 0
SaysOfScript is_terminal errors_old errors_new (Ok Answered) = SaysAccepted is_terminal errors_old errors_new
SaysOfScript is_terminal errors_old errors_new (Ok (Refused refusal)) = TellsOf errors_old errors_new refusal
SaysOfScript is_terminal errors_old errors_new (Err fault) = SaysAccepted is_terminal errors_old errors_new ⊎ ((refusal : Refusal) × TellsOf errors_old errors_new refusal)
