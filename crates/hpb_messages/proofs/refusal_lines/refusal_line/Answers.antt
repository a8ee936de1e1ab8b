use Rattle.std.proofs.Common.{◌≡◌, ℕ, List, refl, subst, sym}
use Rattle.std.specs.Fmt.{digits}
use Rattle.hpb_rules.specs.Rendering.{refusal_text}
use Rattle.hpb_rules.specs.Text.{line_of}
use Rattle.hpb_rules.specs.declared.refusal.Refusal.{Refusal}
use Rattle.hpb_messages.proofs.refusal_lines.refusal_line.Goals as goal

-- the line of a refusal that is one of a name
named : {refusal name : Refusal} (text : List ℕ) → refusal ≡ name → text ≡ line_of (refusal_text name) → text ≡ line_of (refusal_text refusal)
named text is same = subst (λ r. text ≡ line_of (refusal_text r)) (sym is) same

pub returns-in-Line : goal.returns-in-Line
unfolding digits
returns-in-Line c = named _ c.in-Line.is refl

pub returns-in-Bidder : goal.returns-in-Bidder
unfolding digits
returns-in-Bidder c = named _ c.in-Bidder.is refl

pub returns-in-Node : goal.returns-in-Node
unfolding digits
returns-in-Node c = named _ c.in-Node.is refl

pub returns-in-Old : goal.returns-in-Old
unfolding digits
returns-in-Old c = named _ c.in-Old.is refl

pub returns-in-Ticket : goal.returns-in-Ticket
unfolding digits
returns-in-Ticket c = named _ c.in-Ticket.is refl

pub returns-in-Gap : goal.returns-in-Gap
unfolding digits
returns-in-Gap c = named _ c.in-Gap.is refl

pub returns-in-Closed : goal.returns-in-Closed
unfolding digits
returns-in-Closed c = named _ c.in-Closed.is refl

pub returns-in-Step : goal.returns-in-Step
unfolding digits
returns-in-Step c = named _ c.in-Step.is refl

pub returns-in-Low : goal.returns-in-Low
unfolding digits
returns-in-Low c = named _ c.in-Low.is refl

pub returns-in-High : goal.returns-in-High
unfolding digits
returns-in-High c = named _ c.in-High.is refl

pub returns-in-Again : goal.returns-in-Again
unfolding digits
returns-in-Again c = named _ c.in-Again.is refl

pub returns-in-Eligibility : goal.returns-in-Eligibility
unfolding digits
returns-in-Eligibility c = named _ c.in-Eligibility.is refl

pub returns-in-Limit : goal.returns-in-Limit
unfolding digits
returns-in-Limit c = named _ c.in-Limit.is refl

pub returns-in-Stage : goal.returns-in-Stage
unfolding digits
returns-in-Stage c = named _ c.in-Stage.is refl

pub returns-in-Waiver : goal.returns-in-Waiver
unfolding digits
returns-in-Waiver c = named _ c.in-Waiver.is refl

pub returns-in-Waived : goal.returns-in-Waived
unfolding digits
returns-in-Waived c = named _ c.in-Waived.is refl

pub returns-in-Unformatted : goal.returns-in-Unformatted
unfolding digits
returns-in-Unformatted c = named _ c.in-Unformatted.is refl

pub returns-in-Formatted : goal.returns-in-Formatted
unfolding digits
returns-in-Formatted c = named _ c.in-Formatted.is refl

pub returns-in-Layout : goal.returns-in-Layout
unfolding digits
returns-in-Layout c = named _ c.in-Layout.is refl

pub returns-in-Length : goal.returns-in-Length
unfolding digits
returns-in-Length c = named _ c.in-Length.is refl

pub returns-in-Checkpoint : goal.returns-in-Checkpoint
unfolding digits
returns-in-Checkpoint c = named _ c.in-Checkpoint.is refl

pub returns-in-Frame : goal.returns-in-Frame
unfolding digits
returns-in-Frame c = named _ c.in-Frame.is refl

pub returns-in-Empty : goal.returns-in-Empty
unfolding digits
returns-in-Empty c = named _ c.in-Empty.is refl

pub returns-in-Name : goal.returns-in-Name
unfolding digits
returns-in-Name c = named _ c.in-Name.is refl

pub returns-in-Duplicate : goal.returns-in-Duplicate
unfolding digits
returns-in-Duplicate c = named _ c.in-Duplicate.is refl

pub returns-in-Parent : goal.returns-in-Parent
unfolding digits
returns-in-Parent c = named _ c.in-Parent.is refl

pub returns-in-Children : goal.returns-in-Children
unfolding digits
returns-in-Children c = named _ c.in-Children.is refl

pub returns-in-Leaf : goal.returns-in-Leaf
unfolding digits
returns-in-Leaf c = named _ c.in-Leaf.is refl

pub returns-in-Limits : goal.returns-in-Limits
unfolding digits
returns-in-Limits c = named _ c.in-Limits.is refl

pub returns-in-Terms : goal.returns-in-Terms
unfolding digits
returns-in-Terms c = named _ c.in-Terms.is refl

pub returns-in-Json : goal.returns-in-Json
unfolding digits
returns-in-Json c = named _ c.in-Json.is refl

pub returns-in-Field : goal.returns-in-Field
unfolding digits
returns-in-Field c = named _ c.in-Field.is refl

pub returns-in-Number : goal.returns-in-Number
unfolding digits
returns-in-Number c = named _ c.in-Number.is refl

pub returns-in-Memory : goal.returns-in-Memory
unfolding digits
returns-in-Memory c = named _ c.in-Memory.is refl

pub returns-in-Device : goal.returns-in-Device
unfolding digits
returns-in-Device c = named _ c.in-Device.is refl

pub returns-in-Stream : goal.returns-in-Stream
unfolding digits
returns-in-Stream c = named _ c.in-Stream.is refl

pub returns-in-Failed : goal.returns-in-Failed
unfolding digits
returns-in-Failed c = named _ c.in-Failed.is refl

pub returns-in-Place : goal.returns-in-Place
unfolding digits
returns-in-Place c = named _ c.in-Place.is refl

pub returns-in-Order : goal.returns-in-Order
unfolding digits
returns-in-Order c = named _ c.in-Order.is refl

pub returns-in-Counts : goal.returns-in-Counts
unfolding digits
returns-in-Counts c = named _ c.in-Counts.is refl
