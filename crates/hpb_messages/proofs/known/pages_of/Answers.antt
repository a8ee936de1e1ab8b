use Rattle.std.proofs.Common.{◌∙◌, ◌/◌, ℕ, ap}
use Rattle.hpb_codec.specs.declared.layout.JournalShape.{JournalShape}
use Rattle.hpb_codec.specs.declared.layout.TheConstants.{PAGE_BYTES}
use Rattle.hpb_journal.specs.Shapes.{shaped}
use Rattle.hpb_messages.proofs.known.pages_of.Goals as goal

pub returns : goal.returns
returns c = ap (λ (len : ℕ). len / PAGE_BYTES) (c.device_len.ensures ∙ ap (λ (shape : JournalShape). (shaped shape).size) c.new.ensures)
