-- The fields read from page 0 of a head.
use Rattle.std.specs.Prelude.{◌≡◌, length}
use Rattle.hpb_rules.specs.Tree.{Rules}
use Rattle.hpb_codec.specs.Layouts.{layout_byte}
use Rattle.hpb_codec.specs.declared.layout.JournalShape.{JournalShape}
use Rattle.hpb_codec.specs.declared.head.Fields.{Fields}
use Rattle.hpb_codec.specs.declared.state_format.StateFormat.{StateFormat}
use Rattle.hpb_codec.specs.StateFormats.{format_byte}

-- The fields are those of a definition, the shape of its journal and the format of states.
pub record SaysFields (rules : Rules) (journal : JournalShape) (form : StateFormat) (fields : Fields) : Type 0 where
  pub nodes : fields.node_count ≡ length rules.nodes
  pub bidders : fields.bidder_count ≡ length rules.bidders
  pub percent : fields.percent ≡ rules.percent
  pub stages : fields.stages.now ≡ rules.stages
  pub waivers : fields.waivers ≡ rules.waivers
  pub format : fields.state_format ≡ format_byte form
  pub step : fields.step ≡ rules.step
  pub layout : fields.layout ≡ layout_byte journal.layout
  pub frames : fields.frames ≡ journal.frames
