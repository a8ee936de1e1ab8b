use Rattle.std.proofs.Common.{refl}
use Rattle.hpb_program.proofs.formatting.format_file.Goals as goal

pub returns-in-Ok-format_layout-clause-new : goal.returns-in-Ok-format_layout-clause-new
returns-in-Ok-format_layout-clause-new g c = (c.in-Ok-format_layout.ensures.formats c.args.journal (record { layout_is = c.byte-layout.ensures; frames_are = refl })).stands
