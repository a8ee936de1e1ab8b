use Rattle.hpb_codec.proofs.HeadPages.{layout_named}
use Rattle.hpb_codec.proofs.laws.layout_is_named.Goals as goal

pub returns : goal.returns
returns c = layout_named
