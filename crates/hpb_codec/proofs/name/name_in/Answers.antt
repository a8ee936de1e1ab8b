use Rattle.std.proofs.Common.{sym, subst, ◌∙◌}
use Rattle.std.specs.Str.{IsUtf8}
use Rattle.hpb_codec.proofs.Names.{name_cut, name_utf8}
use Rattle.hpb_codec.proofs.name.name_in.Goals as goal

pub returns-in-Ok : goal.returns-in-Ok
returns-in-Ok c name is spelled = c.in-Ok.ensures.cases.0 ∙ name_cut name is c.args.bytes.now spelled c.zero_byte.result c.unwrap_or-end.result c.zero_byte.ensures c.unwrap_or-end.ensures

pub returns-in-Err : goal.returns-in-Err
returns-in-Err c name is spelled =
    c.in-Err.ensures.cases.0 (subst IsUtf8 (sym (name_cut name is c.args.bytes.now spelled c.zero_byte.result c.unwrap_or-end.result c.zero_byte.ensures c.unwrap_or-end.ensures)) (name_utf8 name is))
