use Rattle.std.proofs.Common.{◌∙◌, ap}
use Rattle.std.specs.Char.{is_ascii_digit}
use Rattle.std.specs.List.{list_all}
use Rattle.hpb_words.proofs.ValueTexts.{all_digits}
use Rattle.hpb_words.proofs.values.has_digits_alone.Goals as goal

pub returns : goal.returns
returns c = c.are_digits.ensures ∙ ap (list_all is_ascii_digit) c.as_bytes.ensures.value ∙ all_digits c.args.text.now
