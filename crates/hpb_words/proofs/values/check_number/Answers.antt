use Rattle.std.proofs.Common.{◌≡◌, false, rules}
use Rattle.std.specs.Str.{all_ascii_digits}
use Rattle.clap.specs.Matches.{found_of}
use Rattle.hpb_words.proofs.ValueTexts.{digits_read, sign_read}
use Rattle.hpb_words.proofs.values.check_number.Goals as goal

pub returns-in-None : goal.returns-in-None
returns-in-None c = digits_read (found_of c.args.options.now) c.args.name.now c.get_str.result c.get_str.ensures (search rules)

pub returns-then-has_digits_alone : goal.returns-then-has_digits_alone
returns-then-has_digits_alone c = digits_read (found_of c.args.options.now) c.args.name.now c.get_str.result c.get_str.ensures (search rules)

pub returns-else-has_digits_alone : goal.returns-else-has_digits_alone
returns-else-has_digits_alone c =
    let not : all_ascii_digits c.in-Some.text.now ≡ false = search rules in
    sign_read (found_of c.args.options.now) c.args.name.now c.get_str.result c.in-Some.text c.get_str.ensures c.in-Some.is not
