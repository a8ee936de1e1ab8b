use Rattle.std.proofs.Common.{◌≡◌, ◌∙◌, ◌<◌, ap, arith, codes, length, refl, sym}
use Rattle.std.proofs.lemmas.Bool.Decides.{nat_tests}
use Rattle.std.proofs.lemmas.List.{nil_from_length}
use Rattle.clap.specs.Matches.{found_of}
use Rattle.clap.specs.Walk.{rows_of}
use Rattle.hpb_words.proofs.Options.{text_read}
use Rattle.hpb_words.proofs.ValueTexts.{by_last}
use Rattle.hpb_words.proofs.values.check_options.Goals as goal

pub returns-then-is_empty : goal.returns-then-is_empty
returns-then-is_empty c given =
    let text = text_read (found_of c.args.options.now) (codes "file") c.get_str.result _ c.unwrap_or.result refl c.unwrap_or.ensures c.get_str.ensures in
    let none : length c.unwrap_or.result.now ≡ 0 = grind (arith, nat_tests, c.is_empty.ensures, c.if-is_empty.true) in
    given.0 (sym text ∙ nil_from_length c.unwrap_or.result.now none)

pub returns : goal.returns
returns c =
    let text = text_read (found_of c.args.options.now) (codes "file") c.get_str.result _ c.unwrap_or.result refl c.unwrap_or.ensures c.get_str.ensures in
    let some : 0 < length c.unwrap_or.result.now = grind (arith, nat_tests, c.is_empty.ensures, c.if-is_empty.false) in
    by_last (rows_of (found_of c.args.options.now)) c.check_number-6.result (λ empty. absurd (omega (arith, some, ap length (text ∙ empty))))
    c.in_ok-check_number.ensures c.in_ok-check_number-2.ensures c.in_ok-check_number-3.ensures c.in_ok-check_number-4.ensures c.in_ok-check_number-5.ensures c.check_number-6.ensures
