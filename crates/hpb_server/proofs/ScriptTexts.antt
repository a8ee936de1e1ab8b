-- The text of a script whose first line is a definition.
use Rattle.std.proofs.Common.{◌≡◌, ℕ, List, [], ◌∷◌, ◌++◌, refl, sym, ap, ◌∙◌, subst, append-nil, inl, inr}
use Rattle.std.specs.Prelude.{Ok, ◌⊎◌}
use Rattle.std.specs.List.{slice_split}
use Rattle.hpb_rules.specs.Tree.{Rules}
use Rattle.hpb_rules.specs.Fronts.{IsFront}
use Rattle.hpb_rules.specs.AuctionValue.{AuctionValue}
use Rattle.hpb_rules.specs.Values.{first_value}
use Rattle.hpb_rules.specs.Lines.{is_line_feed}
use Rattle.hpb_rules.specs.Text.{lines_text}
use Rattle.hpb_rules.proofs.Lists.{front_self}
use Rattle.hpb_rules.proofs.TextLaws.{one_line}
use Rattle.hpb_rules.proofs.RunLaws.{text_is_shown}
use Rattle.hpb_define.specs.Text.{Answers}
use Rattle.hpb_server.specs.declared.input.TheConstants.{LINE_FEED}
use Rattle.hpb_server.specs.Desk.{rules_in, never_over, RepliesIn, ShowsItself}
use Rattle.hpb_server.specs.Reading.{HasNoEnd}
use Rattle.hpb_server.specs.Script.{IsScriptText}
use Rattle.hpb_server.specs.Serving.{AnswersInput, AreLines}
use Rattle.hpb_server.proofs.Scripts.{lines_written, lines_front}
use Rattle.hpb_server.specs.AuctionDesk.{auction_ways}

-- the answers of an auction in memory to lines from the beginning are their text
pub text_is : (rules : Rules) (new : AuctionValue) (lines text : List ℕ) → AnswersInput auction_ways (first_value rules) lines text new → text ≡ lines_text rules [] lines
text_is rules new lines text h = lines_written (slice_split is_line_feed lines) (first_value rules) new text h ∙ text_is_shown (first_value rules) [] lines (tt, refl)

-- the text of whole lines is a front of the text of more
pub text_grows : (rules : Rules) (done rest : List ℕ) → AreLines done ⊎ (rest ≡ []) → IsFront (lines_text rules [] done) (lines_text rules [] (done ++ rest))
text_grows rules done rest (inl lines) = lines_front rules [] done rest lines
text_grows rules done rest (inr none) =
    subst (λ (all : List ℕ). IsFront (lines_text rules [] done) (lines_text rules [] all)) (sym (append-nil done) ∙ ap (λ xs. done ++ xs) (sym none)) (front_self (lines_text rules [] done))

-- a script with a definition's line and lines after it
abbrev pub script_is : (first : List ℕ) (rules : Rules) (lines : List ℕ) → HasNoEnd first → Answers first (Ok rules) → IsScriptText (first ++ LINE_FEED ∷ lines) (lines_text rules [] lines)
script_is first rules lines no_end accepted = record {
  first = first;
  rest = lines;
  reading = Ok rules;
  one_line = one_line first no_end;
  parts = inl refl;
  read = accepted;
  by_reading = refl;
}
