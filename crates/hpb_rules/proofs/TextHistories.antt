-- The history that lines lead to.
use Rattle.std.proofs.Common.{◌≡◌, ℕ, Bool, true, false, List, [], ◌∷◌, ◌++◌, reverse, length, refl, sym, ap, ◌∙◌, append_assoc, subst}
use Rattle.std.specs.Prelude.{Result, Ok, Err, if◌then◌else◌}
use Rattle.std.specs.List.{slice_split}
use Rattle.std.proofs.lemmas.List.{reverse-append, reverse-reverse}
use Rattle.hpb_rules.specs.declared.refusal.Refusal.{Refusal}
use Rattle.hpb_rules.specs.declared.command.Command.{Command}
use Rattle.hpb_rules.specs.declared.request.Request.{Request}
use Rattle.hpb_rules.specs.declared.request.Request.TheVariants as requests
use Rattle.hpb_rules.specs.Tree.{Rules}
use Rattle.hpb_rules.specs.Answer.{is_reply_new, answer_after, after, IsPast}
use Rattle.hpb_rules.specs.Lines.{line_feed, is_line_feed, request_of}
use Rattle.hpb_rules.specs.Text.{state_after, past_after, next_past, text_after, lines_text, history_after_lines}
use Rattle.hpb_rules.specs.TextLaws.{LinesTextJoins, LinesKeepHistory}
use Rattle.hpb_rules.proofs.Lists.{append_nil}
use Rattle.hpb_rules.proofs.Runs.{next_is}
use Rattle.hpb_rules.proofs.Texts.{split_at_end, answered, past_of, text_at_end}

-- ---- whole lines, and more behind them
-- the past that whole lines lead to
past_at_end : (rules : Rules) (lines : List (List ℕ)) (past : List Command) → state_after (next_past rules) past (lines ++ [] ∷ []) ≡ past_of rules past lines
past_at_end rules [] past = refl
past_at_end rules (line ∷ []) past = refl
past_at_end rules (line ∷ next ∷ lines) past = past_at_end rules (next ∷ lines) (next_past rules past line)

-- a past reversed twice is as it was
whole_past : (rules : Rules) (history : List Command) (front : List ℕ) → reverse (history_after_lines rules history (front ++ line_feed ∷ [])) ≡ past_of rules (reverse history) (slice_split is_line_feed front)
whole_past rules history front =
    reverse-reverse (state_after (next_past rules) (reverse history) (slice_split is_line_feed (front ++ line_feed ∷ [])))
    ∙ ap (state_after (next_past rules) (reverse history)) (split_at_end front [])
    ∙ past_at_end rules (slice_split is_line_feed front) (reverse history)

pub lines_text_joins : LinesTextJoins
lines_text_joins rules history front rest =
    let past : List Command = reverse history in
    let lines : List (List ℕ) = slice_split is_line_feed front in
    ap (text_after rules past) (append_assoc front (line_feed ∷ []) rest)
    ∙ text_at_end rules past front rest
    ∙ ap (λ text. text ++ text_after rules (past_of rules past lines) rest) (append_nil (answered rules past lines) ∙ sym (text_at_end rules past front []))
    ∙ ap (λ older. lines_text rules history (front ++ line_feed ∷ []) ++ text_after rules older rest) (sym (whole_past rules history front))

-- ---- lines lead from a past to a past that continues it
module _ (rules : Rules) where
  abbrev GoesOn : List Command → List Command → Type 0
  GoesOn past longer = IsPast rules longer × ((newer : List Command) × (longer ≡ newer ++ past))

  command_goes_on : (past : List Command) (asked : Command) → IsPast rules past → GoesOn past (after rules past asked)
  command_goes_on past asked is = ((next_is rules past is asked).1, by (is_reply_new (length past) (answer_after rules past asked)))
    where
      by : (b : Bool) → (newer : List Command) × ((if b then asked ∷ past else past) ≡ newer ++ past)
      by true = (asked ∷ [], refl)
      by false = ([], refl)

  request_goes_on : (past : List Command) (request : Result Request Refusal) → IsPast rules past → GoesOn past (past_after rules past request)
  request_goes_on past (Err refusal) is = (is, ([], refl))
  request_goes_on past (Ok (requests.Command asked)) is = command_goes_on past asked is
  request_goes_on past (Ok requests.Show) is = (is, ([], refl))
  request_goes_on past (Ok (requests.Node place)) is = (is, ([], refl))
  request_goes_on past (Ok (requests.Who from)) is = (is, ([], refl))

  goes_on_further : (past middle longer : List Command) → GoesOn past middle → GoesOn middle longer → GoesOn past longer
  goes_on_further past middle longer one two = (two.0, (two.1.0 ++ one.1.0, two.1.1 ∙ ap (λ older. two.1.0 ++ older) one.1.1 ∙ sym (append_assoc two.1.0 one.1.0 past)))

  lines_go_on : (lines : List (List ℕ)) (past : List Command) → IsPast rules past → GoesOn past (state_after (next_past rules) past lines)
  lines_go_on [] past is = (is, ([], refl))
  lines_go_on (last ∷ []) past is = (is, ([], refl))
  lines_go_on (line ∷ next ∷ lines) past is =
      let one : GoesOn past (next_past rules past line) = request_goes_on past (request_of rules line) is in
      goes_on_further past (next_past rules past line) (state_after (next_past rules) (next_past rules past line) (next ∷ lines)) one (lines_go_on (next ∷ lines) (next_past rules past line) one.0)

pub lines_keep_history : LinesKeepHistory
lines_keep_history rules history input is =
    let past : List Command = state_after (next_past rules) (reverse history) (slice_split is_line_feed input) in
    let goes : GoesOn rules (reverse history) past = lines_go_on rules (slice_split is_line_feed input) (reverse history) is in (
      subst (IsPast rules) (sym (reverse-reverse past)) goes.0,
      (reverse goes.1.0, ap reverse goes.1.1 ∙ reverse-append goes.1.0 (reverse history) ∙ ap (λ front. front ++ reverse goes.1.0) (reverse-reverse history)),
    )
