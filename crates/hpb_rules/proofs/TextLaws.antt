-- The laws of text, proved: other crates' proofs cite them here.
pub use Rattle.hpb_rules.proofs.NumberWords.{number_is, number_read, number_is_one}
pub use Rattle.hpb_rules.proofs.Spellings.{spelling_is_one}
pub use Rattle.hpb_rules.proofs.FoundNames.{node_found, bidder_found, names_are_found}
pub use Rattle.hpb_rules.proofs.RequestLines.{request_is, request_read, request_is_one}
pub use Rattle.hpb_rules.proofs.Texts.{request_of_front, lines_text_grows, script_text_grows, IsFilled, filled, split_filled}
pub use Rattle.hpb_rules.proofs.TextHistories.{lines_text_joins, lines_keep_history}
pub use Rattle.hpb_rules.proofs.ScriptTexts.{no_line_feed, one_line, script_text_is, text_is_one, script_text_is_one}
