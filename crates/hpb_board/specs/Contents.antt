-- The published content, and how a prepared batch changes it.
use Rattle.hpb_board.specs.declared.board.Content.{Content}
use Rattle.hpb_board.specs.declared.board.Board.{Board}
use Rattle.hpb_board.specs.declared.board.Prepared.{Prepared}
use Rattle.hpb_board.specs.Rows.{shown_by}

-- The content that both copies of a board have in common.
abbrev pub content : Board → Content
content b = record { trail = b.trail; shown = record { auction = b.auction; rows = b.rows.items } }

-- The content after a prepared batch.
abbrev pub applied : Content → Prepared → Content
applied c p = record { trail = p.trail; shown = shown_by c.shown p.letters }
