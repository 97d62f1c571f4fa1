-- The dual text is as long as the text.
use Rattle.std.proofs.Common.{length, sym, ap, ◌∙◌}
use Rattle.pieces.proofs.Splits.{some_piece}
use Rattle.sheet.specs.Grid.{lines}
use Rattle.dual_text.specs.Turned.{turned_rows}
use Rattle.dual_text.specs.Dual.{AsLong}
use Rattle.dual_text.proofs.InPlace.{alike_joined}
use Rattle.dual_text.proofs.Joining.{joined_pieces, rows_joined}
use Rattle.dual_text.proofs.Turning.{turned_is_dual}
use Rattle.dual_text.proofs.TurnedLines.{turned_lines, lines_alike}

-- each of its lines is as long as the text's
pub as_long : AsLong
as_long text a =
    ap length (sym (turned_is_dual text a) ∙ sym (rows_joined (turned_rows text)))
    ∙ sym (alike_joined 10 (lines text) (turned_lines text) (lines_alike text a) (some_piece 10 text))
    ∙ ap length (joined_pieces 10 text)
