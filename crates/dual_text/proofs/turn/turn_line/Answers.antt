use Rattle.std.proofs.Common.{sym, ◌∙◌}
use Rattle.dual_text.proofs.Joining.{joined_pieces}
use Rattle.dual_text.proofs.TurnedLines.{of_kind}
use Rattle.dual_text.proofs.turn.turn_line.Goals as goal

pub returns-in-Facts-clause-turned : goal.returns-in-Facts-clause-turned
returns-in-Facts-clause-turned c a h l e = e ∙ l ∙ sym (joined_pieces 32 _) ∙ of_kind c.args.text.now c.args.row _ c.in-Facts.ensures
