use Rattle.std.proofs.Common.{◌∙◌, rules}
use Rattle.dual_text.proofs.Turning.{turned_is_dual}
use Rattle.dual_text.proofs.writer.write_over.Goals as goal

pub returns : goal.returns
returns c = record {
  dual = λ a. c.turn_text.ensures.turned a ∙ turned_is_dual _ a;
  size = search rules;
}
