use Rattle.std.proofs.Common.{length}
use Rattle.sheet.specs.Reading.{Right}
use Rattle.sheet.proofs.grid.Grid.check_words.Given as goal

abbrev pub invariant-loop-row : goal.invariant-loop-row
invariant-loop-row l = record {
  can : (goal.iterator-loop-row).can_next l.row-iterator;
  ends : (goal.iterator-loop-row).is_finite l.row-iterator;
  right : Right l.self.text.now (length l.yielded);
}
