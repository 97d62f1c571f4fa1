use Rattle.std.proofs.Common.{length}
use Rattle.sheet.specs.Reading.{Even}
use Rattle.sheet.proofs.grid.Grid.check_even.Given as goal

abbrev pub invariant-loop-line : goal.invariant-loop-line
invariant-loop-line l = record {
  can : (goal.iterator-loop-line).can_next l.line-iterator;
  ends : (goal.iterator-loop-line).is_finite l.line-iterator;
  even : Even l.self.text.now (length l.yielded);
}
