use Rattle.std.proofs.Common.{length}
use Rattle.sheet.specs.Shape.{GoodWords}
use Rattle.sheet.proofs.wrong.wrong_in.Given as goal

abbrev pub invariant-loop-column : goal.invariant-loop-column
invariant-loop-column l = record {
  can : (goal.iterator-loop-column).can_next l.column-iterator;
  ends : (goal.iterator-loop-column).is_finite l.column-iterator;
  good : GoodWords l.line l.kind (length l.yielded);
}
