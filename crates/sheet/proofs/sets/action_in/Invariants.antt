use Rattle.std.proofs.Common.{length}
use Rattle.sheet.specs.Shape.{GoodMarks}
use Rattle.sheet.proofs.Flags.{ReadSoFar}
use Rattle.sheet.proofs.sets.action_in.Given as goal

abbrev pub invariant-loop-i : goal.invariant-loop-i
invariant-loop-i l = record {
  can : (goal.iterator-loop-i).can_next l.i-iterator;
  ends : (goal.iterator-loop-i).is_finite l.i-iterator;
  read : GoodMarks l.line → ReadSoFar l.line (length l.yielded) l.action;
}
