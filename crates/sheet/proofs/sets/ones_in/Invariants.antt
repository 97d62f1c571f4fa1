use Rattle.std.proofs.Common.{◌≡◌, length}
use Rattle.sheet.proofs.Flags.{sofar}
use Rattle.sheet.proofs.sets.ones_in.Given as goal

abbrev pub invariant-loop-i : goal.invariant-loop-i
invariant-loop-i l = record {
  can : (goal.iterator-loop-i).can_next l.i-iterator;
  ends : (goal.iterator-loop-i).is_finite l.i-iterator;
  sofar : l.ones ≡ sofar 49 l.line (length l.yielded);
}
