use Rattle.std.proofs.Common.{length, take}
use Rattle.sheet.specs.Reading.{Apart}
use Rattle.sheet.specs.Repeats.{name_of_piece}
use Rattle.sheet.proofs.Repeats.{Held}
use Rattle.sheet.proofs.names.check_apart.Given as goal

abbrev pub invariant-loop-i : goal.invariant-loop-i
invariant-loop-i l = record {
  can : (goal.iterator-loop-i).can_next l.i-iterator;
  ends : (goal.iterator-loop-i).is_finite l.i-iterator;
  held : Held l.sep l.text l.past (take (length l.yielded) l.names) (length l.yielded);
  apart : Apart (name_of_piece l.sep l.text l.past) (length l.yielded);
}
