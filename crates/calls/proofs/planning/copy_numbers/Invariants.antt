use Rattle.std.proofs.Common.{◌≡◌, length, take, drop}
use Rattle.calls.proofs.planning.copy_numbers.Given as goal

abbrev pub invariant-loop-i : goal.invariant-loop-i
invariant-loop-i l = (take l.i l.out ≡ take l.i l.numbers) × (drop (length l.numbers) l.out ≡ drop (length l.numbers) l.initial.out)
