use Rattle.std.proofs.Common.{take}
use Rattle.lines.proofs.Reach.{Reached}
use Rattle.lines.proofs.reader.only_lines.Given as goal

abbrev pub invariant-loop-i : goal.invariant-loop-i
invariant-loop-i l = Reached l.reader.state (take l.i l.text)
