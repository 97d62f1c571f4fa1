use Rattle.std.proofs.Common.{ℕ, ◌<◌, get_or, Ok}
use Rattle.closed.proofs.first_break.Given as goal

abbrev pub invariant-loop-i : goal.invariant-loop-i
invariant-loop-i g l = (h : ℕ) (d : _) → h < l.i → goal.F-post g l.test h (get_or l.rows h d) (Ok tt)
