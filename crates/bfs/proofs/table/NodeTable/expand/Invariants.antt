use Rattle.std.proofs.Common.{ℕ, ◌<◌, Ok}
use Rattle.bfs.specs.Progress.{Grown, Turned}
use Rattle.bfs.proofs.table.NodeTable.expand.Given as goal

abbrev pub invariant-loop-by : goal.invariant-loop-by
invariant-loop-by g l = record {
  grown : Grown (g.S.Space.meaning l.space) l.initial.self l.self;
  turned : (last : ℕ) → l.row < last → Turned (g.S.Space.meaning l.space) l.initial.self l.self last l.row 0 l.row l.by (Ok tt);
}
