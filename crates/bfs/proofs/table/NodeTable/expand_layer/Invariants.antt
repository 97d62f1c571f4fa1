use Rattle.std.proofs.Common.{Ok}
use Rattle.bfs.specs.Progress.{Grown, Turned}
use Rattle.bfs.proofs.table.NodeTable.expand_layer.Given as goal

abbrev pub invariant-loop-row : goal.invariant-loop-row
invariant-loop-row g l = record {
  grown : Grown (g.S.Space.meaning l.space) l.initial.self l.self;
  turned : Turned (g.S.Space.meaning l.space) l.initial.self l.self l.last l.first 0 l.row 0 (Ok tt);
}
