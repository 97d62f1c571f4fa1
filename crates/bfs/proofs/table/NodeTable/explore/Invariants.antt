use Rattle.std.proofs.Common.{◌-◌}
use Rattle.bfs.specs.Progress.{Grown, At}
use Rattle.bfs.proofs.table.NodeTable.explore.Given as goal

abbrev pub invariant-loop-first : goal.invariant-loop-first
invariant-loop-first g l = record {
  grown : Grown (g.S.Space.meaning l.space) l.fn.self l.self;
  at : At (g.S.Space.meaning l.space) l.self l.first l.first 0;
}

abbrev pub decreases-loop-first : goal.decreases-loop-first
decreases-loop-first g l = l.self.capacity - l.first
