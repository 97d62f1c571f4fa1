use Rattle.std.proofs.Common.{◌≡◌, ◌-◌, ◌≤◌, ◌++◌, take, drop}
use Rattle.bfs.specs.Tables.{link_at}
use Rattle.bfs.specs.Progress.{trail}
use Rattle.bfs.proofs.table.NodeTable.read_back.Given as goal

abbrev pub invariant-loop-i : goal.invariant-loop-i
invariant-loop-i g l = record {
  back : l.at ≤ l.row;
  far : (link_at l.self.links.now l.at).distance ≡ l.i;
  moves : trail (link_at l.self.links.now) l.length l.row ≡ trail (link_at l.self.links.now) l.i l.at ++ take (l.length - l.i) (drop l.i l.plan);
  past : drop l.length l.plan ≡ drop l.length l.initial.plan;
}
