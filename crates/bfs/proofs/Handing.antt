-- From the node table that a search filled to what the lent tables hold.
use Rattle.std.proofs.Common.{◌≡◌, ◌∙◌, arith}
use Rattle.space.specs.Meaning.{Meaning}
use Rattle.space.specs.Rows.{node_at, Count}
use Rattle.bfs.specs.declared.table.NodeTable.{NodeTable}
use Rattle.bfs.specs.Tables.{link_at, Table}
use Rattle.bfs.specs.Answers.{tables, capacity, Filled, Overfilled}
use Rattle.bfs.specs.Progress.{Grown, Overfull}

module _ {N : Type 0} {m : Meaning N} {t t' : NodeTable N} (g : Grown m t t') where
  -- the rows of a whole table
  pub filled : Table m (node_at m t'.rows.now) (link_at t'.links.now) t'.used → Count m (node_at m t'.rows.now) t'.used
      → Filled m (tables t.rows.now t.links.now) (tables t'.rows.now t'.links.now) t'.used
  filled w n = record {
    room = omega (arith, t'.used_fits, g.capacity_same, t.room);
    table = w;
    count = n;
    nodes_past = g.rows_grew.past;
    links_past = g.links_grew.past;
  }

  -- the rows of a full table that is too small
  pub overfilled : Overfull m t' → Overfilled m (tables t.rows.now t.links.now) (tables t'.rows.now t'.links.now)
  overfilled o =
      let u : t'.used ≡ capacity (tables t.rows.now t.links.now) = o.full ∙ g.capacity_same ∙ t.room in
      record {
        more = rw (← u) o.crowded.more;
        table = rw (← u) o.crowded.table;
        only = rw (← u) o.crowded.only;
        below = rw (← u) o.crowded.below;
        nodes_past = rw (← u) g.rows_grew.past;
        links_past = rw (← u) g.links_grew.past;
      }
