-- What a search answers, and what the lent buffers then hold. Assumes nothing.
use Rattle.std.specs.Prelude.{◌≡◌, ℕ, ◌<◌, ◌≤◌, min, true, List, length, take, Ok, Err, Result}
use Rattle.fault.specs.declared.Fault.{Fault}
use Rattle.fault.specs.declared.Layer.TheVariants.{Search}
use Rattle.fault.specs.declared.Place.TheVariants.{At}
use Rattle.fault.specs.Refusals.{refusal, refused}
use Rattle.space.specs.Meaning.{Meaning}
use Rattle.space.specs.Paths.{solves, Distance, Nearest, Hopeless, Counted}
use Rattle.space.specs.Rows.{node_at, Held, Count, More, Closed}
use Rattle.bfs.specs.declared.table.Link.{Link}
use Rattle.bfs.specs.declared.Outcome.{Outcome}
use Rattle.bfs.specs.declared.Outcome.TheVariants.{Plan, NoPlan}
use Rattle.bfs.specs.Tables.{link_at, Table, Past}

-- what the node table and the link table hold
pub record Tables (N : Type 0) : Type 0 where
  pub nodes : List N
  pub links : List Link

abbrev pub tables : {N : Type 0} → List N → List Link → Tables N
tables nodes links = record { nodes = nodes; links = links }

-- the rows that a search may fill: the smallest of the two lengths and 65,536
abbrev pub capacity : {N : Type 0} → Tables N → ℕ
capacity t = min (min (length t.nodes) (length t.links)) 65536

-- what the tables and the plan slice hold
pub record Buffers (N : Type 0) : Type 0 where
  pub rows : Tables N
  pub plan : List ℕ

abbrev pub buffers : {N : Type 0} → List N → List Link → List ℕ → Buffers N
buffers nodes links plan = record { rows = tables nodes links; plan = plan }

-- Below, t and b are what was held before a search, and t' and b' what is held after it.
module _ {N : Type 0} (m : Meaning N) (t t' : Tables N) where
  -- The first `used` rows hold each counted node once and nothing else, the start first, by rising distance, with their links.
  -- What stands past them is as it was.
  pub record Filled (used : ℕ) : Type 0 where
    pub room : used ≤ capacity t
    pub table : Table m (node_at m t'.nodes) (link_at t'.links) used
    pub count : Count m (node_at m t'.nodes) used
    pub nodes_past : Past used t.nodes t'.nodes
    pub links_past : Past used t.links t'.links

  -- More nodes are counted than the capacity. All rows within it hold different counted nodes, the start first, by rising distance,
  -- with their links, and every node nearer than one of them. What stands past them is as it was.
  pub record Overfilled : Type 0 where
    pub more : More m (capacity t)
    pub table : Table m (node_at m t'.nodes) (link_at t'.links) (capacity t)
    pub only : (i : ℕ) → i < capacity t → Counted m (node_at m t'.nodes i)
    pub below : (i d : ℕ) (a : N) → i < capacity t → Distance m a d → d < (link_at t'.links i).distance → Held (node_at m t'.nodes) (capacity t) a
    pub nodes_past : Past (capacity t) t.nodes t'.nodes
    pub links_past : Past (capacity t) t.links t'.links

module _ {N : Type 0} (m : Meaning N) (b b' : Buffers N) where
  -- A target is nearest at distance d, and the first d places hold moves that lead to one. What stands past them is as it was.
  pub record Planned (d used : ℕ) : Type 0 where
    pub filled : Filled m b.rows b'.rows used
    pub nearest : Nearest m d
    pub fits : d ≤ length b.plan
    pub leads : solves m (take d b'.plan) ≡ true
    pub plan_past : Past d b.plan b'.plan

  -- No list of moves leads to a target, and the rows are a closed set. The plan slice is as it was.
  pub record Exhausted (used : ℕ) : Type 0 where
    pub filled : Filled m b.rows b'.rows used
    pub hopeless : Hopeless m
    pub closed : Closed m (node_at m b'.rows.nodes) used
    pub plan_same : b'.plan ≡ b.plan

  -- The rows are too few. The plan slice is as it was.
  pub record RowsShort : Type 0 where
    pub overfilled : Overfilled m b.rows b'.rows
    pub plan_same : b'.plan ≡ b.plan

  -- A target is nearest at a distance over the plan slice's length. The tables are as for a plan, and the slice is as it was.
  pub record PlacesShort : Type 0 where
    pub d : ℕ
    pub used : ℕ
    pub filled : Filled m b.rows b'.rows used
    pub nearest : Nearest m d
    pub over : length b.plan < d
    pub plan_same : b'.plan ≡ b.plan

-- each refusal, by its number, layer and place
pub data Refused {N : Type 0} (m : Meaning N) (b b' : Buffers N) (f : Fault) : Type 0 where
  rows_short : refusal f ≡ refused 15 Search (At 0) → RowsShort m b b' → Refused m b b' f
  places_short : refusal f ≡ refused 16 Search (At 0) → PlacesShort m b b' → Refused m b b' f

-- the answer is a plan's length and the rows used; or none, with the rows used; or a refusal
abbrev pub Answered : {N : Type 0} (m : Meaning N) (b b' : Buffers N) → Result Outcome Fault → Type 0
Answered m b b' (Ok (Plan p)) = Planned m b b' p.0 p.1
Answered m b b' (Ok (NoPlan used)) = Exhausted m b b' used
Answered m b b' (Err f) = Refused m b b' f
