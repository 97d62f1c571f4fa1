-- How far a search has come: what the contracts inside this crate speak of. Assumes nothing.
use Rattle.std.specs.Prelude.{◌≡◌, ℕ, zero, suc, ◌+◌, ◌<◌, ◌≤◌, true, false, List, [], ◌∷◌, ◌++◌, length, take, Some, None, Option, Ok, Err, Result, slice_index_or, slice_set}
use Rattle.fault.specs.declared.Fault.{Fault}
use Rattle.fault.specs.declared.Fault.TheVariants.{TooFewRows, TooFewPlaces}
use Rattle.space.specs.Meaning.{Meaning}
use Rattle.space.specs.Paths.{solves, Distance, Nearest, Hopeless, Counted}
use Rattle.space.specs.Rows.{node_at, Held, More, Closed}
use Rattle.bfs.specs.declared.table.Link.{Link}
use Rattle.bfs.specs.declared.table.NodeTable.{NodeTable}
use Rattle.bfs.specs.Answers.{tables, Filled, Overfilled}
use Rattle.bfs.specs.Tables.{Table, origin, link_at, Past}

-- the places below u and those from u' on are as they were
pub record Grew {A : Type 0} (d : A) (u u' : ℕ) (xs xs' : List A) : Type 0 where
  pub more : u ≤ u'
  pub same : (i : ℕ) → i < u → slice_index_or xs' i d ≡ slice_index_or xs i d
  pub past : Past u' xs xs'

-- rows were added to a table over the same slices, and nothing else was done to it
pub record Grown {N : Type 0} (m : Meaning N) (t t' : NodeTable N) : Type 0 where
  pub rows_slice : t'.rows.ghost_name ≡ t.rows.ghost_name
  pub links_slice : t'.links.ghost_name ≡ t.links.ghost_name
  pub rows_grew : Grew m.start t.used t'.used t.rows.now t'.rows.now
  pub links_grew : Grew origin t.used t'.used t.links.now t'.links.now
  pub capacity_same : t'.capacity ≡ t.capacity

-- the next row was filled, and nothing else was done
pub record Pushed {N : Type 0} (t t' : NodeTable N) (node : N) (link : Link) : Type 0 where
  pub rows_slice : t'.rows.ghost_name ≡ t.rows.ghost_name
  pub links_slice : t'.links.ghost_name ≡ t.links.ghost_name
  pub capacity_same : t'.capacity ≡ t.capacity
  pub used : t'.used ≡ t.used + 1
  pub rows : t'.rows.now ≡ slice_set t.rows.now t.used node
  pub links : t'.links.now ≡ slice_set t.links.now t.used link

-- The rows from last on are at distance e, the rows from row to last one nearer, and those below row nearer than e.
-- The rows below last are no targets. The moves of the rows below row are made, and of that row those below k.
pub record Stage {N : Type 0} (m : Meaning N) (R : ℕ → N) (L : ℕ → Link) (used e last row k : ℕ) : Type 0 where
  pub table : Table m R L used
  pub some : 0 < used
  pub last_used : last ≤ used
  pub low : (i : ℕ) → i < last → (L i).distance < e
  pub here : (i : ℕ) → row ≤ i → i < last → (L i).distance + 1 ≡ e
  pub high : (i : ℕ) → last ≤ i → i < used → (L i).distance ≡ e
  pub missed : (i : ℕ) → i < last → m.target (R i) ≡ false
  pub done : (i j : ℕ) (b : N) → i < row → m.next (R i) j ≡ Some b → Held R used b
  pub part : (j : ℕ) (b : N) → j < k → m.next (R row) j ≡ Some b → Held R used b

-- a table at some stage
pub record At {N : Type 0} (m : Meaning N) (t : NodeTable N) (last row k : ℕ) : Type 0 where
  pub e : ℕ
  pub stage : Stage m (node_at m t.rows.now) (link_at t.links.now) t.used e last row k

-- rows that hold counted nodes, and one more is counted
pub record Crowded {N : Type 0} (m : Meaning N) (R : ℕ → N) (L : ℕ → Link) (used : ℕ) : Type 0 where
  pub table : Table m R L used
  pub more : More m used
  pub only : (i : ℕ) → i < used → Counted m (R i)
  pub below : (i d : ℕ) (a : N) → i < used → Distance m a d → d < (L i).distance → Held R used a

-- a full table that is too small
pub record Overfull {N : Type 0} (m : Meaning N) (t : NodeTable N) : Type 0 where
  pub full : t.used ≡ t.capacity
  pub crowded : Crowded m (node_at m t.rows.now) (link_at t.links.now) t.used

-- what some moves leave of a stage: where they are refused, the table is full, and too small
pub record Turned {N : Type 0} (m : Meaning N) (t t' : NodeTable N) (last row k row' k' : ℕ) (r : Result (Unit {0}) Fault) : Type 0 where
  pub made : r ≡ Ok tt → At m t last row k → At m t' last row' k'
  pub refused : (f : Fault) → r ≡ Err f → (f ≡ TooFewRows) × (At m t last row k → Overfull m t')

-- the rows up to a row, but those at distance 0, are tied to an earlier row one nearer
pub record Tied (L : ℕ → Link) (row : ℕ) : Type 0 where
  pub earlier : (i : ℕ) → i ≤ row → 0 < (L i).distance → (L i).row ≤ row
  pub nearer : (i : ℕ) → i ≤ row → 0 < (L i).distance → (L (L i).row).distance + 1 ≡ (L i).distance

-- the last d moves on the way to a row
abbrev pub trail : (ℕ → Link) → ℕ → ℕ → List ℕ
trail L zero row = []
trail L (suc d) row = trail L d (L row).row ++ ((L row).via ∷ [])

-- a row holds a nearest target, and the links lead to it
pub record Reached {N : Type 0} (m : Meaning N) (L : ℕ → Link) (used row : ℕ) : Type 0 where
  pub within : row < used
  pub nearest : Nearest m (L row).distance
  pub leads : solves m (trail L (L row).distance row) ≡ true
  pub tied : Tied L row

-- how an exploration ends: at the row of a nearest target, with no node left, or short of rows
abbrev pub ExploredSo : {N : Type 0} (m : Meaning N) (t t' : NodeTable N) → Result (Option ℕ) Fault → Type 0
ExploredSo m t t' (Ok (Some row)) =
    Filled m (tables t.rows.now t.links.now) (tables t'.rows.now t'.links.now) t'.used × Reached m (link_at t'.links.now) t'.used row
ExploredSo m t t' (Ok None) =
    Filled m (tables t.rows.now t.links.now) (tables t'.rows.now t'.links.now) t'.used × Hopeless m × Closed m (node_at m t'.rows.now) t'.used
ExploredSo m t t' (Err f) = (f ≡ TooFewRows) × Overfilled m (tables t.rows.now t.links.now) (tables t'.rows.now t'.links.now)

-- the links of a table lead back from a row
pub record Readable {N : Type 0} (t : NodeTable N) (row : ℕ) : Type 0 where
  pub within : row < t.used
  pub tied : Tied (link_at t.links.now) row

-- the moves that lead to a row stand in the first places of a plan slice; or they are too many, and the slice is as it was
abbrev pub Written : (ℕ → Link) → ℕ → List ℕ → List ℕ → Result ℕ Fault → Type 0
Written L row old new (Ok d) = (d ≡ (L row).distance) × (d ≤ length old) × (take d new ≡ trail L d row) × Past d old new
Written L row old new (Err f) = (f ≡ TooFewPlaces) × (length old < (L row).distance) × (new ≡ old)
