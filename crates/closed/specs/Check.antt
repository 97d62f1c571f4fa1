-- What the closed-set check answers. Assumes nothing.
use Rattle.std.specs.Prelude.{◌≡◌, ℕ, ◌<◌, true, false, List, length, Some, None, Ok, Err, Option, Result}
use Rattle.fault.specs.declared.Fault.{Fault}
use Rattle.fault.specs.declared.Layer.TheVariants.{Checker}
use Rattle.fault.specs.declared.Place.{Place}
use Rattle.fault.specs.declared.Place.TheVariants.{At, RowMove}
use Rattle.fault.specs.Refusals.{refusal, refused}
use Rattle.space.specs.Meaning.{Meaning}
use Rattle.space.specs.Rows.{node_at, Held, Kept, Closed}

-- the row and the move that a refusal names; where it names no move, 0, which nothing below looks at
abbrev pub row_of : Place → ℕ
row_of (At i) = i
row_of (RowMove i k) = i

abbrev pub move_of : Place → ℕ
move_of (At i) = 0
move_of (RowMove i k) = k

abbrev pub row : Fault → ℕ
row f = row_of (refusal f).place

abbrev pub move : Fault → ℕ
move f = move_of (refusal f).place

module _ {N : Type 0} (m : Meaning N) (rows : List N) where
  -- the rows below i are nodes
  abbrev pub Nodes : ℕ → Type 0
  Nodes i = (j : ℕ) → j < i → m.node (node_at m rows j) ≡ true

  -- the start is a row
  abbrev pub Started : Type 0
  Started = Held (node_at m rows) (length rows) m.start

  -- the rows below i are no targets
  abbrev pub Free : ℕ → Type 0
  Free i = (j : ℕ) → j < i → m.target (node_at m rows j) ≡ false

  -- the next node of a by move k, if the move is allowed, is a row
  abbrev pub Keeps : N → ℕ → Type 0
  Keeps a k = Kept m (node_at m rows) (length rows) a k

  -- move k is allowed from a, and its next node is no row
  pub record Misses (a : N) (k : ℕ) : Type 0 where
    pub to : N
    pub allowed : m.next a k ≡ Some to
    pub out : Held (node_at m rows) (length rows) to → ⊥

  -- Each refusal names the lowest row, and 21 then the lowest move; and none that comes before it applies to any row.
  pub data Refused (f : Fault) : Type 0 where
    not_node : refusal f ≡ refused 18 Checker (At (row f))
        → row f < length rows → m.node (node_at m rows (row f)) ≡ false → Nodes (row f) → Refused f
    no_start : refusal f ≡ refused 19 Checker (At 0)
        → Nodes (length rows) → (Started → ⊥) → Refused f
    target_row : refusal f ≡ refused 20 Checker (At (row f))
        → Nodes (length rows) → Started
        → row f < length rows → m.target (node_at m rows (row f)) ≡ true → Free (row f) → Refused f
    next_missing : refusal f ≡ refused 21 Checker (RowMove (row f) (move f))
        → Nodes (length rows) → Started → Free (length rows)
        → row f < length rows → Misses (node_at m rows (row f)) (move f) → ((j : ℕ) → j < move f → Keeps (node_at m rows (row f)) j)
        → ((i j : ℕ) → i < row f → Keeps (node_at m rows i) j) → Refused f

  -- the rows are accepted where they are a closed set, and else refused
  abbrev pub Checked : Result (Unit {0}) Fault → Type 0
  Checked (Ok _) = Closed m (node_at m rows) (length rows)
  Checked (Err f) = Refused f

  -- the first move from a node whose next node is no row, or none
  abbrev pub FirstMove : N → Option ℕ → Type 0
  FirstMove a (Some k) = Misses a k × ((j : ℕ) → j < k → Keeps a j)
  FirstMove a None = (j : ℕ) → Keeps a j

  -- a fault names the first row that is no node, that is a target, or from which a next node is missing
  pub record NoNodeAt (f : Fault) : Type 0 where
    pub says : refusal f ≡ refused 18 Checker (At (row f))
    pub within : row f < length rows
    pub no_node : m.node (node_at m rows (row f)) ≡ false
    pub first : Nodes (row f)

  pub record TargetAt (f : Fault) : Type 0 where
    pub says : refusal f ≡ refused 20 Checker (At (row f))
    pub within : row f < length rows
    pub target : m.target (node_at m rows (row f)) ≡ true
    pub first : Free (row f)

  pub record MissingAt (f : Fault) : Type 0 where
    pub says : refusal f ≡ refused 21 Checker (RowMove (row f) (move f))
    pub within : row f < length rows
    pub move_missing : FirstMove (node_at m rows (row f)) (Some (move f))
    pub first : (i j : ℕ) → i < row f → Keeps (node_at m rows i) j
