-- Rows of nodes: what they hold, how many nodes are counted, and when they are a closed set. Assumes nothing.
-- A row is a number, and R says which node it holds.
use Rattle.std.specs.Prelude.{◌≡◌, ℕ, ◌<◌, ◌≤◌, true, false, List, Some, ◌≢◌, slice_index_or}
use Rattle.space.specs.Meaning.{Meaning}
use Rattle.space.specs.Paths.{Leads, Counted}

-- the node that each row of a list holds; the start past the list's end, where no statement looks
abbrev pub node_at : {N : Type 0} → Meaning N → List N → ℕ → N
node_at m rows i = slice_index_or rows i m.start

-- one of the first n rows holds a
abbrev pub Held : {N : Type 0} → (ℕ → N) → ℕ → N → Type 0
Held R n a = (i : ℕ) × (i < n) × (R i ≡ a)

-- the first n rows hold different nodes
abbrev pub Apart : {N : Type 0} → (ℕ → N) → ℕ → Type 0
Apart R n = (i j : ℕ) → i < j → j < n → R i ≢ R j

module _ {N : Type 0} (m : Meaning N) where
  -- the first n rows hold each counted node once, and nothing else: n nodes are counted
  pub record Count (R : ℕ → N) (n : ℕ) : Type 0 where
    pub apart : Apart R n
    pub each : (a : N) → Counted m a → Held R n a
    pub only : (i : ℕ) → i < n → Counted m (R i)

  -- more than n nodes are counted: some n + 1 rows hold different ones
  pub record More (n : ℕ) : Type 0 where
    pub rows : ℕ → N
    pub rows_apart : (i j : ℕ) → i < j → j ≤ n → rows i ≢ rows j
    pub only : (i : ℕ) → i ≤ n → Counted m (rows i)

  -- at most n nodes are reachable: some n rows hold them all
  pub record Few (n : ℕ) : Type 0 where
    pub rows : ℕ → N
    pub each : (a : N) (ks : List ℕ) → Leads m ks a → Held rows n a

  -- the next node of a by move k, if the move is allowed, is one of the first n rows
  pub record Kept (R : ℕ → N) (n : ℕ) (a : N) (k : ℕ) : Type 0 where
    pub held : (b : N) → m.next a k ≡ Some b → Held R n b

  -- the first n rows are a closed set: nodes, among them the start and no target, with the next nodes of all their allowed moves
  pub record Closed (R : ℕ → N) (n : ℕ) : Type 0 where
    pub nodes : (i : ℕ) → i < n → m.node (R i) ≡ true
    pub start : Held R n m.start
    pub free : (i : ℕ) → i < n → m.target (R i) ≡ false
    pub kept : (i k : ℕ) → i < n → Kept R n (R i) k
