-- What a search space means. Assumes nothing.
use Rattle.std.specs.Prelude.{◌≡◌, ℕ, ◌≤◌, Bool, true, false, Some, None, Option}

-- the nodes, one of them the start; the count of moves; the targets; and for each node and move number the next node, or None where the move is forbidden
pub record Meaning (N : Type 0) : Type 0 where
  pub node : N → Bool
  pub start : N
  pub count : ℕ
  pub target : N → Bool
  pub next : N → ℕ → Option N

-- the laws of a space
pub record Lawful {N : Type 0} (m : Meaning N) : Type 0 where
  -- the start is a node
  pub start_node : m.node m.start ≡ true
  -- there are at most 512 moves
  pub few : m.count ≤ 512
  -- a next node is a node
  pub next_node : (a b : N) (k : ℕ) → m.next a k ≡ Some b → m.node b ≡ true
  -- a move number at or past the count is forbidden
  pub past : (a : N) (k : ℕ) → m.count ≤ k → m.next a k ≡ None
  -- every move from what is not a node is forbidden
  pub off : (a : N) (k : ℕ) → m.node a ≡ false → m.next a k ≡ None
  -- what is not a node is no target
  pub off_target : (a : N) → m.node a ≡ false → m.target a ≡ false
