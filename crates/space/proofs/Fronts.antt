-- The first rows of a list.
use Rattle.std.proofs.Common.{◌≡◌, ℕ, ◌<◌, ◌≤◌, List, length, get_or, take, ap, ◌∙◌, arith}
use Rattle.std.proofs.lemmas.List.{get_or-take, length-take-le}
use Rattle.space.specs.Meaning.{Meaning}
use Rattle.space.specs.Rows.{node_at, Held}

module _ {N : Type 0} (m : Meaning N) (rows front : List N) (n : ℕ) (q : front ≡ take n rows) (l : n ≤ length rows) where
  front_long : length front ≡ n
  front_long = ap length q ∙ length-take-le n rows l

  -- they hold what the list holds there
  pub front_node : (i : ℕ) → i < n → node_at m front i ≡ node_at m rows i
  front_node i h = ap (λ (z : List N). get_or z i m.start) q ∙ get_or-take n rows i m.start h

  pub held_front : (a : N) → Held (node_at m rows) n a → Held (node_at m front) (length front) a
  held_front a (i, h, e) = (i, omega (arith, front_long), front_node i h ∙ e)
