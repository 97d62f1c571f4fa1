-- What the node table and the link table of a search hold. Assumes nothing.
use Rattle.std.specs.Prelude.{◌≡◌, ℕ, ◌+◌, ◌<◌, ◌≤◌, List, length, drop, Some, slice_index_or}
use Rattle.space.specs.Meaning.{Meaning}
use Rattle.space.specs.Paths.{Distance}
use Rattle.space.specs.Rows.{Apart}
use Rattle.bfs.specs.declared.table.Link.{Link}

-- the start's link
abbrev pub origin : Link
origin = record { distance = 0; row = 0; via = 0 }

-- the link of each row of a list; the start's past the list's end, where no statement looks
abbrev pub link_at : List Link → ℕ → Link
link_at links i = slice_index_or links i origin

-- The first `used` rows hold different nodes, the start first, by rising distance; R says which node a row holds, and L its link.
-- A link holds the node's distance, the row of a node one nearer, and the move that leads from there; the start's is 0, 0, 0.
pub record Table {N : Type 0} (m : Meaning N) (R : ℕ → N) (L : ℕ → Link) (used : ℕ) : Type 0 where
  pub first : 0 < used → R 0 ≡ m.start
  pub first_link : 0 < used → L 0 ≡ origin
  pub apart : Apart R used
  pub far : (i : ℕ) → i < used → Distance m (R i) (L i).distance
  pub rising : (i j : ℕ) → i ≤ j → j < used → (L i).distance ≤ (L j).distance
  pub behind : (i : ℕ) → 0 < i → i < used → (L i).row < i
  pub nearer : (i : ℕ) → 0 < i → i < used → (L (L i).row).distance + 1 ≡ (L i).distance
  pub via : (i : ℕ) → 0 < i → i < used → m.next (R (L i).row) (L i).via ≡ Some (R i)

-- a list is as long as it was, and nothing of it is changed from place n on
pub record Past {A : Type 0} (n : ℕ) (before after : List A) : Type 0 where
  pub rest : drop n after ≡ drop n before
  pub long : length after ≡ length before
