-- The lines that are left to read. Assumes nothing.
use Rattle.std.specs.Prelude.{ℕ, List, map, take}
use Rattle.pieces.specs.declared.Pieces.{Pieces}
use Rattle.pieces.specs.Pieces.{pieces_left}

-- the next n lines
abbrev pub lines_left : Pieces → ℕ → List (List ℕ)
lines_left s n = map (λ p. p.1) (take n (pieces_left s))
