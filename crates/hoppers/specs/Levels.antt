-- Levels of eight hoppers, by number. Assumes nothing.
use Rattle.std.specs.Prelude.{ℕ, Bool, true, ◌&&◌, List, [], ◌∷◌, nat_le, slice_index, slice_set}
use Rattle.hoppers.specs.declared.levels.Levels.{Levels}

-- the levels in order
abbrev pub listed : Levels → List ℕ
listed x = x.a ∷ x.b ∷ x.c ∷ x.d ∷ x.e ∷ x.f ∷ x.g ∷ x.h ∷ []

-- the first eight numbers of a list, with 0 for those that it lacks
abbrev pub padded : List ℕ → Levels
padded xs = record { a = slice_index xs 0; b = slice_index xs 1; c = slice_index xs 2; d = slice_index xs 3; e = slice_index xs 4; f = slice_index xs 5; g = slice_index xs 6; h = slice_index xs 7 }

-- the level of hopper i; past the eighth, 0
abbrev pub level : Levels → ℕ → ℕ
level x i = slice_index (listed x) i

-- the levels with that of hopper i changed to v
abbrev pub put : Levels → ℕ → ℕ → Levels
put x i v = padded (slice_set (listed x) i v)

-- no number of the first list is above that in the same place of the second
abbrev pub none_above : List ℕ → List ℕ → Bool
none_above [] ys = true
none_above (x ∷ xs) [] = true
none_above (x ∷ xs) (y ∷ ys) = nat_le x y && none_above xs ys

-- no level of x is above that of the same hopper in y
abbrev pub within : Levels → Levels → Bool
within x y = none_above (listed x) (listed y)
