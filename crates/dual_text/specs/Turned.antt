-- The words of the dual text, line by line, as they are written; only inner functions cite these. Assumes nothing.
use Rattle.std.specs.Prelude.{◌≡◌, ℕ, ◌+◌, ◌<◌, cond, List, [], ◌∷◌, map, length, codes}
use Rattle.std.specs.List.{range_with_len}
use Rattle.pieces.specs.Pieces.{piece}
use Rattle.words.specs.declared.kind.Kind.{Kind}
use Rattle.words.specs.declared.kind.Kind.TheVariants.{Facts, Now, Wish, Action}
use Rattle.words.specs.Words.{holds, kind_of}
use Rattle.words.specs.Marks.{dual_mark}
use Rattle.sheet.specs.Grid.{words_in, cells, line_at, line_count}

-- an action's line with the dual marks
abbrev pub turned_marks : List ℕ → List (List ℕ)
turned_marks line = piece (words_in line) 0 ∷ map dual_mark (cells line)

-- a line of flags with the flags that the other line has not: 1, or else the byte for no
abbrev pub turned_flags : (off : ℕ) → (line other : List ℕ) → List (List ℕ)
turned_flags off line other = piece (words_in line) 0 ∷ map (λ w. cond (holds 49 w) (off ∷ []) (codes "1")) (cells other)

-- a line of its kind in the dual text: the state is what the goal has not, and the goal what the state has not
abbrev pub turned_by : Kind → List ℕ → ℕ → List (List ℕ)
turned_by Facts text r = words_in (line_at text r)
turned_by Now text r = turned_flags 48 (line_at text r) (line_at text 2)
turned_by Wish text r = turned_flags 45 (line_at text r) (line_at text 1)
turned_by Action text r = turned_marks (line_at text r)

abbrev pub turned_row : List ℕ → ℕ → List (List ℕ)
turned_row text r = turned_by (kind_of r) text r

abbrev pub turned_rows : List ℕ → List (List (List ℕ))
turned_rows text = map (turned_row text) (range_with_len 0 (line_count text))

-- two lines with as many words, and past the first word words of one byte
pub record Flags (line other : List ℕ) : Type 0 where
  pub even : length (words_in line) ≡ length (words_in other)
  pub single : (i : ℕ) → i + 1 < length (words_in line) → length (piece (words_in line) (i + 1)) ≡ 1
  pub single_other : (i : ℕ) → i + 1 < length (words_in other) → length (piece (words_in other) (i + 1)) ≡ 1
