-- The words of an accepted text, line by line.
use Rattle.std.proofs.Common.{◌≡◌, ℕ, ◌+◌, ◌<◌, true, List, [], ◌∷◌, length, drop, refl, ap, ◌∙◌, arith}
use Rattle.std.proofs.lemmas.List.{drop_more, get_or-drop, get_or-take, length-drop, length-take-le}
use Rattle.std.proofs.lemmas.Bool.{ne_eqb}
use Rattle.pieces.specs.Pieces.{piece}
use Rattle.pieces.proofs.Splits.{some_piece}
use Rattle.words.specs.Words.{is_name, is_mark, allowed_first, allowed_later, kind_of}
use Rattle.words.specs.declared.kind.Kind.TheVariants.{Action}
use Rattle.sheet.specs.Grid.{lines, line_count, line_at, words_in, word_at, fact_count, action_count, action_name, cells, action_lines}
use Rattle.sheet.specs.Reading.{Accepted}

-- the words of a line are the first and the cells
pub first_and_cells : (line : List ℕ) → words_in line ≡ piece (words_in line) 0 ∷ cells line
first_and_cells line = drop_more (words_in line) 0 [] (some_piece 32 line)

-- a cell is the word one column on
pub cell_is : (line : List ℕ) (k : ℕ) → piece (cells line) k ≡ piece (words_in line) (k + 1)
cell_is line k = get_or-drop 1 (words_in line) k [] ∙ ap (piece (words_in line)) (omega arith)

-- the lines of the actions are as many as actions
pub the_action_lines : (text : List ℕ) → length (action_lines text) ≡ action_count text
the_action_lines text = length-take-le (action_count text) (drop 3 (lines text)) (omega (arith, length-drop 3 (lines text)))

-- the line of action k is line k + 3
pub action_line : (text : List ℕ) (k : ℕ) → k < action_count text → piece (action_lines text) k ≡ line_at text (k + 3)
action_line text k h = get_or-take (action_count text) (drop 3 (lines text)) k [] h ∙ get_or-drop 3 (lines text) k [] ∙ ap (line_at text) (omega arith)

-- and it is of the kind of actions
pub action_kind : (k : ℕ) → kind_of (k + 3) ≡ Action
action_kind k =
    rw (ne_eqb (k + 3) 0 (λ e. omega arith), ne_eqb (k + 3) 1 (λ e. omega arith), ne_eqb (k + 3) 2 (λ e. omega arith)) refl

module _ (text : List ℕ) (a : Accepted text) where
  -- a line has a cell for each fact
  pub cells_even : (r : ℕ) → r < line_count text → length (cells (line_at text r)) ≡ fact_count text
  cells_even r h = omega (arith, length-drop 1 (words_in (line_at text r)), a.even r h)

  -- the first word of a line is one that its kind has
  pub first_allowed : (r : ℕ) → r < line_count text → allowed_first (kind_of r) (word_at text r 0) ≡ true
  first_allowed r h = a.right r h 0 (some_piece 32 (line_at text r))

  -- and so is each cell
  pub cell_allowed : (r k : ℕ) → r < line_count text → k < fact_count text → allowed_later (kind_of r) (piece (cells (line_at text r)) k) ≡ true
  cell_allowed r k h l =
      rw cell_is (rw (ne_eqb (k + 1) 0 (λ e. omega arith)) at (a.right r h (k + 1) (omega (arith, a.even r h))))

  -- the name of an action is a name
  pub action_named : (k : ℕ) → k < action_count text → is_name (action_name text k) ≡ true
  action_named k h = rw (action_kind k) at (first_allowed (k + 3) (omega arith))

  -- its line has a cell for each fact
  pub action_cells : (k : ℕ) → k < action_count text → length (cells (piece (action_lines text) k)) ≡ fact_count text
  action_cells k h = rw (action_line text k h) (cells_even (k + 3) (omega arith))

  -- and each of them is a mark
  pub action_marks : (k j : ℕ) → k < action_count text → j < fact_count text → is_mark (piece (cells (piece (action_lines text) k)) j) ≡ true
  action_marks k j h l = rw (action_line text k h) (rw (action_kind k) at (cell_allowed (k + 3) j (omega arith) l))
