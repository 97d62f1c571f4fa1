-- The lines of an accepted text, written over with those of the dual text.
use Rattle.std.proofs.Common.{◌≡◌, ℕ, ◌+◌, ◌<◌, ◌≤◌, true, ◌⊎◌, List, [], ◌∷◌, ◌++◌, map, length, drop, sym, refl, ap, ◌∙◌, ap₂, inl, inr, arith}
use Rattle.std.proofs.lemmas.List.FromFn.{get_or-map-range_with_len, length-map-range_with_len}
use Rattle.std.proofs.lemmas.List.{drop_at, get_or_append_left, get_or-drop, get_or-map, length-map, length_push}
use Rattle.std.proofs.lemmas.Bool.{cases_lt, false≢true, ne_eqb}
use Rattle.std.proofs.lemmas.Bool.Decides.{nat_tests}
use Rattle.pieces.specs.Pieces.{piece}
use Rattle.pieces.proofs.Splits.{some_piece}
use Rattle.lines.specs.Grammar.{joined, lines_text}
use Rattle.words.specs.declared.kind.Kind.{Kind}
use Rattle.words.specs.declared.kind.Kind.TheVariants.{Facts, Now, Wish, Action}
use Rattle.words.specs.Words.{allowed_later, kind_of}
use Rattle.sheet.specs.Grid.{lines, line_count, line_at, words_in, word_count, word_at}
use Rattle.sheet.specs.Reading.{Accepted}
use Rattle.sheet.specs.Shape.{GoodMarks}
use Rattle.dual_text.specs.Turned.{turned_flags, turned_by, turned_row, turned_rows, Flags}
use Rattle.dual_text.proofs.InPlace.{Alike, over, over_rest, alike_joined}
use Rattle.dual_text.proofs.Joining.{joined_pieces, last_line, rows_joined}
use Rattle.dual_text.proofs.Writing.{flags_alike, marks_alike}

-- a line of its kind in the dual text
pub of_kind : (text : List ℕ) (r : ℕ) (k : Kind) → k ≡ kind_of r → joined 32 (turned_by k text r) ≡ joined 32 (turned_row text r)
of_kind text r k e = ap (λ (k : Kind). joined 32 (turned_by k text r)) e

-- a word for a fact of the second or the third line is one byte
abbrev Single : Kind → Type 0
Single k = (w : List ℕ) → allowed_later k w ≡ true → length w ≡ 1

now_single : Single Now
now_single [] e = absurd (false≢true e)
now_single (x ∷ []) e = refl
now_single (x ∷ y ∷ ys) e = grind (arith, nat_tests)

wish_single : Single Wish
wish_single [] e = absurd (false≢true e)
wish_single (x ∷ []) e = refl
wish_single (x ∷ y ∷ ys) e = grind (arith, nat_tests)

module _ (text : List ℕ) (a : Accepted text) where
  -- past the first word of a line, words are those that its kind allows for facts
  later_allowed : (r : ℕ) (k : Kind) → r < line_count text → k ≡ kind_of r → (i : ℕ) → i + 1 < word_count text r
      → allowed_later k (word_at text r (i + 1)) ≡ true
  later_allowed r k h e i l = rw e (rw (ne_eqb (i + 1) 0 (λ e. omega arith)) at (a.right r h (i + 1) l))

  -- two lines of flags
  flags_good : (r s : ℕ) (k m : Kind) → r < line_count text → s < line_count text → k ≡ kind_of r → m ≡ kind_of s → Single k → Single m
      → Flags (line_at text r) (line_at text s)
  flags_good r s k m h l e f one another = record {
    even = a.even r h ∙ sym (a.even s l);
    single = λ i n. one (word_at text r (i + 1)) (later_allowed r k h e i n);
    single_other = λ i n. another (word_at text s (i + 1)) (later_allowed s m l f i n);
  }

  pub now_flags : (r : ℕ) → r < line_count text → Now ≡ kind_of r → Flags (line_at text r) (line_at text 2)
  now_flags r h e = flags_good r 2 Now Wish h (omega (arith, a.sized.lines)) e refl now_single wish_single

  pub wish_flags : (r : ℕ) → r < line_count text → Wish ≡ kind_of r → Flags (line_at text r) (line_at text 1)
  wish_flags r h e = flags_good r 1 Wish Now h (omega (arith, a.sized.lines)) e refl wish_single now_single

  -- a line of marks
  pub action_good : (r : ℕ) → r < line_count text → Action ≡ kind_of r → GoodMarks (line_at text r)
  action_good r h e = (omega (arith, a.even r h, a.sized.facts.1), later_allowed r Action h e)

  -- a line of the dual text is as long as the text's
  row_alike : (r : ℕ) → r < line_count text → (k : Kind) → k ≡ kind_of r → Alike (words_in (line_at text r)) (turned_by k text r)
  row_alike r h Facts e = (refl, λ j l. refl)
  row_alike r h Now e = flags_alike 48 (line_at text r) (line_at text 2) (now_flags r h e)
  row_alike r h Wish e = flags_alike 45 (line_at text r) (line_at text 1) (wish_flags r h e)
  row_alike r h Action e = marks_alike (line_at text r) (action_good r h e)

  row_length : (r : ℕ) → r < line_count text → length (line_at text r) ≡ length (joined 32 (turned_row text r))
  row_length r h =
      ap length (sym (joined_pieces 32 (line_at text r)))
      ∙ alike_joined 32 (words_in (line_at text r)) (turned_row text r) (row_alike r h (kind_of r) refl) (some_piece 32 (line_at text r))

-- the pieces of the dual text: its lines, and an empty piece
abbrev pub turned_lines : List ℕ → List (List ℕ)
turned_lines text = map (joined 32) (turned_rows text) ++ [] ∷ []

rows_count : (text : List ℕ) → length (map (joined 32) (turned_rows text)) ≡ line_count text
rows_count text = length-map (turned_rows text) (joined 32) ∙ length-map-range_with_len (turned_row text) 0 (line_count text)

-- piece r is line r
pub turned_line : (text : List ℕ) (r : ℕ) → r < line_count text → piece (turned_lines text) r ≡ joined 32 (turned_row text r)
turned_line text r h =
    get_or_append_left (map (joined 32) (turned_rows text)) ([] ∷ []) [] r (omega (arith, rows_count text))
    ∙ get_or-map (joined 32) (turned_rows text) r [] [] (omega (arith, length-map-range_with_len (turned_row text) 0 (line_count text)))
    ∙ ap (joined 32) (get_or-map-range_with_len (turned_row text) 0 (line_count text) r r [] h (omega arith))

module _ (text : List ℕ) (a : Accepted text) where
  last_same : drop (line_count text) (lines text) ≡ drop (line_count text) (turned_lines text)
  last_same = last_line text a.lined.lines ∙ sym (drop_at (map (joined 32) (turned_rows text)) ([] ∷ []) (line_count text) (rows_count text))

  -- the pieces of the dual text are as long as the text's
  pub lines_alike : Alike (lines text) (turned_lines text)
  lines_alike = (omega (arith, some_piece 10 text, rows_count text, length_push (map (joined 32) (turned_rows text)) []), λ j h. each j h (cases_lt j (line_count text)))
    where
      last : piece (lines text) (line_count text) ≡ piece (turned_lines text) (line_count text)
      last = from_drop (lines text) ∙ ap (λ (z : List (List ℕ)). piece z 0) last_same ∙ sym (from_drop (turned_lines text))
        where
          from_drop : (ps : List (List ℕ)) → piece ps (line_count text) ≡ piece (drop (line_count text) ps) 0
          from_drop ps = sym (get_or-drop (line_count text) ps 0 [] ∙ ap (piece ps) (omega arith))

      each : (j : ℕ) → j < length (lines text) → (j < line_count text) ⊎ (line_count text ≤ j)
          → length (piece (lines text) j) ≡ length (piece (turned_lines text) j)
      each j h (inl l) = row_length text a j l ∙ ap length (sym (turned_line text j l))
      each j h (inr l) = let e : j ≡ line_count text = omega arith in rw e (ap length last)

  -- all lines are written over
  pub lines_over : over 10 (lines text) (turned_lines text) (line_count text) ≡ lines_text (turned_rows text)
  lines_over = over_rest 10 (lines text) (turned_lines text) (line_count text) last_same ∙ rows_joined (turned_rows text)

-- flags that are turned on two lines, which are lines of the text
pub flags_turned : {line other from beside after : List ℕ} (off : ℕ) → line ≡ from → other ≡ beside → Flags from beside
    → (Flags line other → after ≡ joined 32 (turned_flags off line other)) → after ≡ joined 32 (turned_flags off from beside)
flags_turned {line} {other} {from} {beside} {after} off e f g t =
    t (rw (e, f) g) ∙ ap₂ (λ (x y : List ℕ). joined 32 (turned_flags off x y)) e f
