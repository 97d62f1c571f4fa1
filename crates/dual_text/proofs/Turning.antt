-- The words of the dual text as they are written, line by line, are the rows of the dual task.
use Rattle.std.proofs.Common.{◌≡◌, ℕ, zero, suc, ◌+◌, ◌-◌, ◌<◌, ◌≤◌, Bool, true, false, cond, not, ◌&&◌, List, [], ◌∷◌, map, length, codes, sym, refl, ap, ◌∙◌, ap₂, arith}
use Rattle.std.specs.List.{range_with_len}
use Rattle.std.proofs.lemmas.List.FromFn.{fill_by_all}
use Rattle.std.proofs.lemmas.Slice.Eq.{bytes_eq-Decides}
use Rattle.std.proofs.lemmas.List.{get_or-map, length-map}
use Rattle.std.proofs.lemmas.Bool.{lt-ltb}
use Rattle.lines.specs.Grammar.{lines_text}
use Rattle.pieces.specs.Pieces.{piece}
use Rattle.words.specs.declared.kind.Kind.{Kind}
use Rattle.words.specs.Words.{holds}
use Rattle.words.specs.Marks.{mark_word, dual_mark}
use Rattle.strips.specs.Sets.{has, complement}
use Rattle.strips.specs.Actions.{dual_action}
use Rattle.strips.specs.Duality.{dual}
use Rattle.strips.proofs.Words.{by_membership}
use Rattle.sheet.specs.Grid.{line_count, line_at, words_in, word_at, fact_count, action_count, cells, action_lines}
use Rattle.sheet.specs.Reading.{marked, action_in, task_of, Accepted}
use Rattle.dual_text.specs.Written.{fact_names, action_names, now_word, wish_word, for_facts, action_words, action_rows, rows_of}
use Rattle.dual_text.specs.Dual.{dual_of_text}
use Rattle.dual_text.specs.Turned.{turned_marks, turned_flags, turned_by, turned_row, turned_rows}
use Rattle.dual_text.proofs.Decoding.{has_marked}
use Rattle.dual_text.proofs.AcceptedWords.{action_kind, cells_even, first_allowed, the_action_lines, action_line, action_cells}
use Rattle.dual_text.proofs.WrittenBack.{row_before, line_from}

module _ (line : List ℕ) (n : ℕ) (l : length (cells line) ≡ n) where
  -- the flags that a line has not are the words of the complement of its set
  flags_turned : (off : ℕ) → map (λ (w : List ℕ). cond (holds 49 w) (off ∷ []) (codes "1")) (cells line)
      ≡ for_facts n (λ i. cond (has (complement n (marked 49 line)) i) (codes "1") (off ∷ []))
  flags_turned off =
      fill_by_all _ (map flag (cells line)) n [] (length-map (cells line) flag ∙ l) here
    where
      flag : List ℕ → List ℕ
      flag w = cond (holds 49 w) (off ∷ []) (codes "1")

      exchanged : (b : Bool) → cond b (off ∷ []) (codes "1") ≡ cond (not b) (codes "1") (off ∷ [])
      exchanged true = refl
      exchanged false = refl

      outside : (k : ℕ) → k < n → has (complement n (marked 49 line)) k ≡ not (holds 49 (piece (cells line) k))
      outside k h =
          by_membership.opposite n (marked 49 line) k
          ∙ ap₂ (λ (b c : Bool). b && not c) (lt-ltb k n h) (has_marked 49 line k (omega arith))

      here : (k : ℕ) → k < n → piece (map flag (cells line)) k ≡ cond (has (complement n (marked 49 line)) k) (codes "1") (off ∷ [])
      here k h =
          get_or-map flag (cells line) k [] [] (omega arith)
          ∙ rw (outside k h) (exchanged (holds 49 (piece (cells line) k)))

  -- the line of an action with the dual marks is that of the dual action
  marks_turned : turned_marks line ≡ action_words n (piece (words_in line) 0) (dual_action (action_in line))
  marks_turned =
      ap (λ (z : List (List ℕ)). piece (words_in line) 0 ∷ z) (fill_by_all mark (map dual_mark (cells line)) n [] (length-map (cells line) dual_mark ∙ l) here)
    where
      mark : ℕ → List ℕ
      mark i = mark_word (has (marked 100 line) i) (has (marked 97 line) i) (has (marked 112 line) i)

      here : (k : ℕ) → k < n → piece (map dual_mark (cells line)) k ≡ mark k
      here k h =
          let in_line : k < length (cells line) = omega arith in
          rw (has_marked 112 line k in_line, has_marked 97 line k in_line, has_marked 100 line k in_line)
          (get_or-map dual_mark (cells line) k [] [] in_line)

-- rows by number that are each those of a line's dual action are the rows of the dual actions
rows_of_duals : (n j : ℕ) (row : ℕ → List (List ℕ)) (ls : List (List ℕ))
    → ((k : ℕ) → k < length ls → row (k + j) ≡ action_words n (piece (words_in (piece ls k)) 0) (dual_action (action_in (piece ls k))))
    → map row (range_with_len j (length ls)) ≡ action_rows n (map (λ (line : List ℕ). piece (words_in line) 0) ls) (map dual_action (map action_in ls))
rows_of_duals n j row [] f = refl
rows_of_duals n j row (l ∷ ls) f =
    let start : j ≡ 0 + j = omega arith in
    ap₂ row_before (ap row start ∙ f 0 (omega arith)) (rows_of_duals n (j + 1) row ls (λ k h.
    let on : k + (j + 1) ≡ suc k + j = omega arith in ap row on ∙ f (suc k) (omega arith)))

-- the first three rows by number, and the others
three_counted : (row : ℕ → List (List ℕ)) (n : ℕ) → 3 ≤ n → map row (range_with_len 0 n) ≡ row 0 ∷ row 1 ∷ row 2 ∷ map row (range_with_len 3 (n - 3))
three_counted row zero h = absurd (omega arith)
three_counted row (suc zero) h = absurd (omega arith)
three_counted row (suc (suc zero)) h = absurd (omega arith)
three_counted row (suc (suc (suc n))) h =
    let e : n ≡ suc (suc (suc n)) - 3 = omega arith in ap (λ (k : ℕ). row 0 ∷ row 1 ∷ row 2 ∷ map row (range_with_len 3 k)) e

-- the rows that are written for an accepted text are those of the dual task
rows_turned : (text : List ℕ) → Accepted text → turned_rows text ≡ rows_of (fact_names text) (action_names text) (dual (task_of text))
rows_turned text a =
    three_counted (turned_row text) (line_count text) a.sized.lines
    ∙ ap₂ row_before names (ap₂ row_before now (ap₂ row_before wish actions))
  where
    names : words_in (line_at text 0) ≡ codes "line" ∷ fact_names text
    names = line_from (line_at text 0) (codes "line") (first_allowed text a 0 (omega (arith, a.sized.lines)))

    now : turned_flags 48 (line_at text 1) (line_at text 2)
        ≡ codes "now" ∷ for_facts (fact_count text) (λ i. now_word (has (complement (fact_count text) (marked 49 (line_at text 2))) i))
    now =
        ap₂ (λ (x : List ℕ) (xs : List (List ℕ)). x ∷ xs)
        ((bytes_eq-Decides (word_at text 1 0) (codes "now")).0 (first_allowed text a 1 (omega (arith, a.sized.lines))))
        (flags_turned (line_at text 2) (fact_count text) (cells_even text a 2 (omega (arith, a.sized.lines))) 48)

    wish : turned_flags 45 (line_at text 2) (line_at text 1)
        ≡ codes "wish" ∷ for_facts (fact_count text) (λ i. wish_word (has (complement (fact_count text) (marked 49 (line_at text 1))) i))
    wish =
        ap₂ (λ (x : List ℕ) (xs : List (List ℕ)). x ∷ xs)
        ((bytes_eq-Decides (word_at text 2 0) (codes "wish")).0 (first_allowed text a 2 (omega (arith, a.sized.lines))))
        (flags_turned (line_at text 1) (fact_count text) (cells_even text a 1 (omega (arith, a.sized.lines))) 45)

    action : (k : ℕ) → k < length (action_lines text)
        → turned_row text (k + 3)
        ≡ action_words (fact_count text) (piece (words_in (piece (action_lines text) k)) 0) (dual_action (action_in (piece (action_lines text) k)))
    action k l =
        let h : k < action_count text = omega (arith, the_action_lines text) in
        ap (λ (x : Kind). turned_by x text (k + 3)) (action_kind k)
        ∙ ap turned_marks (sym (action_line text k h))
        ∙ marks_turned (piece (action_lines text) k) (fact_count text) (action_cells text a k h)

    actions : map (turned_row text) (range_with_len 3 (action_count text))
        ≡ action_rows (fact_count text) (action_names text) (map dual_action (map action_in (action_lines text)))
    actions =
        ap (λ (m : ℕ). map (turned_row text) (range_with_len 3 m)) (sym (the_action_lines text))
        ∙ rows_of_duals (fact_count text) 3 (turned_row text) (action_lines text) action

-- what is written for an accepted text, line by line, is the dual text
pub turned_is_dual : (text : List ℕ) → Accepted text → lines_text (turned_rows text) ≡ dual_of_text text
turned_is_dual text a = ap lines_text (rows_turned text a)
