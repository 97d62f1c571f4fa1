-- An accepted text is the text of its task and its names.
use Rattle.std.proofs.Common.{◌≡◌, ℕ, zero, suc, ◌-◌, ◌<◌, ◌≤◌, true, List, [], ◌∷◌, map, length, take, drop, codes, sym, refl, ap, ◌∙◌, ap₂, arith}
use Rattle.std.proofs.lemmas.List.FromFn.{fill_by_all}
use Rattle.std.proofs.lemmas.Slice.Eq.{bytes_eq-Decides}
use Rattle.std.specs.Str.{bytes_eq}
use Rattle.pieces.specs.Pieces.{piece}
use Rattle.lines.specs.Grammar.{lines_text}
use Rattle.words.specs.Words.{among, is_mark}
use Rattle.words.specs.Marks.{mark_word}
use Rattle.strips.specs.Sets.{has}
use Rattle.sheet.specs.Grid.{lines, line_count, line_at, words_in, fact_count, action_count, cells, action_lines}
use Rattle.sheet.specs.Reading.{marked, action_in, task_of, Accepted}
use Rattle.dual_text.specs.Written.{fact_names, action_names, now_word, wish_word, for_facts, action_words, action_rows, rows_of}
use Rattle.dual_text.specs.Texts.{IsWrittenBack}
use Rattle.dual_text.proofs.Joining.{text_of_lines}
use Rattle.dual_text.proofs.Decoding.{has_marked, mark_decoded, now_decoded, wish_decoded}
use Rattle.dual_text.proofs.AcceptedWords.{first_and_cells, cells_even, first_allowed, cell_allowed, the_action_lines, action_cells, action_marks}

module _ (line : List ℕ) (n : ℕ) (l : length (cells line) ≡ n) where
  -- the cells of the second line are the words of its facts
  now_cells : ((k : ℕ) → k < n → among (piece (cells line) k) (codes "0" ∷ codes "1" ∷ []) ≡ true)
      → cells line ≡ for_facts n (λ i. now_word (has (marked 49 line) i))
  now_cells f = fill_by_all (λ i. now_word (has (marked 49 line) i)) (cells line) n []
      l (λ k h. sym (ap now_word (has_marked 49 line k (omega arith)) ∙ now_decoded (piece (cells line) k) (f k h)))

  -- and so those of the third
  wish_cells : ((k : ℕ) → k < n → among (piece (cells line) k) (codes "1" ∷ codes "-" ∷ []) ≡ true)
      → cells line ≡ for_facts n (λ i. wish_word (has (marked 49 line) i))
  wish_cells f = fill_by_all (λ i. wish_word (has (marked 49 line) i)) (cells line) n []
      l (λ k h. sym (ap wish_word (has_marked 49 line k (omega arith)) ∙ wish_decoded (piece (cells line) k) (f k h)))

  -- and those of the line of an action are its marks
  action_as_words : ((k : ℕ) → k < n → is_mark (piece (cells line) k) ≡ true) → words_in line ≡ action_words n (piece (words_in line) 0) (action_in line)
  action_as_words f = first_and_cells line ∙ ap (λ (z : List (List ℕ)). piece (words_in line) 0 ∷ z) (fill_by_all mark (cells line) n [] l here)
    where
      mark : ℕ → List ℕ
      mark i = mark_word (has (marked 112 line) i) (has (marked 97 line) i) (has (marked 100 line) i)

      here : (k : ℕ) → k < n → piece (cells line) k ≡ mark k
      here k h =
          let in_line : k < length (cells line) = omega arith in
          rw (has_marked 112 line k in_line, has_marked 97 line k in_line, has_marked 100 line k in_line) (sym (mark_decoded (piece (cells line) k) (f k h)))

-- a row and more rows
abbrev pub row_before : List (List ℕ) → List (List (List ℕ)) → List (List (List ℕ))
row_before row rows = row ∷ rows

-- lines that are each the words of an action are the rows of the actions
rows_of_actions : (n : ℕ) (ls : List (List ℕ))
    → ((k : ℕ) → k < length ls → words_in (piece ls k) ≡ action_words n (piece (words_in (piece ls k)) 0) (action_in (piece ls k)))
    → map words_in ls ≡ action_rows n (map (λ (line : List ℕ). piece (words_in line) 0) ls) (map action_in ls)
rows_of_actions n [] f = refl
rows_of_actions n (l ∷ ls) f =
    ap₂ row_before (f 0 (omega arith)) (rows_of_actions n ls (λ k h. f (suc k) (omega arith)))

-- the first three of some lines, and the others
first_three : (n : ℕ) (ls : List (List ℕ)) → 3 ≤ n → n ≤ length ls → take n ls ≡ piece ls 0 ∷ piece ls 1 ∷ piece ls 2 ∷ take (n - 3) (drop 3 ls)
first_three n [] h l = absurd (omega arith)
first_three n (x ∷ []) h l = absurd (omega arith)
first_three n (x ∷ y ∷ []) h l = absurd (omega arith)
first_three zero (x ∷ y ∷ z ∷ ls) h l = absurd (omega arith)
first_three (suc zero) (x ∷ y ∷ z ∷ ls) h l = absurd (omega arith)
first_three (suc (suc zero)) (x ∷ y ∷ z ∷ ls) h l = absurd (omega arith)
first_three (suc (suc (suc n))) (x ∷ y ∷ z ∷ ls) h l = let e : n ≡ suc (suc (suc n)) - 3 = omega arith in ap (λ (k : ℕ). x ∷ y ∷ z ∷ take k ls) e

-- a line whose first word is known
pub line_from : (line w : List ℕ) → bytes_eq (piece (words_in line) 0) w ≡ true → words_in line ≡ w ∷ cells line
line_from line w e = first_and_cells line ∙ ap (λ (x : List ℕ). x ∷ cells line) ((bytes_eq-Decides (piece (words_in line) 0) w).0 e)

-- the words of the lines of an accepted text are the rows of its task
rows_of_task : (text : List ℕ) → Accepted text → map words_in (take (line_count text) (lines text)) ≡ rows_of (fact_names text) (action_names text) (task_of text)
rows_of_task text a =
    ap (map words_in) (first_three (line_count text) (lines text) a.sized.lines (omega arith))
    ∙ ap₂ row_before names (ap₂ row_before now (ap₂ row_before wish actions))
  where
    names : words_in (line_at text 0) ≡ codes "line" ∷ fact_names text
    names = line_from (line_at text 0) (codes "line") (first_allowed text a 0 (omega (arith, a.sized.lines)))

    now : words_in (line_at text 1) ≡ codes "now" ∷ for_facts (fact_count text) (λ i. now_word (has (marked 49 (line_at text 1)) i))
    now =
        let h : 1 < line_count text = omega (arith, a.sized.lines) in
        line_from (line_at text 1) (codes "now") (first_allowed text a 1 h)
        ∙ ap (λ (z : List (List ℕ)). codes "now" ∷ z) (now_cells (line_at text 1) (fact_count text) (cells_even text a 1 h) (λ k. cell_allowed text a 1 k h))

    wish : words_in (line_at text 2) ≡ codes "wish" ∷ for_facts (fact_count text) (λ i. wish_word (has (marked 49 (line_at text 2)) i))
    wish =
        let h : 2 < line_count text = omega (arith, a.sized.lines) in
        line_from (line_at text 2) (codes "wish") (first_allowed text a 2 h)
        ∙ ap (λ (z : List (List ℕ)). codes "wish" ∷ z) (wish_cells (line_at text 2) (fact_count text) (cells_even text a 2 h) (λ k. cell_allowed text a 2 k h))

    actions : map words_in (action_lines text) ≡ action_rows (fact_count text) (action_names text) (map action_in (action_lines text))
    actions = rows_of_actions (fact_count text) (action_lines text) each
      where
        each : (k : ℕ) → k < length (action_lines text)
            → words_in (piece (action_lines text) k) ≡ action_words (fact_count text) (piece (words_in (piece (action_lines text) k)) 0) (action_in (piece (action_lines text) k))
        each k l =
            let h : k < action_count text = omega (arith, the_action_lines text) in
            action_as_words (piece (action_lines text) k) (fact_count text) (action_cells text a k h) (λ j. action_marks text a k j h)

-- an accepted text is the text of the task that is read from it, with its names
pub written_back : IsWrittenBack
written_back text a = text_of_lines text a.lined.lines ∙ ap lines_text (rows_of_task text a)
