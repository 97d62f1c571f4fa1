-- The lines that are left to read.
use Rattle.std.proofs.Common.{◌≡◌, ℕ, suc, ◌+◌, ◌-◌, ◌<◌, List, [], ◌∷◌, map, length, take, drop, Some, None, Option, sym, refl, ap, ◌∙◌, subst, arith}
use Rattle.std.proofs.Math.Seq.{take-nil}
use Rattle.std.proofs.lemmas.List.{take-map, drop-map, drop_all, drop-drop, length-drop}
use Rattle.std.proofs.lemmas.List.Elements.{All-from_get_or}
use Rattle.std.specs.List.{All}
use Rattle.std.specs.Iterator.{Yields, YieldsFirstBy, SkipsThenYields}
use Rattle.pieces.specs.declared.Piece.{Piece}
use Rattle.pieces.specs.declared.Pieces.{Pieces}
use Rattle.pieces.specs.Pieces.{placed, located, pieces_left}
use Rattle.sheet.specs.Grid.{lines, action_count, action_lines}
use Rattle.sheet.specs.Reading.{Accepted}
use Rattle.sheet.specs.Shape.{GoodMarks}
use Rattle.sheet.specs.Left.{lines_left}
use Rattle.sheet.proofs.Accepting.{marks_good}
use Rattle.sheet.proofs.Fineness.{action_line_at, the_action_lines}

module _ (s t : Pieces) where
  -- one line less
  pub left_more : (x : Piece) (n : ℕ) → 0 < n → YieldsFirstBy located pieces_left s (Some x) t → lines_left s n ≡ x.bytes.now ∷ lines_left t (n - 1)
  left_more x n h step = ap (λ ps. map (λ p. p.1) (take n ps)) step ∙ ap (λ m. map (λ p. p.1) (take m (located x ∷ pieces_left t))) next
    where
      next : n ≡ suc (n - 1)
      next = omega arith

  -- no line
  pub left_none : (n m : ℕ) → YieldsFirstBy located pieces_left s None t → (lines_left s n ≡ []) × (lines_left t m ≡ [])
  left_none n m step = (none n _ step.0, none m _ step.1)
    where
      none : (n : ℕ) (ps : List (ℕ × List ℕ)) → ps ≡ [] → map (λ p. p.1) (take n ps) ≡ []
      none n ps e = rw e (ap (map (λ p. p.1)) (take-nil n))

  -- what is left keeps good marks
  pub good_on : (r : Option Piece) (n : ℕ) → 0 < n → All GoodMarks (lines_left s n) → YieldsFirstBy located pieces_left s r t → All GoodMarks (lines_left t (n - 1))
  good_on (Some x) n h g step = λ k d l. subst (All GoodMarks) (left_more x n h step) g (suc k) d (omega (arith, l))
  good_on None n h g step = subst (All GoodMarks) (sym (left_none n (n - 1) step).1) (λ k d l. absurd (omega (arith, l)))

-- the pieces without their places
bytes_of : (n : ℕ) (ps : List (List ℕ)) → map (λ p. p.1) (placed n ps) ≡ ps
bytes_of n [] = refl
bytes_of n (b ∷ bs) = ap (λ (z : List (List ℕ)). b ∷ z) (bytes_of (n + length b + 1) bs)

-- what is left once some pieces came
passed_over : (s : Pieces) (xs : List Piece) (t : Pieces) → Yields (YieldsFirstBy located pieces_left) s xs t → drop (length xs) (pieces_left s) ≡ pieces_left t
passed_over s [] t e = ap pieces_left e
passed_over s (x ∷ xs) t (j, first, later) = ap (drop (suc (length xs))) first ∙ passed_over j xs t later

-- what is left once n pieces were passed over and one more was asked for
pub behind : (s u : Pieces) (r : Option Piece) (n : ℕ) → SkipsThenYields (YieldsFirstBy located pieces_left) s n r u → pieces_left u ≡ drop (n + 1) (pieces_left s)
behind s u (Some x) n (xs, (j, by, step), e) = sym (ap (drop 1) (passed_over s xs j by ∙ step)) ∙ drop-drop 1 (length xs) (pieces_left s) ∙ ap (λ m. drop (m + 1) (pieces_left s)) e
behind s u None n (xs, (j, by, step), e) =
    let over : drop (length xs) (pieces_left s) ≡ [] = passed_over s xs j by ∙ step.0 in
    step.1 ∙ sym (drop_all (n + 1) (pieces_left s) (omega (arith, e, ap length over, length-drop (length xs) (pieces_left s))))

-- behind three pieces the lines of the actions are left
pub first_left : (s : Pieces) (text : List ℕ) (n : ℕ) → pieces_left s ≡ drop 3 (placed 0 (lines text)) → n ≡ action_count text
    → lines_left s n ≡ action_lines text
first_left s text n l e = rw (l, e) (sym (take-map (λ q. q.1) (action_count text) (drop 3 (placed 0 (lines text)))) ∙ ap (take (action_count text)) (sym (drop-map (λ q. q.1) 3 (placed 0 (lines text))) ∙ ap (drop 3) (bytes_of 0 (lines text))))

-- and in an accepted text all of them have good marks
pub all_good : (text : List ℕ) → Accepted text → All GoodMarks (action_lines text)
all_good text a = All-from_get_or GoodMarks (action_lines text) [] (λ k h. let inside : k < action_count text = omega (arith, the_action_lines text) in subst GoodMarks (sym (action_line_at text k inside)) (marks_good text k a inside))
