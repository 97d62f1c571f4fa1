-- A text joined again from its pieces.
use Rattle.std.proofs.Common.{◌≡◌, ℕ, ◌<◌, true, false, eqb, ◌⊎◌, List, [], ◌∷◌, ◌++◌, map, length, take, drop, sym, refl, ap, ◌∙◌, ap₂, inl, inr, arith}
use Rattle.std.proofs.lemmas.List.{drop_at, length_push, take_at}
use Rattle.std.proofs.lemmas.Bool.{and_parts, cases_Bool, eqb-true}
use Rattle.std.specs.List.{onto_first}
use Rattle.pieces.specs.Pieces.{pieces}
use Rattle.pieces.proofs.Splits.{some_piece}
use Rattle.lines.specs.Grammar.{is_line, are_lines, behind, joined, lines_text, Lines}
use Rattle.dual_text.proofs.Splitting.{line_split, lines_split}
use Rattle.sheet.specs.Grid.{lines, line_count, words_in}

-- some parts, each behind a separator, are a separator and the parts with a separator between
behind_joined : (sep : ℕ) (ps : List (List ℕ)) → 0 < length ps → behind sep ps ≡ sep ∷ joined sep ps
behind_joined sep [] h = absurd (omega arith)
behind_joined sep (p ∷ ps) h = refl

-- a byte in front of the first piece is in front of the joined text
joined_onto : (sep b : ℕ) (ps : List (List ℕ)) → joined sep (onto_first b ps) ≡ b ∷ joined sep ps
joined_onto sep b [] = refl
joined_onto sep b (p ∷ ps) = refl

-- the pieces of a text, joined, are the text
pub joined_pieces : (sep : ℕ) (text : List ℕ) → joined sep (pieces sep text) ≡ text
joined_pieces sep [] = refl
joined_pieces sep (b ∷ bs) = go (cases_Bool (eqb b sep)) (joined_pieces sep bs)
  where
    go : (eqb b sep ≡ true) ⊎ (eqb b sep ≡ false) → joined sep (pieces sep bs) ≡ bs → joined sep (pieces sep (b ∷ bs)) ≡ b ∷ bs
    go (inl y) e = rw y (behind_joined sep (pieces sep bs) (some_piece sep bs) ∙ ap₂ (λ (x : ℕ) (z : List ℕ). x ∷ z) (sym (eqb-true b sep y)) e)
    go (inr n) e = rw n (joined_onto sep b (pieces sep bs) ∙ ap (λ (z : List ℕ). b ∷ z) e)

-- the lines of a text of lines, and an empty piece behind the last
module _ (text : List ℕ) (l : Lines text) where
  the_lines : lines text ≡ map (joined 32) l.lines ++ [] ∷ []
  the_lines = ap (pieces 10) l.same ∙ lines_split l.lines l.good

  counted : length (map (joined 32) l.lines) ≡ line_count text
  counted = omega (arith, ap length the_lines, length_push (map (joined 32) l.lines) [])

  -- it is the text of the words of its lines
  pub text_of_lines : text ≡ lines_text (map words_in (take (line_count text) (lines text)))
  text_of_lines =
      l.same
      ∙ ap lines_text (sym (ap (map words_in) (ap (take (line_count text)) the_lines ∙ take_at (map (joined 32) l.lines) ([] ∷ []) (line_count text) counted) ∙ words_back l.lines l.good))
    where
      words_back : (rows : List (List (List ℕ))) → are_lines rows ≡ true → map words_in (map (joined 32) rows) ≡ rows
      words_back [] g = refl
      words_back (w ∷ ws) g =
          let k = and_parts (is_line w) (are_lines ws) g in
          ap₂ (λ (x : List (List ℕ)) (xs : List (List (List ℕ))). x ∷ xs) (line_split w k.0) (words_back ws k.1)

  -- and ends with an empty piece
  pub last_line : drop (line_count text) (lines text) ≡ [] ∷ []
  last_line = ap (drop (line_count text)) the_lines ∙ drop_at (map (joined 32) l.lines) ([] ∷ []) (line_count text) counted

-- lines, each joined from its words, and an empty piece are joined to their text
pub rows_joined : (rows : List (List (List ℕ))) → joined 10 (map (joined 32) rows ++ [] ∷ []) ≡ lines_text rows
rows_joined [] = refl
rows_joined (l ∷ ls) =
    ap (λ (z : List ℕ). joined 32 l ++ z)
    (behind_joined 10 (map (joined 32) ls ++ [] ∷ []) (omega (arith, length_push (map (joined 32) ls) [])) ∙ ap (λ (z : List ℕ). 10 ∷ z) (rows_joined ls))
