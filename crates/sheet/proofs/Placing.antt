-- Lines and words stand in the text where they begin.
use Rattle.std.proofs.Common.{◌≡◌, ℕ, ◌+◌, ◌-◌, ◌<◌, ◌≤◌, List, length, take, drop, sym, ap, ◌∙◌, arith}
use Rattle.std.proofs.lemmas.List.{drop-drop, drop-take, take-take, length-take, length-drop}
use Rattle.pieces.specs.Pieces.{pieces, place, piece}
use Rattle.pieces.proofs.Splits.{from_piece, piece_stands}
use Rattle.sheet.specs.Grid.{lines, line_at, line_start, words_in, word_count, word_at, word_start}
use Rattle.sheet.specs.Exactness.{Placed}

-- a part of a part is a part
part_of_part : (text : List ℕ) (a n b m : ℕ) → b + m ≤ n → take m (drop b (take n (drop a text))) ≡ take m (drop (a + b) text)
part_of_part text a n b m h =
    ap (λ (j : ℕ). take m (drop b (take j (drop a text)))) split ∙ ap (take m) (drop-take b (n - b) (drop a text)) ∙ take-take m (n - b) (drop b (drop a text)) (omega arith)
    ∙ ap (take m) (drop-drop b a text)
  where
    split : n ≡ b + (n - b)
    split = omega arith

-- a piece ends within its text
pub piece_inside : (sep : ℕ) (text : List ℕ) (k : ℕ) → k < length (pieces sep text) → place (pieces sep text) k + length (piece (pieces sep text) k) ≤ length text
piece_inside sep text k h =
    let stands = ap length (piece_stands sep text k h) in
    let f = (from_piece sep text k h).inside in
    let n = length-take (length (piece (pieces sep text) k)) (drop (place (pieces sep text) k) text) in
    omega (arith, stands, f, n, length-drop (place (pieces sep text) k) text)

pub placed : (text : List ℕ) → Placed text
placed text = record { line = λ r h. piece_stands 10 text r h; word = word }
  where
    word : (r c : ℕ) → r < length (lines text) → c < word_count text r → take (length (word_at text r c)) (drop (word_start text r c) text) ≡ word_at text r c
    word r c h g =
        let w = length (word_at text r c) in
        let at = place (words_in (line_at text r)) c in
        sym (part_of_part text (line_start text r) (length (line_at text r)) at w (piece_inside 32 (line_at text r) c g))
        ∙ ap (λ (l : List ℕ). take w (drop at l)) (piece_stands 10 text r h) ∙ piece_stands 32 (line_at text r) c g
