-- A text made of lines of words splits into those lines, and a line into its words.
use Rattle.std.proofs.Common.{◌≡◌, ℕ, ◌-◌, ◌<◌, true, false, ◌==◌, List, [], ◌∷◌, ◌++◌, map, length, get_or, refl, ap, ◌∙◌, arith}
use Rattle.std.proofs.lemmas.Bool.{and_parts, both_ways, eq-eqb, ne_eqb}
use Rattle.std.proofs.lemmas.List.{append-nil, length-append, length-map, get_or_append_left, get_or-map}
use Rattle.std.proofs.lemmas.List.Elements.{All-nil, All-cons, All-append, All-weaker}
use Rattle.std.proofs.lemmas.List.Splits.{slice_split_at, slice_split_none}
use Rattle.std.proofs.lemmas.List.Sums.{AllPass-from_list_all}
use Rattle.std.specs.List.{All}
use Rattle.lines.specs.Grammar.{word_byte, word_bytes, is_word, are_words, is_line, are_lines, behind, joined, lines_text}
use Rattle.pieces.specs.Pieces.{pieces, piece}
use Rattle.sheet.specs.Grid.{line_count, line_at, words_in}

-- no byte is the separator
abbrev Lacks : ℕ → List ℕ → Type 0
Lacks sep p = All (λ b. (b == sep) ≡ false) p

-- a separator that is no byte of words is in none
bytes_lack : (sep : ℕ) (w : List ℕ) → word_byte sep ≡ false → word_bytes w ≡ true → Lacks sep w
bytes_lack sep w f g =
    All-weaker (λ b. word_byte b ≡ true) (λ b. (b == sep) ≡ false) (λ b h. ne_eqb b sep (λ e. both_ways (word_byte b) (ap word_byte e ∙ f) h)) w
    (AllPass-from_list_all word_byte w g)

word_lacks : (sep : ℕ) (w : List ℕ) → word_byte sep ≡ false → is_word w ≡ true → Lacks sep w
word_lacks sep [] f g = All-nil (λ b. (b == sep) ≡ false)
word_lacks sep (b ∷ bs) f g = bytes_lack sep (b ∷ bs) f g

-- bytes that lack the separator, with a separator behind them, are the first piece
first_split : (sep : ℕ) (p bs : List ℕ) → Lacks sep p → pieces sep (p ++ sep ∷ bs) ≡ p ∷ pieces sep bs
first_split sep p bs l = slice_split_at (λ b. b == sep) p sep bs l (eq-eqb sep sep refl)

-- words with one space between split at the spaces
words_split : (w : List ℕ) (ws : List (List ℕ)) → is_word w ≡ true → are_words ws ≡ true → pieces 32 (w ++ behind 32 ws) ≡ w ∷ ws
words_split w [] g h = rw append-nil (slice_split_none (λ b. b == 32) w (word_lacks 32 w refl g))
words_split w (v ∷ vs) g h =
    let k = and_parts (is_word v) (are_words vs) h in
    first_split 32 w (v ++ behind 32 vs) (word_lacks 32 w refl g) ∙ ap (λ (z : List (List ℕ)). w ∷ z) (words_split v vs k.0 k.1)

-- a line splits into its words
pub line_split : (row : List (List ℕ)) → is_line row ≡ true → pieces 32 (joined 32 row) ≡ row
line_split [] g = let z : ◌≡◌ {A = ℕ} 0 1 = cc in absurd (omega arith)
line_split (w ∷ ws) g = let k = and_parts (is_word w) (are_words ws) g in words_split w ws k.0 k.1

-- a line lacks the line end
line_lacks : (row : List (List ℕ)) → is_line row ≡ true → Lacks 10 (joined 32 row)
line_lacks [] g = All-nil (λ b. (b == 10) ≡ false)
line_lacks (w ∷ ws) g =
    let k = and_parts (is_word w) (are_words ws) g in
    All-append (λ b. (b == 10) ≡ false) w (behind 32 ws) (word_lacks 10 w refl k.0) (behind_lacks ws k.1)
  where
    behind_lacks : (ws : List (List ℕ)) → are_words ws ≡ true → Lacks 10 (behind 32 ws)
    behind_lacks [] g = All-nil (λ b. (b == 10) ≡ false)
    behind_lacks (w ∷ ws) g =
        let k = and_parts (is_word w) (are_words ws) g in
        All-cons (λ b. (b == 10) ≡ false) 32 (w ++ behind 32 ws) refl
        (All-append (λ b. (b == 10) ≡ false) w (behind 32 ws) (word_lacks 10 w refl k.0) (behind_lacks ws k.1))

-- a text of lines splits into those lines, with nothing behind the last
pub lines_split : (rows : List (List (List ℕ))) → are_lines rows ≡ true → pieces 10 (lines_text rows) ≡ map (joined 32) rows ++ ([] ∷ [])
lines_split [] g = refl
lines_split (l ∷ ls) g =
    let k = and_parts (is_line l) (are_lines ls) g in
    first_split 10 (joined 32 l) (lines_text ls) (line_lacks l k.0)
    ∙ ap (λ (z : List (List ℕ)). joined 32 l ∷ z) (lines_split ls k.1)

-- the words of a line of the text, by its number
pub words_at : (rows : List (List (List ℕ))) (r : ℕ) → are_lines rows ≡ true → r < length rows
    → words_in (line_at (lines_text rows) r) ≡ get_or rows r []
words_at rows r g h =
    ap (λ (z : List (List ℕ)). pieces 32 (piece z r)) (lines_split rows g)
    ∙ ap (pieces 32) (get_or_append_left (map (joined 32) rows) ([] ∷ []) [] r (rw length-map h) ∙ get_or-map (joined 32) rows r [] [] h)
    ∙ line_split (get_or rows r []) (AllPass-from_list_all is_line rows g r [] h)

-- the number of lines
pub lines_counted : (rows : List (List (List ℕ))) → are_lines rows ≡ true → line_count (lines_text rows) ≡ length rows
lines_counted rows g =
    ap (λ (z : List (List ℕ)). length z - 1) (lines_split rows g) ∙ omega (arith, length-append (map (joined 32) rows) ([] ∷ []), length-map rows (joined 32))
