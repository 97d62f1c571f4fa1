-- The pieces of a text between separators, and where each begins. Assumes nothing.
use Rattle.std.specs.Prelude.{◌≡◌, ℕ, ◌+◌, ◌<◌, ◌≤◌, cond, List, [], ◌∷◌, length, take, drop, ◌==◌, nat_le, slice_index_or, slice_range}
use Rattle.std.specs.List.{slice_split}
use Rattle.pieces.specs.declared.Piece.{Piece}
use Rattle.pieces.specs.declared.Pieces.{Pieces}

-- the pieces of a text: one more than it has separators, and no piece has one in it
abbrev pub pieces : ℕ → List ℕ → List (List ℕ)
pieces sep text = slice_split (λ b. b == sep) text

-- the bytes of some pieces, each with one separator behind it
abbrev pub spanned : List (List ℕ) → ℕ
spanned [] = 0
spanned (p ∷ ps) = length p + 1 + spanned ps

-- where piece k begins
abbrev pub place : List (List ℕ) → ℕ → ℕ
place ps k = spanned (take k ps)

-- piece k
abbrev pub piece : List (List ℕ) → ℕ → List ℕ
piece ps k = slice_index_or ps k []

-- r is where the piece ends that a place is in: at the next separator from there on, or with the text
pub record Ends (sep : ℕ) (text : List ℕ) (at r : ℕ) : Type 0 where
  pub inside : r ≤ length text
  pub onward : at ≤ length text → at ≤ r
  pub exact : at ≤ length text → r ≡ at + length (piece (pieces sep (drop at text)) 0)
  pub past : length text ≤ at → r ≡ length text
  -- where the place is the beginning of piece k, it is the end of that piece
  pub after : (k : ℕ) → k < length (pieces sep text) → at ≡ place (pieces sep text) k → at ≤ r
  pub is : (k : ℕ) → k < length (pieces sep text) → at ≡ place (pieces sep text) k → slice_range text at r ≡ piece (pieces sep text) k
  pub next : (k : ℕ) → k < length (pieces sep text) → at ≡ place (pieces sep text) k → r + 1 ≡ place (pieces sep text) (k + 1)

-- pieces, each with the place where it begins; the first begins at n
abbrev pub placed : ℕ → List (List ℕ) → List (ℕ × List ℕ)
placed n [] = []
placed n (p ∷ ps) = (n, p) ∷ placed (n + length p + 1) ps

-- a piece as its place and its bytes
abbrev pub located : Piece → ℕ × List ℕ
located p = (p.start, p.bytes.now)

-- the pieces that are left, each with its place
unfoldable pub pieces_left : Pieces → List (ℕ × List ℕ)
pieces_left s = cond (nat_le s.at (length s.text.now)) (placed s.at (pieces s.sep (drop s.at s.text.now))) []
