-- A text as lines of words. Assumes nothing.
use Rattle.std.specs.Prelude.{◌≡◌, ℕ, ◌+◌, ◌<◌, ◌≤◌, Bool, true, false, ◌&&◌, ◌||◌, List, [], ◌∷◌, ◌++◌, length, take, ◌==◌, nat_le}
use Rattle.std.specs.List.{list_all}

-- a byte of a word: a to z, 0 to 9 or hyphen
abbrev pub word_byte : ℕ → Bool
word_byte b = (nat_le 97 b && nat_le b 122) || ((nat_le 48 b && nat_le b 57) || b == 45)

abbrev pub word_bytes : List ℕ → Bool
word_bytes bs = list_all word_byte bs

-- a word: one or more bytes
abbrev pub is_word : List ℕ → Bool
is_word [] = false
is_word (b ∷ bs) = word_byte b && word_bytes bs

abbrev pub are_words : List (List ℕ) → Bool
are_words ws = list_all is_word ws

-- a line: one or more words
abbrev pub is_line : List (List ℕ) → Bool
is_line [] = false
is_line (w ∷ ws) = is_word w && are_words ws

abbrev pub are_lines : List (List (List ℕ)) → Bool
are_lines ls = list_all is_line ls

-- each part behind a separator
abbrev pub behind : ℕ → List (List ℕ) → List ℕ
behind sep [] = []
behind sep (p ∷ ps) = sep ∷ (p ++ behind sep ps)

-- the parts with a separator between
abbrev pub joined : ℕ → List (List ℕ) → List ℕ
joined sep [] = []
joined sep (p ∷ ps) = p ++ behind sep ps

-- lines as a text: the words of a line with one space between, and byte 10 at its end
abbrev pub lines_text : List (List (List ℕ)) → List ℕ
lines_text [] = []
lines_text (l ∷ ls) = joined 32 l ++ (10 ∷ lines_text ls)

-- the bytes are lines
pub record Lines (text : List ℕ) : Type 0 where
  pub lines : List (List (List ℕ))
  pub good : are_lines lines ≡ true
  pub same : text ≡ lines_text lines

-- some lines begin with the bytes
pub record Begins (front : List ℕ) : Type 0 where
  pub rest : List ℕ
  pub whole : Lines (front ++ rest)

-- The bytes are no lines, and k is the place of the first wrong byte, or the length where none is wrong: the end of the longest
-- front that some lines begin with.
pub record WrongAt (text : List ℕ) (k : ℕ) : Type 0 where
  pub inside : k ≤ length text
  pub before : Begins (take k text)
  pub wrong : k < length text → Begins (take (k + 1) text) → ⊥
  pub no_lines : Lines text → ⊥
