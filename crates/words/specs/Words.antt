-- Which words a column of a sheet allows. Assumes nothing.
use Rattle.std.specs.Prelude.{ℕ, Bool, false, cond, ◌&&◌, ◌||◌, List, [], ◌∷◌, length, codes, ◌==◌, nat_le}
use Rattle.std.specs.List.{list_all, list_any}
use Rattle.std.specs.Str.{bytes_eq}
use Rattle.words.specs.declared.kind.Kind.{Kind}
use Rattle.words.specs.declared.kind.Kind.TheVariants.{Facts, Now, Wish, Action}

-- a to z
abbrev pub letter : ℕ → Bool
letter b = nat_le 97 b && nat_le b 122

-- 0 to 9
abbrev pub digit : ℕ → Bool
digit b = nat_le 48 b && nat_le b 57

abbrev pub letters_digits : List ℕ → Bool
letters_digits bs = list_all (λ b. letter b || digit b) bs

-- a name: 1 to 16 letters and digits, a letter first
abbrev pub is_name : List ℕ → Bool
is_name [] = false
is_name (b ∷ bs) = letter b && (letters_digits bs && nat_le (length bs) 15)

-- whether the word is one of those listed
abbrev pub among : List ℕ → List (List ℕ) → Bool
among w xs = list_any (bytes_eq w) xs

-- a mark: a hyphen, or p, a and d, each at most once and in that order
abbrev pub is_mark : List ℕ → Bool
is_mark w = among w (codes "-" ∷ codes "p" ∷ codes "a" ∷ codes "d" ∷ codes "pa" ∷ codes "pd" ∷ codes "ad" ∷ codes "pad" ∷ [])

-- what a line of each kind has for its first word
abbrev pub allowed_first : Kind → List ℕ → Bool
allowed_first Facts w = bytes_eq w (codes "line")
allowed_first Now w = bytes_eq w (codes "now")
allowed_first Wish w = bytes_eq w (codes "wish")
allowed_first Action w = is_name w

-- and for each fact
abbrev pub allowed_later : Kind → List ℕ → Bool
allowed_later Facts w = is_name w
allowed_later Now w = among w (codes "0" ∷ codes "1" ∷ [])
allowed_later Wish w = among w (codes "1" ∷ codes "-" ∷ [])
allowed_later Action w = is_mark w

-- whether a line of the kind may have the word in the column
abbrev pub allowed : Kind → ℕ → List ℕ → Bool
allowed k c w = cond (c == 0) (allowed_first k w) (allowed_later k w)

-- the kind of the line with this number
abbrev pub kind_of : ℕ → Kind
kind_of r = cond (r == 0) Facts (cond (r == 1) Now (cond (r == 2) Wish Action))

-- whether the byte is in the word
abbrev pub holds : ℕ → List ℕ → Bool
holds x bs = list_any (λ b. b == x) bs
