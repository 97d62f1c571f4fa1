-- What a mark says of its fact, and the mark of the dual action. Assumes nothing.
use Rattle.std.specs.Prelude.{◌≡◌, ℕ, Bool, true, false, cond, List, [], ◌∷◌, ◌++◌, Some, None, codes, Option}
use Rattle.words.specs.Words.{is_mark, holds}
use Rattle.words.specs.declared.mark.Mark.{Mark}

-- the letters of what is needed, added and deleted
abbrev pub letters : Bool → Bool → Bool → List ℕ
letters p a d = cond p (codes "p") [] ++ (cond a (codes "a") [] ++ cond d (codes "d") [])

-- a hyphen where there is none
abbrev pub or_hyphen : List ℕ → List ℕ
or_hyphen [] = codes "-"
or_hyphen (b ∷ bs) = b ∷ bs

abbrev pub mark_word : Bool → Bool → Bool → List ℕ
mark_word p a d = or_hyphen (letters p a d)

-- the word of the dual mark: what was deleted is needed, and what was needed deleted
abbrev pub dual_mark : List ℕ → List ℕ
dual_mark w = mark_word (holds 100 w) (holds 97 w) (holds 112 w)

-- a word is read as a mark exactly where it is one: p is needed, a added, d deleted
abbrev pub MarkOf : List ℕ → Option Mark → Type 0
MarkOf w (Some m) = (is_mark w ≡ true) × (m.needs ≡ holds 112 w) × (m.adds ≡ holds 97 w) × (m.deletes ≡ holds 100 w)
MarkOf w None = is_mark w ≡ false
