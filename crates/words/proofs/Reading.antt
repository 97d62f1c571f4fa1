-- A mark read letter by letter.
use Rattle.std.proofs.Common.{◌≡◌, ℕ, Bool, true, false, cond, not, ◌&&◌, ◌||◌, eqb, ltb, List, [], ◌∷◌, length, refl, arith}
use Rattle.std.proofs.lemmas.Bool.Decides.{nat_tests}
use Rattle.words.specs.declared.mark.Last.{Last}
use Rattle.words.specs.declared.mark.Last.TheVariants.{Nothing, Needed, Added, Deleted, Hyphen}
use Rattle.words.specs.declared.mark.Mark.{Mark}
use Rattle.std.proofs.lemmas.Bool.{false≢true}
use Rattle.words.specs.Marks.{dual_mark}
use Rattle.words.specs.Words.{is_mark, holds}

-- the letters' places in their order
abbrev pub rank : Last → ℕ
rank Nothing = 0
rank Needed = 1
rank Added = 2
rank Deleted = 3
rank Hyphen = 4

-- whether a word goes on as a mark does, after letters up to this rank
abbrev pub goes_on : ℕ → List ℕ → Bool
goes_on r [] = not (eqb r 0)
goes_on r (b ∷ bs) =
    cond (ltb r 1 && eqb b 112) (goes_on 1 bs)
    (cond (ltb r 2 && eqb b 97) (goes_on 2 bs)
    (cond (ltb r 3 && eqb b 100) (goes_on 3 bs)
    (cond (eqb r 0 && eqb b 45) (goes_on 4 bs) false)))

-- a mark is a word that goes on so from its start
pub mark_goes_on : (w : List ℕ) → is_mark w ≡ goes_on 0 w
mark_goes_on [] = refl
mark_goes_on (x ∷ []) = grind (arith, nat_tests)
mark_goes_on (x ∷ y ∷ []) = grind (arith, nat_tests)
mark_goes_on (x ∷ y ∷ z ∷ []) = grind (arith, nat_tests)
mark_goes_on (x ∷ y ∷ z ∷ t ∷ ts) = grind (arith, nat_tests)

-- the rest of the word decides, together with the rank and the flags of the letters before it
abbrev pub Rest : List ℕ → ℕ → Mark → List ℕ → Type 0
Rest w r m bs =
    (is_mark w ≡ goes_on r bs) × (holds 112 w ≡ (m.needs || holds 112 bs)) × (holds 97 w ≡ (m.adds || holds 97 bs))
    × (holds 100 w ≡ (m.deletes || holds 100 bs))

-- the dual of a mark is as long as the mark
pub dual_length : (w : List ℕ) → is_mark w ≡ true → length w ≡ length (dual_mark w)
dual_length [] e = absurd (false≢true e)
dual_length (x ∷ []) e = grind (arith, nat_tests)
dual_length (x ∷ y ∷ []) e = grind (arith, nat_tests)
dual_length (x ∷ y ∷ z ∷ []) e = grind (arith, nat_tests)
dual_length (x ∷ y ∷ z ∷ t ∷ ts) e = grind (arith, nat_tests)
