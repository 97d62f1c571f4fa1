-- Flags and the words that they are read from.
use Rattle.std.proofs.Common.{◌≡◌, ℕ, zero, suc, ◌+◌, ◌*◌, ◌/◌, ◌%◌, ◌^◌, ◌<◌, Bool, true, false, cond, eqb, List, [], ◌∷◌, map, length, get_or, codes, sym, ap, ◌∙◌, div-one, one-add, arith, shr-shr}
use Rattle.std.proofs.lemmas.List.{get_or-map}
use Rattle.std.proofs.lemmas.Bool.{false≢true, eq-eqb, ne_eqb}
use Rattle.std.proofs.lemmas.Bool.Decides.{nat_tests}
use Rattle.strips.specs.Sets.{has}
use Rattle.strips.proofs.Words.{has_none}
use Rattle.words.specs.Words.{among, is_mark, holds}
use Rattle.words.specs.Marks.{mark_word}
use Rattle.pieces.specs.Pieces.{piece}
use Rattle.sheet.specs.Grid.{cells}
use Rattle.sheet.specs.Reading.{set_of, marked}
use Rattle.dual_text.specs.Written.{now_word, wish_word}

-- fact 0 is in a set by its first flag
has_first : (f : Bool) (w : ℕ) → has (cond f 1 0 + 2 * w) 0 ≡ f
has_first f w = simp div-one (go f)
  where
    go : (f : Bool) → eqb ((cond f 1 0 + 2 * w) % 2) 1 ≡ f
    go true = eq-eqb ((1 + 2 * w) % 2) 1 (omega arith)
    go false = ne_eqb ((0 + 2 * w) % 2) 1 (λ e. omega arith)

-- and the facts after it by the others
has_later : (f : Bool) (w i : ℕ) → has (cond f 1 0 + 2 * w) (suc i) ≡ has w i
has_later f w i =
    sym (ap (λ (x : ℕ). eqb (x % 2) 1) (shr-shr (cond f 1 0 + 2 * w) 1 i ∙ ap (λ (k : ℕ). (cond f 1 0 + 2 * w) / 2 ^ k) (one-add i)))
    ∙ ap (λ (x : ℕ). has x i) (half f)
  where
    half : (f : Bool) → (cond f 1 0 + 2 * w) / 2 ≡ w
    half true = omega arith
    half false = omega arith

-- fact i is in the set of the flags where flag i is true
pub has_set : (flags : List Bool) (i : ℕ) → has (set_of flags) i ≡ get_or flags i false
has_set [] i = has_none i
has_set (f ∷ fs) zero = has_first f (set_of fs)
has_set (f ∷ fs) (suc i) = has_later f (set_of fs) i ∙ has_set fs i

-- a fact is marked with a letter where the letter is in its word
pub has_marked : (x : ℕ) (line : List ℕ) (k : ℕ) → k < length (cells line) → has (marked x line) k ≡ holds x (piece (cells line) k)
has_marked x line k h = has_set (map (holds x) (cells line)) k ∙ get_or-map (holds x) (cells line) k [] false h

-- a mark is the word of its flags
pub mark_decoded : (w : List ℕ) → is_mark w ≡ true → mark_word (holds 112 w) (holds 97 w) (holds 100 w) ≡ w
mark_decoded [] e = absurd (false≢true e)
mark_decoded (x ∷ []) e = grind (arith, nat_tests)
mark_decoded (x ∷ y ∷ []) e = grind (arith, nat_tests)
mark_decoded (x ∷ y ∷ z ∷ []) e = grind (arith, nat_tests)
mark_decoded (x ∷ y ∷ z ∷ t ∷ ts) e = grind (arith, nat_tests)

-- a word of the second line is the word of its flag
pub now_decoded : (w : List ℕ) → among w (codes "0" ∷ codes "1" ∷ []) ≡ true → now_word (holds 49 w) ≡ w
now_decoded [] e = absurd (false≢true e)
now_decoded (x ∷ []) e = grind (arith, nat_tests)
now_decoded (x ∷ y ∷ ys) e = grind (arith, nat_tests)

-- and so of the third
pub wish_decoded : (w : List ℕ) → among w (codes "1" ∷ codes "-" ∷ []) ≡ true → wish_word (holds 49 w) ≡ w
wish_decoded [] e = absurd (false≢true e)
wish_decoded (x ∷ []) e = grind (arith, nat_tests)
wish_decoded (x ∷ y ∷ ys) e = grind (arith, nat_tests)
