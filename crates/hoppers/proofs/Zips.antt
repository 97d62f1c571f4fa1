-- Two lists number by number.
use Rattle.std.proofs.Common.{◌≡◌, ℕ, zero, suc, ◌<◌, ◌≤◌, Bool, true, false, leb, List, [], ◌∷◌, length, refl, sym, arith}
use Rattle.std.proofs.lemmas.Bool.{and_from, and_left, and_right, le-leb, lt-leb}
use Rattle.std.specs.Bool.{MatchBool}
use Rattle.std.specs.List.{zip, AllWithin, HoldsAt}
use Rattle.hoppers.specs.Levels.{none_above}

pub none_above_from_all : (xs ys : List ℕ) (r : Bool)
    → MatchBool r (AllWithin (λ (p : ℕ × ℕ). p.0 ≤ p.1) (zip xs ys) 0 (length (zip xs ys))) ((k : ℕ) × (k < length (zip xs ys)) × HoldsAt (λ (p : ℕ × ℕ). p.1 < p.0) (zip xs ys) k)
    → r ≡ none_above xs ys
none_above_from_all [] ys true h = refl
none_above_from_all [] ys false (k, l, g) = absurd (omega arith)
none_above_from_all (x ∷ xs) [] true h = refl
none_above_from_all (x ∷ xs) [] false (k, l, g) = absurd (omega arith)
none_above_from_all (x ∷ xs) (y ∷ ys) true h =
    sym (and_from (leb x y) (none_above xs ys) (le-leb x y (h 0 (0, 0) (omega arith) (omega arith)))
    (sym (none_above_from_all xs ys true (λ k d l m. h (suc k) d (omega arith) (omega arith)))))
none_above_from_all (x ∷ xs) (y ∷ ys) false (zero, l, g) = sym (and_left (leb x y) (none_above xs ys) (lt-leb x y (g (0, 0))))
none_above_from_all (x ∷ xs) (y ∷ ys) false (suc k, l, g) = sym (and_right (leb x y) (none_above xs ys) (sym (none_above_from_all xs ys false (k, (omega arith), g))))
