-- Hoppers keep the laws of a space.
use Rattle.std.proofs.Common.{◌≡◌, ℕ, zero, suc, ◌+◌, ◌-◌, ◌<◌, ◌≤◌, Bool, true, false, ◌&&◌, ltb, leb, ◌⊎◌, ◌≢◌, List, [], ◌∷◌, length, get_or, set, Some, None, Option, sym, refl, ap, ◌∙◌, subst, inl, inr, arith}
use Rattle.std.proofs.lemmas.List.{get_or-set_same, get_or-set_other, get_or_past, length-set}
use Rattle.std.proofs.lemmas.Bool.{and_from, le-leb, cases_lt, cases_eq}
use Rattle.std.proofs.lemmas.Nat.{mul-le}
use Rattle.std.proofs.lemmas.Grind.{common_steps}
use Rattle.std.proofs.lemmas.Bool.Decides.{nat_tests}
use Rattle.space.specs.Meaning.{Lawful}
use Rattle.hoppers.specs.declared.levels.Levels.{Levels}
use Rattle.hoppers.specs.declared.moves.Move.{Move}
use Rattle.hoppers.specs.declared.moves.Move.TheVariants.{Fill, Empty, Pour}
use Rattle.hoppers.specs.declared.setting.Hoppers.{Hoppers}
use Rattle.hoppers.specs.Levels.{listed, padded, level, put, none_above, within}
use Rattle.hoppers.specs.Moves.{allowed, poured, pourable, made, move_of}
use Rattle.hoppers.specs.Setting.{GoodLevels, after, from, hoppers, WithinCapacities, NodesAsTold}

-- ---- levels by number
-- the numbers of a list of at most eight are kept, and past its end its padding is 0
padded_at : (ys : List ℕ) → length ys ≤ 8 → (j : ℕ) → level (padded ys) j ≡ get_or ys j 0
padded_at ys l zero = refl
padded_at ys l (suc zero) = refl
padded_at ys l (suc (suc zero)) = refl
padded_at ys l (suc (suc (suc zero))) = refl
padded_at ys l (suc (suc (suc (suc zero)))) = refl
padded_at ys l (suc (suc (suc (suc (suc zero))))) = refl
padded_at ys l (suc (suc (suc (suc (suc (suc zero)))))) = refl
padded_at ys l (suc (suc (suc (suc (suc (suc (suc zero))))))) = refl
padded_at ys l (suc (suc (suc (suc (suc (suc (suc (suc j)))))))) = sym (get_or_past ys (suc (suc (suc (suc (suc (suc (suc (suc j)))))))) 0 (omega arith))

-- no level is above, one by one
none_above_at : (xs ys : List ℕ) → length xs ≡ length ys → none_above xs ys ≡ true → (i : ℕ) → get_or xs i 0 ≤ get_or ys i 0
none_above_at [] ys l h i = omega arith
none_above_at (x ∷ xs) [] l h i = absurd (omega arith)
none_above_at (x ∷ xs) (y ∷ ys) l h zero = grind (arith, nat_tests)
none_above_at (x ∷ xs) (y ∷ ys) l h (suc i) = none_above_at xs ys (omega arith) (grind (arith, nat_tests)) i

at_none_above : (xs ys : List ℕ) → ((i : ℕ) → i < length xs → get_or xs i 0 ≤ get_or ys i 0) → none_above xs ys ≡ true
at_none_above [] ys f = refl
at_none_above (x ∷ xs) [] f = refl
at_none_above (x ∷ xs) (y ∷ ys) f = grind (arith, nat_tests, f 0 (omega arith), at_none_above xs ys (λ i h. f (suc i) (omega arith)))

-- one level is changed, and no other
pub put_same : (x : Levels) (i v : ℕ) → i < 8 → level (put x i v) i ≡ v
put_same x i v h = padded_at (set (listed x) i v) (omega (arith, length-set {A = ℕ})) i ∙ get_or-set_same (listed x) i v 0 h

pub put_other : (x : Levels) (i v j : ℕ) → j ≢ i → level (put x i v) j ≡ level x j
put_other x i v j q = padded_at (set (listed x) i v) (omega (arith, length-set {A = ℕ})) j ∙ get_or-set_other (listed x) i j v 0 q

-- which keeps the levels within the capacities
put_within : (x c : Levels) → within x c ≡ true → (i v : ℕ) → v ≤ level c i → within (put x i v) c ≡ true
put_within x c w i v h = at_none_above (listed (put x i v)) (listed c) (λ j l. below j l (cases_eq j i))
  where
    below : (j : ℕ) → j < 8 → (j ≡ i) ⊎ (j ≢ i) → level (put x i v) j ≤ level c j
    below j l (inl q) = grind (arith, put_same x i v)
    below j l (inr q) = omega (arith, put_other x i v j q, none_above_at (listed x) (listed c) refl w j)

-- ---- moves stay within the capacities
pub allowed_gives : (P : Levels → Type 0) (t : Bool) (y b : Levels) → (t ≡ true → P y) → allowed t y ≡ Some b → P b
allowed_gives P true y b f e = let q : y ≡ b = cc in subst P q (f refl)
allowed_gives P false y b f e = cc

module _ (c x : Levels) (w : within x c ≡ true) where
  made_within : (k : Move) (b : Levels) → made c x k ≡ Some b → within b c ≡ true
  made_within (Fill i) b e = allowed_gives (λ y. within y c ≡ true) (ltb (level x i) (level c i)) (put x i (level c i)) b (λ _. put_within x c w i (level c i) (omega arith)) e
  made_within (Empty i) b e = allowed_gives (λ y. within y c ≡ true) (ltb 0 (level x i)) (put x i 0) b (λ _. put_within x c w i 0 (omega arith)) e
  made_within (Pour i j) b e =
      allowed_gives (λ y. within y c ≡ true) (pourable c x i j) _ b
      (λ t.
      let l : level x j < level c j = grind (arith, nat_tests) in
      let u = put_within x c w i (level x i - poured c x i j) (omega (arith, none_above_at (listed x) (listed c) refl w i)) in
      put_within (put x i (level x i - poured c x i j)) c u j (level x j + poured c x i j) (omega arith))
      e

-- ---- the laws
pub lawful : (s : Hoppers) → Lawful (hoppers s)
lawful s = record {
  start_node = grind (arith, nat_tests, s.fine);
  few = omega (arith, mul-le s.count s.count 8 8 count_few count_few, count_few);
  next_node = λ x b k e. next_node x b (within x s.capacities) refl (move_of s.count k) e;
  past = λ x k h. grind (arith, common_steps);
  off = λ x k h. grind (arith, common_steps);
  off_target = λ x h. grind (arith, common_steps);
}
  where
    count_few : s.count ≤ 8
    count_few = grind (arith, nat_tests, s.fine)

    next_node : (x b : Levels) (t : Bool) → within x s.capacities ≡ t → (o : Option Move) → from t (after s.capacities x o) ≡ Some b → within b s.capacities ≡ true
    next_node x b true w (Some o) e = made_within s.capacities x w o b e
    next_node x b true w None e = cc
    next_node x b false w o e = cc

-- ---- hoppers in range can be set up, and their nodes are the levels within the capacities
module _ (caps : List ℕ) (c : Levels) (q : c ≡ padded caps) (l : length caps ≤ 8) where
  capacity_at : (j : ℕ) → level c j ≡ get_or caps j 0
  capacity_at j = ap (λ (y : Levels). level y j) q ∙ padded_at caps l j

  fitting : (x : Levels) → within x c ≡ true → WithinCapacities caps x
  fitting x w = record {
    each = λ j h. omega (arith, capacity_at j, none_above_at (listed x) (listed c) refl w j);
    rest = λ j h. omega (arith, capacity_at j, get_or_past caps j 0 h, none_above_at (listed x) (listed c) refl w j);
  }

  fits : (x : Levels) → WithinCapacities caps x → within x c ≡ true
  fits x n = at_none_above (listed x) (listed c) (λ j _. below j (cases_lt j (length caps)))
    where
      below : (j : ℕ) → (j < length caps) ⊎ (length caps ≤ j) → level x j ≤ level c j
      below j (inl h) = omega (arith, capacity_at j, n.each j h)
      below j (inr h) = omega (arith, n.rest j h)

pub set_fine : (caps levels : List ℕ) (n : ℕ) (x c : Levels) → n ≡ length caps → x ≡ padded levels → c ≡ padded caps → n ≤ 8 → length levels ≡ length caps
    → GoodLevels caps levels (length caps) → (leb n 8 && within x c) ≡ true
set_fine caps levels n x c m p q l e g =
    and_from (leb n 8) (within x c) (le-leb n 8 l) (fits caps c q (omega arith) x (record {
      each = λ i h. omega (arith, level_at i, (g i h).2);
      rest = λ i h. omega (arith, level_at i, get_or_past levels i 0 (omega arith));
    }))
  where
    level_at : (i : ℕ) → level x i ≡ get_or levels i 0
    level_at i = ap (λ (y : Levels). level y i) p ∙ padded_at levels (omega arith) i

pub nodes_as_told : NodesAsTold
nodes_as_told caps levels i v h x (r, a) = (fitting caps h.capacities a.capacities r.few x, fits caps h.capacities a.capacities r.few x)
