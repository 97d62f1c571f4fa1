-- The least distance of a target exists where one is reachable.
use Rattle.std.proofs.Common.{◌≡◌, ℕ, zero, suc, ◌<◌, ◌≤◌, Bool, true, false, ◌||◌, ◌⊎◌, List, [], ◌∷◌, length, Some, None, Option, sym, refl, ap, ◌∙◌, inl, inr, arith}
use Rattle.std.proofs.lemmas.Bool.{cases_lt, cases_eq, cases_Bool, or_cases, or_left, or_right, both_ways}
use Rattle.space.specs.Meaning.{Meaning, Lawful}
use Rattle.space.specs.Paths.{onward, targeted, solves, Nearest}

-- ---- the least number that passes a test
least : (P : ℕ → Bool) (n : ℕ) → P n ≡ true → (k : ℕ) × (k ≤ n) × (P k ≡ true) × ((j : ℕ) → j < k → P j ≡ false)
least P zero h = (0, omega arith, h, λ j l. absurd (omega arith))
least P (suc n) h = go (cases_Bool (P 0)) (least (λ k. P (suc k)) n h)
  where
    go : (P 0 ≡ true) ⊎ (P 0 ≡ false) → (k : ℕ) × (k ≤ n) × (P (suc k) ≡ true) × ((j : ℕ) → j < k → P (suc j) ≡ false)
        → (k : ℕ) × (k ≤ suc n) × (P k ≡ true) × ((j : ℕ) → j < k → P j ≡ false)
    go (inl y) r = (0, omega arith, y, λ j l. absurd (omega arith))
    go (inr y) (k, l, t, f) = (suc k, omega arith, t, below)
      where
        below : (j : ℕ) → j < suc k → P j ≡ false
        below zero g = y
        below (suc j) g = f j (omega arith)

module _ {N : Type 0} (m : Meaning N) where
  -- whether exactly n moves lead from a node to a target
  abbrev from_next : (N → Bool) → Option N → Bool
  from_next f None = false
  from_next f (Some b) = f b

  abbrev any_move : (N → Bool) → N → ℕ → Bool
  any_move f a zero = false
  any_move f a (suc k) = from_next f (m.next a k) || any_move f a k

  abbrev reach : ℕ → N → Bool
  reach zero a = m.target a
  reach (suc n) a = any_move (reach n) a m.count

  from_list : (f : N → Bool) (r : Option N) → from_next f r ≡ true → (b : N) × (r ≡ Some b) × (f b ≡ true)
  from_list f None h = absurd cc
  from_list f (Some b) h = (b, refl, h)

  any_at : (f : N → Bool) (a : N) (k : ℕ) → any_move f a k ≡ true → (j : ℕ) × (b : N) × (m.next a j ≡ Some b) × (f b ≡ true)
  any_at f a zero h = absurd cc
  any_at f a (suc k) h = go (or_cases (from_next f (m.next a k)) (any_move f a k) h) (any_at f a k)
    where
      go : (from_next f (m.next a k) ≡ true) ⊎ (any_move f a k ≡ true) → (any_move f a k ≡ true → (j : ℕ) × (b : N) × (m.next a j ≡ Some b) × (f b ≡ true))
          → (j : ℕ) × (b : N) × (m.next a j ≡ Some b) × (f b ≡ true)
      go (inl y) g = let r = from_list f (m.next a k) y in (k, r.0, r.1, r.2)
      go (inr y) g = g y

  at_any : (f : N → Bool) (a : N) (k j : ℕ) (b : N) → j < k → m.next a j ≡ Some b → f b ≡ true → any_move f a k ≡ true
  at_any f a zero j b l x y = absurd (omega arith)
  at_any f a (suc k) j b l x y = elim (cases_eq j k) [
    | inl q ↦ or_left (from_next f (m.next a k)) (any_move f a k) (ap (from_next f) (ap (m.next a) (sym q) ∙ x) ∙ y)
    | inr q ↦ or_right (from_next f (m.next a k)) (any_move f a k) (at_any f a k j b (omega arith) x y)
  ]

  -- the test passes only where there is such a list
  reach_list : (n : ℕ) (a : N) → reach n a ≡ true → (ks : List ℕ) × (length ks ≡ n) × (targeted m (onward m (Some a) ks) ≡ true)
  reach_list zero a h = ([], refl, h)
  reach_list (suc n) a h =
      let r = any_at (reach n) a m.count h in
      let s = reach_list n r.1 r.3 in
      (r.0 ∷ s.0, ap suc s.1, ap (λ (o : Option N). targeted m (onward m o s.0)) r.2 ∙ s.2)

  -- and wherever there is
  list_reach : Lawful m → (a : N) (ks : List ℕ) → targeted m (onward m (Some a) ks) ≡ true → reach (length ks) a ≡ true
  list_reach law a [] h = h
  list_reach law a (k ∷ ks) h = go (m.next a k) refl h (λ b t. list_reach law b ks t)
    where
      below : (b : N) → m.next a k ≡ Some b → (k < m.count) ⊎ (m.count ≤ k) → k < m.count
      below b x (inl l) = l
      below b x (inr l) = let n = law.past a k l in absurd cc

      go : (r : Option N) → m.next a k ≡ r → targeted m (onward m r ks) ≡ true
          → ((b : N) → targeted m (onward m (Some b) ks) ≡ true → reach (length ks) b ≡ true) → any_move (reach (length ks)) a m.count ≡ true
      go None x t f = absurd cc
      go (Some b) x t f = at_any (reach (length ks)) a m.count k b (below b x (cases_lt k m.count)) x (f b t)

  pub nearest_exists : Lawful m → (ks : List ℕ) → solves m ks ≡ true → (d : ℕ) × Nearest m d
  nearest_exists law ks s =
      let l = least (λ n. reach n m.start) (length ks) (list_reach law m.start ks s) in (
        l.0,
        record {
          some = reach_list l.0 m.start l.2;
          least = λ js t. elim (cases_lt (length js) l.0) [
            | inl g ↦ absurd (both_ways (reach (length js) m.start) (l.3 (length js) g) (list_reach law m.start js t))
            | inr g ↦ g
          ];
        },
      )
