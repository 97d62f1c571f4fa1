-- The rule of a closed set, row by row and move by move.
use Rattle.std.proofs.Common.{◌≡◌, ℕ, ◌<◌, ◌≤◌, true, false, List, length, Some, None, Option, refl, inl, inr, zero-le, arith}
use Rattle.std.specs.Option.{MatchOption}
use Rattle.std.proofs.lemmas.Bool.{cases_lt}
use Rattle.fault.specs.declared.Fault.{Fault}
use Rattle.fault.specs.declared.Fault.TheVariants.{NotNode, TargetRow, NextMissing}
use Rattle.space.specs.Meaning.{Meaning, Lawful}
use Rattle.space.specs.Rows.{node_at}
use Rattle.closed.specs.Check.{Nodes, Free, Keeps, Misses, FirstMove, NoNodeAt, TargetAt, MissingAt}

module _ {N : Type 0} (m : Meaning N) (rows : List N) where
  -- of the moves below the count, which are all that are allowed, the first whose next node is missing is the first of all
  pub first_move : Lawful m → (a : N) (n : ℕ) → n ≡ m.count → (r : Option ℕ)
      → MatchOption r ((k : ℕ) → 0 ≤ k → k < n → Keeps m rows a k) (λ i. (0 ≤ i) × (i < n) × Misses m rows a i × ((k : ℕ) → 0 ≤ k → k < i → Keeps m rows a k))
      → FirstMove m rows a r
  first_move law a n q (Some k) (_, _, x, f) = (x, λ j h. f j zero-le h)
  first_move law a n q None f = λ j. elim (cases_lt j n) [
    | inl h ↦ f j zero-le h
    | inr h ↦ record { held = λ b x. let o = law.past a j (omega arith) in absurd cc }
  ]

  -- the first break that a test found, by the fault that names it
  pub no_node_at : {i : ℕ} {f : Fault} → i < length rows → (f ≡ NotNode i) × (m.node (node_at m rows i) ≡ false) → Nodes m rows i → NoNodeAt m rows f
  no_node_at h (e, x) n = rw e (record { says = refl; within = h; no_node = x; first = n })

  pub target_at : {i : ℕ} {f : Fault} → i < length rows → (f ≡ TargetRow i) × (m.target (node_at m rows i) ≡ true) → Free m rows i → TargetAt m rows f
  target_at h (e, x) l = rw e (record { says = refl; within = h; target = x; first = l })

  pub missing_at : {i : ℕ} {f : Fault} → i < length rows → ((k : ℕ) × (f ≡ NextMissing i k) × FirstMove m rows (node_at m rows i) (Some k))
      → ((h j : ℕ) → h < i → Keeps m rows (node_at m rows h) j) → MissingAt m rows f
  missing_at h (k, e, x) o = rw e (record { says = refl; within = h; move_missing = x; first = o })
