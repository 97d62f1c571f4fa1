-- From the check's relation to what its answer shows.
use Rattle.std.proofs.Common.{◌≡◌, ℕ, ◌<◌, ◌≤◌, true, false, ◌⊎◌, List, length, take, Ok, Err, Result, sym, refl, ap, ◌∙◌, subst, ap₂, inl, inr, arith}
use Rattle.std.proofs.lemmas.List.{length-take-le}
use Rattle.std.proofs.lemmas.Bool.{cases_lt, both_ways}
use Rattle.fault.specs.declared.Fault.{Fault}
use Rattle.fault.specs.declared.Layer.TheVariants.{Checker}
use Rattle.fault.specs.declared.Place.TheVariants.{At, RowMove}
use Rattle.fault.specs.Refusals.{refused}
use Rattle.fault.proofs.Apart.{told_apart}
use Rattle.space.specs.Meaning.{Meaning}
use Rattle.space.specs.Rows.{node_at, Closed}
use Rattle.space.proofs.ClosedSets.{closed_hopeless}
use Rattle.space.proofs.Fronts.{front_node, held_front}
use Rattle.bfs.specs.Answers.{Buffers, Exhausted}
use Rattle.closed.specs.Check.{row, move, Nodes, Free, Keeps, Misses, Refused, not_node, no_start, target_row, next_missing, Checked}
use Rattle.closed.specs.Judgement.{Sound}

module _ {N : Type 0} (m : Meaning N) (rows : List N) where
  -- a closed set is not refused
  closed_not : {X : Type 0} (f : Fault) → Closed m (node_at m rows) (length rows) → Refused m rows f → X
  closed_not f c (not_node e h x n) = absurd (both_ways (m.node (node_at m rows (row f))) x (c.nodes (row f) h))
  closed_not f c (no_start e n x) = absurd (x c.start)
  closed_not f c (target_row e n s h x l) = absurd (both_ways (m.target (node_at m rows (row f))) (c.free (row f) h) x)
  closed_not f c (next_missing e n s l h x o p) = absurd (x.out ((c.kept (row f) (move f) h).held x.to x.allowed))

  closed_accepted : (r : Result (Unit {0}) Fault) → Checked m rows r → Closed m (node_at m rows) (length rows) → r ≡ Ok tt
  closed_accepted (Ok _) x c = refl
  closed_accepted (Err f) x c = closed_not f c x

  -- a row that is no node is not among nodes
  node_below : {X : Type 0} (i n : ℕ) → m.node (node_at m rows i) ≡ false → Nodes m rows n → i < n → X
  node_below i n x f h = absurd (both_ways (m.node (node_at m rows i)) x (f i h))

  -- a target is not among rows that are none
  target_below : {X : Type 0} (i n : ℕ) → m.target (node_at m rows i) ≡ true → Free m rows n → i < n → X
  target_below i n x f h = absurd (both_ways (m.target (node_at m rows i)) (f i h) x)

  -- what is missing is not kept
  missing_kept : {X : Type 0} (a : N) (k : ℕ) → Misses m rows a k → Keeps m rows a k → X
  missing_kept a k x f = absurd (x.out (f.held x.to x.allowed))

  -- of two lowest numbers neither is lower
  lowest_one : (i j : ℕ) → (i < j → ⊥) → (j < i → ⊥) → i ≡ j
  lowest_one i j f g = grind arith

  -- two refusals are the same
  refused_one : (f g : Fault) → Refused m rows f → Refused m rows g → f ≡ g
  refused_one f g (not_node e h x n) (not_node e' h' x' n') =
      told_apart f g (e ∙ ap (λ (i : ℕ). refused 18 Checker (At i)) (lowest_one (row f) (row g) (node_below (row f) (row g) x n') (node_below (row g) (row f) x' n)) ∙ sym e')
  refused_one f g (not_node e h x n) (no_start e' n' x') = node_below (row f) (length rows) x n' h
  refused_one f g (not_node e h x n) (target_row e' n' s' h' x' l') = node_below (row f) (length rows) x n' h
  refused_one f g (not_node e h x n) (next_missing e' n' s' l' h' x' o' p') = node_below (row f) (length rows) x n' h
  refused_one f g (no_start e n x) (not_node e' h' x' n') = node_below (row g) (length rows) x' n h'
  refused_one f g (no_start e n x) (no_start e' n' x') = told_apart f g (e ∙ sym e')
  refused_one f g (no_start e n x) (target_row e' n' s' h' x' l') = absurd (x s')
  refused_one f g (no_start e n x) (next_missing e' n' s' l' h' x' o' p') = absurd (x s')
  refused_one f g (target_row e n s h x l) (not_node e' h' x' n') = node_below (row g) (length rows) x' n h'
  refused_one f g (target_row e n s h x l) (no_start e' n' x') = absurd (x' s)
  refused_one f g (target_row e n s h x l) (target_row e' n' s' h' x' l') =
      told_apart f g (e ∙ ap (λ (i : ℕ). refused 20 Checker (At i)) (lowest_one (row f) (row g) (target_below (row f) (row g) x l') (target_below (row g) (row f) x' l)) ∙ sym e')
  refused_one f g (target_row e n s h x l) (next_missing e' n' s' l' h' x' o' p') = target_below (row f) (length rows) x l' h
  refused_one f g (next_missing e n s l h x o p) (not_node e' h' x' n') = node_below (row g) (length rows) x' n h'
  refused_one f g (next_missing e n s l h x o p) (no_start e' n' x') = absurd (x' s)
  refused_one f g (next_missing e n s l h x o p) (target_row e' n' s' h' x' l') = target_below (row g) (length rows) x' l h'
  refused_one f g (next_missing e n s l h x o p) (next_missing e' n' s' l' h' x' o' p') =
      let q : row f ≡ row g = lowest_one (row f) (row g) (λ a. missing_kept _ (move f) x (p' (row f) (move f) a)) (λ a. missing_kept _ (move g) x' (p (row g) (move g) a)) in
      let y : Misses m rows (node_at m rows (row g)) (move f) = subst (λ (i : ℕ). Misses m rows (node_at m rows i) (move f)) q x in
      let z : Misses m rows (node_at m rows (row f)) (move g) = subst (λ (i : ℕ). Misses m rows (node_at m rows i) (move g)) (sym q) x' in
      let k : move f ≡ move g = lowest_one (move f) (move g) (λ a. missing_kept _ (move f) y (o' (move f) a)) (λ a. missing_kept _ (move g) z (o (move g) a)) in
      told_apart f g (e ∙ ap₂ (λ (i j : ℕ). refused 21 Checker (RowMove i j)) q k ∙ sym e')

  one : (r s : Result (Unit {0}) Fault) → Checked m rows r → Checked m rows s → s ≡ r
  one (Ok _) s x y = closed_accepted s y x
  one (Err f) (Ok _) x y = closed_not f y x
  one (Err f) (Err g) x y = ap Err (refused_one g f y x)

  -- the rows that a search leaves where it says none
  exhausted_closed : (b b' : Buffers N) (used : ℕ) → Exhausted m b b' used → rows ≡ take used b'.rows.nodes → Closed m (node_at m rows) (length rows)
  exhausted_closed b b' used x q =
      let l : used ≤ length b'.rows.nodes = omega (arith, x.filled.room, x.filled.nodes_past.long) in
      let n : length rows ≡ used = ap length q ∙ length-take-le used b'.rows.nodes l in
      let same = front_node m b'.rows.nodes rows used q l in
      let held = held_front m b'.rows.nodes rows used q l in
      let c = x.closed in
      record {
        nodes = λ i h. ap m.node (same i (omega arith)) ∙ c.nodes i (omega arith);
        start = held m.start c.start;
        free = λ i h. ap m.target (same i (omega arith)) ∙ c.free i (omega arith);
        kept = λ i k h. record { held = λ a e. held a ((c.kept i k (omega arith)).held a (ap (λ (z : N). m.next z k) (sym (same i (omega arith))) ∙ e)) };
      }

  pub sound : (r : Result (Unit {0}) Fault) → Checked m rows r → Sound m rows r
  sound r x = record {
    accepted_closed = λ q. subst (λ (z : Result (Unit {0}) Fault). Checked m rows z) q x;
    closed_accepted = closed_accepted r x;
    accepted_hopeless = λ q. closed_hopeless m (node_at m rows) (length rows) (subst (λ (z : Result (Unit {0}) Fault). Checked m rows z) q x);
    none_accepted = λ b b' used a q. closed_accepted r x (exhausted_closed b b' used a q);
    one = λ s y. one r s x y;
  }
