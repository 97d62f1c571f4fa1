-- How many different nodes rows can hold, and how many are counted.
use Rattle.std.proofs.Common.{◌≡◌, ℕ, zero, suc, ◌<◌, ◌≤◌, Bool, cond, eqb, ◌⊎◌, sym, refl, ap, ◌∙◌, inl, inr, zero-le, arith}
use Rattle.std.proofs.lemmas.Bool.{cases_lt, cases_eq, eq-eqb, ne_eqb}
use Rattle.space.specs.Meaning.{Meaning}
use Rattle.space.specs.Rows.{Held, Apart, Count, More, Few}

module _ {N : Type 0} where
  -- the rows without row p, whose place the row at v takes
  abbrev without : ℕ → ℕ → (ℕ → N) → ℕ → N
  without p v R j = cond (eqb j p) (R v) (R j)

  -- a node that is not row p's is still held
  still_held : (R : ℕ → N) (v p : ℕ) (a : N) → p < suc v → (R p ≡ a → ⊥) → Held R (suc v) a → Held (without p v R) v a
  still_held R v p a l ne (j, h, q) = go (cases_eq j p) (cases_lt j v)
    where
      go : (j ≡ p) ⊎ (j ≡ p → ⊥) → (j < v) ⊎ (v ≤ j) → Held (without p v R) v a
      go (inl e) _ = absurd (ne (ap R (sym e) ∙ q))
      go (inr e) (inl g) = (j, g, ap (λ (t : Bool). cond t (R v) (R j)) (ne_eqb j p e) ∙ q)
      go (inr e) (inr g) =
          let i : j ≡ v = omega arith in
          (p, below (cases_lt p v), ap (λ (t : Bool). cond t (R v) (R p)) (eq-eqb p p refl) ∙ ap R (sym i) ∙ q)
        where
          below : (p < v) ⊎ (v ≤ p) → p < v
          below (inl k) = k
          below (inr k) = absurd (e (omega arith))

  -- rows that hold different nodes, all of them held by others, are no more than those
  pub no_more : (u u' : ℕ) (R R' : ℕ → N) → Apart R u → ((i : ℕ) → i < u → Held R' u' (R i)) → u ≤ u'
  no_more zero u' R R' p all = zero-le
  no_more (suc u) zero R R' p all = absurd (omega (arith, (all u (omega arith)).1))
  no_more (suc u) (suc v) R R' p all =
      let h = all u (omega arith) in
      let r = no_more u v R (without h.0 v R') (λ i j l g. p i j l (omega arith))
      (λ i g. still_held R' v h.0 (R i) h.1 (λ q. p i u g (omega arith) (sym q ∙ h.2)) (all i (omega arith))) in
      omega arith

  -- rows with one more in front
  abbrev pub after : N → (ℕ → N) → ℕ → N
  after a R zero = a
  after a R (suc i) = R i

  pub after_apart : (a : N) (R : ℕ → N) (n : ℕ) → Apart R n → (Held R n a → ⊥) → Apart (after a R) (suc n)
  after_apart a R n p out zero zero l h q = omega arith
  after_apart a R n p out zero (suc j) l h q = out (j, omega arith, sym q)
  after_apart a R n p out (suc i) zero l h q = omega arith
  after_apart a R n p out (suc i) (suc j) l h q = p i j (omega arith) (omega arith) q

  pub after_all : (P : N → Type 0) (a : N) (R : ℕ → N) (n : ℕ) → P a → ((i : ℕ) → i < n → P (R i)) → (i : ℕ) → i < suc n → P (after a R i)
  after_all P a R n x f zero h = x
  after_all P a R n x f (suc i) h = f i (omega arith)

module _ {N : Type 0} (m : Meaning N) where
  -- two counts agree
  count_most : (R R' : ℕ → N) (n n' : ℕ) → Count m R n → Count m R' n' → n ≤ n'
  count_most R R' n n' c c' = no_more n n' R R' c.apart (λ i h. c'.each (R i) (c.only i h))

  pub count_one : (R R' : ℕ → N) (n n' : ℕ) → Count m R n → Count m R' n' → n ≡ n'
  count_one R R' n n' c c' = omega (arith, count_most R R' n n' c c', count_most R' R n' n c' c)

  -- more than n nodes are not counted as n or fewer
  pub more_count : (n k : ℕ) (R : ℕ → N) → More m n → Count m R k → n < k
  more_count n k R o c = no_more (suc n) k o.rows R (λ i j l h. o.rows_apart i j l (omega arith)) (λ i h. c.each (o.rows i) (o.only i (omega arith)))

  -- nor are n or fewer reachable
  pub more_few : (n : ℕ) → More m n → Few m n → ⊥
  more_few n o f =
      let l = no_more (suc n) n o.rows f.rows (λ i j l h. o.rows_apart i j l (omega arith))
      (λ i h. let c = o.only i (omega arith) in f.each (o.rows i) c.by c.leads) in
      omega arith
