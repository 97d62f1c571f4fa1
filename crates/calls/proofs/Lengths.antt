-- A plan is shorter than the rows that hold its nodes.
use Rattle.std.proofs.Common.{◌≡◌, ℕ, zero, suc, ◌<◌, ◌≤◌, true, ap, subst, arith}
use Rattle.space.specs.Meaning.{Meaning}
use Rattle.space.specs.Paths.{Leads, Nearest}
use Rattle.space.specs.Rows.{Held, Count}
use Rattle.space.proofs.Paths.{solves_leads, leads_solves}
use Rattle.bfs.specs.declared.table.Link.{Link}
use Rattle.bfs.specs.Tables.{Table}

module _ {N : Type 0} (m : Meaning N) (R : ℕ → N) (L : ℕ → Link) (used : ℕ) (t : Table m R L used) where
  -- a row's distance is at most its number
  distance_below : (n i : ℕ) → i ≤ n → i < used → (L i).distance ≤ i
  distance_below n zero l h = omega (arith, ap (λ (x : Link). x.distance) (t.first_link (omega arith)))
  distance_below zero (suc i) l h = absurd (omega arith)
  distance_below (suc n) (suc i) l h =
      let b = t.behind (suc i) (omega arith) h in
      omega (arith, t.nearer (suc i) (omega arith) h, distance_below n (L (suc i)).row (omega arith) (omega arith))

  -- the nearest target stands in a row at or past its distance
  pub nearest_below : (d : ℕ) → Nearest m d → Count m R used → d < used
  nearest_below d n c = go (solves_leads m n.some.0 n.some.2)
    where
      go : (a : N) × Leads m n.some.0 a × (m.target a ≡ true) → d < used
      go (a, leads, target) = held (c.each a (record { by = n.some.0; leads = leads; short = rw n.some.1 n.least }))
        where
          held : Held R used a → d < used
          held (i, h, e) =
              let some = (t.far i h).some in
              let far = n.least some.0 (leads_solves m some.0 a (subst (Leads m some.0) e some.2) target) in
              omega (arith, far, some.1, distance_below i i (omega arith) h)
