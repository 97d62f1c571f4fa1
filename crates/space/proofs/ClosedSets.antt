-- What a closed set shows.
use Rattle.std.proofs.Common.{ℕ, zero, suc, List, length, sym, ap, ◌∙◌}
use Rattle.std.proofs.lemmas.Bool.{both_ways}
use Rattle.space.specs.Meaning.{Meaning}
use Rattle.space.specs.Paths.{Leads, Hopeless}
use Rattle.space.specs.Rows.{Held, Few, Closed}
use Rattle.space.proofs.Paths.{Steps, leads_steps, solves_leads}

module _ {N : Type 0} (m : Meaning N) (R : ℕ → N) (n : ℕ) (c : Closed m R n) where
  -- no steps leave it
  steps_held : (d : ℕ) (a : N) → Steps m d a → Held R n a
  steps_held zero a s = (c.start.0, c.start.1, c.start.2 ∙ sym s)
  steps_held (suc d) a (b, k, s, x) =
      let h = steps_held d b s in
      (c.kept h.0 k h.1).held a (ap (λ (y : N). m.next y k) h.2 ∙ x)

  -- every reachable node is in it
  led_held : (ks : List ℕ) (a : N) → Leads m ks a → Held R n a
  led_held ks a e = steps_held (length ks) a (leads_steps m ks a e)

  pub closed_few : Few m n
  closed_few = record { rows = R; each = λ a ks e. led_held ks a e }

  -- no list of moves leads to a target
  pub closed_hopeless : Hopeless m
  closed_hopeless ks s =
      let t = solves_leads m ks s in
      let h = led_held ks t.0 t.1 in
      both_ways (m.target t.0) (ap m.target (sym h.2) ∙ c.free h.0 h.1) t.2
