-- What a stage of the search shows, and how one leads to the next.
use Rattle.std.proofs.Common.{◌≡◌, ℕ, zero, suc, ◌+◌, ◌-◌, ◌<◌, ◌≤◌, false, ◌⊎◌, length, Some, sym, ap, ◌∙◌, subst, inl, inr, arith, below_more}
use Rattle.std.proofs.lemmas.Bool.{cases_lt, both_ways}
use Rattle.space.specs.Meaning.{Meaning, Lawful}
use Rattle.space.specs.Paths.{Distance, Unmet, Counted}
use Rattle.space.specs.Rows.{Held}
use Rattle.space.proofs.Paths.{Steps, leads_steps, steps_leads, least_steps, distance_steps, solves_leads}
use Rattle.bfs.specs.declared.table.Link.{Link}
use Rattle.bfs.specs.Tables.{Table}
use Rattle.bfs.specs.Progress.{Stage}

module _ {N : Type 0} {m : Meaning N} {R : ℕ → N} {L : ℕ → Link} {used e last row k : ℕ} (st : Stage m R L used e last row k) where
  -- a row two or more nearer than e has made its moves
  before : (i : ℕ) → i < used → (L i).distance + 1 < e → i < row
  before i h l =
      let near : row ≤ i → i < last → (L i).distance + 1 ≡ e = st.here i in
      let far : last ≤ i → (L i).distance ≡ e = λ q. st.high i q h in
      grind arith

  -- a row's distance is no more than the steps to its node
  pub row_least : (i n : ℕ) (a : N) → i < used → R i ≡ a → Steps m n a → (L i).distance ≤ n
  row_least i n a h q s = least_steps m a (L i).distance n (subst (λ (y : N). Distance m y (L i).distance) q (st.table.far i h)) s

  -- where the rows nearer than d have made their moves, every node up to distance d is held
  pub within_held : (d : ℕ) → ((i j : ℕ) (b : N) → i < used → (L i).distance < d → m.next (R i) j ≡ Some b → Held R used b)
      → (n : ℕ) (a : N) → Steps m n a → n ≤ d → Held R used a
  within_held d made zero a s l = (0, st.some, st.table.first st.some ∙ sym s)
  within_held d made (suc n) a (c, j, s, x) l =
      let h = within_held d made n c s (omega arith) in
      let f = row_least h.0 n c h.1 h.2 s in
      made h.0 j a h.1 (omega arith) (ap (λ (y : N). m.next y j) h.2 ∙ x)

  -- every node nearer than e is held
  pub nearer_held : (n : ℕ) (a : N) → Steps m n a → n < e → Held R used a
  nearer_held n a s l = within_held (e - 1) (λ i j b h g. st.done i j b (before i h (omega arith))) n a s (omega arith)

  -- no target is nearer than e
  pub stage_unmet : Unmet m e
  stage_unmet ks y = elim (cases_lt (length ks) e) [
    | inl p ↦
        let t = solves_leads m ks y in
        let s = leads_steps m ks t.0 t.1 in
        let h = nearer_held (length ks) t.0 s p in
        let f = row_least h.0 (length ks) t.0 h.1 h.2 s in
        let far : last ≤ h.0 → (L h.0).distance ≡ e = λ q. st.high h.0 q h.1 in
        let g : h.0 < last = grind arith in
        absurd (both_ways (m.target t.0) (ap m.target (sym h.2) ∙ st.missed h.0 g) t.2)
    | inr p ↦ p
  ]

  -- no row is farther than e
  pub at_most : (i : ℕ) → i < used → (L i).distance ≤ e
  at_most i h =
      let near : i < last → (L i).distance < e = st.low i in
      let far : last ≤ i → (L i).distance ≡ e = λ q. st.high i q h in
      grind arith

  -- a node at distance e or less is counted
  pub near_counted : {a : N} {d : ℕ} → Distance m a d → d ≤ e → Counted m a
  near_counted f l =
      let p = f.some in record { by = p.0; leads = p.2; short = λ ks y. omega (arith, stage_unmet ks y, p.1) }

  -- every row holds a counted node
  pub stage_counted : (i : ℕ) → i < used → Counted m (R i)
  stage_counted i h = near_counted (st.table.far i h) (at_most i h)

  -- what the next move finds, if no row holds it, is at distance e
  pub new_far : {b : N} → row < last → m.next (R row) k ≡ Some b → (Held R used b → ⊥) → Distance m b e
  new_far {b} l x out =
      let f = st.table.far row (omega (arith, st.last_used)) in
      let q : (L row).distance + 1 ≡ e = st.here row (omega arith) l in
      let p = steps_leads m (suc (L row).distance) b (R row, k, distance_steps m (R row) (L row).distance f, x) in
      record {
        some = (p.0, omega (arith, p.1), p.2);
        least = λ ks le. elim (cases_lt (length ks) e) [ inl h ↦ absurd (out (nearer_held (length ks) b (leads_steps m ks b le) h)) | inr h ↦ h ];
      }

  -- the next move finds no new node
  pub passed : ((b : N) → m.next (R row) k ≡ Some b → Held R used b) → Stage m R L used e last row (k + 1)
  passed f = record {
    table = st.table;
    some = st.some;
    last_used = st.last_used;
    low = st.low;
    here = st.here;
    high = st.high;
    missed = st.missed;
    done = st.done;
    part = λ j c h. below_more (λ j. m.next (R row) j ≡ Some c → Held R used c) k (λ j h. st.part j c h) (f c) j h;
  }

-- ---- a row more
module _ {N : Type 0} {m : Meaning N} {R R' : ℕ → N} {L L' : ℕ → Link} {used e last row k : ℕ} (st : Stage m R L used e last row k)
    (same : (i : ℕ) → i < used → R' i ≡ R i) (samel : (i : ℕ) → i < used → L' i ≡ L i) where
  -- what holds of a row below used
  carried : (P : N → Link → Type 0) (i : ℕ) → i < used → P (R i) (L i) → P (R' i) (L' i)
  carried P i h x = subst (λ (r : N). P r (L' i)) (sym (same i h)) (subst (λ (l : Link). P (R i) l) (sym (samel i h)) x)

  kept_held : (u : ℕ) → used ≤ u → (a : N) → Held R used a → Held R' u a
  kept_held u l a (i, h, q) = (i, omega arith, same i h ∙ q)

  module _ {b : N} {n : Link} (l : row < last) (x : m.next (R row) k ≡ Some b) (out : Held R used b → ⊥)
      (newr : R' used ≡ b) (newl : L' used ≡ n) (nd : n.distance ≡ e) (nr : n.row ≡ row) (nv : n.via ≡ k) where
    -- what holds of the new row
    fresh : (P : N → Link → Type 0) → P b n → P (R' used) (L' used)
    fresh P y = subst (λ (r : N). P r (L' used)) (sym newr) (subst (λ (t : Link). P b t) (sym newl) y)

    row_used : row < used
    row_used = omega (arith, st.last_used)

    dist_old : (i : ℕ) → i < used → (L' i).distance ≡ (L i).distance
    dist_old i h = ap (λ (t : Link). t.distance) (samel i h)

    dist_new : (L' used).distance ≡ e
    dist_new = ap (λ (t : Link). t.distance) newl ∙ nd

    row_old : (i : ℕ) → i < used → (L' i).row ≡ (L i).row
    row_old i h = ap (λ (t : Link). t.row) (samel i h)

    row_new : (L' used).row ≡ row
    row_new = ap (λ (t : Link). t.row) newl ∙ nr

    via_old : (i : ℕ) → i < used → (L' i).via ≡ (L i).via
    via_old i h = ap (λ (t : Link). t.via) (samel i h)

    via_new : (L' used).via ≡ k
    via_new = ap (λ (t : Link). t.via) newl ∙ nv

    dist_below : (i : ℕ) → i ≤ used → (L' i).distance ≤ (L' used).distance
    dist_below i h = elim (cases_lt i used) [
      | inl q ↦ omega (arith, dist_old i q, at_most st i q, dist_new)
      | inr q ↦ let p : i ≡ used = omega arith in omega (arith, ap (λ (y : ℕ). (L' y).distance) p)
    ]

    nearer_new : (L' (L' used).row).distance + 1 ≡ (L' used).distance
    nearer_new =
        let p = ap (λ (y : ℕ). (L' y).distance) row_new in
        let q = dist_old row row_used in
        let h : (L row).distance + 1 ≡ e = st.here row (omega arith) l in
        omega (arith, dist_new)

    via_new_row : m.next (R' (L' used).row) (L' used).via ≡ Some (R' used)
    via_new_row =
        let p = row_new in
        let q = via_new in
        let o = same row row_used in
        cc

    pub grown : Table m R' L' (used + 1)
    grown =
        let t = st.table in record {
          first = λ _. same 0 st.some ∙ t.first st.some;
          first_link = λ _. samel 0 st.some ∙ t.first_link st.some;
          apart = λ i j lt h. below_more (λ j. i < j → R' i ≡ R' j → ⊥) used (λ j h lt q. t.apart i j lt h (sym (same i (omega arith)) ∙ q ∙ same j h))
              (λ lt q. out (i, lt, sym (same i lt) ∙ q ∙ newr)) j h lt;
          far = below_more (λ i. Distance m (R' i) (L' i).distance) used (λ i h. carried (λ r s. Distance m r s.distance) i h (t.far i h))
              (fresh (λ r s. Distance m r s.distance) (subst (λ (d : ℕ). Distance m b d) (sym nd) (new_far st l x out)));
          rising = λ i j le h. below_more (λ j. i ≤ j → (L' i).distance ≤ (L' j).distance) used
              (λ j h le. omega (arith, dist_old i (omega arith), dist_old j h, t.rising i j le h)) (dist_below i) j h le;
          behind = λ i p h. below_more (λ i. 0 < i → (L' i).row < i) used (λ i h p. omega (arith, row_old i h, t.behind i p h))
              (λ _. omega (arith, row_new, row_used)) i h p;
          nearer = λ i p h. below_more (λ i. 0 < i → (L' (L' i).row).distance + 1 ≡ (L' i).distance) used
              (λ i h p. let v = ap (λ (y : ℕ). (L' y).distance) (row_old i h) in
              omega (arith, dist_old i h, dist_old (L i).row (omega (arith, t.behind i p h)), t.nearer i p h)) (λ _. nearer_new) i h p;
          via = λ i p h. below_more (λ i. 0 < i → m.next (R' (L' i).row) (L' i).via ≡ Some (R' i)) used
              (λ i h p. let a = row_old i h in let v = via_old i h in let o = same (L i).row (omega (arith, t.behind i p h)) in
              let w = same i h in let y = t.via i p h in cc) (λ _. via_new_row) i h p;
        }

    pub pushed : Stage m R' L' (used + 1) e last row (k + 1)
    pushed =
        let u : last ≤ used = st.last_used in record {
          table = grown;
          some = omega arith;
          last_used = omega arith;
          low = λ i h. omega (arith, dist_old i (omega arith), st.low i h);
          here = λ i g h. omega (arith, dist_old i (omega arith), st.here i g h);
          high = λ i g h. below_more (λ i. last ≤ i → (L' i).distance ≡ e) used (λ i h g. dist_old i h ∙ st.high i g h) (λ _. dist_new) i h g;
          missed = λ i h. ap m.target (same i (omega arith)) ∙ st.missed i h;
          done = λ i j c h y. kept_held (used + 1) (omega arith) c (st.done i j c h (ap (λ (r : N). m.next r j) (sym (same i (omega (arith, row_used)))) ∙ y));
          part = λ j c h y. below_more (λ j. m.next (R' row) j ≡ Some c → Held R' (used + 1) c) k
              (λ j h y. kept_held (used + 1) (omega arith) c (st.part j c h (ap (λ (r : N). m.next r j) (sym (same row row_used)) ∙ y)))
              (λ y. let o = same row row_used in (used, omega arith, cc)) j h y;
        }

-- ---- all moves of a row are made
module _ {N : Type 0} {m : Meaning N} (law : Lawful m) {R : ℕ → N} {L : ℕ → Link} {used e last row : ℕ} (l : row < last) (st : Stage m R L used e last row m.count) where
  pub finished : Stage m R L used e last (row + 1) 0
  finished = record {
    table = st.table;
    some = st.some;
    last_used = st.last_used;
    low = st.low;
    here = λ i g h. st.here i (omega arith) h;
    high = st.high;
    missed = st.missed;
    done = λ i j b h. below_more (λ i. m.next (R i) j ≡ Some b → Held R used b) row (λ i h. st.done i j b h) (made j b (cases_lt j m.count)) i h;
    part = λ j b h. absurd (omega arith);
  }
    where
      made : (j : ℕ) (b : N) → (j < m.count) ⊎ (m.count ≤ j) → m.next (R row) j ≡ Some b → Held R used b
      made j b (inl h) x = st.part j b h x
      made j b (inr h) x = let n = law.past (R row) j h in absurd cc

-- ---- all moves of a layer are made, and the next layer holds no target
module _ {N : Type 0} {m : Meaning N} {R : ℕ → N} {L : ℕ → Link} {used e last : ℕ} (st : Stage m R L used e last last 0) where
  pub layered : ((i : ℕ) → last ≤ i → i < used → m.target (R i) ≡ false) → Stage m R L used (e + 1) used last 0
  layered f = record {
    table = st.table;
    some = st.some;
    last_used = omega arith;
    low = λ i h. omega (arith, at_most st i h);
    here = λ i g h. omega (arith, st.high i g h);
    high = λ i g h. absurd (omega arith);
    missed = λ i h. missed i h (cases_lt i last);
    done = st.done;
    part = λ j b h. absurd (omega arith);
  }
    where
      missed : (i : ℕ) → i < used → (i < last) ⊎ (last ≤ i) → m.target (R i) ≡ false
      missed i h (inl g) = st.missed i g
      missed i h (inr g) = f i g h
