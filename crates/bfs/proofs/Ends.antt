-- What the rows hold where a search ends.
use Rattle.std.proofs.Common.{◌≡◌, ℕ, zero, suc, ◌<◌, ◌≤◌, true, [], length, Some, refl, ap, ◌∙◌, zero-le, arith}
use Rattle.space.specs.Meaning.{Meaning, Lawful}
use Rattle.space.specs.Paths.{Nearest, Counted}
use Rattle.space.specs.Rows.{Held, Count, Closed}
use Rattle.space.proofs.Paths.{leads_steps, leads_solves, distance_steps}
use Rattle.space.proofs.Counting.{after, after_apart, after_all}
use Rattle.bfs.specs.declared.table.Link.{Link}
use Rattle.bfs.specs.Progress.{Stage, Crowded}
use Rattle.bfs.proofs.Stages.{within_held, nearer_held, stage_unmet, at_most, near_counted, stage_counted, new_far}

-- ---- a row of the last layer is a target
module _ {N : Type 0} {m : Meaning N} {R : ℕ → N} {L : ℕ → Link} {used e last : ℕ} (st : Stage m R L used e last last 0)
    {row : ℕ} (g : last ≤ row) (h : row < used) (y : m.target (R row) ≡ true) where
  -- it is nearest
  pub end_nearest : Nearest m (L row).distance
  end_nearest =
      let f = (st.table.far row h).some in record {
        some = (f.0, f.1, leads_solves m f.0 (R row) f.2 y);
        least = λ ks z. omega (arith, st.high row g h, stage_unmet st ks z);
      }

  before_last : (i : ℕ) → i < used → (L i).distance < e → i < last
  before_last i h l =
      let far : last ≤ i → (L i).distance ≡ e = λ q. st.high i q h in
      grind arith

  pub end_count : Count m R used
  end_count = record {
    apart = st.table.apart;
    each = λ a c.
        let f = (st.table.far row h).some in
        within_held st e (λ i j b h l. st.done i j b (before_last i h l)) (length c.by) a (leads_steps m c.by a c.leads)
        (omega (arith, c.short f.0 (leads_solves m f.0 (R row) f.2 y), f.1, st.high row g h));
    only = stage_counted st;
  }

-- ---- the last layer is empty
module _ {N : Type 0} {m : Meaning N} (law : Lawful m) {R : ℕ → N} {L : ℕ → Link} {used e last : ℕ} (st : Stage m R L used e last last 0) (q : used ≤ last) where
  row_node : (i : ℕ) → i < used → m.node (R i) ≡ true
  row_node zero h = ap m.node (st.table.first st.some) ∙ law.start_node
  row_node (suc i) h = law.next_node _ _ _ (st.table.via (suc i) (omega arith) h)

  pub end_closed : Closed m R used
  end_closed = record {
    nodes = row_node;
    start = (0, st.some, st.table.first st.some);
    free = λ i h. st.missed i (omega arith);
    kept = λ i k h. record { held = λ b x. st.done i k b (omega arith) x };
  }

  pub end_all : Count m R used
  end_all = record {
    apart = st.table.apart;
    each = λ a c. within_held st (length c.by) (λ i j b h _. st.done i j b (omega arith)) (length c.by) a (leads_steps m c.by a c.leads) (omega arith);
    only = stage_counted st;
  }

-- ---- a new node finds no row left
module _ {N : Type 0} {m : Meaning N} {R : ℕ → N} {L : ℕ → Link} {used e last row k : ℕ} (st : Stage m R L used e last row k) (l : row < last)
    {b : N} (x : m.next (R row) k ≡ Some b) (out : Held R used b → ⊥) where
  pub end_crowded : Crowded m R L used
  end_crowded =
      let c = near_counted st (new_far st l x out) (omega arith) in
      let p = after_apart b R used st.table.apart out in
      record {
        table = st.table;
        more = record {
          rows = after b R;
          rows_apart = λ i j l h. p i j l (omega arith);
          only = λ i h. after_all (λ a. Counted m a) b R used c (stage_counted st) i (omega arith);
        };
        only = stage_counted st;
        below = λ i d a h f lt.
            nearer_held st d a (distance_steps m a d f) (omega (arith, at_most st i h));
      }

-- ---- there are no rows at all
pub end_no_rows : {N : Type 0} {m : Meaning N} {R : ℕ → N} {L : ℕ → Link} {used : ℕ} → used ≡ 0 → Crowded m R L used
end_no_rows {N} {m} {R} {L} {used} q = record {
  table = record {
    first = λ h. absurd (omega arith);
    first_link = λ h. absurd (omega arith);
    apart = λ i j lt h. absurd (omega arith);
    far = λ i h. absurd (omega arith);
    rising = λ i j l h. absurd (omega arith);
    behind = λ i g h. absurd (omega arith);
    nearer = λ i g h. absurd (omega arith);
    via = λ i g h. absurd (omega arith);
  };
  more = record {
    rows = λ _. m.start;
    rows_apart = λ i j l h. absurd (omega arith);
    only = λ i h. record { by = []; leads = refl; short = λ ks _. zero-le };
  };
  only = λ i h. absurd (omega arith);
  below = λ i d a h. absurd (omega arith);
}
