-- What moves leave of a table, one after another.
use Rattle.std.proofs.Common.{◌≡◌, ℕ, ◌+◌, ◌-◌, ◌<◌, ◌≤◌, false, List, length, get_or, drop, set, Some, None, Ok, Err, Result, sym, refl, ap, ◌∙◌, subst, arith}
use Rattle.std.proofs.lemmas.List.{get_or-set_same, get_or-set_other, drop-set-lt, drop-drop, length-set}
use Rattle.fault.specs.declared.Fault.{Fault}
use Rattle.fault.specs.declared.Fault.TheVariants.{TooFewRows}
use Rattle.space.specs.Meaning.{Meaning, Lawful}
use Rattle.space.specs.Rows.{node_at, Held}
use Rattle.bfs.specs.declared.table.Link.{Link}
use Rattle.bfs.specs.declared.table.NodeTable.{NodeTable}
use Rattle.bfs.specs.Tables.{origin, link_at}
use Rattle.bfs.specs.Progress.{Grew, Grown, Pushed, Stage, At, Turned}
use Rattle.bfs.proofs.Stages.{passed, pushed, finished, layered}
use Rattle.bfs.proofs.Ends.{end_crowded}

-- ---- lists that grow
grew_set : {A : Type 0} (d : A) {u u' : ℕ} {xs xs' : List A} (v : A) → xs' ≡ set xs u v → u' ≡ u + 1 → Grew d u u' xs xs'
grew_set {A} d {u} {u'} {xs} {xs'} v q p = record {
  more = omega arith;
  same = λ i h. ap (λ (z : List _). get_or z i d) q ∙ get_or-set_other xs u i v d (λ o. omega arith);
  past = record { rest = ap (drop u') q ∙ drop-set-lt u' xs u v (omega arith); long = ap length q ∙ length-set xs u v };
}

drop_on : {A : Type 0} (v w : ℕ) (zs : List A) → v ≤ w → drop (w - v) (drop v zs) ≡ drop w zs
drop_on v w zs h = drop-drop (w - v) v zs ∙ (let q : v + (w - v) ≡ w = omega arith in ap (λ (x : ℕ). drop x zs) q)

grew_then : {A : Type 0} {d : A} {u v w : ℕ} {xs ys zs : List A} → Grew d u v xs ys → Grew d v w ys zs → Grew d u w xs zs
grew_then {A} {d} {u} {v} {w} {xs} {ys} {zs} g h = record {
  more = omega (arith, g.more, h.more);
  same = λ i l. h.same i (omega (arith, g.more)) ∙ g.same i l;
  past = record {
    rest = h.past.rest ∙ sym (drop_on v w ys h.more) ∙ ap (drop (w - v)) g.past.rest ∙ drop_on v w xs h.more;
    long = h.past.long ∙ g.past.long;
  };
}

-- ---- no row is added
module _ {N : Type 0} {m : Meaning N} {t : NodeTable N} where
  -- a move that is forbidden
  pub turned_none : {last row k : ℕ} → m.next (node_at m t.rows.now row) k ≡ None → Turned m t t last row k row (k + 1) (Ok tt)
  turned_none x = record {
    made = λ _ a. record { e = a.e; stage = passed a.stage (λ b y. absurd cc) };
    refused = λ f y. absurd cc;
  }

  -- a move to a node that is held
  pub turned_held : {last row k : ℕ} {b : N} → m.next (node_at m t.rows.now row) k ≡ Some b → Held (node_at m t.rows.now) t.used b
      → Turned m t t last row k row (k + 1) (Ok tt)
  turned_held {last} {row} {k} {b} x h = record {
    made = λ _ a. record {
      e = a.e;
      stage = passed a.stage (λ c y. let q : b ≡ c = cc in subst (λ (z : N). Held (node_at m t.rows.now) t.used z) q h);
    };
    refused = λ f y. absurd cc;
  }

  -- a move whose new node finds no row left
  pub turned_full : {last row k : ℕ} {b : N} {f : Fault} → row < last → m.next (node_at m t.rows.now row) k ≡ Some b
      → (Held (node_at m t.rows.now) t.used b → ⊥) → (f ≡ TooFewRows) × (t.used ≡ t.capacity) → Turned m t t last row k row (k + 1) (Err f)
  turned_full l x out (e, q) = record {
    made = λ y. absurd cc;
    refused = λ g y. (cc, λ a. record { full = q; crowded = end_crowded a.stage l x out });
  }

-- ---- a row is added
module _ {N : Type 0} {t t' : NodeTable N} {b : N} {n : Link} (free : t.used < t.capacity) (p : Pushed t t' b n) where
  rows_grew : (d : N) → Grew d t.used t'.used t.rows.now t'.rows.now
  rows_grew d = grew_set d b p.rows p.used

  links_grew : Grew origin t.used t'.used t.links.now t'.links.now
  links_grew = grew_set origin n p.links p.used

  new_node : (d : N) → get_or t'.rows.now t.used d ≡ b
  new_node d = ap (λ (z : List N). get_or z t.used d) p.rows ∙ get_or-set_same t.rows.now t.used b d (omega (arith, t.room))

  new_link : link_at t'.links.now t.used ≡ n
  new_link = ap (λ (z : List Link). link_at z t.used) p.links ∙ get_or-set_same t.links.now t.used n origin (omega (arith, t.room))

  -- a move whose new node takes the next row
  pub turned_push : {m : Meaning N} {last row k : ℕ} → row < last → m.next (node_at m t.rows.now row) k ≡ Some b
      → (Held (node_at m t.rows.now) t.used b → ⊥)
      → (n.distance ≡ (link_at t.links.now row).distance + 1) × (n.row ≡ row) × (n.via ≡ k)
      → Turned m t t' last row k row (k + 1) (Ok tt)
  turned_push {m} {last} {row} {k} l x out (nd, nr, nv) = record {
    made = λ _ a. record {
      e = a.e;
      stage =
          subst (λ (u : ℕ). Stage m (node_at m t'.rows.now) (link_at t'.links.now) u a.e last row (k + 1)) (sym p.used)
          (pushed a.stage (rows_grew m.start).same links_grew.same l x out (new_node m.start) new_link (nd ∙ a.stage.here row (omega arith) l) nr nv);
    };
    refused = λ f y. absurd cc;
  }

-- ---- one after another
module _ {N : Type 0} {m : Meaning N} {t t' t'' : NodeTable N} where
  pub grown_then : Grown m t t' → Grown m t' t'' → Grown m t t''
  grown_then p q = record {
    rows_slice = q.rows_slice ∙ p.rows_slice;
    links_slice = q.links_slice ∙ p.links_slice;
    rows_grew = grew_then p.rows_grew q.rows_grew;
    links_grew = grew_then p.links_grew q.links_grew;
    capacity_same = q.capacity_same ∙ p.capacity_same;
  }

  pub turned_then : {last i j i' j' i'' j'' : ℕ} {r : Result (Unit {0}) Fault} → Turned m t t' last i j i' j' (Ok tt) → Turned m t' t'' last i' j' i'' j'' r
      → Turned m t t'' last i j i'' j'' r
  turned_then p q = record {
    made = λ y a. q.made y (p.made refl a);
    refused = λ f y. let x = q.refused f y in (x.0, λ a. x.1 (p.made refl a));
  }

  -- where the second is refused, what would have come after it is free
  pub turned_fail : {last i j i' j' i'' j'' u v : ℕ} {f : Fault} → Turned m t t' last i j i' j' (Ok tt) → Turned m t' t'' last i' j' u v (Err f)
      → Turned m t t'' last i j i'' j'' (Err f)
  turned_fail p q = record {
    made = λ y. absurd cc;
    refused = λ g y. let x = q.refused g y in (x.0, λ a. x.1 (p.made refl a));
  }

module _ {N : Type 0} {m : Meaning N} {t t' : NodeTable N} where
  -- all moves of a row
  pub turned_whole_row : Lawful m → {last row n : ℕ} → n ≡ m.count → row < last → Turned m t t' last row 0 row n (Ok tt) → Turned m t t' last row 0 (row + 1) 0 (Ok tt)
  turned_whole_row law {last} {row} q l p = record {
    made = λ y a.
        let b = p.made y a in record {
          e = b.e;
          stage = finished law l (subst (λ (x : ℕ). Stage m (node_at m t'.rows.now) (link_at t'.links.now) t'.used b.e last row x) q b.stage);
        };
    refused = λ f y. absurd cc;
  }

-- ---- a layer without a target is done, and the next begins
pub next_layer : {N : Type 0} {m : Meaning N} {t : NodeTable N} {first : ℕ} → At m t first first 0
    → ((i : ℕ) → first + i < t.used → m.target (node_at m t.rows.now (first + i)) ≡ false) → At m t t.used first 0
next_layer {N} {m} {t} {first} a f = record { e = a.e + 1; stage = layered a.stage missed }
  where
    missed : (i : ℕ) → first ≤ i → i < t.used → m.target (node_at m t.rows.now i) ≡ false
    missed i l h =
        let q : first + (i - first) ≡ i = omega arith in
        subst (λ (j : ℕ). m.target (node_at m t.rows.now j) ≡ false) q (f (i - first) (omega arith))
