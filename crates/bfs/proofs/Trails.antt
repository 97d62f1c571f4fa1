-- The moves along the links.
use Rattle.std.proofs.Common.{◌≡◌, ℕ, zero, suc, ◌-◌, ◌<◌, ◌≤◌, true, List, [], ◌∷◌, ◌++◌, length, take, drop, set, sym, refl, ap, ◌∙◌, ap₂, append_assoc, add-one, arith}
use Rattle.std.proofs.lemmas.List.{drop-set}
use Rattle.bfs.specs.declared.table.Link.{Link}
use Rattle.space.specs.Meaning.{Meaning}
use Rattle.space.specs.Paths.{Leads, Nearest}
use Rattle.space.proofs.Paths.{leads_snoc, leads_solves}
use Rattle.bfs.specs.Tables.{Table}
use Rattle.bfs.specs.Progress.{Tied, Reached, trail}

trail_suc : (L : ℕ → Link) (d n at : ℕ) (plan whole : List ℕ) → n < d → d ≤ length plan
    → whole ≡ trail L (suc n) at ++ take (d - suc n) (drop (suc n) plan)
    → whole ≡ trail L n (L at).row ++ take (d - n) (drop n (set plan n (L at).via))
trail_suc L d n at plan whole h l q =
    let v : ℕ = (L at).via in
    let p : d - n ≡ suc (d - suc n) = omega arith in
    let o : drop n (set plan n v) ≡ v ∷ drop (suc n) plan = drop-set plan n v (omega arith) ∙ ap (λ (x : ℕ). v ∷ drop x plan) (add-one n) in
    let t : take (d - n) (drop n (set plan n v)) ≡ v ∷ take (d - suc n) (drop (suc n) plan) = ap₂ (λ (x : ℕ) (y : List ℕ). take x y) p o in
    q ∙ append_assoc (trail L n (L at).row) (v ∷ []) (take (d - suc n) (drop (suc n) plan)) ∙ ap (λ (y : List ℕ). trail L n (L at).row ++ y) (sym t)

pub trail_more : (L : ℕ → Link) (d i at : ℕ) (plan whole : List ℕ) → 0 < i → i ≤ d → d ≤ length plan
    → whole ≡ trail L i at ++ take (d - i) (drop i plan)
    → whole ≡ trail L (i - 1) (L at).row ++ take (d - (i - 1)) (drop (i - 1) (set plan (i - 1) (L at).via))
trail_more L d i at plan whole h g l q =
    let p : i ≡ suc (i - 1) = omega arith in
    trail_suc L d (i - 1) at plan whole (omega arith) l (q ∙ ap (λ (x : ℕ). trail L x at ++ take (d - x) (drop x plan)) p)

-- ---- the links of a table
module _ {N : Type 0} {m : Meaning N} {R : ℕ → N} {L : ℕ → Link} {used : ℕ} (t : Table m R L used) where
  not_first : (row : ℕ) → row < used → 0 < (L row).distance → 0 < row
  not_first zero h l = absurd (omega (arith, ap (λ (x : Link). x.distance) (t.first_link h)))
  not_first (suc row) h l = omega arith

  -- tie each row to one nearer
  table_tied : (row : ℕ) → row < used → Tied L row
  table_tied row g = record {
    earlier = λ i h l. let k : i < used = omega arith in omega (arith, t.behind i (not_first i k l) k);
    nearer = λ i h l. let k : i < used = omega arith in t.nearer i (not_first i k l) k;
  }

  -- and lead to each row
  trail_leads : (d row : ℕ) → row < used → (L row).distance ≡ d → Leads m (trail L d row) (R row)
  trail_leads zero row h q = let f = (t.far row h).some in at_start f.0 (omega (arith, f.1)) f.2
    where
      at_start : (ks : List ℕ) → length ks ≡ 0 → Leads m ks (R row) → Leads m [] (R row)
      at_start [] p e = e
      at_start (k ∷ ks) p e = absurd (omega arith)
  trail_leads (suc d) row h q =
      let p : 0 < row = not_first row h (omega arith) in
      let i = trail_leads d (L row).row (omega (arith, t.behind row p h)) (omega (arith, t.nearer row p h)) in
      leads_snoc m (trail L d (L row).row) (L row).via (R (L row).row) (R row) i (t.via row p h)

  pub reached : {row : ℕ} → row < used → m.target (R row) ≡ true → Nearest m (L row).distance → Reached m L used row
  reached {row} h y n = record {
    within = h;
    nearest = n;
    leads = leads_solves m (trail L (L row).distance row) (R row) (trail_leads (L row).distance row h refl) y;
    tied = table_tied row h;
  }
