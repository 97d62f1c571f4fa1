-- Lists of moves, read from their last move.
use Rattle.std.proofs.Common.{◌≡◌, ℕ, zero, suc, ◌+◌, ◌≤◌, true, List, [], ◌∷◌, ◌++◌, length, Some, None, Option, sym, refl, ap, ◌∙◌, subst, add-zero, add-suc, suc-add, zero-add, arith, length-append}
use Rattle.space.specs.Meaning.{Meaning}
use Rattle.space.specs.Paths.{onward, targeted, solves, Leads, Distance, CountedAsTold}

-- n moves lead to a, by the last move
abbrev pub Steps : {N : Type 0} → Meaning N → ℕ → N → Type 0
Steps m zero a = a ≡ m.start
Steps {N} m (suc n) a = (c : N) × (k : ℕ) × Steps m n c × (m.next c k ≡ Some a)

module _ {N : Type 0} (m : Meaning N) where
  -- after n moves to c, a list of moves from c leads on
  steps_on : (n : ℕ) (c : N) (ks : List ℕ) (a : N) → Steps m n c → onward m (Some c) ks ≡ Some a → Steps m (n + length ks) a
  steps_on n c [] a s e =
      let q : c ≡ a = cc in
      subst (λ (x : ℕ). Steps m x a) (sym (add-zero n)) (subst (λ (x : N). Steps m n x) q s)
  steps_on n c (k ∷ ks) a s e = go (m.next c k) refl e (λ b x. steps_on (suc n) b ks a (c, k, s, x))
    where
      go : (r : Option N) → m.next c k ≡ r → onward m r ks ≡ Some a
          → ((b : N) → m.next c k ≡ Some b → onward m (Some b) ks ≡ Some a → Steps m (suc n + length ks) a)
          → Steps m (n + suc (length ks)) a
      go None x o f = absurd cc
      go (Some b) x o f = subst (λ (y : ℕ). Steps m y a) (suc-add n (length ks) ∙ sym (add-suc n (length ks))) (f b x o)

  -- a list of moves is so many steps
  pub leads_steps : (ks : List ℕ) (a : N) → Leads m ks a → Steps m (length ks) a
  leads_steps ks a e = subst (λ (x : ℕ). Steps m x a) (zero-add (length ks)) (steps_on 0 m.start ks a refl e)

  -- one move more at the end of a list
  pub onward_snoc : (r : Option N) (ks : List ℕ) (k : ℕ) → onward m r (ks ++ (k ∷ [])) ≡ onward m (onward m r ks) (k ∷ [])
  onward_snoc None [] k = refl
  onward_snoc None (j ∷ ks) k = refl
  onward_snoc (Some a) [] k = refl
  onward_snoc (Some a) (j ∷ ks) k = onward_snoc (m.next a j) ks k

  -- a list that leads to c, and a move from there, lead on
  pub leads_snoc : (ks : List ℕ) (k : ℕ) (c a : N) → Leads m ks c → m.next c k ≡ Some a → Leads m (ks ++ (k ∷ [])) a
  leads_snoc ks k c a e x =
      onward_snoc (Some m.start) ks k ∙ ap (λ (r : Option N). onward m r (k ∷ [])) e ∙ ap (λ (r : Option N). onward m r []) x

  -- so many steps are a list of moves
  pub steps_leads : (n : ℕ) (a : N) → Steps m n a → (ks : List ℕ) × (length ks ≡ n) × Leads m ks a
  steps_leads zero a e = ([], refl, ap Some (sym e))
  steps_leads (suc n) a (c, k, s, x) =
      let h = steps_leads n c s in
      (h.0 ++ (k ∷ []), length-append h.0 (k ∷ []) ∙ omega (arith, h.1), leads_snoc h.0 k c a h.2 x)

  -- no fewer steps than the distance
  pub least_steps : (a : N) (d n : ℕ) → Distance m a d → Steps m n a → d ≤ n
  least_steps a d n h s = let p = steps_leads n a s in omega (arith, p.1, h.least p.0 p.2)

  -- the distance in steps
  pub distance_steps : (a : N) (d : ℕ) → Distance m a d → Steps m d a
  distance_steps a d h = let p = h.some in subst (λ (x : ℕ). Steps m x a) p.1 (leads_steps p.0 a p.2)

  -- a list that leads to a target
  pub leads_solves : (ks : List ℕ) (a : N) → Leads m ks a → m.target a ≡ true → solves m ks ≡ true
  leads_solves ks a e t = ap (targeted m) e ∙ t

  -- leads to some node
  pub solves_leads : (ks : List ℕ) → solves m ks ≡ true → (a : N) × Leads m ks a × (m.target a ≡ true)
  solves_leads ks s = go (onward m (Some m.start) ks) refl s
    where
      go : (r : Option N) → onward m (Some m.start) ks ≡ r → targeted m r ≡ true → (a : N) × Leads m ks a × (m.target a ≡ true)
      go None e t = absurd cc
      go (Some a) e t = (a, e, t)

  -- the two cases of what is counted
  pub counted_as_told : (a : N) → CountedAsTold m a
  counted_as_told a = record {
    counted_near = λ d n c. (c.by, omega (arith, c.short n.some.0 n.some.2, n.some.1), c.leads);
    near_counted = λ d ks n l e. record { by = ks; leads = e; short = λ js s. omega (arith, n.least js s) };
    counted_reached = λ c. (c.by, c.leads);
    reached_counted = λ ks h e. record { by = ks; leads = e; short = λ js s. absurd (h js s) };
  }
