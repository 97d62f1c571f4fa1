-- Where lists of moves lead, how far a node is, and which nodes a search counts. Assumes nothing.
use Rattle.std.specs.Prelude.{◌≡◌, ℕ, ◌≤◌, Bool, true, false, List, [], ◌∷◌, length, Some, None, Option, ◌≢◌}
use Rattle.space.specs.Meaning.{Meaning}

-- where a list of moves leads, each allowed in turn; the empty list stays
abbrev pub onward : {N : Type 0} → Meaning N → Option N → List ℕ → Option N
onward m None ks = None
onward m (Some a) [] = Some a
onward m (Some a) (k ∷ ks) = onward m (m.next a k) ks

abbrev pub targeted : {N : Type 0} → Meaning N → Option N → Bool
targeted m None = false
targeted m (Some a) = m.target a

-- whether a list of moves leads from the start to a target
abbrev pub solves : {N : Type 0} → Meaning N → List ℕ → Bool
solves m ks = targeted m (onward m (Some m.start) ks)

module _ {N : Type 0} (m : Meaning N) where
  -- the list of moves leads from the start to a
  abbrev pub Leads : List ℕ → N → Type 0
  Leads ks a = onward m (Some m.start) ks ≡ Some a

  -- the least length of a list that leads to a is d
  pub record Distance (a : N) (d : ℕ) : Type 0 where
    pub some : (ks : List ℕ) × (length ks ≡ d) × Leads ks a
    pub least : (ks : List ℕ) → Leads ks a → d ≤ length ks

  -- no list that leads to a target is shorter than d
  abbrev pub Unmet : ℕ → Type 0
  Unmet d = (ks : List ℕ) → solves m ks ≡ true → d ≤ length ks

  -- the least distance of a target is d: a list of d moves leads to a target, and no shorter list does
  pub record Nearest (d : ℕ) : Type 0 where
    pub some : (ks : List ℕ) × (length ks ≡ d) × (solves m ks ≡ true)
    pub least : Unmet d

  -- no list of moves leads to a target
  abbrev pub Hopeless : Type 0
  Hopeless = (ks : List ℕ) → solves m ks ≢ true

  -- a search counts a: a list of moves leads to it that is no longer than any that leads to a target.
  -- So where a target is reachable these are the nodes no farther than the nearest, and else all that are reachable.
  pub record Counted (a : N) : Type 0 where
    pub by : List ℕ
    pub leads : Leads by a
    pub short : Unmet (length by)

  -- The counted nodes are those that a list of D moves or fewer leads to, where D is the least distance of a target; and all reachable
  -- ones where no target is reachable.
  pub record CountedAsTold (a : N) : Type 0 where
    pub counted_near : (d : ℕ) → Nearest d → Counted a → (ks : List ℕ) × (length ks ≤ d) × Leads ks a
    pub near_counted : (d : ℕ) (ks : List ℕ) → Nearest d → length ks ≤ d → Leads ks a → Counted a
    pub counted_reached : Counted a → (ks : List ℕ) × Leads ks a
    pub reached_counted : (ks : List ℕ) → Hopeless → Leads ks a → Counted a
