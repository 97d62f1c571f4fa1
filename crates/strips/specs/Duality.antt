-- Plans forward, backward and of the dual task. Assumes nothing.
use Rattle.std.specs.Prelude.{◌≡◌, ℕ, zero, suc, Bool, true, ◌&&◌, List, [], ◌∷◌, map, reverse, length, nat_lt}
use Rattle.space.specs.Meaning.{Meaning}
use Rattle.space.specs.Paths.{solves, Nearest, Hopeless}
use Rattle.strips.specs.Sets.{complement, within}
use Rattle.strips.specs.Actions.{allowed, progress, dual_action}
use Rattle.strips.specs.Tasks.{Task, fine, action_at, forward, backward, mirror}

-- the dual task has the same facts and the dual actions in the same order; its state is every fact outside the goal, and its goal every fact outside the state
abbrev pub dual : Task → Task
dual h = record {
  facts = h.facts;
  actions = map dual_action h.actions;
  state = complement h.facts h.goal;
  goal = complement h.facts h.state;
}

-- whether the actions of a list, each allowed in turn from s, lead to a state within which the goal lies
abbrev pub carries : Task → ℕ → List ℕ → Bool
carries h s [] = within h.goal s
carries h s (k ∷ ks) = (nat_lt k (length h.actions) && allowed (action_at h k) s) && carries h (progress (action_at h k) s) ks

-- a plan is a list of action numbers, each allowed in turn from the state, after which the goal lies within the state
abbrev pub is_plan : Task → List ℕ → Bool
is_plan h ks = carries h h.state ks

-- what each direction searches: 0 forward, 1 backward, 2 the mirror over backward, 3 the mirror over forward
abbrev pub space_in : Task → ℕ → Meaning ℕ
space_in h zero = forward h
space_in h (suc zero) = backward h
space_in h (suc (suc zero)) = mirror h.facts (backward h)
space_in h (suc (suc (suc d))) = mirror h.facts (forward h)

-- a direction's list of moves in the task's order: what directions 1 and 2 find is turned round
abbrev pub in_order : ℕ → List ℕ → List ℕ
in_order zero ks = ks
in_order (suc zero) ks = reverse ks
in_order (suc (suc zero)) ks = reverse ks
in_order (suc (suc (suc d))) ks = ks

-- a list is a plan exactly when it leads in the forward space from the state to a target
abbrev pub Forwards : Type 0
Forwards = (h : Task) → fine h ≡ true → (ks : List ℕ) → solves (forward h) ks ≡ is_plan h ks

-- a list is a plan exactly when, read backwards, it leads in the backward space from the goal to a target
abbrev pub Backwards : Type 0
Backwards = (h : Task) → fine h ≡ true → (ks : List ℕ) → is_plan h ks ≡ solves (backward h) (reverse ks)

-- a list is a plan exactly when, read backwards, it is a plan of the dual task
abbrev pub Duality : Type 0
Duality = (h : Task) → fine h ≡ true → (ks : List ℕ) → is_plan h ks ≡ is_plan (dual h) (reverse ks)

-- the dual of a dual is the first task
abbrev pub Involution : Type 0
Involution = (h : Task) → fine h ≡ true → dual (dual h) ≡ h

-- the dual of a task is a task
abbrev pub DualFine : Type 0
DualFine = (h : Task) → fine h ≡ true → fine (dual h) ≡ true

-- the mirror over backward means forward on the dual task, and the mirror over forward means backward on it
abbrev pub Mirrored : Type 0
Mirrored =
    (h : Task) → fine h ≡ true
    → (mirror h.facts (backward h) ≡ forward (dual h)) × (mirror h.facts (forward h) ≡ backward (dual h))

-- a list leads to a target in a direction exactly when, in the task's order, it is a plan
abbrev pub Ordered : Type 0
Ordered = (h : Task) → fine h ≡ true → (d : ℕ) (ks : List ℕ) → solves (space_in h d) ks ≡ is_plan h (in_order d ks)

-- Of any two directions either neither has a list that reaches a target, or the shortest have the same length: where one has such a list,
-- both have shortest ones of one length; a shortest length of one is that of the other; and where one has none, neither has.
pub record OneLength (h : Task) (d e : ℕ) : Type 0 where
  pub both : (ks : List ℕ) → solves (space_in h d) ks ≡ true → (n : ℕ) × Nearest (space_in h d) n × Nearest (space_in h e) n
  pub same : (n : ℕ) → Nearest (space_in h d) n → Nearest (space_in h e) n
  pub neither : Hopeless (space_in h d) → Hopeless (space_in h e)

abbrev pub SameLength : Type 0
SameLength = (h : Task) → fine h ≡ true → (d e : ℕ) → OneLength h d e
