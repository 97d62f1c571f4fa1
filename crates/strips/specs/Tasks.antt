-- Tasks and their search spaces. Assumes nothing.
use Rattle.std.specs.Prelude.{ℕ, ◌^◌, Bool, ◌&&◌, List, length, None, Option, if◌then◌else◌, nat_le, nat_lt, option_map, slice_index_or}
use Rattle.std.specs.Bool.{then_some}
use Rattle.std.specs.List.{list_all}
use Rattle.space.specs.Meaning.{Meaning}
use Rattle.strips.specs.Sets.{within, complement}
use Rattle.strips.specs.Actions.{allowed, progress, consistent, regress}
use Rattle.strips.specs.declared.action.Action.{Action}

-- the count of facts, the actions in their order, the facts that hold now, and those that are to hold
pub record Task : Type 0 where
  pub facts : ℕ
  pub actions : List Action
  pub state : ℕ
  pub goal : ℕ

-- the action that changes nothing
abbrev pub idle : Action
idle = record { needs = 0; adds = 0; deletes = 0 }

-- each set of an action is one of n facts
abbrev pub fine_action : ℕ → Action → Bool
fine_action n p = nat_lt p.needs (2 ^ n) && (nat_lt p.adds (2 ^ n) && nat_lt p.deletes (2 ^ n))

abbrev pub fine_actions : ℕ → List Action → Bool
fine_actions n ps = list_all (fine_action n) ps

-- 1 to 64 facts, at most 256 actions, and no set holds a fact at or past the count
abbrev pub fine : Task → Bool
fine h =
    nat_le 1 h.facts && (nat_le h.facts 64 && (nat_le (length h.actions) 256
    && (nat_lt h.state (2 ^ h.facts) && (nat_lt h.goal (2 ^ h.facts) && fine_actions h.facts h.actions))))

-- a space whose nodes are the sets of n facts: move k below the count leads from w to `to w k` where `may w k`, and else is forbidden
abbrev pub of_sets : (n start count : ℕ) → (target : ℕ → Bool) → (may : ℕ → ℕ → Bool) → (to : ℕ → ℕ → ℕ) → Meaning ℕ
of_sets n start count target may to = record {
  node = λ w. nat_lt w (2 ^ n);
  start = start;
  count = count;
  target = λ w. nat_lt w (2 ^ n) && target w;
  next = λ w k. then_some (nat_lt w (2 ^ n) && (nat_lt k count && may w k)) (to w k);
}

-- the action of a number; past the count the one that changes nothing, where no statement looks
abbrev pub action_at : Task → ℕ → Action
action_at h k = slice_index_or h.actions k idle

-- the action of a number, where the node is a set of the task's facts and the task has such an action
abbrev pub action_from : Task → ℕ → ℕ → Option Action
action_from h w k = then_some (nat_lt w (2 ^ h.facts) && nat_lt k (length h.actions)) (action_at h k)

-- forward: the start is the state, a target holds the goal, a move is an action
abbrev pub forward : Task → Meaning ℕ
forward h =
    of_sets h.facts h.state (length h.actions) (λ w. within h.goal w) (λ w k. allowed (action_at h k) w) (λ w k. progress (action_at h k) w)

-- backward: the start is the goal, a target lies within the state, a move is an action taken back
abbrev pub backward : Task → Meaning ℕ
backward h =
    of_sets h.facts h.goal (length h.actions) (λ w. within w h.state) (λ w k. consistent (action_at h k) w) (λ w k. regress (action_at h k) w)

-- a space of sets of n facts, with each node shown as its complement; every move from what is not a node is forbidden
abbrev pub mirror : ℕ → Meaning ℕ → Meaning ℕ
mirror n m = record {
  node = λ w. nat_lt w (2 ^ n);
  start = complement n m.start;
  count = m.count;
  target = λ w. nat_lt w (2 ^ n) && m.target (complement n w);
  next = λ w k. if nat_lt w (2 ^ n) then option_map (complement n) (m.next (complement n w) k) else None;
}
