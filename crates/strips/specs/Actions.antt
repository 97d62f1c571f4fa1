-- What an action does to a set of facts, forward and backward. Assumes nothing.
use Rattle.std.specs.Prelude.{ℕ, Bool, bit_or}
use Rattle.strips.specs.Sets.{without, within, disjoint}
use Rattle.strips.specs.declared.action.Action.{Action}

-- an action is allowed in a state when its needs lie within it
abbrev pub allowed : Action → ℕ → Bool
allowed p s = within p.needs s

-- afterwards the added facts are joined, and then the deleted ones removed
abbrev pub progress : Action → ℕ → ℕ
progress p s = without (bit_or s p.adds) p.deletes

-- backward, an action is allowed when it deletes no fact of the node
abbrev pub consistent : Action → ℕ → Bool
consistent p t = disjoint t p.deletes

-- the next node has the added facts removed, and then the needed ones joined
abbrev pub regress : Action → ℕ → ℕ
regress p t = bit_or (without t p.adds) p.needs

-- the dual of an action needs what the action deletes, adds the same, and deletes what the action needs
abbrev pub dual_action : Action → Action
dual_action p = record { needs = p.deletes; adds = p.adds; deletes = p.needs }
