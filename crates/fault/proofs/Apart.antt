-- Faults by what they say.
use Rattle.std.proofs.Common.{◌≡◌, rules}
use Rattle.fault.specs.declared.Fault.{Fault}
use Rattle.fault.specs.Refusals.{refusal}

-- two faults that say the same are the same
pub told_apart : (f g : Fault) → refusal f ≡ refusal g → f ≡ g
told_apart f g e = search rules
