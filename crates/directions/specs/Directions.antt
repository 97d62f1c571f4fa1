-- The numbers of the directions. Assumes nothing.
use Rattle.std.specs.Prelude.{◌≡◌, ℕ, ◌<◌, Ok, Err, Result}
use Rattle.fault.specs.declared.Fault.{Fault}
use Rattle.fault.specs.declared.Fault.TheVariants.{NoSuchDirection}
use Rattle.directions.specs.declared.Direction.{Direction}
use Rattle.directions.specs.declared.Direction.TheVariants.{Forward, Backward, DualForward, DualBackward}

abbrev pub number : Direction → ℕ
number Forward = 0
number Backward = 1
number DualForward = 2
number DualBackward = 3

-- the direction of a number, and a refusal where the number is above 3
abbrev pub Numbered : ℕ → Result Direction Fault → Type 0
Numbered n (Ok d) = number d ≡ n
Numbered n (Err f) = (f ≡ NoSuchDirection) × (3 < n)
