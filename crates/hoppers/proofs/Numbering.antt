-- How moves are numbered.
use Rattle.std.proofs.Common.{◌≡◌, ℕ, ◌+◌, ◌*◌, ◌<◌, ltb, arith}
use Rattle.std.proofs.lemmas.Grind.{common_steps}
use Rattle.std.proofs.lemmas.Bool.Decides.{nat_tests}
use Rattle.std.proofs.lemmas.Nat.{mul-le, div-mul-add, mod-mul-add, mul-add-lt}
use Rattle.std.specs.Bool.{then_some}
use Rattle.hoppers.specs.declared.moves.Move.TheVariants.{Pour}
use Rattle.hoppers.specs.Moves.{move_of}

-- with so many moves to a row, the third row and those after it pour
pub pour_by_row : (h k r j : ℕ) → j < h → k ≡ (r + 2) * h + j → then_some (ltb (r + 2) (h + 2)) (Pour r j) ≡ move_of h k
pour_by_row h k r j l q = grind (arith, common_steps, nat_tests, mul-le h h r h, div-mul-add r h j, mod-mul-add r h j, mul-add-lt r h j h)
