use Rattle.std.proofs.Common.{◌≡◌, pos, w32, to_z, of_z, rules}
use Rattle.calls.proofs.planning.luzafoma_plan.Goals as goal

pub returns-in-Ok-Some : goal.returns-in-Ok-Some
returns-in-Ok-Some c =
    let same : to_z w32 (of_z w32 c.unwrap.result) ≡ pos c.in-Ok-Some.length = search rules in
    rw same (rw c.in-Ok-Some.field-0-is at c.in-Ok-Some.ensures.planned)
