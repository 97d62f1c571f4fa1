use Rattle.closed.proofs.Judgement.{sound}
use Rattle.closed.proofs.checks_are_sound.Goals as goal

pub returns : goal.returns
returns g c m rows r x = sound m rows r x
