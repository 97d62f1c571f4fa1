use Rattle.space.proofs.Paths.{counted_as_told}
use Rattle.space.proofs.counting_is_as_told.Goals as goal

pub returns : goal.returns
returns g c m a = counted_as_told m a
