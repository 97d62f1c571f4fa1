use Rattle.bfs.proofs.Exactness.{exact}
use Rattle.bfs.proofs.answers_are_exact.Goals as goal

pub returns : goal.returns
returns g c m b b' r x = exact m b b' r x
