use Rattle.strips.proofs.Laws.{backward_lawful}
use Rattle.strips.proofs.spaces.BackwardSpace.start.Goals as goal

pub returns-clause-lawful : goal.returns-clause-lawful
returns-clause-lawful c = backward_lawful _ c.args.self.now.task.ok
