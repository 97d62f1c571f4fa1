use Rattle.strips.proofs.Laws.{forward_lawful}
use Rattle.strips.proofs.spaces.ForwardSpace.start.Goals as goal

pub returns-clause-lawful : goal.returns-clause-lawful
returns-clause-lawful c = forward_lawful _ c.args.self.now.task.ok
