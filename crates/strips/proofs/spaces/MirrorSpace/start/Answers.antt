use Rattle.strips.proofs.Laws.{mirror_lawful}
use Rattle.strips.proofs.spaces.MirrorSpace.start.Goals as goal

pub returns-clause-lawful : goal.returns-clause-lawful
returns-clause-lawful g c = mirror_lawful _ _ c.start.ensures.lawful
