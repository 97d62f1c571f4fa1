use Rattle.directions.proofs.Agreement.{accepted_none}
use Rattle.directions.proofs.answers_tell_of_the_task.Goals as goal

pub returns-clause-accepted : goal.returns-clause-accepted
returns-clause-accepted c = accepted_none
