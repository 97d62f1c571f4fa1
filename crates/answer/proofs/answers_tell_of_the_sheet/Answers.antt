use Rattle.directions.proofs.Agreement.{plans_told}
use Rattle.sheet.specs.Reading.{task_of}
use Rattle.sheet.proofs.Fineness.{task_fine}
use Rattle.answer.proofs.answers_tell_of_the_sheet.Goals as goal

pub returns : goal.returns
returns c text before after o p = plans_told (task_of text) (task_fine text p.0) 0 before after _ p.1
