use Rattle.dual_text.proofs.GoodNames.{names_good}
use Rattle.dual_text.proofs.names_are_good.Goals as goal

pub returns : goal.returns
returns c = names_good
