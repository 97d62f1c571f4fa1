use Rattle.hoppers.proofs.Laws.{nodes_as_told}
use Rattle.hoppers.proofs.nodes_are_levels_within_capacities.Goals as goal

pub returns : goal.returns
returns c = nodes_as_told
