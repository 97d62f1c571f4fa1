-- The theorem is proved as a lemma.
use Rattle.dual_text.proofs.ReadBack.{read_back}
use Rattle.dual_text.proofs.texts_are_read_back.Goals as goal

pub returns : goal.returns
returns c = read_back
