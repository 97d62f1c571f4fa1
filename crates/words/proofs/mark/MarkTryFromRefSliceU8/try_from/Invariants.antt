use Rattle.std.proofs.Common.{drop}
use Rattle.words.proofs.Reading.{Rest, rank}
use Rattle.words.proofs.mark.MarkTryFromRefSliceU8.try_from.Given as goal

abbrev pub invariant-loop-b : goal.invariant-loop-b
invariant-loop-b l = Rest l.word (rank l.last) l.mark (drop l.b-index l.word)
