use Rattle.std.proofs.Common.{arith}
use Rattle.std.proofs.lemmas.Grind.{common_steps}
use Rattle.pieces.specs.Pieces.{pieces_left}
use Rattle.pieces.proofs.Splits.{left_past, left_more}
use Rattle.pieces.proofs.PiecesIterator.next.Goals as goal

pub returns-then-self-clause-steps : goal.returns-then-self-clause-steps
returns-then-self-clause-steps c = (left_past c.args.self.now (omega arith), left_past c.args.self.now (omega arith))

pub returns-clause-steps : goal.returns-clause-steps
unfolding pieces_left
returns-clause-steps c = grind (arith, common_steps, left_more c.args.self.now.sep c.args.self.now.text.now c.args.self.now.at c.piece_end-end.result (omega arith) (c.piece_end-end.ensures.exact (omega arith)))

pub returns-clause-goes : goal.returns-clause-goes
unfolding pieces_left
returns-clause-goes c = grind (arith, common_steps, left_more c.args.self.now.sep c.args.self.now.text.now c.args.self.now.at c.piece_end-end.result (omega arith) (c.piece_end-end.ensures.exact (omega arith)))
