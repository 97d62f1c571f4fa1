use Rattle.std.proofs.Common.{length, ap, ◌∙◌, arith}
use Rattle.pieces.specs.Pieces.{pieces, pieces_left}
use Rattle.pieces.proofs.Splits.{few_pieces, left_from}
use Rattle.pieces.proofs.Walk.{length-placed, bytes_in_order, starts_in_order, each_inside}
use Rattle.pieces.proofs.Pieces.of.Goals as goal

pub returns-clause-all : goal.returns-clause-all
returns-clause-all c = left_from record { text = c.args.text; sep = c.args.sep; at = 0 } (omega arith)

pub returns-clause-few : goal.returns-clause-few
returns-clause-few c =
    let all = left_from record { text = c.args.text; sep = c.args.sep; at = 0 } (omega arith) in
    omega (arith, ap length all, length-placed 0 (pieces c.args.sep c.args.text.now), few_pieces c.args.sep c.args.text.now)

pub returns-clause-runs : goal.returns-clause-runs
returns-clause-runs c p t e = bytes_in_order p _ (ap pieces_left e ∙ left_from record { text = c.args.text; sep = c.args.sep; at = 0 } (omega arith))

pub returns-clause-starts : goal.returns-clause-starts
returns-clause-starts c p t e = starts_in_order p _ (ap pieces_left e ∙ left_from record { text = c.args.text; sep = c.args.sep; at = 0 } (omega arith))

pub returns-clause-inside : goal.returns-clause-inside
returns-clause-inside c p t e =
    each_inside p c.args.sep c.args.text.now (ap pieces_left e ∙ left_from record { text = c.args.text; sep = c.args.sep; at = 0 } (omega arith))
