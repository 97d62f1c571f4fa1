use Rattle.std.proofs.Common.{rules}
use Rattle.std.proofs.lemmas.Iterator.{first_from_Range}
use Rattle.closed.specs.Check.{Keeps, Misses}
use Rattle.closed.proofs.Breaks.{first_move}
use Rattle.closed.proofs.missing_move.Goals as goal

pub returns : goal.returns
returns g c =
    let m = g.S.Space.meaning c.args.space.now in
    let rows = c.args.rows.now in
    first_move m rows c.requires _ _ c.count.ensures _
    (first_from_Range _ _ _ c.find.result (Misses m rows c.args.from) (Keeps m rows c.args.from) c.find.ensures.ran (λ x q k. search rules) (λ x q k. search rules))
