use Rattle.std.proofs.Common.{rules}
use Rattle.closed.proofs.Breaks.{missing_at}
use Rattle.closed.proofs.check_moves.Goals as goal

pub returns-clause-passed : goal.returns-clause-passed
returns-clause-passed g c q i j h = let k = c.first_break.ensures.passed q i (g.S.Space.meaning c.args.space.now).start h in search rules

pub returns-clause-broke : goal.returns-clause-broke
returns-clause-broke g c f q =
    let m = g.S.Space.meaning c.args.space.now in
    let b = c.first_break.ensures.broke f q in
    let y = b.2 m.start in
    missing_at m c.args.rows.now b.1 (search rules) (λ i j h. let k = b.3 i m.start h in search rules)
