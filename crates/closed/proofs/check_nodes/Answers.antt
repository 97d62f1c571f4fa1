use Rattle.std.proofs.Common.{rules}
use Rattle.closed.proofs.Breaks.{no_node_at}
use Rattle.closed.proofs.check_nodes.Goals as goal

pub returns-clause-passed : goal.returns-clause-passed
returns-clause-passed g c q i h = let k = c.first_break.ensures.passed q i (g.S.Space.meaning c.args.space.now).start h in search rules

pub returns-clause-broke : goal.returns-clause-broke
returns-clause-broke g c f q =
    let m = g.S.Space.meaning c.args.space.now in
    let b = c.first_break.ensures.broke f q in
    let y = b.2 m.start in
    no_node_at m c.args.rows.now b.1 (search rules) (λ i h. let k = b.3 i m.start h in search rules)
