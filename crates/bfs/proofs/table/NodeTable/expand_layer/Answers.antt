use Rattle.std.proofs.lemmas.Result.{err_from_is_err_and}
use Rattle.bfs.proofs.Turns.{grown_then, turned_then, turned_fail}
use Rattle.bfs.proofs.table.NodeTable.expand_layer.Goals as goal

pub returns-in_err-expand : goal.returns-in_err-expand
returns-in_err-expand g c =
    let v = c.loop-row.invariant in
    let p = err_from_is_err_and c.from_residual.result c.from_residual.ensures.1 in record {
      grown = grown_then v.grown c.expand.ensures.grown;
      turned = rw (p.1, p.2) (turned_fail v.turned (c.in_err-expand.ensures.turned c.args.last c.loop-row-test.true));
    }

pub loop-row-preserved : goal.loop-row-preserved
loop-row-preserved g c =
    let v = c.loop-row.invariant in record {
      grown = grown_then v.grown c.expand.ensures.grown;
      turned = turned_then v.turned (c.in_ok-expand.ensures.turned c.args.last c.loop-row-test.true);
    }
