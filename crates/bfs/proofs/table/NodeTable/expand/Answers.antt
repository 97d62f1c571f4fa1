use Rattle.std.proofs.Common.{arith}
use Rattle.std.proofs.lemmas.Result.{err_from_is_err_and}
use Rattle.bfs.proofs.Turns.{grown_then, turned_then, turned_fail, turned_whole_row}
use Rattle.bfs.proofs.table.NodeTable.expand.Goals as goal

pub returns-in_err-make_move : goal.returns-in_err-make_move
returns-in_err-make_move g c =
    let v = c.loop-by.invariant in
    let p = err_from_is_err_and c.from_residual.result c.from_residual.ensures.1 in record {
      grown = grown_then v.grown c.make_move.ensures.grown;
      turned = λ last l. rw (p.1, p.2) (turned_fail (v.turned last l) (c.in_err-make_move.ensures.turned last l));
    }

pub loop-by-preserved : goal.loop-by-preserved
loop-by-preserved g c =
    let v = c.loop-by.invariant in record {
      grown = grown_then v.grown c.make_move.ensures.grown;
      turned = λ last l. turned_then (v.turned last l) (c.in_ok-make_move.ensures.turned last l);
    }

pub returns : goal.returns
returns g c =
    let v = c.loop-by.invariant in record {
      grown = v.grown;
      turned = λ last l. turned_whole_row c.requires.lawful (omega (arith, c.count-by-end.ensures)) l (v.turned last l);
    }
