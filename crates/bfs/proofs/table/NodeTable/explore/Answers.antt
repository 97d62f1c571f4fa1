use Rattle.std.proofs.Common.{refl, rules}
use Rattle.std.proofs.lemmas.Result.{err_from_is_err_and}
use Rattle.space.proofs.ClosedSets.{closed_hopeless}
use Rattle.bfs.specs.Progress.{Grown}
use Rattle.bfs.proofs.Turns.{grown_then, next_layer}
use Rattle.bfs.proofs.Ends.{end_no_rows, end_nearest, end_count, end_closed, end_all}
use Rattle.bfs.proofs.Handing.{filled, overfilled}
use Rattle.bfs.proofs.Trails.{reached}
use Rattle.bfs.proofs.table.NodeTable.explore.Goals as goal

pub returns-in_err-check_room-clause-ended : goal.returns-in_err-check_room-clause-ended
returns-in_err-check_room-clause-ended g c =
    let p = err_from_is_err_and c.from_residual.result c.from_residual.ensures.1 in
    let q = c.in_err-check_room.ensures.full _ refl in
    let t = c.args.self.now in
    let same : Grown (g.S.Space.meaning c.args.space.now) t t = search rules in
    rw (p.1, p.2) (q.0, overfilled same (record { full = q.1; crowded = end_no_rows c.requires }))

pub returns-in-Some-clause-ended : goal.returns-in-Some-clause-ended
returns-in-Some-clause-ended g c =
    let f = c.in-Some.ensures.found c.in-Some.row refl in
    let st = c.loop-first.invariant.at.stage in (
      filled c.loop-first.invariant.grown st.table (end_count st f.0 f.1 f.2),
      reached st.table f.1 f.2 (end_nearest st f.0 f.1 f.2),
    )

pub returns-in_err-expand_layer : goal.returns-in_err-expand_layer
returns-in_err-expand_layer g c =
    let p = err_from_is_err_and c.from_residual-in_err-expand_layer.result c.from_residual-in_err-expand_layer.ensures.1 in
    let o = c.in_err-expand_layer.ensures.turned.refused _ refl in
    let grown = grown_then c.loop-first.invariant.grown c.expand_layer.ensures.grown in record {
      grown = grown;
      ended = rw (p.1, p.2) (o.0, overfilled grown (o.1 (next_layer c.loop-first.invariant.at (c.in_default.ensures.missed refl))));
    }

pub loop-first-preserved : goal.loop-first-preserved
loop-first-preserved g c = record {
  grown = grown_then c.loop-first.invariant.grown c.expand_layer.ensures.grown;
  at = c.in_ok-expand_layer.ensures.turned.made refl (next_layer c.loop-first.invariant.at (c.in_default.ensures.missed refl));
}

pub returns-clause-ended : goal.returns-clause-ended
returns-clause-ended g c =
    let st = c.loop-first.invariant.at.stage in
    let law = c.start.ensures.lawful in
    let q = c.loop-first-test.false in (
      filled c.loop-first.invariant.grown st.table (end_all law st q),
      closed_hopeless _ _ _ (end_closed law st q),
      end_closed law st q,
    )
