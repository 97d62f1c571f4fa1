use Rattle.std.proofs.Common.{◌<◌, ◌∙◌, arith}
use Rattle.std.proofs.lemmas.List.{drop-set-lt}
use Rattle.bfs.specs.Tables.{link_at}
use Rattle.bfs.proofs.Trails.{trail_more}
use Rattle.bfs.proofs.table.NodeTable.read_back.Goals as goal

pub loop-i-preserved : goal.loop-i-preserved
loop-i-preserved g c =
    let v = c.loop-i.invariant in
    let L = link_at c.args.self.now.links.now in
    let d = c.from-length.result in
    let p : 0 < (L c.loop-i.at).distance = omega arith in record {
      back = rw c.from-at.ensures (c.requires.tied.earlier c.loop-i.at v.back p);
      far = rw c.from-at.ensures (omega (arith, c.requires.tied.nearer c.loop-i.at v.back p));
      moves = rw c.from-at.ensures (trail_more L d c.loop-i.i c.loop-i.at c.loop-i.plan _
          c.loop-i-test.true c.loop-i.auto.i (omega (arith, c.if-plan-length.false, c.loop-i.auto.plan)) v.moves);
      past = drop-set-lt d c.loop-i.plan _ _ (omega arith) ∙ v.past;
    }
