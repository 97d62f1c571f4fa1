use Rattle.std.proofs.Common.{◌+◌, length, rules}
use Rattle.std.proofs.lemmas.List.{length_push}
use Rattle.std.proofs.lemmas.Iterator.Consumers.{YieldsList-turn}
use Rattle.pieces.proofs.Walk.{here_numbered, walk_numbered}
use Rattle.sheet.specs.Grid.{lines}
use Rattle.sheet.proofs.Accepting.{right_more}
use Rattle.sheet.proofs.grid.Grid.check_words.Goals as goal

pub loop-row-preserved : goal.loop-row-preserved
loop-row-preserved c =
    let text = c.args.self.now.text.now in
    let walk = walk_numbered (c.args.self.now.actions + 3) 10 text {s = c.into_iter-row-iterator.result} (cc) (cc) (cc) in
    let here = here_numbered (lines text) _ (YieldsList-turn walk c.loop-row.yielded _ c.loop-row.yielded_by _ _ _ c.in-Some.is c.next.ensures.steps) in
    record {
      can = search rules;
      ends = search rules;
      right = right_more text (length c.loop-row.yielded) _ _ _ (length_push _ _) (rw here.0 at c.of_row.ensures) here.2.is c.loop-row.invariant.right c.in_default.ensures;
    }
