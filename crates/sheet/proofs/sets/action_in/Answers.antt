use Rattle.std.proofs.Common.{ℕ, length, rules, sym, subst}
use Rattle.std.proofs.lemmas.List.{length_push}
use Rattle.std.proofs.lemmas.Iterator.Consumers.{YieldsList-turn, YieldsList-end}
use Rattle.sheet.specs.Grid.{words_in}
use Rattle.sheet.specs.Shape.{GoodMarks}
use Rattle.sheet.proofs.Flags.{ReadSoFar, read_more, read_all}
use Rattle.sheet.proofs.Turns.{counted_at, walk_counted, all_counted}
use Rattle.sheet.proofs.sets.action_in.Goals as goal

pub loop-i-preserved : goal.loop-i-preserved
loop-i-preserved c =
    let line = c.args.line.now in
    let road = walk_counted (words_in line) 1 64 {i = c.into_iter-i-iterator.result} (cc) (cc) (cc) (cc) in
    let turn = counted_at (words_in line) 1 64 _ _ (YieldsList-turn road c.loop-i.yielded _ c.loop-i.yielded_by _ _ _ c.in-Some.is c.next.ensures.steps) in
    let read = λ (good : GoodMarks line).
    read_more line (length c.loop-i.yielded) _ _ _ turn.1.inside turn.1.is
    (rw turn.0 at c.with_mark-action.ensures (rw turn.1.is (good.1 (length c.loop-i.yielded) turn.1.inside))) (c.loop-i.invariant.read good) in
    record { can = search rules; ends = search rules; read = λ good. subst (λ (k : ℕ). ReadSoFar line k c.with_mark-action.result) (sym (length_push c.loop-i.yielded _)) (read good) }

pub returns : goal.returns
returns c good =
    let line = c.args.line.now in
    let road = walk_counted (words_in line) 1 64 {i = c.into_iter-i-iterator.result} (cc) (cc) (cc) (cc) in
    let end = YieldsList-end road c.loop-i.yielded _ c.loop-i.yielded_by _ _ c.in-None.is c.next.ensures.steps in
    read_all line (length c.loop-i.yielded) _ (rw end.1 (all_counted (words_in line) 1 64 good.0)) (c.loop-i.invariant.read good)
