use Rattle.std.proofs.Common.{◌+◌, length, sym, ap, ◌∙◌, arith, rules}
use Rattle.std.proofs.lemmas.List.{length_push}
use Rattle.std.proofs.lemmas.Iterator.Consumers.{YieldsList-turn, YieldsList-end}
use Rattle.pieces.proofs.Walk.{here_past, walk_past, walked_past}
use Rattle.words.specs.Marks.{dual_mark}
use Rattle.sheet.specs.Grid.{words_in}
use Rattle.dual_text.specs.Turned.{turned_marks}
use Rattle.dual_text.proofs.InPlace.{over, over_all}
use Rattle.dual_text.proofs.Writing.{first_over, marks_alike, marks_more}
use Rattle.dual_text.proofs.turn.turn_marks.Goals as goal

pub loop-word-init : goal.loop-word-init
loop-word-init c = record { can = search rules; ends = search rules; turned = λ e _. e ∙ sym (first_over dual_mark c.args.line.now c.args.line.now) }

pub loop-word-preserved : goal.loop-word-preserved
loop-word-preserved c =
    let line = c.args.line.now in
    let k = length c.loop-word.yielded in
    let walk = walk_past 1 32 line {s = c.into_iter-word-iterator.result} (cc) (cc) in
    let h = here_past (words_in line) 1 (YieldsList-turn walk c.loop-word.yielded _ c.loop-word.yielded_by _ c.next.new.self c.in-Some.word c.in-Some.is c.next.ensures.steps) in
    record {
      can = search rules;
      ends = search rules;
      turned = λ e good. marks_more line k _ _ _ _ good h.inside (c.range.ensures.from ∙ h.begins) (omega (arith, h.next)) (c.loop-word.invariant.turned e good) c.turn_mark.ensures.dual
          ∙ ap (over 32 (words_in line) (turned_marks line)) (omega (arith, length_push c.loop-word.yielded c.in-Some.word));
    }

pub returns-clause-turned : goal.returns-clause-turned
returns-clause-turned c e good =
    let line = c.args.line.now in
    let walk = walk_past 1 32 line {s = c.into_iter-word-iterator.result} (cc) (cc) in
    let all = YieldsList-end walk c.loop-word.yielded _ c.loop-word.yielded_by _ c.next.new.self c.in-None.is c.next.ensures.steps in
    c.loop-word.invariant.turned e good ∙ over_all 32 _ _ (length c.loop-word.yielded + 1) (marks_alike line good) (walked_past (words_in line) 1 all.1)
