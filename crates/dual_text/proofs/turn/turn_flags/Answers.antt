use Rattle.std.proofs.Common.{◌+◌, length, sym, ap, ◌∙◌, arith, rules}
use Rattle.std.proofs.lemmas.List.{length_push}
use Rattle.std.proofs.lemmas.Iterator.Consumers.{YieldsList-turn, YieldsList-end}
use Rattle.pieces.proofs.Walk.{here_beside, walk_beside, walked_beside}
use Rattle.sheet.specs.Grid.{words_in}
use Rattle.dual_text.specs.Turned.{turned_flags}
use Rattle.dual_text.proofs.InPlace.{over, over_all}
use Rattle.dual_text.proofs.Writing.{first_over, flag_from, flags_alike, flags_more}
use Rattle.dual_text.proofs.turn.turn_flags.Goals as goal

pub loop-word-init : goal.loop-word-init
loop-word-init c = record {
  can = search rules;
  ends = search rules;
  turned = λ e _. e ∙ sym (first_over (flag_from c.args.off) c.args.line.now c.args.other.now);
}

pub loop-word-preserved : goal.loop-word-preserved
loop-word-preserved c =
    let line = c.args.line.now in
    let other = c.args.other.now in
    let walk = walk_beside 1 32 line other {s = c.into_iter-word-iterator.result} (cc) (cc) (cc) in
    let h = here_beside (words_in line) (words_in other) 1
    (YieldsList-turn walk c.loop-word.yielded _ c.loop-word.yielded_by _ c.next.new.self (c.in-Some.word, c.in-Some.beside) c.in-Some.is c.next.ensures.steps) in
    record {
      can = search rules;
      ends = search rules;
      turned = λ e good. flags_more c.args.off line other (length c.loop-word.yielded) _ _ _ _ _ good h.0.inside (c.range.ensures.from ∙ h.0.begins) (omega (arith, h.0.next))
          (c.loop-word.invariant.turned e good) h.1.is c.turn_flag.ensures.turned
          ∙ ap (over 32 (words_in line) (turned_flags c.args.off line other)) (omega (arith, length_push c.loop-word.yielded (c.in-Some.word, c.in-Some.beside)));
    }

pub returns-clause-turned : goal.returns-clause-turned
returns-clause-turned c e good =
    let line = c.args.line.now in
    let other = c.args.other.now in
    let walk = walk_beside 1 32 line other {s = c.into_iter-word-iterator.result} (cc) (cc) (cc) in
    let all = YieldsList-end walk c.loop-word.yielded _ c.loop-word.yielded_by _ c.next.new.self c.in-None.is c.next.ensures.steps in
    c.loop-word.invariant.turned e good
    ∙ over_all 32 _ _ (length c.loop-word.yielded + 1) (flags_alike c.args.off line other good) (walked_beside (words_in line) (words_in other) 1 good.even all.1)
