use Rattle.std.proofs.Common.{length, rules, ap, ◌∙◌, sym}
use Rattle.std.proofs.lemmas.List.{length_push}
use Rattle.std.proofs.lemmas.Iterator.Consumers.{YieldsList-turn, YieldsList-end}
use Rattle.sheet.specs.Grid.{words_in}
use Rattle.sheet.proofs.Flags.{sofar, sofar_more, sofar_all}
use Rattle.sheet.proofs.Turns.{counted_at, walk_counted, all_counted}
use Rattle.sheet.proofs.sets.ones_in.Goals as goal

pub loop-i-preserved : goal.loop-i-preserved
loop-i-preserved c =
    let line = c.args.line.now in
    let road = walk_counted (words_in line) 1 64 {i = c.into_iter-i-iterator.result} (cc) (cc) (cc) (cc) in
    let turn = counted_at (words_in line) 1 64 _ _ (YieldsList-turn road c.loop-i.yielded _ c.loop-i.yielded_by _ _ _ c.in-Some.is c.next.ensures.steps) in
    let more = sofar_more 49 line (length c.loop-i.yielded) _ _ _ _ turn.1.inside c.loop-i.invariant.sofar turn.1.is c.has_letter.ensures (rw turn.0 at c.with_fact-ones.ensures) in
    record { can = search rules; ends = search rules; sofar = more ∙ ap (sofar 49 line) (sym (length_push c.loop-i.yielded _)) }

pub returns : goal.returns
returns c few =
    let line = c.args.line.now in
    let road = walk_counted (words_in line) 1 64 {i = c.into_iter-i-iterator.result} (cc) (cc) (cc) (cc) in
    let end = YieldsList-end road c.loop-i.yielded _ c.loop-i.yielded_by _ _ c.in-None.is c.next.ensures.steps in
    c.loop-i.invariant.sofar ∙ sofar_all 49 line (length c.loop-i.yielded) (rw end.1 (all_counted (words_in line) 1 64 few))
