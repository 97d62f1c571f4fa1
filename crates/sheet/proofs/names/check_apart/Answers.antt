use Rattle.std.proofs.Common.{length, take, arith, rules, sym, ◌<◌}
use Rattle.std.proofs.lemmas.List.{length_push, length-take-le, take_more_set}
use Rattle.std.proofs.lemmas.Iterator.Consumers.{YieldsList-turn}
use Rattle.pieces.specs.Pieces.{pieces}
use Rattle.sheet.proofs.Repeats.{Held, found, apart_more, held_more}
use Rattle.sheet.proofs.Turns.{walk_counted, counted_at, counted_few}
use Rattle.sheet.proofs.names.check_apart.Goals as goal

pub slice_bounds-contains-end : goal.slice_bounds-contains-end
slice_bounds-contains-end c =
    let ps = pieces c.args.sep c.args.text.now in
    let road = walk_counted ps c.args.past c.args.count {i = c.into_iter-i-iterator.result} (cc) (cc) (cc) (cc) in
    let turn = YieldsList-turn road c.loop-i.yielded _ c.loop-i.yielded_by _ _ _ c.in-Some.is c.next.ensures.steps in
    let here = counted_at ps c.args.past c.args.count _ _ turn in
    let now : length c.loop-i.yielded < c.args.count = omega (arith, turn.0, counted_few ps c.args.past c.args.count) in
    omega (arith, here.0, now, c.requires.few, c.loop-i.auto.names)

pub slice_bounds-contains-end-in-loop-i : goal.slice_bounds-contains-end-in-loop-i
slice_bounds-contains-end-in-loop-i c =
    let ps = pieces c.args.sep c.args.text.now in
    let road = walk_counted ps c.args.past c.args.count {i = c.into_iter-i-iterator.result} (cc) (cc) (cc) (cc) in
    let turn = YieldsList-turn road c.loop-i.yielded _ c.loop-i.yielded_by _ _ _ c.in-Some.is c.next.ensures.steps in
    let here = counted_at ps c.args.past c.args.count _ _ turn in
    let now : length c.loop-i.yielded < c.args.count = omega (arith, turn.0, counted_few ps c.args.past c.args.count) in
    sym (length-take-le c.in-Some.i c.loop-i.names (omega (arith, here.0, now, c.requires.few, c.loop-i.auto.names)))

pub returns-then-contains : goal.returns-then-contains
returns-then-contains c =
    let ps = pieces c.args.sep c.args.text.now in
    let road = walk_counted ps c.args.past c.args.count {i = c.into_iter-i-iterator.result} (cc) (cc) (cc) (cc) in
    let turn = YieldsList-turn road c.loop-i.yielded _ c.loop-i.yielded_by _ _ _ c.in-Some.is c.next.ensures.steps in
    let here = counted_at ps c.args.past c.args.count _ _ turn in
    let now : length c.loop-i.yielded < c.args.count = omega (arith, turn.0, counted_few ps c.args.past c.args.count) in
    let held : Held c.args.sep c.args.text.now c.args.past (take c.in-Some.i c.loop-i.names) (length c.loop-i.yielded) = rw here.0 c.loop-i.invariant.held in
    found c.args.sep c.args.text.now c.args.past c.args.count _ _ held _ _ here.1 now c.piece_at-name.result c.piece_at-name.ensures c.loop-i.invariant.apart c.if-contains.ensures.cases

pub loop-i-preserved : goal.loop-i-preserved
loop-i-preserved c =
    let ps = pieces c.args.sep c.args.text.now in
    let road = walk_counted ps c.args.past c.args.count {i = c.into_iter-i-iterator.result} (cc) (cc) (cc) (cc) in
    let turn = YieldsList-turn road c.loop-i.yielded _ c.loop-i.yielded_by _ _ _ c.in-Some.is c.next.ensures.steps in
    let here = counted_at ps c.args.past c.args.count _ _ turn in
    let now : length c.loop-i.yielded < c.args.count = omega (arith, turn.0, counted_few ps c.args.past c.args.count) in
    let held : Held c.args.sep c.args.text.now c.args.past (take c.in-Some.i c.loop-i.names) (length c.loop-i.yielded) = rw here.0 c.loop-i.invariant.held in
    let inside : c.in-Some.i < length c.loop-i.names = omega (arith, here.0, now, c.requires.few, c.loop-i.auto.names) in
    let put = take_more_set c.loop-i.names c.in-Some.i c.piece_at-name.result inside in
    let more = length_push c.loop-i.yielded _ in
    record {
      can = search rules;
      ends = search rules;
      held = held_more c.args.sep c.args.text.now c.args.past c.args.count _ _ held _ _ here.1 now c.piece_at-name.result c.piece_at-name.ensures _ _ more (rw (more, sym here.0) put);
      apart = apart_more c.args.sep c.args.text.now c.args.past c.args.count _ _ held _ _ here.1 now c.piece_at-name.result c.piece_at-name.ensures _ more c.loop-i.invariant.apart c.if-contains.ensures.cases;
    }
