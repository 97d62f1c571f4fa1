use Rattle.std.proofs.Common.{◌<◌, length, sym, ap, ◌∙◌, arith, rules}
use Rattle.std.proofs.lemmas.List.{length_push}
use Rattle.std.proofs.lemmas.Iterator.Consumers.{YieldsList-turn, YieldsList-end}
use Rattle.pieces.proofs.Walk.{here_numbered, walk_numbered, walked_numbered}
use Rattle.sheet.specs.Grid.{lines, line_count, line_at}
use Rattle.lines.specs.Grammar.{joined}
use Rattle.dual_text.specs.Turned.{turned_row}
use Rattle.dual_text.proofs.InPlace.{over, over_more}
use Rattle.dual_text.proofs.Joining.{joined_pieces}
use Rattle.dual_text.proofs.TurnedLines.{turned_lines, turned_line, lines_alike, lines_over}
use Rattle.dual_text.proofs.turn.turn_text.Goals as goal

pub loop-row-init : goal.loop-row-init
loop-row-init c = record { can = search rules; ends = search rules; turned = λ a. c.requires ∙ sym (joined_pieces 10 c.args.text.now) }

pub loop-row-preserved : goal.loop-row-preserved
loop-row-preserved c =
    let text = c.args.text.now in
    let k = length c.loop-row.yielded in
    let walk = walk_numbered c.separators.result 10 text {s = c.into_iter-row-iterator.result} (cc) (cc) (cc) in
    let h = here_numbered (lines text) c.separators.result
    (YieldsList-turn walk c.loop-row.yielded _ c.loop-row.yielded_by _ c.next.new.self (c.in-Some.row, c.in-Some.line) c.in-Some.is c.next.ensures.steps) in
    let row : k < line_count text = omega (arith, h.1, c.separators.ensures.is) in
    record {
      can = search rules;
      ends = search rules;
      turned = λ a.
          over_more 10 (lines text) (turned_lines text) k _ _ _ _ (lines_alike text a) h.2.inside (c.range.ensures.from ∙ h.2.begins) (omega (arith, h.2.next)) (c.loop-row.invariant.turned a)
          (λ e.
          c.turn_line.ensures.turned a (omega (arith, h.0, row)) (h.2.is ∙ ap (line_at text) (sym h.0)) (e ∙ sym h.2.is)
          ∙ ap (λ r. joined 32 (turned_row text r)) h.0 ∙ sym (turned_line text k row))
          ∙ ap (over 10 (lines text) (turned_lines text)) (omega (arith, length_push c.loop-row.yielded (c.in-Some.row, c.in-Some.line)));
    }

pub returns-clause-turned : goal.returns-clause-turned
returns-clause-turned c a =
    let text = c.args.text.now in
    let walk = walk_numbered c.separators.result 10 text {s = c.into_iter-row-iterator.result} (cc) (cc) (cc) in
    let all = YieldsList-end walk c.loop-row.yielded _ c.loop-row.yielded_by _ c.next.new.self c.in-None.is c.next.ensures.steps in
    let n = walked_numbered (lines text) c.separators.result (omega (arith, c.separators.ensures.is)) all.1 in
    c.loop-row.invariant.turned a ∙ ap (over 10 (lines text) (turned_lines text)) (omega (arith, n, c.separators.ensures.is)) ∙ lines_over text a
