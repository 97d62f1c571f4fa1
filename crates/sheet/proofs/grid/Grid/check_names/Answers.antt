use Rattle.std.proofs.lemmas.Result.{err_from_is_err_and}
use Rattle.sheet.specs.Grid.{fact_count, action_count}
use Rattle.sheet.proofs.Repeats.{facts_apart, facts_told, told}
use Rattle.sheet.proofs.grid.Grid.check_names.Goals as goal

pub returns-in_err-check_apart : goal.returns-in_err-check_apart
returns-in_err-check_apart c =
    let grid = c.args.self.now in
    let text = grid.text.now in
    let found = rw grid.facts_are at c.in_err-check_apart.ensures in
    let p = err_from_is_err_and c.from_residual.result c.from_residual.ensures.1 in
    rw (p.1, p.2) (facts_told text (fact_count text) (action_count text) _ _ c.piece_at-first.ensures found)

pub returns : goal.returns
returns c =
    let grid = c.args.self.now in
    let text = grid.text.now in
    let apart = facts_apart text _ (fact_count text) c.piece_at-first.ensures (rw grid.facts_are at c.in_ok-check_apart.ensures) in
    told text apart _ (rw grid.actions_are at c.check_apart-2.ensures)
