use Rattle.std.proofs.lemmas.Result.{err_from_is_err_and}
use Rattle.bfs.specs.Answers.{buffers}
use Rattle.calls.proofs.Answering.{refused_told, moves_are_bytes, copied_told}
use Rattle.calls.proofs.planning.plan_into.Goals as goal

pub returns-in_err-length-clause-planned : goal.returns-in_err-length-clause-planned
returns-in_err-length-clause-planned c =
    let last = c.plan_text.new in
    let p = err_from_is_err_and c.from_residual.result c.from_residual.ensures.1 in
    rw (p.1, p.2) (refused_told c.args.text.now c.args.plan.now (buffers last.nodes last.links last.plan) _ c.in_err-length.ensures)

pub copy_numbers-requires : goal.copy_numbers-requires
copy_numbers-requires c =
    let last = c.plan_text.new in
    moves_are_bytes c.args.text.now c.args.plan.now (buffers last.nodes last.links last.plan) (c.in-Plan.length, c.in-Plan.field-0-1) (rw c.in-Plan.is at c.in_ok-length.ensures)

pub returns-in_ok-copy_numbers-in-Plan-clause-planned : goal.returns-in_ok-copy_numbers-in-Plan-clause-planned
returns-in_ok-copy_numbers-in-Plan-clause-planned c =
    let last = c.plan_text.new in
    let copied = c.in_ok-copy_numbers-in-Plan.ensures in
    copied_told c.args.text.now c.args.plan.now (buffers last.nodes last.links last.plan) (c.in-Plan.length, c.in-Plan.field-0-1) (rw c.in-Plan.is at c.in_ok-length.ensures)
    c.copy_numbers.new.out copied.0 copied.1 copied.2
