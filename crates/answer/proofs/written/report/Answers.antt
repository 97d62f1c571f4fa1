use Rattle.std.proofs.Common.{vec_items}
use Rattle.std.proofs.lemmas.Result.{IfOk-weaker}
use Rattle.bfs.specs.Answers.{buffers}
use Rattle.answer.specs.Reports.{fresh, Reported}
use Rattle.answer.proofs.Showing.{planned_nameable}
use Rattle.answer.proofs.written.report.Goals as goal

pub returns : goal.returns
returns c =
    let last = c.plan_text-answer.new in
    let after = buffers last.nodes last.links last.plan in
    let told = c.plan_text-answer.ensures in
    let nameable = planned_nameable c.args.text.now (fresh 2048) after c.plan_text-answer.result told in
    IfOk-weaker _ _ (λ v. Reported c.args.text.now (vec_items v)) (λ v is. record { answer = c.plan_text-answer.result; after = after; planned = told; is = is nameable }) c.answer_text.ensures
