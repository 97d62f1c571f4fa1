use Rattle.std.proofs.Common.{◌≡◌, length, ap, arith, rules, ◌∙◌}
use Rattle.std.proofs.Math.Logic.{∥∥₁_elim}
use Rattle.std.proofs.Props.{props}
use Rattle.std.proofs.lemmas.List.{length-append, append-nil}
use Rattle.sheet.specs.Reading.{task_of}
use Rattle.sheet.specs.Actions.{actions_left}
use Rattle.sheet.specs.Sheets.{text_in}
use Rattle.sheet.proofs.Fineness.{few_actions, task_made}
use Rattle.sheet.proofs.reader.Sheet.task.Goals as goal

pub push-requires : goal.push-requires
push-requires c =
    let few = ∥∥₁_elim c.args.self.now.accepted (hlevel props) (few_actions (text_in c.args.self.now)) in
    let all = ap length c.loop-action.invariant.held in
    let next = ap length c.in-Some.ensures.steps in
    (omega arith, omega (arith, few, all, next, length-append c.loop-action.actions.items (actions_left c.loop-action.action-iterator)))

pub unwrap-requires : goal.unwrap-requires
unwrap-requires c =
    let facts : c.unwrap-facts.result ≡ (task_of (text_in c.args.self.now)).facts = search rules in
    let actions : c.deref.result.now ≡ (task_of (text_in c.args.self.now)).actions =
    c.deref.ensures.0 ∙ (rw (c.in-None.ensures.steps.0, append-nil) at c.loop-action.invariant.held) in
    ∥∥₁_elim c.args.self.now.accepted (hlevel props) (λ a. task_made (text_in c.args.self.now) _ _ _ _ c.new.result a facts actions c.state.ensures c.goal.ensures c.new.ensures)
