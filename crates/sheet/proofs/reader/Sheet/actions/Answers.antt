use Rattle.std.proofs.Common.{◌∙◌, map, ap, drop, sym, subst}
use Rattle.std.proofs.Math.Logic.{∥∥₁_elim}
use Rattle.std.proofs.Props.{props}
use Rattle.std.specs.List.{All}
use Rattle.sheet.specs.Reading.{action_in}
use Rattle.sheet.specs.Shape.{GoodMarks}
use Rattle.sheet.proofs.Lefts.{behind, first_left, all_good}
use Rattle.sheet.proofs.reader.Sheet.actions.Goals as goal

pub invariant_of-result : goal.invariant_of-result
invariant_of-result c =
    let text = c.args.self.now.grid.text.now in
    let left = behind _ _ c.nth.result 2 c.nth.ensures.ran ∙ ap (drop 3) c.of-lines.ensures.all in
    let first = first_left _ text _ left c.args.self.now.grid.actions_are in
    record { good = ∥∥₁_elim c.args.self.now.accepted (hlevel props) (λ a. subst (All GoodMarks) (sym first) (all_good text a)) }

pub returns : goal.returns
returns c =
    let text = c.args.self.now.grid.text.now in
    let left = behind _ _ c.nth.result 2 c.nth.ensures.ran ∙ ap (drop 3) c.of-lines.ensures.all in
    ap (map action_in) (first_left _ text _ left c.args.self.now.grid.actions_are)
