use Rattle.std.proofs.Common.{◌<◌, map, ap, subst, arith}
use Rattle.std.specs.List.{All}
use Rattle.sheet.specs.Reading.{action_in}
use Rattle.sheet.specs.Shape.{GoodMarks}
use Rattle.sheet.proofs.Lefts.{left_more, good_on}
use Rattle.sheet.proofs.actions.ActionsIterator.next.Goals as goal

pub invariant_of-self : goal.invariant_of-self
invariant_of-self c =
    let some : 0 < c.args.self.now.left = omega (arith, c.if-self-eq0.false) in
    record { good = good_on c.args.self.now.lines c.next.new.self c.next.result c.args.self.now.left some c.args.self.now.good c.next.ensures.steps }

pub returns-clause-steps : goal.returns-clause-steps
returns-clause-steps c =
    let some : 0 < c.args.self.now.left = omega (arith, c.if-self-eq0.false) in
    let more = left_more c.args.self.now.lines c.next.new.self c.in_ok-line.line c.args.self.now.left some c.in_ok-line.ensures.steps in
    let good = subst (All GoodMarks) more c.args.self.now.good 0 c.in_ok-line.line.bytes.now (omega arith) in
    rw (c.action_in.ensures good) (ap (map action_in) more)
