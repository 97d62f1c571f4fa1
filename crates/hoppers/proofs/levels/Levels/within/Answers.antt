use Rattle.std.proofs.Common.{rules, tests, ◌<◌, ◌≤◌}
use Rattle.std.proofs.lemmas.Iterator.{YieldsList-from_slice, YieldsList-from_zip, cases_from_all}
use Rattle.hoppers.specs.Levels.{listed}
use Rattle.hoppers.proofs.Zips.{none_above_from_all}
use Rattle.hoppers.proofs.levels.Levels.within.Goals as goal

pub returns : goal.returns
returns c =
    none_above_from_all (listed c.args.self) (listed c.args.other) c.all.result
    (cases_from_all c.all.new.self _ _ (λ p. p.0 ≤ p.1) (λ p. p.1 < p.0) c.all.ensures.ran
    (YieldsList-from_zip (YieldsList-from_slice (listed c.args.self) cc) (YieldsList-from_slice (listed c.args.other) cc))
    (λ x q k. search (rules, tests)) (λ x q k. search (rules, tests)))
