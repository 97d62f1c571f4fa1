use Rattle.std.proofs.Common.{rules, arith, length, ◌≡◌, ◌==◌, ◌≤◌, ◌^◌}
use Rattle.std.specs.List.{count_by}
use Rattle.std.proofs.lemmas.Grind.{common_steps}
use Rattle.std.proofs.lemmas.Iterator.{YieldsList-from_slice}
use Rattle.std.proofs.lemmas.Iterator.Adapters.{fits_from_length, at_most_from_yields_List}
use Rattle.std.proofs.lemmas.List.Splits.{length-slice_split}
use Rattle.std.proofs.lemmas.List.Sums.{count_by-le-length}
use Rattle.pieces.proofs.separators.Goals as goal

pub sum-requires-clause-fits : goal.sum-requires-clause-fits
sum-requires-clause-fits c =
    let few : length c.args.text.now ≤ 2 ^ 63 = omega (arith, c.iter.ensures.bound) in
    fits_from_length _ _ (2 ^ 63) (2 ^ 64) (at_most_from_yields_List (YieldsList-from_slice c.args.text.now cc) few) c.map.ensures.closure (omega arith) (λ x r q k. search rules)

pub returns-clause-few : goal.returns-clause-few
returns-clause-few c =
    let counted : c.sum.result ≡ count_by (λ b. b == c.args.sep) c.args.text.now = search rules in
    omega (arith, counted, count_by-le-length (λ b. b == c.args.sep) c.args.text.now)

pub returns-clause-is : goal.returns-clause-is
returns-clause-is c = grind (arith, common_steps, length-slice_split)
