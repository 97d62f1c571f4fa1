use Rattle.std.proofs.Common.{◌≡◌, ◌+◌, ◌-◌, length, drop, sym, ap, ◌∙◌, arith}
use Rattle.std.proofs.lemmas.List.{length-drop, take_all}
use Rattle.pieces.specs.Pieces.{pieces, piece}
use Rattle.pieces.proofs.Splits.{ends_at, ends_past, first_end}
use Rattle.pieces.proofs.piece_end.Goals as goal

pub returns-in-Some : goal.returns-in-Some
returns-in-Some c =
    let rest = c.in-Some.rest.now in
    let long = length-drop c.args.at c.args.text.now in
    let same : rest ≡ drop c.args.at c.args.text.now = c.in-Some.ensures.lookup.0.2 ∙ take_all (length c.args.text.now - c.args.at) (drop c.args.at c.args.text.now) (omega (arith, long)) in
    ends_at _ _ _ _ (omega (arith, c.in-Some.ensures.lookup.0.0))
    (ap (λ n. c.args.at + n) (sym (first_end c.args.sep rest _ c.first_len.ensures.within c.first_len.ensures.before c.first_len.ensures.found) ∙ ap (λ z. length (piece (pieces c.args.sep z) 0)) same))

pub returns-in-None : goal.returns-in-None
returns-in-None c = ends_past _ _ _ (omega (arith, c.in-None.ensures.lookup))
