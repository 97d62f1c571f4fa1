use Rattle.std.proofs.Common.{◌≡◌, ℕ, ◌-◌, List, length, take, drop, sym, ap, ◌∙◌, arith}
use Rattle.std.proofs.lemmas.List.{drop_all}
use Rattle.pieces.specs.Pieces.{pieces, piece}
use Rattle.pieces.proofs.Splits.{from_piece, first_piece}
use Rattle.pieces.proofs.piece_from.Goals as goal

pub returns-then-at-text : goal.returns-then-at-text
returns-then-at-text c = record {
  from = sym (ap (λ (z : List ℕ). piece (pieces c.args.sep z) 0) (drop_all c.args.at c.args.text.now (omega arith)));
  is = λ k h e. absurd (omega (arith, (from_piece c.args.sep c.args.text.now k h).inside));
}

pub returns : goal.returns
returns c =
    let rest = drop c.args.at c.args.text.now in
    let long : c.piece_end.result - c.args.at ≡ length (piece (pieces c.args.sep rest) 0) = omega (arith, c.piece_end.ensures.exact (omega arith)) in
    record {
      from = ap (λ (n : ℕ). take n rest) long ∙ first_piece c.args.sep rest;
      is = c.piece_end.ensures.is;
    }
