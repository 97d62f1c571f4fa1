use Rattle.std.proofs.Common.{◌≡◌, cond, rules}
use Rattle.std.proofs.lemmas.Slice.Eq.{slice_eq-Decides}
use Rattle.dual_text.proofs.Writing.{flag_turned}
use Rattle.dual_text.proofs.turn.turn_flag.Goals as goal
use Rattle.dual_text.proofs.turn.turn_flag.Goals.{then-eq, else-eq}
use Rattle.std.proofs.lemmas.Bool.Decides.{Decides-eqb}

pub returns : goal.returns
returns c =
    let byte : c.if-eq.fill ≡ cond c.eq.result c.args.off 49 =
    elim c.if-eq.branch [ then-eq w ↦ rw w.if-eq.true w.fill-is | else-eq w ↦ rw w.if-eq.false w.fill-is ] in
    let same = rw c.as_slice.ensures at (slice_eq-Decides Decides-eqb c.args.other.now c.as_slice.result.now c.eq.result c.eq.ensures) in
    record {
      turned = flag_turned c.args.off _ c.args.other.now c.args.word.now _ _ same byte
          (c.fill.ensures.after (λ y e. e));
      size = search rules;
    }
