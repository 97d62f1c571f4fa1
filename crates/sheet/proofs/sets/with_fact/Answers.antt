use Rattle.std.proofs.Common.{◌≡◌, ◌+◌, ◌*◌, ◌^◌, arith}
use lib.Bits.{bit_or}
use Rattle.std.proofs.lemmas.Nat.{one_shl, or_comm, or_shifted}
use Rattle.sheet.proofs.sets.with_fact.Goals as goal

pub returns-then-is_in : goal.returns-then-is_in
returns-then-is_in c h =
    let power : 1 * 2 ^ c.args.i ≡ 2 ^ c.args.i = omega arith in
    let or : bit_or (2 ^ c.args.i) c.args.facts ≡ 2 ^ c.args.i + c.args.facts =
    rw power at (or_shifted 1 c.args.i c.args.facts h) in
    rw (one_shl c.args.i 64 c.requires, c.if-is_in.true, or_comm c.args.facts (2 ^ c.args.i), or) (omega arith)
