use Rattle.std.proofs.Common.{◌≡◌, ◌+◌, length}
use Rattle.sheet.specs.Grid.{words_in}
use Rattle.dual_text.specs.Turned.{turned_flags, Flags}
use Rattle.dual_text.proofs.InPlace.{over}
use Rattle.dual_text.proofs.turn.turn_flags.Given as goal

abbrev pub invariant-loop-word : goal.invariant-loop-word
invariant-loop-word l = record {
  can : (goal.iterator-loop-word).can_next l.word-iterator;
  ends : (goal.iterator-loop-word).is_finite l.word-iterator;
  turned : l.initial.part ≡ l.line → Flags l.line l.other → l.part ≡ over 32 (words_in l.line) (turned_flags l.off l.line l.other) (length l.yielded + 1);
}
