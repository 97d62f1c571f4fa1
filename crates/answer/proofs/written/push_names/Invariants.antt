use Rattle.sheet.specs.Sheets.{text_in}
use Rattle.std.proofs.Common.{◌≡◌, ◌++◌, take, vec_items}
use Rattle.answer.specs.Reports.{names_text, InRange}
use Rattle.answer.proofs.written.push_names.Given as goal

abbrev pub invariant-loop-k : goal.invariant-loop-k
invariant-loop-k l = InRange (text_in l.sheet) l.plan → vec_items l.out ≡ vec_items l.initial.out ++ names_text (text_in l.sheet) (take l.k-index l.plan)
