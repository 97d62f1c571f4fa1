-- What follows for every text from the definitions of reading. Assumes nothing.
use Rattle.std.specs.Prelude.{◌≡◌, ℕ, ◌<◌, true, List, length, take, drop}
use Rattle.fault.specs.declared.Fault.{Fault}
use Rattle.strips.specs.Tasks.{fine}
use Rattle.sheet.specs.Grid.{lines, line_at, line_start, word_count, word_at, word_start}
use Rattle.sheet.specs.Reading.{task_of, Accepted, Refused}

-- no text is both accepted and refused, and no text is refused in two ways
pub record ReadOnce (text : List ℕ) : Type 0 where
  pub not_both : Accepted text → (f : Fault) → Refused text f → ⊥
  pub one_refusal : (f g : Fault) → Refused text f → Refused text g → f ≡ g

abbrev pub AlwaysOnce : Type 0
AlwaysOnce = (text : List ℕ) → ReadOnce text

-- what is read from an accepted text is a task
abbrev pub AlwaysTask : Type 0
AlwaysTask = (text : List ℕ) → Accepted text → fine (task_of text) ≡ true

-- a word stands in the text from the place where it begins, and so does a line
pub record Placed (text : List ℕ) : Type 0 where
  pub line : (r : ℕ) → r < length (lines text) → take (length (line_at text r)) (drop (line_start text r) text) ≡ line_at text r
  pub word : (r c : ℕ) → r < length (lines text) → c < word_count text r → take (length (word_at text r c)) (drop (word_start text r c) text) ≡ word_at text r c

abbrev pub AlwaysPlaced : Type 0
AlwaysPlaced = (text : List ℕ) → Placed text
