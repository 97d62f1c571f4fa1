-- What the sheet reader answers. Assumes nothing.
use Rattle.std.specs.Prelude.{◌≡◌, ℕ, ◌<◌, ◌≤◌, List, Some, None, Ok, Err, Option, Result}
use Rattle.fault.specs.declared.Fault.{Fault}
use Rattle.sheet.specs.Reading.{task_of, Accepted, Refused}
use Rattle.strips.specs.declared.task.Task.{Task}
use Rattle.strips.specs.Views.{task_in}
use Rattle.sheet.specs.declared.reader.Name.{Name}
use Rattle.sheet.specs.declared.reader.Sheet.{Sheet}

-- the text that a reader is over
abbrev pub text_in : Sheet → List ℕ
text_in s = s.grid.text.now

-- the reader is over this text, which is accepted
pub record OfText (text : List ℕ) (s : Sheet) : Type 0 where
  pub same : text_in s ≡ text
  pub accepted : Accepted text

-- a reader over the text where it is accepted, and else the refusal
abbrev pub SheetRead : List ℕ → Result Sheet Fault → Type 0
SheetRead text (Ok s) = OfText text s
SheetRead text (Err f) = Refused text f

-- of n names the one with this number: a part of the text, and where it begins
abbrev pub NameOf : (n : ℕ) → (name : List ℕ) → (start k : ℕ) → Option Name → Type 0
NameOf n name start k (Some p) = (k < n) × (p.bytes.now ≡ name) × (p.offset ≡ start)
NameOf n name start k None = n ≤ k

-- the task where the text is accepted, and else the refusal
abbrev pub TaskRead : List ℕ → Result Task Fault → Type 0
TaskRead text (Ok t) = Accepted text × (task_in t ≡ task_of text)
TaskRead text (Err f) = Refused text f
