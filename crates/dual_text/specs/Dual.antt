-- The dual of a sheet, as text. Assumes nothing.
use Rattle.std.specs.Prelude.{◌≡◌, ℕ, ◌<◌, ◌≤◌, List, ◌++◌, length, drop, Ok, Err, Result}
use Rattle.fault.specs.declared.Fault.{Fault}
use Rattle.fault.specs.declared.Layer.TheVariants.{Bytes}
use Rattle.fault.specs.declared.Place.TheVariants.{At}
use Rattle.fault.specs.Refusals.{refusal, refused}
use Rattle.strips.specs.Duality.{dual}
use Rattle.sheet.specs.Reading.{task_of, Accepted, Refused}
use Rattle.dual_text.specs.Written.{fact_names, action_names, written}

-- the text of the dual task, with the same names
abbrev pub dual_of_text : List ℕ → List ℕ
dual_of_text text = written (fact_names text) (action_names text) (dual (task_of text))

-- a text that is no sheet is refused as in reading, and then a buffer that is shorter than the text
pub data NotWritten (text before : List ℕ) (f : Fault) : Type 0 where
  no_sheet : Refused text f → NotWritten text before f
  short : refusal f ≡ refused 14 Bytes (At 0) → Accepted text → length before < length text → NotWritten text before f

-- the dual text stands at the front of the buffer
pub record DualIn (text before after : List ℕ) : Type 0 where
  pub accepted : Accepted text
  pub room : length text ≤ length before
  pub front : after ≡ dual_of_text text ++ drop (length text) before

-- the answer is the text's length, and past it the buffer is as before; after a refusal all of it is
abbrev pub DualWritten : (text before after : List ℕ) → Result ℕ Fault → Type 0
DualWritten text before after (Ok n) = (n ≡ length text) × DualIn text before after
DualWritten text before after (Err f) = (after ≡ before) × NotWritten text before f

-- the dual text is as long as the text
abbrev pub AsLong : Type 0
AsLong = (text : List ℕ) → Accepted text → length (dual_of_text text) ≡ length text

-- it is a sheet, and what is read from it is the dual of what is read from the text
pub record ReadsDual (text : List ℕ) : Type 0 where
  pub accepted : Accepted (dual_of_text text)
  pub task : task_of (dual_of_text text) ≡ dual (task_of text)
  pub the_fact_names : fact_names (dual_of_text text) ≡ fact_names text
  pub the_action_names : action_names (dual_of_text text) ≡ action_names text

abbrev pub DualRead : Type 0
DualRead = (text : List ℕ) → Accepted text → ReadsDual text

-- dualising twice gives the first text
abbrev pub Twice : Type 0
Twice = (text : List ℕ) → Accepted text → dual_of_text (dual_of_text text) ≡ text
