-- What the calls answer that a Rust program links: a number, and what the buffer then holds. Assumes nothing.
use Rattle.std.specs.Prelude.{◌≡◌, ℕ, zero, suc, ◌<◌, ◌≤◌, true, List, length, take, ℤ, pos, negsuc}
use Rattle.fault.specs.declared.Fault.{Fault}
use Rattle.fault.specs.Refusals.{refusal}
use Rattle.space.specs.Meaning.{Meaning}
use Rattle.space.specs.Paths.{Nearest, Hopeless}
use Rattle.space.specs.Rows.{Count, More}
use Rattle.bfs.specs.Tables.{Past}
use Rattle.strips.specs.Tasks.{forward}
use Rattle.strips.specs.Duality.{is_plan}
use Rattle.sheet.specs.Reading.{task_of, Accepted, Refused}
use Rattle.dual_text.specs.Dual.{DualIn, NotWritten}

-- minus a number
abbrev pub minus : ℕ → ℤ
minus zero = pos 0
minus (suc n) = negsuc n

-- the answer of a refusal: minus its number
abbrev pub refusing : Fault → ℤ
refusing f = minus (refusal f).number

-- the answer where there is no plan: minus 100
abbrev pub none : ℤ
none = negsuc 99

-- a fault for which something holds, and the answer of its refusal
pub record Told (P : Fault → Type 0) (r : ℤ) : Type 0 where
  pub fault : Fault
  pub why : P fault
  pub is : r ≡ refusing fault

-- 0 where a text is accepted
pub data Tried (text : List ℕ) (r : ℤ) : Type 0 where
  accepted : Accepted text → r ≡ pos 0 → Tried text r
  refused : Told (Refused text) r → Tried text r

-- at most n nodes are counted
pub record Fits {N : Type 0} (m : Meaning N) (n : ℕ) : Type 0 where
  pub used : ℕ
  pub few : used ≤ n
  pub rows : ℕ → N
  pub count : Count m rows used

module _ (text before after : List ℕ) where
  -- a shortest plan has d actions, and stands at the buffer's front, a byte for each action number; past it the buffer is as it was
  pub record Shown (d : ℕ) : Type 0 where
    pub fits : Fits (forward (task_of text)) 2048
    pub nearest : Nearest (forward (task_of text)) d
    pub room : d ≤ length before
    pub is_a_plan : is_plan (task_of text) (take d after) ≡ true
    pub rest : Past d before after

  -- a shortest plan has more actions than the buffer has places
  pub record TooLong : Type 0 where
    pub d : ℕ
    pub fits : Fits (forward (task_of text)) 2048
    pub nearest : Nearest (forward (task_of text)) d
    pub over : length before < d

  -- Planning forward with 2,048 rows, the buffer's length being the plan places. Where no plan is shown the buffer is as it was.
  pub data Planned (r : ℤ) : Type 0 where
    no_sheet : Told (Refused text) r → after ≡ before → Planned r
    too_few_rows : Accepted text → More (forward (task_of text)) 2048 → after ≡ before → r ≡ minus 15 → Planned r
    too_few_places : Accepted text → TooLong → after ≡ before → r ≡ minus 16 → Planned r
    no_plan : Accepted text → Fits (forward (task_of text)) 2048 → Hopeless (forward (task_of text)) → after ≡ before → r ≡ none → Planned r
    shown : (d : ℕ) → Accepted text → Shown d → r ≡ pos d → Planned r

  -- the dual text at the buffer's front, and its length
  pub data Dualised (r : ℤ) : Type 0 where
    dualised : DualIn text before after → r ≡ pos (length text) → Dualised r
    not_dualised : Told (NotWritten text before) r → after ≡ before → Dualised r
