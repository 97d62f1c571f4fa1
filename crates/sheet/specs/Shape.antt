-- What the parts of reading answer; only inner functions cite these. Assumes nothing.
use Rattle.std.specs.Prelude.{◌≡◌, ℕ, ◌+◌, ◌^◌, ◌<◌, ◌≤◌, true, false, cond, List, length, Some, None, Ok, Err, Option, Result}
use Rattle.fault.specs.declared.Fault.{Fault}
use Rattle.fault.specs.declared.Layer.TheVariants.{Lines, Sheet}
use Rattle.fault.specs.declared.Place.TheVariants.{At}
use Rattle.fault.specs.Refusals.{refusal, refused, spot}
use Rattle.pieces.specs.Pieces.{place, piece}
use Rattle.strips.specs.declared.action.Action.{Action}
use Rattle.words.specs.declared.kind.Kind.{Kind}
use Rattle.words.specs.Words.{allowed, is_mark, holds}
use Rattle.sheet.specs.Grid.{line_count, words_in}
use Rattle.sheet.specs.Reading.{Missized, Even, Uneven, Right, IsWrongWord}
use Rattle.sheet.specs.declared.grid.Grid.{Grid}

-- the text with its size, or 3
abbrev pub Measured : List ℕ → Result Grid Fault → Type 0
Measured text (Ok g) = g.text.now ≡ text
Measured text (Err f) = (refusal f ≡ refused 3 Lines (At (spot f))) × Missized text f

-- all lines have as many words as the first, or 4
abbrev pub Evened : List ℕ → Result (Unit {0}) Fault → Type 0
Evened text (Ok _) = Even text (line_count text)
Evened text (Err f) = (refusal f ≡ refused 4 Lines (At (spot f))) × Uneven text f

-- the words of a line up to column c are allowed
abbrev pub GoodWords : List ℕ → Kind → ℕ → Type 0
GoodWords line kind c = (j : ℕ) → j < c → allowed kind j (piece (words_in line) j) ≡ true

-- at a place of a line its first wrong word begins
pub record WrongIn (line : List ℕ) (kind : Kind) (at : ℕ) : Type 0 where
  pub column : ℕ
  pub inside : column < length (words_in line)
  pub wrong : allowed kind column (piece (words_in line) column) ≡ false
  pub first : GoodWords line kind column
  pub here : at ≡ place (words_in line) column
  pub within : at ≤ length line

abbrev pub WrongOf : List ℕ → Kind → Option ℕ → Type 0
WrongOf line kind (Some at) = WrongIn line kind at
WrongOf line kind None = GoodWords line kind (length (words_in line))

-- every word is one that its column allows, or 5
abbrev pub Worded : List ℕ → Result (Unit {0}) Fault → Type 0
Worded text (Ok _) = Right text (line_count text)
Worded text (Err f) = (refusal f ≡ refused 5 Sheet (At (spot f))) × IsWrongWord text f

-- a line of an action: marks for at most 64 facts
abbrev pub GoodMarks : List ℕ → Type 0
GoodMarks line = (length (words_in line) ≤ 65) × ((i : ℕ) → i + 1 < length (words_in line) → is_mark (piece (words_in line) (i + 1)) ≡ true)

-- an action on facts below i, with a mark's letters for fact i
pub record MarkedMore (before : Action) (i : ℕ) (word : List ℕ) (after : Action) : Type 0 where
  pub needs : before.needs < 2 ^ i → after.needs ≡ before.needs + cond (holds 112 word) (2 ^ i) 0
  pub adds : before.adds < 2 ^ i → after.adds ≡ before.adds + cond (holds 97 word) (2 ^ i) 0
  pub deletes : before.deletes < 2 ^ i → after.deletes ≡ before.deletes + cond (holds 100 word) (2 ^ i) 0
