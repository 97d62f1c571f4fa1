-- Every refusal with its number, its layer and its place. Assumes nothing.
use Rattle.std.specs.Prelude.{◌≡◌, ℕ, List, ◌++◌, codes, decimal}
use Rattle.fault.specs.declared.Layer.{Layer}
use Rattle.fault.specs.declared.Layer.TheVariants.{Bytes, Lines, Sheet, Planner, Search, Checker}
use Rattle.fault.specs.declared.Place.{Place}
use Rattle.fault.specs.declared.Place.TheVariants.{At, RowMove}
use Rattle.fault.specs.declared.Fault.{Fault}
use Rattle.fault.specs.declared.Fault.TheVariants.{TextLength, NotLines, SheetSize, WordCount, WrongWord, RepeatedName, NoSheet, RunOpen, WrongToken, NoSuchFact, NotPlan, LongPlan, NoSuchDirection, ShortBuffer, TooFewRows, TooFewPlaces, BadHoppers, NotNode, NoStart, TargetRow, NextMissing}

-- what a refusal says: its number, the layer that refuses, and the place it names
pub record Refusal : Type 0 where
  pub number : ℕ
  pub layer : Layer
  pub place : Place

abbrev pub refused : ℕ → Layer → Place → Refusal
refused n l p = record { number = n; layer = l; place = p }

abbrev pub refusal : Fault → Refusal
refusal TextLength = refused 1 Bytes (At 0)
refusal (NotLines p) = refused 2 Bytes (At p)
refusal (SheetSize p) = refused 3 Lines (At p)
refusal (WordCount p) = refused 4 Lines (At p)
refusal (WrongWord p) = refused 5 Sheet (At p)
refusal (RepeatedName p) = refused 6 Sheet (At p)
refusal NoSheet = refused 7 Planner (At 0)
refusal RunOpen = refused 8 Planner (At 0)
refusal WrongToken = refused 9 Planner (At 0)
refusal (NoSuchFact p) = refused 10 Planner (At p)
refusal (NotPlan p) = refused 11 Planner (At p)
refusal LongPlan = refused 12 Planner (At 0)
refusal NoSuchDirection = refused 13 Planner (At 0)
refusal ShortBuffer = refused 14 Bytes (At 0)
refusal TooFewRows = refused 15 Search (At 0)
refusal TooFewPlaces = refused 16 Search (At 0)
refusal BadHoppers = refused 17 Search (At 0)
refusal (NotNode p) = refused 18 Checker (At p)
refusal NoStart = refused 19 Checker (At 0)
refusal (TargetRow p) = refused 20 Checker (At p)
refusal (NextMissing p k) = refused 21 Checker (RowMove p k)

-- the number that a refusal's place names: an offset, an index or a row
abbrev pub spot_of : Place → ℕ
spot_of (At p) = p
spot_of (RowMove p k) = p

abbrev pub spot : Fault → ℕ
spot f = spot_of (refusal f).place

-- a place is written as its numbers, and a fault as its number and its place
abbrev pub place_text : Place → List ℕ
place_text (At p) = decimal p
place_text (RowMove p k) = decimal p ++ (codes " " ++ decimal k)

abbrev pub fault_text : Fault → List ℕ
fault_text f = decimal (refusal f).number ++ (codes " " ++ place_text (refusal f).place)

-- two faults that say the same are the same
abbrev pub ToldApart : Type 0
ToldApart = (f g : Fault) → refusal f ≡ refusal g → f ≡ g
