-- What the parts of the search for repeated names answer; only functions of this crate cite these. Assumes nothing.
use Rattle.std.specs.Prelude.{◌≡◌, ℕ, ◌+◌, List, Ok, Err, Result}
use Rattle.fault.specs.declared.Fault.{Fault}
use Rattle.fault.specs.declared.Fault.TheVariants.{RepeatedName}
use Rattle.fault.specs.declared.Layer.TheVariants.{Sheet}
use Rattle.fault.specs.declared.Place.TheVariants.{At}
use Rattle.fault.specs.Refusals.{refusal, refused, spot}
use Rattle.pieces.specs.Pieces.{pieces, place, piece}
use Rattle.sheet.specs.Grid.{words_in, fact_count, fact_name, action_count, action_name}
use Rattle.sheet.specs.Reading.{Apart, Repeated, AgainIn}

-- the name of a piece: the first word of piece i past the first ones
abbrev pub name_of_piece : (sep : ℕ) → (text : List ℕ) → (past i : ℕ) → List ℕ
name_of_piece sep text past i = piece (words_in (piece (pieces sep text) (i + past))) 0

-- the names of some pieces are different; or the first that an earlier one has is refused, at the place where its piece begins
abbrev pub FirstRepeat : (sep : ℕ) → (text : List ℕ) → (past count : ℕ) → Result (Unit {0}) Fault → Type 0
FirstRepeat sep text past count (Ok _) = Apart (name_of_piece sep text past) count
FirstRepeat sep text past count (Err f) = (i : ℕ) × Repeated (name_of_piece sep text past) count i × (f ≡ RepeatedName (place (pieces sep text) (i + past)))

-- all names are different, or 6
abbrev pub ToldApart : List ℕ → Result (Unit {0}) Fault → Type 0
ToldApart text (Ok _) = Apart (fact_name text) (fact_count text) × Apart (action_name text) (action_count text)
ToldApart text (Err f) = (refusal f ≡ refused 6 Sheet (At (spot f))) × AgainIn text (fact_count text) (action_count text) f
