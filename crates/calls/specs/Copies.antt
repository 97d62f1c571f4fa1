-- What the parts of planning into a buffer of bytes answer; only inner functions cite these. Assumes nothing.
use Rattle.std.specs.Prelude.{◌≡◌, ℕ, ◌<◌, ◌≤◌, List, length, take, ℤ, pos, Option, Some, None, Ok, Err, Result, slice_index}
use Rattle.fault.specs.declared.Fault.{Fault}
use Rattle.fault.specs.declared.Fault.TheVariants.{TooFewPlaces}
use Rattle.bfs.specs.Tables.{Past}
use Rattle.calls.specs.Calls.{refusing, none}

-- each number is a byte
abbrev pub InBytes : List ℕ → Type 0
InBytes ks = (i : ℕ) → i < length ks → slice_index ks i < 256

-- numbers stand at the front of a buffer, a byte for each, and past them it is as it was; or it has no room for them, and is as it was
abbrev pub Copied : (ks before after : List ℕ) → Result (Unit {0}) Fault → Type 0
Copied ks before after (Ok _) = (length ks ≤ length before) × (take (length ks) after ≡ ks) × Past (length ks) before after
Copied ks before after (Err f) = (f ≡ TooFewPlaces) × (length before < length ks) × (after ≡ before)

-- what planning comes to, as one number
abbrev pub answer_in : Result (Option ℕ) Fault → ℤ
answer_in (Ok (Some d)) = pos d
answer_in (Ok None) = none
answer_in (Err f) = refusing f
