-- What the check of a text's bytes answers. Assumes nothing.
use Rattle.std.specs.Prelude.{◌≡◌, ℕ, Bool, true, false, ◌&&◌, List, length, Ok, Err, Result, nat_le}
use Rattle.fault.specs.declared.Fault.{Fault}
use Rattle.fault.specs.declared.Layer.TheVariants.{Bytes}
use Rattle.fault.specs.declared.Place.TheVariants.{At}
use Rattle.fault.specs.Refusals.{refusal, refused, spot}
use Rattle.lines.specs.Grammar.{Lines, WrongAt}

-- 1 to 65,535 bytes
abbrev pub sized : List ℕ → Bool
sized text = nat_le 1 (length text) && nat_le (length text) 65535

-- the refusals of the bytes, in their order
pub data Unlined (text : List ℕ) (f : Fault) : Type 0 where
  wrong_length : refusal f ≡ refused 1 Bytes (At 0) → sized text ≡ false → Unlined text f
  wrong_byte : refusal f ≡ refused 2 Bytes (At (spot f)) → sized text ≡ true → WrongAt text (spot f) → Unlined text f

-- accepted texts are lines of an allowed length
pub record Lined (text : List ℕ) : Type 0 where
  pub size : sized text ≡ true
  pub lines : Lines text

abbrev pub Checked : List ℕ → Result (Unit {0}) Fault → Type 0
Checked text (Ok _) = Lined text
Checked text (Err f) = Unlined text f
