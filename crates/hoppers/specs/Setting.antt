-- Which hoppers can be set up, and the space that they are. Assumes nothing.
use Rattle.std.specs.Prelude.{◌≡◌, ℕ, ◌+◌, ◌*◌, ◌<◌, ◌≤◌, Bool, true, false, ◌&&◌, List, length, Some, None, Ok, Err, Option, Result, ◌==◌, slice_index}
use Rattle.fault.specs.declared.Fault.{Fault}
use Rattle.fault.specs.declared.Layer.TheVariants.{Search}
use Rattle.fault.specs.declared.Place.TheVariants.{At}
use Rattle.fault.specs.Refusals.{refusal, refused}
use Rattle.space.specs.Meaning.{Meaning}
use Rattle.hoppers.specs.declared.levels.Levels.{Levels}
use Rattle.hoppers.specs.declared.moves.Move.{Move}
use Rattle.hoppers.specs.declared.setting.Hoppers.{Hoppers}
use Rattle.hoppers.specs.Levels.{level, padded, within}
use Rattle.hoppers.specs.Moves.{made, move_of}

-- the first n capacities are from 1 to 200, and the levels within them
abbrev pub GoodLevels : List ℕ → List ℕ → ℕ → Type 0
GoodLevels caps levels n = (i : ℕ) → i < n → (1 ≤ slice_index caps i) × (slice_index caps i ≤ 200) × (slice_index levels i ≤ slice_index caps i)

-- the count, the capacities, the levels and the hopper in which a level is wanted are in range
pub record InRange (caps levels : List ℕ) (hopper : ℕ) : Type 0 where
  pub some : 1 ≤ length caps
  pub few : length caps ≤ 8
  pub same : length levels ≡ length caps
  pub good : GoodLevels caps levels (length caps)
  pub there : hopper < length caps

-- hoppers as they were asked for
pub record AsAsked (caps levels : List ℕ) (i v : ℕ) (h : Hoppers) : Type 0 where
  pub count : h.count ≡ length caps
  pub capacities : h.capacities ≡ padded caps
  pub start : h.start ≡ padded levels
  pub hopper : h.hopper ≡ i
  pub wanted : h.wanted ≡ v

-- set up exactly where all is in range, and else refused
abbrev pub SetUp : (caps levels : List ℕ) (hopper wanted : ℕ) → Result Hoppers Fault → Type 0
SetUp caps levels hopper wanted (Ok h) = InRange caps levels hopper × AsAsked caps levels hopper wanted h
SetUp caps levels hopper wanted (Err f) = (refusal f ≡ refused 17 Search (At 0)) × (InRange caps levels hopper → ⊥)

-- the next node by a move, if there is such a move
abbrev pub after : Levels → Levels → Option Move → Option Levels
after caps x (Some k) = made caps x k
after caps x None = None

-- every move from what is not a node is forbidden
abbrev pub from : Bool → Option Levels → Option Levels
from true r = r
from false r = None

-- A node is the levels, each within its hopper's capacity; the start is the levels given; a target has the wanted level in the wanted hopper.
abbrev pub hoppers : Hoppers → Meaning Levels
hoppers s = record {
  node = λ x. within x s.capacities;
  start = s.start;
  count = 2 * s.count + s.count * s.count;
  target = λ x. within x s.capacities && (level x s.hopper == s.wanted);
  next = λ x k. from (within x s.capacities) (after s.capacities x (move_of s.count k));
}

-- the levels of the hoppers that there are lie within their capacities, and the others are 0
pub record WithinCapacities (caps : List ℕ) (x : Levels) : Type 0 where
  pub each : (i : ℕ) → i < length caps → level x i ≤ slice_index caps i
  pub rest : (i : ℕ) → length caps ≤ i → level x i ≡ 0

-- a node of hoppers that were set up is just such levels
abbrev pub NodesAsTold : Type 0
NodesAsTold =
    (caps levels : List ℕ) (i v : ℕ) (h : Hoppers) (x : Levels) → SetUp caps levels i v (Ok h)
    → ((hoppers h).node x ≡ true → WithinCapacities caps x) × (WithinCapacities caps x → (hoppers h).node x ≡ true)
