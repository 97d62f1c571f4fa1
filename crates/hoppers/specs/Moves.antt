-- What moves of hoppers do, and how they are numbered. Assumes nothing.
use Rattle.std.specs.Prelude.{◌≡◌, ℕ, ◌+◌, ◌-◌, ◌*◌, ◌/◌, ◌%◌, ◌<◌, ◌≤◌, min, Bool, true, false, cond, not, ◌&&◌, ◌⊎◌, List, ◌++◌, Some, None, codes, decimal, Option, ◌==◌, ◌≢◌, nat_lt}
use Rattle.hoppers.specs.declared.levels.Levels.{Levels}
use Rattle.hoppers.specs.declared.moves.Move.{Move}
use Rattle.hoppers.specs.declared.moves.Move.TheVariants.{Fill, Empty, Pour}
use Rattle.hoppers.specs.Levels.{level, put}

-- the levels after a move, or None where it is forbidden
abbrev pub allowed : Bool → Levels → Option Levels
allowed true x = Some x
allowed false x = None

-- what is poured from hopper i into j: all of i, or what j has room for
abbrev pub poured : Levels → Levels → ℕ → ℕ → ℕ
poured caps x i j = min (level x i) (level caps j - level x j)

-- the levels once that is poured
abbrev pub transferred : Levels → Levels → ℕ → ℕ → Levels
transferred caps x i j = put (put x i (level x i - poured caps x i j)) j (level x j + poured caps x i j)

-- hopper i can be poured into j: they are two, i is not empty, and j is not full
abbrev pub pourable : Levels → Levels → ℕ → ℕ → Bool
pourable caps x i j = not (i == j) && (nat_lt 0 (level x i) && nat_lt (level x j) (level caps j))

-- the levels after a move from levels x, where these are the capacities
abbrev pub made : Levels → Levels → Move → Option Levels
made caps x (Fill i) = allowed (nat_lt (level x i) (level caps i)) (put x i (level caps i))
made caps x (Empty i) = allowed (nat_lt 0 (level x i)) (put x i 0)
made caps x (Pour i j) = allowed (pourable caps x i j) (transferred caps x i j)

-- a move is written as a word and its hoppers
abbrev pub move_text : Move → List ℕ
move_text (Fill i) = codes "fill " ++ decimal i
move_text (Empty i) = codes "empty " ++ decimal i
move_text (Pour i j) = codes "pour " ++ (decimal i ++ (codes " " ++ decimal j))

-- the move of a number, where there are h hoppers
abbrev pub move_of : ℕ → ℕ → Option Move
move_of h k =
    cond (nat_lt k h) (Some (Fill k))
    (cond (nat_lt k (2 * h)) (Some (Empty (k - h)))
    (cond (nat_lt k (2 * h + h * h)) (Some (Pour ((k - 2 * h) / h) ((k - 2 * h) % h)))
    None))

-- no level but those of hoppers i and j is changed
abbrev pub Others : Levels → Levels → ℕ → ℕ → Type 0
Others x y i j = (k : ℕ) → (k ≢ i) → (k ≢ j) → level y k ≡ level x k

-- What an allowed move leaves of levels within the capacities, of hoppers that there are. Filling makes a hopper full, and emptying makes
-- it empty. Pouring goes on until the one is empty or the other full, and nothing is lost.
pub record Effects (caps x : Levels) : Type 0 where
  pub fill : (i : ℕ) (y : Levels) → i < 8 → made caps x (Fill i) ≡ Some y → (level y i ≡ level caps i) × Others x y i i
  pub empty : (i : ℕ) (y : Levels) → i < 8 → made caps x (Empty i) ≡ Some y → (level y i ≡ 0) × Others x y i i
  pub pour : (i j : ℕ) (y : Levels) → i < 8 → j < 8 → made caps x (Pour i j) ≡ Some y
      → ((level y i ≡ 0) ⊎ (level y j ≡ level caps j)) × (level y i + level y j ≡ level x i + level x j) × Others x y i j

-- what is forbidden: filling a full one, emptying or pouring an empty one, pouring into a full one, and pouring one into itself
pub record Forbidden (caps x : Levels) : Type 0 where
  pub fill : (i : ℕ) → (made caps x (Fill i) ≡ None → level caps i ≤ level x i) × (level caps i ≤ level x i → made caps x (Fill i) ≡ None)
  pub empty : (i : ℕ) → (made caps x (Empty i) ≡ None → level x i ≡ 0) × (level x i ≡ 0 → made caps x (Empty i) ≡ None)
  pub pour : (i j : ℕ)
      → (made caps x (Pour i j) ≡ None → (i ≡ j) ⊎ ((level x i ≡ 0) ⊎ (level caps j ≤ level x j)))
      × ((i ≡ j) ⊎ ((level x i ≡ 0) ⊎ (level caps j ≤ level x j)) → made caps x (Pour i j) ≡ None)

-- move i fills hopper i, move h + i empties it, move 2h + i·h + j pours i into j, and there are no others
pub record Numbered : Type 0 where
  pub fill : (h i : ℕ) → i < h → move_of h i ≡ Some (Fill i)
  pub empty : (h i : ℕ) → i < h → move_of h (h + i) ≡ Some (Empty i)
  pub pour : (h i j : ℕ) → i < h → j < h → move_of h (2 * h + i * h + j) ≡ Some (Pour i j)
  pub none : (h k : ℕ) → 2 * h + h * h ≤ k → move_of h k ≡ None

abbrev pub EffectsAlways : Type 0
EffectsAlways = (caps x : Levels) → Effects caps x

abbrev pub ForbiddenAlways : Type 0
ForbiddenAlways = (caps x : Levels) → Forbidden caps x
