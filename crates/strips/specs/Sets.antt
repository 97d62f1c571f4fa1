-- Sets of facts as numbers: fact i is in a set where the binary digit i is 1. Assumes nothing.
use Rattle.std.specs.Prelude.{◌≡◌, ℕ, ◌-◌, ◌/◌, ◌%◌, ◌^◌, ◌≤◌, Bool, Decides, true, false, not, ◌&&◌, ◌||◌, ◌==◌, bit_and, bit_or, nat_lt}

-- whether fact i is in w
abbrev pub has : ℕ → ℕ → Bool
has w i = w / 2 ^ i % 2 == 1

-- all of n facts
abbrev pub full : ℕ → ℕ
full n = 2 ^ n - 1

-- the facts of a that are not in b
unfoldable pub without : ℕ → ℕ → ℕ
without a b = a - bit_and a b

-- the facts below n that are not in w
abbrev pub complement : ℕ → ℕ → ℕ
complement n w = without (full n) w

-- every fact of a is in b
unfoldable pub within : ℕ → ℕ → Bool
within a b = bit_and a b == a

-- no fact is both in a and in b
abbrev pub disjoint : ℕ → ℕ → Bool
disjoint a b = bit_and a b == 0

-- every fact of a is in b, one by one
abbrev pub Within : ℕ → ℕ → Type 0
Within a b = (i : ℕ) → has a i ≡ true → has b i ≡ true

-- What the words above mean, by membership of facts: for all sets a and b, every fact i and every count n.
pub record ByMembership : Type 0 where
  pub joined : (a b i : ℕ) → has (bit_or a b) i ≡ (has a i || has b i)
  pub removed : (a b i : ℕ) → has (without a b) i ≡ (has a i && not (has b i))
  pub all : (n i : ℕ) → has (full n) i ≡ nat_lt i n
  pub opposite : (n w i : ℕ) → has (complement n w) i ≡ (nat_lt i n && not (has w i))
  pub inside : (a b : ℕ) → Decides (within a b) (Within a b)
  pub apart : (a b : ℕ) → Decides (disjoint a b) ((i : ℕ) → (has a i && has b i) ≡ false)
  -- a set of n facts is a number below 2 ^ n: it has no fact at or past n
  pub few : (n w : ℕ) → Decides (nat_lt w (2 ^ n)) ((i : ℕ) → n ≤ i → has w i ≡ false)
  -- sets with the same facts are the same
  pub same : (a b : ℕ) → ((i : ℕ) → has a i ≡ has b i) → a ≡ b
