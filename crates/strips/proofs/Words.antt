-- Words by their digits.
use Rattle.std.proofs.Common.{MatchOption, ◌≡◌, ℕ, ◌+◌, ◌-◌, ◌/◌, ◌%◌, ◌^◌, ◌<◌, ◌≤◌, Bool, true, false, not, ◌&&◌, ◌||◌, eqb, leb, ltb, min, max, refl, sym, ap, ◌∙◌, subst, mod-lt, arith, pow_pos}
use lib.Bits.{bit_and, bit_or, bit_xor, xor_add_and}
use mir.Syntax.{w64}
use Rattle.std.specs.Bool.{Decides, then_some}
use Rattle.std.specs.Int.{trailing_zeros}
use Rattle.std.proofs.lemmas.Nat.{and-not, and_comm, and_mask}
use Rattle.std.proofs.lemmas.Nat.Bits.{bit_at_and, bit_at_or, bit_at_xor, bit_at-lt, bit_at_above, bit_at_ones, bit_at_ones_above, bit_at-zero, bit_at-trailing_zeros, ones_shr, same_from_bits}
use Rattle.std.proofs.lemmas.Bool.{eqb-true}
use Rattle.std.proofs.lemmas.Bool.Decides.{nat_tests, Decides-at, Decides-like, Decides-ltb}
use Rattle.strips.specs.Sets.{has, full, without, within, disjoint, Within, ByMembership}

-- the bits of both words, of either, and of one alone
min_one : (x y : ℕ) → x < 2 → y < 2 → eqb (min x y) 1 ≡ (eqb x 1 && eqb y 1)
min_one x y a b = grind (arith, nat_tests)

max_one : (x y : ℕ) → x < 2 → y < 2 → eqb (max x y) 1 ≡ (eqb x 1 || eqb y 1)
max_one x y a b = grind (arith, nat_tests)

odd_one : (x y : ℕ) → x < 2 → y < 2 → eqb ((x + y) % 2) 1 ≡ ((eqb x 1 && not (eqb y 1)) || (not (eqb x 1) && eqb y 1))
odd_one x y a b = grind (arith, nat_tests)

pub has_and : (a b i : ℕ) → has (bit_and a b) i ≡ (has a i && has b i)
has_and a b i = ap (λ (x : ℕ). eqb x 1) (bit_at_and a b i) ∙ min_one _ _ (bit_at-lt a i) (bit_at-lt b i)

pub has_or : (a b i : ℕ) → has (bit_or a b) i ≡ (has a i || has b i)
has_or a b i = ap (λ (x : ℕ). eqb x 1) (bit_at_or a b i) ∙ max_one _ _ (bit_at-lt a i) (bit_at-lt b i)

pub has_xor : (a b i : ℕ) → has (bit_xor a b) i ≡ ((has a i && not (has b i)) || (not (has a i) && has b i))
has_xor a b i = ap (λ (x : ℕ). eqb x 1) (bit_at_xor a b i) ∙ odd_one _ _ (bit_at-lt a i) (bit_at-lt b i)

-- a number has no digit from its length on
pub has_past : (n a i : ℕ) → a < 2 ^ n → n ≤ i → has a i ≡ false
has_past n a i h le = ap (λ (x : ℕ). eqb x 1) (bit_at_above a n i h le)

pub has_none : (i : ℕ) → has 0 i ≡ false
has_none i = ap (λ (x : ℕ). eqb x 1) (bit_at-zero i)

pub has_full : (n i : ℕ) → has (full n) i ≡ ltb i n
has_full n i = grind (arith, nat_tests, bit_at_ones n i, bit_at_ones_above n i)

-- numbers with the same digits are equal
pub equal : (a b : ℕ) → ((i : ℕ) → has a i ≡ has b i) → a ≡ b
equal a b h = same_from_bits a b (λ i. digit _ _ (bit_at-lt a i) (bit_at-lt b i) (h i))
  where
    digit : (x y : ℕ) → x < 2 → y < 2 → eqb x 1 ≡ eqb y 1 → x ≡ y
    digit x y a b e = grind (arith, nat_tests)

without_xor : (a b : ℕ) → without a b ≡ bit_xor a (bit_and a b)
unfolding without
without_xor a b =
    let absorb : bit_and a (bit_and a b) ≡ bit_and a b = equal _ _ (λ i. simp has_and (grind arith)) in
    omega (arith, xor_add_and a (bit_and a b), absorb)

-- the digits of the facts of a without those of b
pub has_without : (a b i : ℕ) → has (without a b) i ≡ (has a i && not (has b i))
has_without a b i = simp (without_xor, has_xor, has_and) (grind arith)

-- what every law of words goes by
pub ruleset digits = (has_and, has_or, has_without, has_full, has_none)

-- ---- within
pub within_at : (a b : ℕ) → within a b ≡ true → (i : ℕ) → has a i ≡ true → has b i ≡ true
unfolding within
within_at a b h i ha = let e : bit_and a b ≡ a = grind (arith, nat_tests) in grind (arith, has_and a b i)

pub within_of : (a b : ℕ) → ((i : ℕ) → has a i ≡ true → has b i ≡ true) → within a b ≡ true
unfolding within
within_of a b h =
    let e : bit_and a b ≡ a = equal _ _ (λ i. let k : has a i ≡ true → has b i ≡ true = h i in simp digits (grind arith)) in
    grind (arith, e)

-- `a & !b` at 64 digits
pub and_not : (a b : ℕ) → a < 2 ^ 64 → b < 2 ^ 64 → bit_and a (18446744073709551615 - b) ≡ without a b
unfolding without
and_not a b ha hb = omega (arith, and-not 64 b a hb ha, and_comm a (2 ^ 64 - 1 - b), and_comm a b)

-- `u64::MAX >> (64 - n)`
pub full_64 : (n : ℕ) → n ≤ 64 → 18446744073709551615 / 2 ^ (64 - n) ≡ full n
full_64 n h = let e : 64 - (64 - n) ≡ n = omega arith in ones_shr 64 (64 - n) (omega arith) ∙ ap full e

-- ---- the lowest fact of a set
pub lowest_is : (w : ℕ) → w < 2 ^ 64
    → MatchOption (then_some (not (eqb w 0)) (trailing_zeros w64 w)) ((j : ℕ) → has w j ≡ false) (λ i. (i < 64) × (has w i ≡ true) × ((j : ℕ) → j < i → has w j ≡ false))
lowest_is w h = go (eqb w 0) refl
  where
    go : (b : Bool) → eqb w 0 ≡ b
        → MatchOption (then_some (not b) (trailing_zeros w64 w)) ((j : ℕ) → has w j ≡ false) (λ i. (i < 64) × (has w i ≡ true) × ((j : ℕ) → j < i → has w j ≡ false))
    go true e = λ j. ap (λ (x : ℕ). has x j) (eqb-true w 0 e) ∙ has_none j
    go false e =
        let t = bit_at-trailing_zeros w64 w (grind (arith, nat_tests)) h in
        (t.0, ap (λ (b : ℕ). eqb b 1) t.1, λ j l. ap (λ (b : ℕ). eqb b 1) (t.2 j l))

-- ---- what the operations mean, by membership
pub within_decides : (a b : ℕ) → Decides (within a b) (Within a b)
within_decides a b = (within_at a b, within_of a b)

pub disjoint_decides : (a b : ℕ) → Decides (disjoint a b) ((i : ℕ) → (has a i && has b i) ≡ false)
disjoint_decides a b = (
  λ h i. let e : bit_and a b ≡ 0 = grind (arith, nat_tests) in sym (has_and a b i) ∙ ap (λ (x : ℕ). has x i) e ∙ has_none i,
  λ h.
      let e : bit_and a b ≡ 0 = equal _ _ (λ i. has_and a b i ∙ h i ∙ sym (has_none i)) in
      grind (arith, e),
)

-- a set with no fact at or past n is below 2 ^ n
few_below : (n w : ℕ) → ((i : ℕ) → n ≤ i → has w i ≡ false) → w < 2 ^ n
few_below n w f =
    let e : bit_and w (full n) ≡ w = equal _ _ (λ i. let p : n ≤ i → has w i ≡ false = f i in simp digits (grind (arith, nat_tests))) in
    subst (λ (x : ℕ). x < 2 ^ n) (sym (and_mask w n) ∙ e) (mod-lt w (pow_pos n))

few_decides : (n w : ℕ) → Decides (ltb w (2 ^ n)) ((i : ℕ) → n ≤ i → has w i ≡ false)
few_decides n w = Decides-like _ (λ h i l. has_past n w i h l) (few_below n w) (Decides-ltb w (2 ^ n))

-- the same, by all of n facts
pub covers_decides : (n w all : ℕ) → all ≡ full n → Decides (leb w all) ((i : ℕ) → n ≤ i → has w i ≡ false)
covers_decides n w all e =
    let t : leb w all ≡ ltb w (2 ^ n) = grind (arith, nat_tests, pow_pos n) in
    Decides-at _ _ t (few_decides n w)

pub by_membership : ByMembership
by_membership = record {
  joined = has_or;
  removed = has_without;
  all = has_full;
  opposite = λ n w i. has_without (full n) w i ∙ ap (λ (b : Bool). b && not (has w i)) (has_full n i);
  inside = within_decides;
  apart = disjoint_decides;
  few = few_decides;
  same = equal;
}
