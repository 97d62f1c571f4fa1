-- The spaces of a task keep the laws of a space.
use Rattle.std.proofs.Common.{◌≡◌, ℕ, ◌^◌, ◌<◌, ◌≤◌, Bool, true, false, ◌&&◌, cond, ltb, length, Some, None, Option, option_map, lt_of_le_of_lt, sub-le, arith}
use lib.Bits.{bit_and, or_lt}
use lib.Pow.{ones_lt}
use Rattle.std.specs.Bool.{then_some}
use Rattle.std.proofs.lemmas.Bool.{both_ways, true_from_ne_false}
use Rattle.std.proofs.lemmas.Bool.Decides.{nat_tests}
use Rattle.std.proofs.lemmas.List.Folds.{list_all_at}
use Rattle.space.specs.Meaning.{Meaning, Lawful}
use Rattle.strips.specs.Sets.{without, within, complement, full}
use Rattle.strips.specs.Actions.{allowed, progress, consistent, regress}
use Rattle.strips.specs.Tasks.{Task, idle, fine_action, fine_actions, fine, of_sets, action_at, forward, backward, mirror}

-- what an answer says
some_then : (c : Bool) (x b : ℕ) → then_some c x ≡ Some b → (c ≡ true) × (x ≡ b)
some_then true x b e = (cc, cc)
some_then false x b e = cc

pub sets_lawful : (n start count : ℕ) (target : ℕ → Bool) (may : ℕ → ℕ → Bool) (to : ℕ → ℕ → ℕ)
    → start < 2 ^ n → count ≤ 512 → ((w k : ℕ) → w < 2 ^ n → k < count → to w k < 2 ^ n)
    → Lawful (of_sets n start count target may to)
sets_lawful n start count target may to hs hc ht = record {
  start_node = grind (arith, nat_tests);
  few = hc;
  next_node = λ a b k e.
      let g = some_then (ltb a (2 ^ n) && (ltb k count && may a k)) (to a k) b e in
      let lt : a < 2 ^ n → k < count → to a k < 2 ^ n = ht a k in
      grind (arith, nat_tests);
  past = λ a k h. grind (arith, nat_tests);
  off = λ a k h. grind (arith, nat_tests);
  off_target = λ a h. grind (arith, nat_tests);
}

-- each action of a fine task is fine
pub action_fine : (h : Task) → fine h ≡ true → (k : ℕ) → k < length h.actions → fine_action h.facts (action_at h k) ≡ true
action_fine h f k l =
    let fs : fine_actions h.facts h.actions ≡ true = grind arith in
    true_from_ne_false _ (λ q. both_ways _ (list_all_at (fine_action h.facts) h.actions k idle l q) fs)

pub without_lt : (k a b : ℕ) → a < 2 ^ k → without a b < 2 ^ k
unfolding without
without_lt k a b h = lt_of_le_of_lt (sub-le a (bit_and a b)) h

-- a step leads from a set of the facts to one
pub forward_to : (h : Task) → fine h ≡ true → (w k : ℕ) → w < 2 ^ h.facts → k < length h.actions → progress (action_at h k) w < 2 ^ h.facts
forward_to h f w k hw hk =
    let s = action_fine h f k hk in
    without_lt h.facts _ _ (or_lt h.facts _ _ hw (grind (arith, nat_tests)))

pub backward_to : (h : Task) → fine h ≡ true → (w k : ℕ) → w < 2 ^ h.facts → k < length h.actions → regress (action_at h k) w < 2 ^ h.facts
backward_to h f w k hw hk =
    let s = action_fine h f k hk in
    or_lt h.facts _ _ (without_lt h.facts _ _ hw) (grind (arith, nat_tests))

pub forward_lawful : (h : Task) → fine h ≡ true → Lawful (forward h)
forward_lawful h f =
    sets_lawful h.facts h.state (length h.actions) (λ w. within h.goal w) (λ w k. allowed (action_at h k) w) (λ w k. progress (action_at h k) w)
    (grind (arith, nat_tests)) (grind (arith, nat_tests)) (forward_to h f)

pub backward_lawful : (h : Task) → fine h ≡ true → Lawful (backward h)
backward_lawful h f =
    sets_lawful h.facts h.goal (length h.actions) (λ w. within w h.state) (λ w k. consistent (action_at h k) w) (λ w k. regress (action_at h k) w)
    (grind (arith, nat_tests)) (grind (arith, nat_tests)) (backward_to h f)

pub complement_below : (n w : ℕ) → complement n w < 2 ^ n
complement_below n w = without_lt n (full n) w (ones_lt n)

turned_lt : (n : ℕ) (c : Bool) (r : Option ℕ) (b : ℕ) → cond c (option_map (complement n) r) None ≡ Some b → ltb b (2 ^ n) ≡ true
turned_lt n true (Some w) b e = let h : complement n w ≡ b = cc in grind (arith, nat_tests, complement_below n w)
turned_lt n true None b e = cc
turned_lt n false r b e = cc

pub mirror_lawful : (n : ℕ) (m : Meaning ℕ) → Lawful m → Lawful (mirror n m)
mirror_lawful n m l = record {
  start_node = grind (arith, nat_tests, complement_below n m.start);
  few = l.few;
  next_node = λ a b k e. turned_lt n (ltb a (2 ^ n)) (m.next (complement n a) k) b e;
  past = λ a k h. grind (arith, l.past (complement n a) k h);
  off = λ a k h. grind arith;
  off_target = λ a h. grind arith;
}
