-- One turn of a walk past the first s pieces of a text over the next n.
use Rattle.std.proofs.Common.{◌≡◌, ℕ, ◌+◌, ◌<◌, ◌≤◌, List, length, get_or, take, drop, ap, ◌∙◌, arith}
use Rattle.std.specs.List.{enumerate_from}
use Rattle.std.proofs.lemmas.List.{get_or-take, length-take, length-drop}
use Rattle.std.proofs.lemmas.List.FromFn.{get_or-enumerate_from, length-enumerate_from}
use Rattle.std.specs.Iterator.{YieldsFirstBy}
use Rattle.std.specs.Iterator.Adapters.{skip_source, skip_count, skip_steps, take_source, take_count, take_steps, enumerate_source, enumerate_count, enumerate_steps}
use Rattle.std.specs.declared.iter.Enumerate.{Enumerate}
use Rattle.std.specs.declared.iter.Skip.{Skip}
use Rattle.std.specs.declared.iter.Take.{Take}
use Rattle.std.proofs.lemmas.Iterator.{YieldsList, YieldsList-from_take}
use Rattle.std.proofs.lemmas.Iterator.Adapters.{YieldsList-from_skip}
use Rattle.std.proofs.lemmas.Iterator.Consumers.{YieldsList-from_first, YieldsList-from_enumerate}
use Rattle.pieces.specs.declared.Pieces.{Pieces}
use Rattle.pieces.specs.Pieces.{placed, located, pieces_left}
use Rattle.pieces.proofs.Walk.{Here, here_past, length-placed}

module _ (ps : List (List ℕ)) (s n : ℕ) where
  -- the items of the walk, and with their numbers
  abbrev pub passed : List (ℕ × List ℕ)
  passed = take n (drop s (placed 0 ps))

  abbrev pub counted : List (ℕ × (ℕ × List ℕ))
  counted = enumerate_from 0 passed

  pub walk : {i : Take (Skip Pieces)} → pieces_left (skip_source (take_source i)) ≡ placed 0 ps → skip_count (take_source i) ≡ s → take_count i ≡ n
      → YieldsList (take_steps (skip_steps (YieldsFirstBy located pieces_left))) located i passed
  walk all past few = YieldsList-from_take n (YieldsList-from_skip s (YieldsList-from_first located pieces_left (placed 0 ps) all) past) few

  pub walk_counted : {i : Enumerate (Take (Skip Pieces))} → pieces_left (skip_source (take_source (enumerate_source i))) ≡ placed 0 ps
      → skip_count (take_source (enumerate_source i)) ≡ s → take_count (enumerate_source i) ≡ n → enumerate_count i ≡ 0
      → YieldsList (enumerate_steps (take_steps (skip_steps (YieldsFirstBy located pieces_left)))) (λ x. (x.0, located x.1)) i counted
  walk_counted all past few none = YieldsList-from_enumerate (walk all past few) none

  -- no more than n
  pub passed_few : length passed ≤ n
  passed_few = omega (arith, length-take n (drop s (placed 0 ps)))

  -- the item that comes after k items is piece k + s
  pub turn_at : (k : ℕ) (x : ℕ × List ℕ) → (k < length passed) × (x ≡ get_or passed k x) → Here ps (k + s) x.0 x.1
  turn_at k x (h, e) =
      let n-long = length-take n (drop s (placed 0 ps)) in
      here_past ps s (omega (arith, h, n-long), e ∙ get_or-take n (drop s (placed 0 ps)) k x (omega (arith, h, n-long)))

  -- and its number is k
  pub counted_at : (k : ℕ) (x : ℕ × (ℕ × List ℕ)) → (k < length counted) × (x ≡ get_or counted k x) → (x.0 ≡ k) × Here ps (k + s) x.1.0 x.1.1
  counted_at k x (h, e) =
      let few : k < length passed = omega (arith, h, length-enumerate_from 0 passed) in
      let is = e ∙ get_or-enumerate_from 0 passed k x few in
      (ap (λ y. y.0) is ∙ omega arith, turn_at k x.1 (few, ap (λ y. y.1) is))

  -- and it is one of the n
  pub counted_few : length counted ≤ n
  counted_few = omega (arith, length-enumerate_from 0 passed, passed_few)

  -- where the pieces past the first s are no more than n, the walk goes over all of them
  pub all_counted : length ps ≤ n + s → length ps ≤ length counted + s
  all_counted h = omega (arith, length-enumerate_from 0 passed, length-take n (drop s (placed 0 ps)), length-drop s (placed 0 ps), length-placed 0 ps)
