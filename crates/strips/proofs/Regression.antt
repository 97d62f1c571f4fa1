-- Forward and backward plans are the same lists, read in opposite orders.
use Rattle.std.proofs.Common.{◌≡◌, ℕ, ◌^◌, ◌<◌, Bool, true, false, ◌&&◌, ltb, List, [], ◌∷◌, ◌++◌, reverse, length, Some, sym, refl, ap, ◌∙◌, arith}
use mathlib.Core.List.{reverse-cons}
use Rattle.std.proofs.lemmas.Bool.Decides.{nat_tests}
use Rattle.strips.specs.Sets.{has, within}
use Rattle.strips.specs.Actions.{allowed, progress, consistent, regress}
use Rattle.std.specs.Bool.{then_some}
use Rattle.space.specs.Meaning.{Meaning}
use Rattle.space.specs.Paths.{onward, targeted}
use Rattle.strips.specs.Tasks.{Task, action_at, of_sets}
use Rattle.strips.specs.declared.action.Action.{Action}
use Rattle.strips.proofs.Words.{within_at, within_of, disjoint_decides, digits}

-- two tests are equal where each is true with the other
pub both : (x y : Bool) → (x ≡ true → y ≡ true) → (y ≡ true → x ≡ true) → x ≡ y
both x y f g = grind arith

-- t is met after an allowed step exactly when the step deletes none of t and what t asks before it is met
pub key : (p : Action) (s t : ℕ) → (allowed p s && within t (progress p s)) ≡ (consistent p t && within (regress p t) s)
key p s t = both _ _ there back
  where
    there : (allowed p s && within t (progress p s)) ≡ true → (consistent p t && within (regress p t) s) ≡ true
    there h =
        let a : within p.needs s ≡ true = grind arith in
        let b : within t (progress p s) ≡ true = grind arith in
        let c : consistent p t ≡ true =
        (disjoint_decides t p.deletes).1 (λ i. let f : has t i ≡ true → has (progress p s) i ≡ true = within_at _ _ b i in grind (arith, digits)) in
        let w : within (regress p t) s ≡ true =
        within_of _ _ (λ i r.
        let f : has t i ≡ true → has (progress p s) i ≡ true = within_at _ _ b i in
        let g : has p.needs i ≡ true → has s i ≡ true = within_at _ _ a i in
        grind (arith, digits)) in
        grind arith

    back : (consistent p t && within (regress p t) s) ≡ true → (allowed p s && within t (progress p s)) ≡ true
    back h =
        let c : consistent p t ≡ true = grind arith in
        let w : within (regress p t) s ≡ true = grind arith in
        let a : within p.needs s ≡ true =
        within_of _ _ (λ i r. let f : has (regress p t) i ≡ true → has s i ≡ true = within_at _ _ w i in grind (arith, digits)) in
        let b : within t (progress p s) ≡ true =
        within_of _ _ (λ i r.
        let f : has (regress p t) i ≡ true → has s i ≡ true = within_at _ _ w i in
        let d : (has t i && has p.deletes i) ≡ false = (disjoint_decides t p.deletes).0 c i in
        grind (arith, digits)) in
        grind arith

-- whether moves, each allowed in turn, lead from a to a target
abbrev pub run : (count : ℕ) → (target : ℕ → Bool) → (may : ℕ → ℕ → Bool) → (to : ℕ → ℕ → ℕ) → ℕ → List ℕ → Bool
run count target may to a [] = target a
run count target may to a (k ∷ ks) = (ltb k count && may a k) && run count target may to (to a k) ks

abbrev pub fwd : Task → ℕ → ℕ → List ℕ → Bool
fwd h s t ks = run (length h.actions) (λ w. within t w) (λ w k. allowed (action_at h k) w) (λ w k. progress (action_at h k) w) s ks

abbrev pub bwd : Task → ℕ → ℕ → List ℕ → Bool
bwd h s t ks = run (length h.actions) (λ w. within w s) (λ w k. consistent (action_at h k) w) (λ w k. regress (action_at h k) w) t ks

last : (h : Task) (s t k : ℕ) (ks : List ℕ)
    → fwd h s t (ks ++ (k ∷ [])) ≡ ((ltb k (length h.actions) && consistent (action_at h k) t) && fwd h s (regress (action_at h k) t) ks)
last h s t k [] = let e = key (action_at h k) s t in grind arith
last h s t k (j ∷ ks) = let e = last h (progress (action_at h j) s) t k ks in grind arith

pub turn : (h : Task) (s t : ℕ) (ks : List ℕ) → bwd h s t ks ≡ fwd h s t (reverse ks)
turn h s t [] = refl
turn h s t (k ∷ ks) =
    ap (λ (b : Bool). (ltb k (length h.actions) && consistent (action_at h k) t) && b) (turn h s (regress (action_at h k) t) ks)
    ∙ sym (last h s t k (reverse ks)) ∙ ap (fwd h s t) (sym (reverse-cons k ks))

-- a space of sets accepts what `run` accepts, from each of its nodes
pub sets_run : (n start count : ℕ) (target : ℕ → Bool) (may : ℕ → ℕ → Bool) (to : ℕ → ℕ → ℕ)
    → ((w k : ℕ) → w < 2 ^ n → k < count → to w k < 2 ^ n) → (a : ℕ) → a < 2 ^ n → (ks : List ℕ)
    → targeted (of_sets n start count target may to) (onward (of_sets n start count target may to) (Some a) ks) ≡ run count target may to a ks
sets_run n start count target may to ht a ha [] = grind (arith, nat_tests)
sets_run n start count target may to ht a ha (k ∷ ks) =
    let e : (ltb a (2 ^ n) && (ltb k count && may a k)) ≡ (ltb k count && may a k) = grind (arith, nat_tests) in
    ap (λ (c : Bool). targeted m (onward m (then_some c (to a k)) ks)) e
    ∙ go (ltb k count && may a k) (λ c. let lk : k < count = grind (arith, nat_tests) in sets_run n start count target may to ht (to a k) (ht a k ha lk) ks)
  where
    m : Meaning ℕ
    m = of_sets n start count target may to

    go : (c : Bool) → (c ≡ true → targeted m (onward m (Some (to a k)) ks) ≡ run count target may to (to a k) ks)
        → targeted m (onward m (then_some c (to a k)) ks) ≡ (c && run count target may to (to a k) ks)
    go true f = f refl
    go false f = refl
