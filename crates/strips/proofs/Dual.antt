-- The mirror of a space, and the dual task.
use Rattle.std.proofs.Common.{◌≡◌, ℕ, zero, suc, ◌^◌, ◌<◌, ◌≤◌, Bool, true, false, ◌&&◌, cond, ltb, List, [], ◌∷◌, map, reverse, length, Some, None, Option, option_map, sym, refl, ap, ◌∙◌, arith}
use mathlib.Core.List.{reverse-reverse}
use lib.ListN.{length-map, get_or-map, length-reverse}
use lib.Bits.{or_lt}
use Rattle.std.proofs.lemmas.Bool.{lt-ltb, ltb-true}
use Rattle.std.proofs.lemmas.Bool.Decides.{nat_tests}
use Rattle.std.specs.Bool.{then_some}
use Rattle.space.specs.Meaning.{Meaning, Lawful}
use Rattle.space.specs.Paths.{onward, targeted, solves, Nearest}
use Rattle.strips.specs.Sets.{has, within, complement}
use Rattle.strips.specs.Actions.{allowed, progress, consistent, regress, dual_action}
use Rattle.strips.specs.Tasks.{Task, idle, action_at, of_sets, fine, fine_actions, forward, backward, mirror}
use Rattle.strips.specs.Duality.{dual, carries, is_plan, space_in, Forwards, Backwards, Duality, Involution, DualFine, Mirrored, Ordered, in_order, SameLength}
use Rattle.strips.specs.declared.action.Action.{Action}
use Rattle.strips.proofs.Words.{within_at, within_of, disjoint_decides, digits, equal, has_past}
use Rattle.space.proofs.Least.{nearest_exists}
use Rattle.strips.proofs.Laws.{action_fine, forward_to, backward_to, forward_lawful, backward_lawful, mirror_lawful, complement_below, without_lt}
use Rattle.strips.proofs.Regression.{both, turn, fwd, sets_run}

pub complement_twice : (n w : ℕ) → w < 2 ^ n → complement n (complement n w) ≡ w
complement_twice n w h = equal _ _ (λ i. let p : n ≤ i → has w i ≡ false = has_past n w i h in simp digits (grind (arith, nat_tests)))

-- ---- the mirror
module _ (n : ℕ) (m : Meaning ℕ) (l : Lawful m) (sets : (w : ℕ) → m.node w ≡ ltb w (2 ^ n)) where
  -- what is reached, if anything, is a set of n facts
  abbrev IsSet : Option ℕ → Type 0
  IsSet r = (a : ℕ) → r ≡ Some a → a < 2 ^ n

  next_set : (a k : ℕ) → IsSet (m.next a k)
  next_set a k b e = let q = l.next_node a b k e in let s = sets b in grind (arith, nat_tests)

  mirror_next : (a k : ℕ) → a < 2 ^ n → (mirror n m).next (complement n a) k ≡ option_map (complement n) (m.next a k)
  mirror_next a k h = rw (lt-ltb _ _ (complement_below n a), complement_twice n a h)

  mirror_onward : (r : Option ℕ) → IsSet r → (ks : List ℕ) → onward (mirror n m) (option_map (complement n) r) ks ≡ option_map (complement n) (onward m r ks)
  mirror_onward None g ks = refl
  mirror_onward (Some a) g [] = refl
  mirror_onward (Some a) g (k ∷ ks) =
      ap (λ (r : Option ℕ). onward (mirror n m) r ks) (mirror_next a k (g a refl)) ∙ mirror_onward (m.next a k) (next_set a k) ks

  mirror_targeted : (r : Option ℕ) → IsSet r → targeted (mirror n m) (option_map (complement n) r) ≡ targeted m r
  mirror_targeted None g = refl
  mirror_targeted (Some a) g = rw (lt-ltb _ _ (complement_below n a), complement_twice n a (g a refl))

  onward_set : (r : Option ℕ) → IsSet r → (ks : List ℕ) → IsSet (onward m r ks)
  onward_set None g ks b e = cc
  onward_set (Some a) g [] b e = g b e
  onward_set (Some a) g (k ∷ ks) b e = onward_set (m.next a k) (next_set a k) ks b e

  pub mirror_solves : (ks : List ℕ) → solves (mirror n m) ks ≡ solves m ks
  mirror_solves ks =
      let st : IsSet (Some m.start) = λ a e. let q = l.start_node in let s = sets m.start in let x : m.start ≡ a = cc in grind (arith, nat_tests) in
      ap (targeted (mirror n m)) (mirror_onward (Some m.start) st ks)
      ∙ mirror_targeted (onward m (Some m.start) ks) (onward_set (Some m.start) st ks)

-- ---- plans forward and backward
-- a list carries through as it runs
carries_run : (h : Task) (s : ℕ) (ks : List ℕ) → carries h s ks ≡ fwd h s h.goal ks
carries_run h s [] = refl
carries_run h s (k ∷ ks) = ap (λ (b : Bool). (ltb k (length h.actions) && allowed (action_at h k) s) && b) (carries_run h (progress (action_at h k) s) ks)

pub forwards : Forwards
forwards h f ks =
    let s : h.state < 2 ^ h.facts = grind (arith, nat_tests) in
    sets_run h.facts h.state (length h.actions) (λ w. within h.goal w) (λ w k. allowed (action_at h k) w) (λ w k. progress (action_at h k) w) (forward_to h f) h.state s ks
    ∙ sym (carries_run h h.state ks)

pub backwards : Backwards
backwards h f ks =
    let w : h.goal < 2 ^ h.facts = grind (arith, nat_tests) in
    carries_run h h.state ks ∙ ap (fwd h h.state h.goal) (sym (reverse-reverse ks)) ∙ sym (turn h h.state h.goal (reverse ks))
    ∙ sym (sets_run h.facts h.goal (length h.actions) (λ w. within w h.state) (λ w k. consistent (action_at h k) w) (λ w k. regress (action_at h k) w) (backward_to h f) h.goal w (reverse ks))

-- ---- the dual task
dual_at : (h : Task) (k : ℕ) → action_at (dual h) k ≡ dual_action (action_at h k)
dual_at h k = get_or-map dual_action h.actions k idle

dual_allowed : (n : ℕ) (p : Action) (w : ℕ) → p.deletes < 2 ^ n → consistent p (complement n w) ≡ allowed (dual_action p) w
dual_allowed n p w hd = both _ _ there back
  where
    there : consistent p (complement n w) ≡ true → within p.deletes w ≡ true
    there c =
        within_of _ _ (λ i r.
        let d = (disjoint_decides (complement n w) p.deletes).0 c i in
        let e : n ≤ i → has p.deletes i ≡ false = has_past n p.deletes i hd in
        grind (arith, digits, nat_tests))

    back : within p.deletes w ≡ true → consistent p (complement n w) ≡ true
    back h =
        (disjoint_decides _ p.deletes).1 (λ i. let f : has p.deletes i ≡ true → has w i ≡ true = within_at _ _ h i in grind (arith, digits))

dual_progress : (n : ℕ) (p : Action) (w : ℕ) → w < 2 ^ n → p.adds < 2 ^ n → complement n (regress p (complement n w)) ≡ progress (dual_action p) w
dual_progress n p w hw ha =
    equal _ _ (λ i.
    let e : n ≤ i → has w i ≡ false = has_past n w i hw in
    let f : n ≤ i → has p.adds i ≡ false = has_past n p.adds i ha in
    simp digits (grind (arith, nat_tests)))

dual_target : (n s w : ℕ) → s < 2 ^ n → w < 2 ^ n → within (complement n w) s ≡ within (complement n s) w
dual_target n s w hs hw = both _ _ (go s w) (go w s)
  where
    go : (s w : ℕ) → within (complement n w) s ≡ true → within (complement n s) w ≡ true
    go s w h = within_of _ _ (λ i r. let f : has (complement n w) i ≡ true → has s i ≡ true = within_at _ _ h i in grind (arith, digits))

-- a move of the mirror over a space of sets: a for the node, b for its complement, c for the number, and d and e for the move
move_turned : (n : ℕ) (a b c d e : Bool) (x y : ℕ) → b ≡ true → (a ≡ true → c ≡ true → d ≡ e) → (a ≡ true → c ≡ true → complement n x ≡ y)
    → cond a (option_map (complement n) (then_some (b && (c && d)) x)) None ≡ then_some (a && (c && e)) y
move_turned n a b c d e x y p q r = grind arith

-- two spaces of sets, one the mirror of the other
mirror_is : (n start start' count count' : ℕ) (target target' : ℕ → Bool) (may may' : ℕ → ℕ → Bool) (to to' : ℕ → ℕ → ℕ)
    → complement n start ≡ start' → count ≡ count' → ((w : ℕ) → w < 2 ^ n → target (complement n w) ≡ target' w)
    → ((w k : ℕ) → w < 2 ^ n → k < count → may (complement n w) k ≡ may' w k)
    → ((w k : ℕ) → w < 2 ^ n → k < count → complement n (to (complement n w) k) ≡ to' w k)
    → mirror n (of_sets n start count target may to) ≡ of_sets n start' count' target' may' to'
mirror_is n start start' count count' target target' may may' to to' es ec et em eo = λ i. record {
  node = λ w. ltb w (2 ^ n);
  start = es i;
  count = ec i;
  target = λ w. tgt w i;
  next = λ w k. nxt w k i;
}
  where
    tgt : (w : ℕ) → (ltb w (2 ^ n) && (ltb (complement n w) (2 ^ n) && target (complement n w))) ≡ (ltb w (2 ^ n) && target' w)
    tgt w = let f : w < 2 ^ n → target (complement n w) ≡ target' w = et w in grind (arith, nat_tests, complement_below n w)

    nxt : (w k : ℕ) → (mirror n (of_sets n start count target may to)).next w k ≡ (of_sets n start' count' target' may' to').next w k
    nxt w k =
        move_turned n (ltb w (2 ^ n)) (ltb (complement n w) (2 ^ n)) (ltb k count) (may (complement n w) k) (may' w k) (to (complement n w) k) (to' w k)
        (lt-ltb _ _ (complement_below n w)) (λ a b. em w k (ltb-true _ _ a) (ltb-true _ _ b)) (λ a b. eo w k (ltb-true _ _ a) (ltb-true _ _ b))
        ∙ ap (λ (c : ℕ). then_some (ltb w (2 ^ n) && (ltb k c && may' w k)) (to' w k)) ec

pub mirrored_backward : (h : Task) → fine h ≡ true → mirror h.facts (backward h) ≡ forward (dual h)
mirrored_backward h f =
    let s : h.state < 2 ^ h.facts = grind (arith, nat_tests) in
    mirror_is h.facts h.goal (dual h).state (length h.actions) (length (dual h).actions)
    (λ w. within w h.state) (λ w. within (dual h).goal w)
    (λ w k. consistent (action_at h k) w) (λ w k. allowed (action_at (dual h) k) w)
    (λ w k. regress (action_at h k) w) (λ w k. progress (action_at (dual h) k) w)
    refl (sym (length-map h.actions dual_action)) (λ w hw. dual_target h.facts h.state w s hw)
    (λ w k hw hk. let t = action_fine h f k hk in
    dual_allowed h.facts (action_at h k) w (grind (arith, nat_tests)) ∙ ap (λ (p : Action). allowed p w) (sym (dual_at h k)))
    (λ w k hw hk. let t = action_fine h f k hk in
    dual_progress h.facts (action_at h k) w hw (grind (arith, nat_tests)) ∙ ap (λ (p : Action). progress p w) (sym (dual_at h k)))

pub mirrored_forward : (h : Task) → fine h ≡ true → mirror h.facts (forward h) ≡ backward (dual h)
mirrored_forward h f =
    let s : h.goal < 2 ^ h.facts = grind (arith, nat_tests) in
    mirror_is h.facts h.state (dual h).goal (length h.actions) (length (dual h).actions)
    (λ w. within h.goal w) (λ w. within w (dual h).state)
    (λ w k. allowed (action_at h k) w) (λ w k. consistent (action_at (dual h) k) w)
    (λ w k. progress (action_at h k) w) (λ w k. regress (action_at (dual h) k) w)
    refl (sym (length-map h.actions dual_action))
    (λ w hw. ap (λ (v : ℕ). within v (complement h.facts w)) (sym (complement_twice h.facts h.goal s))
    ∙ dual_target h.facts (complement h.facts w) (complement h.facts h.goal) (complement_below h.facts w) (complement_below h.facts h.goal)
    ∙ ap (λ (v : ℕ). within v (complement h.facts h.goal)) (complement_twice h.facts w hw))
    (λ w k hw hk. let t = action_fine h f k hk in
    sym (dual_allowed h.facts (dual_action (action_at h k)) (complement h.facts w) (grind (arith, nat_tests)))
    ∙ ap (λ (v : ℕ). consistent (dual_action (action_at h k)) v) (complement_twice h.facts w hw)
    ∙ ap (λ (p : Action). consistent p w) (sym (dual_at h k)))
    (λ w k hw hk. let t = action_fine h f k hk in
    ap (complement h.facts) (sym (dual_progress h.facts (dual_action (action_at h k)) (complement h.facts w) (complement_below h.facts w) (grind (arith, nat_tests))))
    ∙ complement_twice h.facts (regress (dual_action (action_at h k)) (complement h.facts (complement h.facts w)))
    (or_lt h.facts _ _ (without_lt h.facts _ _ (complement_below h.facts _)) (grind (arith, nat_tests)))
    ∙ ap (λ (v : ℕ). regress (dual_action (action_at h k)) v) (complement_twice h.facts w hw)
    ∙ ap (λ (p : Action). regress p w) (sym (dual_at h k)))

pub mirrored : Mirrored
mirrored h f = (mirrored_backward h f, mirrored_forward h f)

-- the dual of a task is a task
dual_actions_fine : (n : ℕ) (ps : List Action) → fine_actions n ps ≡ true → fine_actions n (map dual_action ps) ≡ true
dual_actions_fine n [] f = refl
dual_actions_fine n (p ∷ ps) f = let g = dual_actions_fine n ps (grind arith) in grind arith

pub dual_fine : DualFine
dual_fine h f =
    let s = complement_below h.facts h.goal in
    let g = complement_below h.facts h.state in
    let l : length (map dual_action h.actions) ≡ length h.actions = length-map h.actions dual_action in
    let a : fine_actions h.facts (map dual_action h.actions) ≡ true = dual_actions_fine h.facts h.actions (grind arith) in
    grind (arith, nat_tests)

pub duality : Duality
duality h f ks =
    backwards h f ks ∙ sym (mirror_solves h.facts (backward h) (backward_lawful h f) (λ w. refl) (reverse ks))
    ∙ ap (λ m. solves m (reverse ks)) (mirrored_backward h f) ∙ forwards (dual h) (dual_fine h f) (reverse ks)

dual_dual_actions : (ps : List Action) → map dual_action (map dual_action ps) ≡ ps
dual_dual_actions [] = refl
dual_dual_actions (p ∷ ps) = ap (λ qs. p ∷ qs) (dual_dual_actions ps)

pub involution : Involution
involution h f = λ i. record {
  facts = h.facts;
  actions = dual_dual_actions h.actions i;
  state = complement_twice h.facts h.state (grind (arith, nat_tests)) i;
  goal = complement_twice h.facts h.goal (grind (arith, nat_tests)) i;
}

-- what a direction finds, in the task's order, is a plan
pub ordered : Ordered
ordered h f zero ks = forwards h f ks
ordered h f (suc zero) ks = sym (backwards h f (reverse ks) ∙ ap (solves (backward h)) (reverse-reverse ks))
ordered h f (suc (suc zero)) ks =
    mirror_solves h.facts (backward h) (backward_lawful h f) (λ w. refl) ks
    ∙ sym (backwards h f (reverse ks) ∙ ap (solves (backward h)) (reverse-reverse ks))
ordered h f (suc (suc (suc d))) ks = mirror_solves h.facts (forward h) (forward_lawful h f) (λ w. refl) ks ∙ forwards h f ks

-- an order taken twice is none
pub order_order : (d : ℕ) (ks : List ℕ) → in_order d (in_order d ks) ≡ ks
order_order zero ks = refl
order_order (suc zero) ks = reverse-reverse ks
order_order (suc (suc zero)) ks = reverse-reverse ks
order_order (suc (suc (suc d))) ks = refl

pub order_length : (d : ℕ) (ks : List ℕ) → length (in_order d ks) ≡ length ks
order_length zero ks = refl
order_length (suc zero) ks = length-reverse ks
order_length (suc (suc zero)) ks = length-reverse ks
order_length (suc (suc (suc d))) ks = refl

-- a list of one direction has one of the same length in any other
agreement : (h : Task) → fine h ≡ true → (d e : ℕ) (ks : List ℕ) → solves (space_in h d) ks ≡ true
    → (js : List ℕ) × (length js ≡ length ks) × (solves (space_in h e) js ≡ true)
agreement h f d e ks s = (
  in_order e (in_order d ks),
  order_length e (in_order d ks) ∙ order_length d ks,
  ordered h f e (in_order e (in_order d ks)) ∙ ap (is_plan h) (order_order e (in_order d ks)) ∙ sym (ordered h f d ks) ∙ s,
)

-- every direction's space keeps the laws
pub direction_lawful : (h : Task) → fine h ≡ true → (d : ℕ) → Lawful (space_in h d)
direction_lawful h f zero = forward_lawful h f
direction_lawful h f (suc zero) = backward_lawful h f
direction_lawful h f (suc (suc zero)) = mirror_lawful h.facts (backward h) (backward_lawful h f)
direction_lawful h f (suc (suc (suc d))) = mirror_lawful h.facts (forward h) (forward_lawful h f)

-- a shortest length of one direction is that of any other
nearest_same : (h : Task) → fine h ≡ true → (d e n : ℕ) → Nearest (space_in h d) n → Nearest (space_in h e) n
nearest_same h f d e n s =
    let a = agreement h f d e s.some.0 s.some.2 in
    record {
      some = (a.0, a.1 ∙ s.some.1, a.2);
      least = λ ks p. let b = agreement h f e d ks p in let q = s.least b.0 b.2 in omega (arith, b.1);
    }

pub same_length : SameLength
same_length h f d e = record {
  both = λ ks s. let n = nearest_exists (space_in h d) (direction_lawful h f d) ks s in (n.0, n.1, nearest_same h f d e n.0 n.1);
  same = nearest_same h f d e;
  neither = λ no ks p. let b = agreement h f e d ks p in no b.0 b.2;
}

-- a plan, in a direction's order, leads to a target there
pub plan_solves : (h : Task) → fine h ≡ true → (d : ℕ) (ks : List ℕ) → is_plan h ks ≡ true → solves (space_in h d) (in_order d ks) ≡ true
plan_solves h f d ks p = ordered h f d (in_order d ks) ∙ ap (is_plan h) (order_order d ks) ∙ p
