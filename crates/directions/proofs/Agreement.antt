-- What an answer in any direction says of the task.
use Rattle.std.proofs.Common.{◌≡◌, ℕ, ◌≤◌, true, List, length, take, drop, ◌++◌, Ok, Err, Result, sym, ap, ◌∙◌, subst, arith, length-append}
use Rattle.std.proofs.lemmas.List.{length-take-le, length-drop, take_at, drop_at}
use Rattle.fault.specs.declared.Fault.{Fault}
use Rattle.space.proofs.ClosedSets.{closed_hopeless}
use Rattle.space.specs.Paths.{solves}
use Rattle.bfs.specs.declared.Outcome.{Outcome}
use Rattle.bfs.specs.declared.Outcome.TheVariants.{Plan, NoPlan}
use Rattle.bfs.specs.Answers.{Buffers, Planned, Exhausted, Answered}
use Rattle.bfs.proofs.Exactness.{nearest_one, never_near}
use Rattle.closed.specs.Check.{Checked}
use Rattle.closed.proofs.Judgement.{sound}
use Rattle.strips.specs.Tasks.{Task, fine}
use Rattle.strips.specs.Duality.{is_plan, space_in, in_order}
use Rattle.strips.proofs.Dual.{ordered, same_length, order_length, plan_solves}
use Rattle.directions.specs.Directions.{number}
use Rattle.directions.specs.declared.Direction.{Direction}
use Rattle.directions.specs.declared.Direction.TheVariants.{Forward, Backward, DualForward, DualBackward}
use Rattle.directions.specs.Planning.{Shown, no_direction, no_room, AnsweredIn, no_direction_to_check, broken, CheckedIn}
use Rattle.directions.specs.Agreement.{DirectionsAgree, PlansTold, AcceptedNone, turned_back, AsSearched}

number_le : (d : Direction) → number d ≤ 3
number_le Forward = omega arith
number_le Backward = omega arith
number_le DualForward = omega arith
number_le DualBackward = omega arith

-- a check in a direction answers as the space's
pub check_answered : (h h' : Task) (d : Direction) (k : ℕ) (rows : List ℕ) (r : Result (Unit {0}) Fault) → h ≡ h' → number d ≡ k
    → Checked (space_in h (number d)) rows r → CheckedIn h' k rows r
check_answered h h' d k rows r s t x = subst (λ (g : Task). CheckedIn g k rows r) s (subst (λ (i : ℕ). CheckedIn h i rows r) t (answered r x))
  where
    answered : (r : Result (Unit {0}) Fault) → Checked (space_in h (number d)) rows r → CheckedIn h (number d) rows r
    answered (Ok _) x = (number_le d, x)
    answered (Err g) x = broken (number_le d) x

module _ (h : Task) (f : fine h ≡ true) where
  -- moves in a direction's order, put into the task's
  pub ordered_plan : (d : ℕ) (found moves : List ℕ) → moves ≡ in_order d found → solves (space_in h d) found ≡ true → is_plan h moves ≡ true
  ordered_plan d found moves q s = ap (is_plan h) q ∙ sym (ordered h f d found) ∙ s

  -- a plan that the search in a direction found, once it is put into the task's order
  pub plan_answered : (h' : Task) → h ≡ h' → (d : Direction) (k : ℕ) → number d ≡ k → (b b' b'' : Buffers ℕ) (r : Result Outcome Fault) (o : Outcome) (n used : ℕ)
      → r ≡ Ok o → o ≡ Plan (n, used) → Answered (space_in h (number d)) b b' r → b''.rows ≡ b'.rows → (front plan : List ℕ) → b''.plan ≡ plan
      → plan ≡ front ++ drop n b'.plan → front ≡ in_order (number d) (take n b'.plan) → AnsweredIn h' k b b'' (Ok o)
  plan_answered h' s d k t b b' b'' r o n used q p x rows front plan e whole moves =
      let y : Planned (space_in h (number d)) b b' n used = subst (λ (z : Result Outcome Fault). Answered (space_in h (number d)) b b' z) (q ∙ ap Ok p) x in
      let long : length front ≡ n = ap length moves ∙ order_length (number d) (take n b'.plan) ∙ length-take-le n b'.plan (omega (arith, y.fits, y.plan_past.long)) in
      let shown : Shown h (number d) b b'' n used = record {
        filled = rw rows y.filled;
        nearest = y.nearest;
        fits = y.fits;
        is_a_plan = rw e (rw whole (ordered_plan (number d) _ _ (take_at front _ n long ∙ moves) y.leads));
        plan_past = rw e (rw whole (record {
          rest = drop_at front _ n long ∙ y.plan_past.rest;
          long = length-append front (drop n b'.plan) ∙ omega (arith, long, length-drop n b'.plan, y.fits, y.plan_past.long);
        }));
      } in
      subst (λ (g : Task). AnsweredIn g k b b'' (Ok o)) s
      (subst (λ (i : ℕ). AnsweredIn h i b b'' (Ok o)) t (subst (λ (z : Outcome). AnsweredIn h (number d) b b'' (Ok z)) (sym p) (number_le d, shown)))

pub directions_agree_lem : DirectionsAgree
directions_agree_lem h f d e b b' c c' (Ok (Plan p)) (Ok (Plan q)) (_, x) (_, y) = nearest_one (space_in h e) p.0 q.0 ((same_length h f d e).same p.0 x.nearest) y.nearest
directions_agree_lem h f d e b b' c c' (Ok (Plan p)) (Ok (NoPlan v)) (_, x) (_, y) = never_near (space_in h e) p.0 y.hopeless ((same_length h f d e).same p.0 x.nearest)
directions_agree_lem h f d e b b' c c' (Ok (Plan p)) (Err g) x y = tt
directions_agree_lem h f d e b b' c c' (Ok (NoPlan u)) (Ok (Plan q)) (_, x) (_, y) = never_near (space_in h e) q.0 ((same_length h f d e).neither x.hopeless) y.nearest
directions_agree_lem h f d e b b' c c' (Ok (NoPlan u)) (Ok (NoPlan v)) x y = tt
directions_agree_lem h f d e b b' c c' (Ok (NoPlan u)) (Err g) x y = tt
directions_agree_lem h f d e b b' c c' (Err g) s x y = tt

pub plans_told : PlansTold
plans_told h f d b b' r x = record {
  shown = λ n used q. let y = at_plan n used q in (length-take-le n b'.plan (omega (arith, y.fits, y.plan_past.long)), y.is_a_plan);
  shortest = λ n used q ks p. omega (arith, (at_plan n used q).nearest.least (in_order d ks) (plan_solves h f d ks p), order_length d ks);
  none = λ used q ks p. (at_none used q).hopeless (in_order d ks) (plan_solves h f d ks p);
}
  where
    at_plan : (n used : ℕ) → r ≡ Ok (Plan (n, used)) → Shown h d b b' n used
    at_plan n used q = (subst (λ (z : Result Outcome Fault). AnsweredIn h d b b' z) q x).1

    at_none : (used : ℕ) → r ≡ Ok (NoPlan used) → Exhausted (space_in h d) b b' used
    at_none used q = (subst (λ (z : Result Outcome Fault). AnsweredIn h d b b' z) q x).1

pub accepted_none : AcceptedNone
accepted_none h f d rows x ks p = closed_hopeless (space_in h d) _ _ x.1 (in_order d ks) (plan_solves h f d ks p)

-- ---- the search's relation
module _ (h : Task) (f : fine h ≡ true) (d : ℕ) (b b' : Buffers ℕ) where
  shown_planned : (n used : ℕ) → Shown h d b b' n used → Planned (space_in h d) b (turned_back d (Ok (Plan (n, used))) b') n used
  shown_planned n used x =
      let within : n ≤ length b'.plan = omega (arith, x.fits, x.plan_past.long) in
      let front : length (in_order d (take n b'.plan)) ≡ n = order_length d (take n b'.plan) ∙ length-take-le n b'.plan within in
      record {
        filled = x.filled;
        nearest = x.nearest;
        fits = x.fits;
        leads = ap (solves (space_in h d)) (take_at _ _ n front) ∙ plan_solves h f d (take n b'.plan) x.is_a_plan;
        plan_past = record {
          rest = drop_at _ _ n front ∙ x.plan_past.rest;
          long = length-append (in_order d (take n b'.plan)) (drop n b'.plan) ∙ omega (arith, front, length-drop n b'.plan, x.plan_past.long);
        };
      }

  searched : (r : Result Outcome Fault) → AnsweredIn h d b b' r → d ≤ 3 → Answered (space_in h d) b (turned_back d r b') r
  searched (Ok (Plan p)) (_, x) l = shown_planned p.0 p.1 x
  searched (Ok (NoPlan used)) (_, x) l = x
  searched (Err g) (no_direction e o q) l = absurd (omega arith)
  searched (Err g) (no_room o x) l = x

  -- a check in a direction that there is is the space's
  checked : (rows : List ℕ) (s : Result (Unit {0}) Fault) → d ≤ 3 → CheckedIn h d rows s → Checked (space_in h d) rows s
  checked rows (Ok _) l (_, x) = x
  checked rows (Err g) l (no_direction_to_check e o) = absurd (omega arith)
  checked rows (Err g) l (broken o x) = x

  pub as_searched : (r : Result Outcome Fault) → AnsweredIn h d b b' r → AsSearched h d b b' r
  as_searched r x = record {
    searched = searched r x;
    accepted = λ used rows s q p y.
        let z = subst (λ (t : Result Outcome Fault). AnsweredIn h d b b' t) q x in
        (sound (space_in h d) rows s (checked rows s z.0 y)).none_accepted b b' used z.1 p;
  }
