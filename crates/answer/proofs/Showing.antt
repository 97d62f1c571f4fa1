-- What an answer shows of a plan.
use Rattle.std.proofs.Common.{◌≡◌, ℕ, zero, suc, ◌<◌, true, List, [], ◌∷◌, length, get_or, Ok, Err, Result, refl, inl, inr, arith}
use Rattle.std.proofs.lemmas.List.{length-map}
use Rattle.std.proofs.lemmas.Bool.{and_parts, ltb-true}
use Rattle.fault.specs.declared.Fault.{Fault}
use Rattle.bfs.specs.declared.Outcome.{Outcome}
use Rattle.bfs.specs.declared.Outcome.TheVariants.{Plan, NoPlan}
use Rattle.bfs.specs.Answers.{Buffers}
use Rattle.strips.specs.Actions.{progress}
use Rattle.strips.specs.Tasks.{Task, action_at}
use Rattle.strips.specs.Duality.{carries}
use Rattle.sheet.specs.Grid.{action_lines}
use Rattle.sheet.specs.Reading.{action_in, task_of}
use Rattle.sheet.proofs.Fineness.{the_action_lines}
use Rattle.answer.specs.Planned.{PlannedOn}
use Rattle.answer.specs.Reports.{shown_plan, Nameable}

-- each number of a plan is that of an action
pub plan_in_range : (h : Task) (s : ℕ) (ks : List ℕ) → carries h s ks ≡ true → (i : ℕ) → i < length ks → get_or ks i 0 < length h.actions
plan_in_range h s [] e i l = absurd (omega arith)
plan_in_range h s (k ∷ ks) e zero l = ltb-true k (length h.actions) (and_parts _ _ (and_parts _ _ e).0).0
plan_in_range h s (k ∷ ks) e (suc i) l = plan_in_range h (progress (action_at h k) s) ks (and_parts _ _ e).1 i (omega arith)

-- the actions of what planning on a text answers can be named
pub planned_nameable : (text : List ℕ) (before after : Buffers ℕ) (r : Result Outcome Fault) → PlannedOn text before after r → Nameable text (shown_plan r after.plan)
planned_nameable text before after (Ok (Plan p)) (a, s) =
    inl (a, λ i h. omega (arith, plan_in_range (task_of text) _ _ s.1.is_a_plan i h, length-map (action_lines text) action_in, the_action_lines text))
planned_nameable text before after (Ok (NoPlan rows)) s = inr refl
planned_nameable text before after (Err f) s = inr refl
