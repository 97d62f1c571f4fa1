-- From what planning on a text answers to what the call answers.
use Rattle.std.proofs.Common.{◌≡◌, ℕ, ◌≤◌, List, length, take, pos, Ok, Err, sym, refl, ap, ◌∙◌, subst, arith}
use Rattle.std.proofs.lemmas.List.{length-replicate, length-take-le, length-map}
use Rattle.fault.specs.declared.Fault.{Fault}
use Rattle.fault.specs.Refusals.{Refusal}
use Rattle.space.specs.Rows.{node_at, More}
use Rattle.bfs.specs.declared.Outcome.TheVariants.{Plan}
use Rattle.bfs.specs.Tables.{link_at, origin, Past}
use Rattle.bfs.specs.Answers.{Buffers, Tables, capacity, Filled, rows_short, places_short}
use Rattle.directions.specs.Planning.{no_direction, no_room}
use Rattle.strips.specs.Tasks.{forward}
use Rattle.strips.specs.Duality.{is_plan}
use Rattle.sheet.specs.Grid.{action_lines}
use Rattle.sheet.specs.Reading.{action_in, task_of}
use Rattle.sheet.proofs.Fineness.{the_action_lines}
use Rattle.answer.specs.Planned.{PlannedOn, no_sheet, not_planned}
use Rattle.answer.specs.Reports.{fresh}
use Rattle.answer.proofs.Showing.{plan_in_range}
use Rattle.calls.specs.Calls.{minus, refusing, Fits, Planned, too_few_rows, shown, no_sheet as no-sheet-told}
use Rattle.calls.specs.Copies.{InBytes}
use Rattle.calls.proofs.Lengths.{nearest_below}

-- the capacity of the tables
room : capacity (fresh 2048).rows ≡ 2048
room = rw (length-replicate {A = ℕ} 2048 0, length-replicate 2048 origin) refl

-- the plan places
places : length (fresh 2048).plan ≡ 2048
places = length-replicate {A = ℕ} 2048 0

-- filled rows are few
filled_fits : (text : List ℕ) (t' : Tables ℕ) (used : ℕ) → Filled (forward (task_of text)) (fresh 2048).rows t' used → Fits (forward (task_of text)) 2048
filled_fits text t' used f = record { used = used; few = subst (λ (n : ℕ). used ≤ n) room f.room; rows = node_at (forward (task_of text)) t'.nodes; count = f.count }

module _ (text out : List ℕ) (after : Buffers ℕ) where
  -- a refused planning
  pub refused_told : (f : Fault) → PlannedOn text (fresh 2048) after (Err f) → Planned text out out (refusing f)
  refused_told f (no_sheet h e) = no-sheet-told (record { fault = f; why = h; is = refl }) refl
  refused_told f (not_planned a (no_direction e l q)) = absurd (omega arith)
  refused_told f (not_planned a (no_room l (rows_short e x))) =
      too_few_rows a (subst (More (forward (task_of text))) room x.overfilled.more) refl (ap (λ (s : Refusal). minus s.number) e)
  refused_told f (not_planned a (no_room l (places_short e x))) =
      let m = forward (task_of text) in
      let below = nearest_below m (node_at m after.rows.nodes) (link_at after.rows.links) x.used x.filled.table x.d x.nearest x.filled.count in
      absurd (omega (arith, below, x.filled.room, room, x.over, places))

  module _ (p : ℕ × ℕ) (s : PlannedOn text (fresh 2048) after (Ok (Plan p))) where
    -- the plan's numbers
    abbrev pub moves : List ℕ
    moves = take p.0 after.plan

    -- they are as many as the plan is long, and few
    plan_fits : (p.0 ≤ length after.plan) × (p.0 ≤ 2048)
    plan_fits = (omega (arith, s.1.1.fits, s.1.1.plan_past.long), omega (arith, s.1.1.fits, s.1.1.plan_past.long, places))

    long : length moves ≡ p.0
    long = length-take-le p.0 after.plan plan_fits.0

    -- each is a byte
    pub moves_are_bytes : InBytes moves
    moves_are_bytes i h =
        omega (arith, plan_in_range (task_of text) _ moves s.1.1.is_a_plan i h, length-map (action_lines text) action_in, the_action_lines text, s.0.sized.actions)

    fits : Fits (forward (task_of text)) 2048
    fits = filled_fits text after.rows p.1 s.1.1.filled

    -- a plan that is copied
    pub copied_told : (out' : List ℕ) → length moves ≤ length out → take (length moves) out' ≡ moves → Past (length moves) out out' → Planned text out out' (pos p.0)
    copied_told out' h e rest =
        let front : take p.0 out' ≡ moves = ap (λ (n : ℕ). take n out') (sym long) ∙ e in
        shown p.0 s.0 (record {
          fits = fits;
          nearest = s.1.1.nearest;
          room = omega (arith, long);
          is_a_plan = ap (is_plan (task_of text)) front ∙ s.1.1.is_a_plan;
          rest = subst (λ (n : ℕ). Past n out out') long rest;
        }) refl
