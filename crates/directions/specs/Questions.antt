-- What is asked of a direction's space, and what is answered. Assumes nothing.
use Rattle.std.specs.Prelude.{◌≡◌, ℕ, Result}
use Rattle.fault.specs.declared.Fault.{Fault}
use Rattle.space.specs.Meaning.{Meaning}
use Rattle.bfs.specs.declared.Outcome.{Outcome}
use Rattle.bfs.specs.Answers.{Answered, buffers}
use Rattle.closed.specs.Check.{Checked}
use Rattle.directions.specs.declared.Search.{Search}
use Rattle.directions.specs.declared.Check.{Check}

-- the buffers lent stay the ones lent, and the answer is that of a search
abbrev pub Searched : Meaning ℕ → Search → Search → Result Outcome Fault → Type 0
Searched m s t r =
    (t.nodes.ghost_name ≡ s.nodes.ghost_name) × (t.links.ghost_name ≡ s.links.ghost_name) × (t.plan.ghost_name ≡ s.plan.ghost_name)
    × Answered m (buffers s.nodes.now s.links.now s.plan.now) (buffers t.nodes.now t.links.now t.plan.now) r

-- the answer is that of a check of the rows
abbrev pub RowsChecked : Meaning ℕ → Check → Check → Result (Unit {0}) Fault → Type 0
RowsChecked m s t r = Checked m s.rows.now r
