-- What follows from the check's relation alone, for every space. Assumes nothing.
use Rattle.std.specs.Prelude.{◌≡◌, ℕ, List, length, take, Ok, Result}
use Rattle.fault.specs.declared.Fault.{Fault}
use Rattle.space.specs.Meaning.{Meaning}
use Rattle.space.specs.Paths.{Hopeless}
use Rattle.space.specs.Rows.{node_at, Closed}
use Rattle.bfs.specs.declared.Outcome.TheVariants.{NoPlan}
use Rattle.bfs.specs.Answers.{Buffers, Answered}
use Rattle.closed.specs.Check.{Checked}

module _ {N : Type 0} (m : Meaning N) where
  pub record Sound (rows : List N) (r : Result (Unit {0}) Fault) : Type 0 where
    -- the closed sets are accepted, and nothing else is
    pub accepted_closed : r ≡ Ok tt → Closed m (node_at m rows) (length rows)
    pub closed_accepted : Closed m (node_at m rows) (length rows) → r ≡ Ok tt
    -- what is accepted shows that no list of moves leads from the start to a target
    pub accepted_hopeless : r ≡ Ok tt → Hopeless m
    -- the rows used are accepted where a search says none
    pub none_accepted : (b b' : Buffers N) (used : ℕ) → Answered m b b' (Ok (NoPlan used)) → rows ≡ take used b'.rows.nodes → r ≡ Ok tt
    -- no other answer fits
    pub one : (s : Result (Unit {0}) Fault) → Checked m rows s → s ≡ r

  -- every answer that fits is sound
  abbrev pub ChecksSound : Type 0
  ChecksSound = (rows : List N) (r : Result (Unit {0}) Fault) → Checked m rows r → Sound rows r
