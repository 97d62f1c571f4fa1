-- What follows from the search's relation alone, for every space. Assumes nothing.
use Rattle.std.specs.Prelude.{◌≡◌, ℕ, ◌<◌, ◌≤◌, Bool, true, false, List, length, take, Ok, Err, Result, nat_le}
use Rattle.fault.specs.declared.Fault.{Fault}
use Rattle.fault.specs.declared.Fault.TheVariants.{TooFewRows, TooFewPlaces}
use Rattle.space.specs.Meaning.{Meaning}
use Rattle.space.specs.Paths.{solves, Nearest, Hopeless}
use Rattle.space.specs.Rows.{Count, More, Few}
use Rattle.bfs.specs.declared.Outcome.{Outcome}
use Rattle.bfs.specs.declared.Outcome.TheVariants.{Plan, NoPlan}
use Rattle.bfs.specs.Answers.{Buffers, capacity, Answered}

-- the answer where d is the nearest target's distance and n nodes are counted: whether these fit the rows, and the moves the places
abbrev pub decided : Bool → Bool → ℕ → ℕ → Result Outcome Fault
decided false places d n = Err TooFewRows
decided true false d n = Err TooFewPlaces
decided true true d n = Ok (Plan (d, n))

-- the answer where no target is reachable and n nodes are
abbrev pub decided_none : Bool → ℕ → Result Outcome Fault
decided_none false n = Err TooFewRows
decided_none true n = Ok (NoPlan n)

module _ {N : Type 0} (m : Meaning N) where
  pub record Exact (b b' : Buffers N) (r : Result Outcome Fault) : Type 0 where
    -- none is said exactly when no list of moves leads to a target and the reachable nodes are no more than the capacity
    pub none_then : (used : ℕ) → r ≡ Ok (NoPlan used) → Hopeless m × Few m (capacity b.rows)
    pub then_none : Hopeless m → Few m (capacity b.rows) → (used : ℕ) × (r ≡ Ok (NoPlan used))
    -- the rows are too few exactly when more nodes are counted than the capacity
    pub rows_then : r ≡ Err TooFewRows → More m (capacity b.rows)
    pub then_rows : More m (capacity b.rows) → r ≡ Err TooFewRows
    -- the places are too few exactly when the counted nodes fit the rows and the nearest target is farther than there are places
    pub places_then : r ≡ Err TooFewPlaces → (d n : ℕ) × (R : ℕ → N) × Nearest m d × (length b.plan < d) × Count m R n × (n ≤ capacity b.rows)
    pub then_places : (d n : ℕ) (R : ℕ → N) → Nearest m d → length b.plan < d → Count m R n → n ≤ capacity b.rows → r ≡ Err TooFewPlaces
    -- a plan shown leads to a target, and every list of moves that does has at least as many
    pub plan_leads : (d used : ℕ) → r ≡ Ok (Plan (d, used)) → (length (take d b'.plan) ≡ d) × (solves m (take d b'.plan) ≡ true)
    pub plan_least : (d used : ℕ) → r ≡ Ok (Plan (d, used)) → (ks : List ℕ) → solves m ks ≡ true → d ≤ length ks
    -- the space, the capacity and the places alone decide the answer
    pub decides : (R : ℕ → N) (n d : ℕ) → Count m R n → Nearest m d → r ≡ decided (nat_le n (capacity b.rows)) (nat_le d (length b.plan)) d n
    pub decides_none : (R : ℕ → N) (n : ℕ) → Count m R n → Hopeless m → r ≡ decided_none (nat_le n (capacity b.rows)) n
    -- the answers exclude each other: no other fits, whatever the buffers then hold
    pub one : (b'' : Buffers N) (s : Result Outcome Fault) → Answered m b b'' s → s ≡ r

  -- every answer that fits is exact
  abbrev pub AnswersExact : Type 0
  AnswersExact = (b b' : Buffers N) (r : Result Outcome Fault) → Answered m b b' r → Exact b b' r
