-- From the search's relation to what its answer says of the space.
use Rattle.std.proofs.Common.{◌≡◌, ℕ, ◌<◌, ◌≤◌, Bool, true, false, leb, length, Ok, Err, Result, sym, refl, ap, ◌∙◌, subst, ap₂, arith}
use Rattle.std.proofs.lemmas.List.{length-take-le}
use Rattle.std.proofs.lemmas.Bool.{le-leb, lt-leb}
use Rattle.fault.specs.declared.Fault.{Fault}
use Rattle.fault.specs.declared.Fault.TheVariants.{TooFewRows, TooFewPlaces}
use Rattle.fault.specs.declared.Layer.TheVariants.{Search}
use Rattle.fault.specs.declared.Place.TheVariants.{At}
use Rattle.fault.specs.Refusals.{refusal, refused}
use Rattle.fault.proofs.Apart.{told_apart}
use Rattle.space.specs.Meaning.{Meaning}
use Rattle.space.specs.Paths.{Nearest, Hopeless}
use Rattle.space.specs.Rows.{Count, More, Few}
use Rattle.space.proofs.Counting.{count_one, more_count, more_few}
use Rattle.space.proofs.ClosedSets.{closed_few}
use Rattle.bfs.specs.declared.Outcome.{Outcome}
use Rattle.bfs.specs.declared.Outcome.TheVariants.{Plan, NoPlan}
use Rattle.bfs.specs.Answers.{Tables, Buffers, capacity, Answered, Filled, Planned, Exhausted, Refused, rows_short, places_short}
use Rattle.bfs.specs.Exactness.{decided, decided_none, Exact}

-- the two refusals, by what they say
too_few_rows : (f : Fault) → refusal f ≡ refused 15 Search (At 0) → f ≡ TooFewRows
too_few_rows f e = told_apart f TooFewRows e

too_few_places : (f : Fault) → refusal f ≡ refused 16 Search (At 0) → f ≡ TooFewPlaces
too_few_places f e = told_apart f TooFewPlaces e

module _ {N : Type 0} (m : Meaning N) where
  -- there is one nearest distance
  pub nearest_one : (d e : ℕ) → Nearest m d → Nearest m e → d ≡ e
  nearest_one d e n o =
      omega (arith, n.least o.some.0 o.some.2, o.least n.some.0 n.some.2, n.some.1, o.some.1)

  -- where no target is reachable, none is nearest
  pub never_near : {X : Type 0} (d : ℕ) → Hopeless m → Nearest m d → X
  never_near d h n = absurd (h n.some.0 n.some.2)

  -- tables cannot be both filled and overfilled
  over_filled : {X : Type 0} (t t' t'' : Tables N) (used : ℕ) → More m (capacity t) → Filled m t t'' used → X
  over_filled t t' t'' used o f = absurd (omega (arith, more_count m (capacity t) used _ o f.count, f.room))

-- ---- what decides the answer
module _ {N : Type 0} (m : Meaning N) (b b' : Buffers N) (R : ℕ → N) (n : ℕ) (c : Count m R n) where
  fits : (used : ℕ) → Filled m b.rows b'.rows used → (used ≡ n) × (leb n (capacity b.rows) ≡ true)
  fits used f =
      let q : used ≡ n = count_one m _ _ used n f.count c in
      (q, le-leb n (capacity b.rows) (omega (arith, f.room)))

  fits_not : More m (capacity b.rows) → leb n (capacity b.rows) ≡ false
  fits_not o = lt-leb n (capacity b.rows) (more_count m (capacity b.rows) n R o c)

  pub decides : (d : ℕ) → Nearest m d → (r : Result Outcome Fault) → Answered m b b' r
      → r ≡ decided (leb n (capacity b.rows)) (leb d (length b.plan)) d n
  decides d o (Ok (Plan p)) x =
      let e = nearest_one m p.0 d x.nearest o in
      let f = fits p.1 x.filled in
      let t : leb d (length b.plan) ≡ true = le-leb d (length b.plan) (omega (arith, x.fits)) in
      ap (λ (z : ℕ × ℕ). Ok (Plan z)) (ap₂ (λ (u v : ℕ). (u, v)) e f.0) ∙ sym (ap₂ (λ (u v : Bool). decided u v d n) f.1 t)
  decides d o (Ok (NoPlan u)) x = never_near m d x.hopeless o
  decides d o (Err f) (rows_short e x) =
      ap Err (too_few_rows f e) ∙ sym (ap (λ (u : Bool). decided u (leb d (length b.plan)) d n) (fits_not x.overfilled.more))
  decides d o (Err f) (places_short e x) =
      let g = nearest_one m x.d d x.nearest o in
      let h = fits x.used x.filled in
      let t : leb d (length b.plan) ≡ false = lt-leb d (length b.plan) (omega (arith, x.over)) in
      ap Err (too_few_places f e) ∙ sym (ap₂ (λ (u v : Bool). decided u v d n) h.1 t)

  pub decides_none : Hopeless m → (r : Result Outcome Fault) → Answered m b b' r → r ≡ decided_none (leb n (capacity b.rows)) n
  decides_none h (Ok (Plan p)) x = never_near m p.0 h x.nearest
  decides_none h (Ok (NoPlan u)) x =
      let f = fits u x.filled in
      ap (λ (z : ℕ). Ok (NoPlan z)) f.0 ∙ sym (ap (λ (t : Bool). decided_none t n) f.1)
  decides_none h (Err f) (rows_short e x) =
      ap Err (too_few_rows f e) ∙ sym (ap (λ (t : Bool). decided_none t n) (fits_not x.overfilled.more))
  decides_none h (Err f) (places_short e x) = never_near m x.d h x.nearest

-- ---- one answer
module _ {N : Type 0} (m : Meaning N) (b b' b'' : Buffers N) where
  -- where more nodes are counted than the capacity, no other answer fits
  more_rows : (r : Result Outcome Fault) → More m (capacity b.rows) → Answered m b b'' r → r ≡ Err TooFewRows
  more_rows (Ok (Plan p)) o x = over_filled m b.rows b'.rows b''.rows p.1 o x.filled
  more_rows (Ok (NoPlan u)) o x = over_filled m b.rows b'.rows b''.rows u o x.filled
  more_rows (Err f) o (rows_short e x) = ap Err (too_few_rows f e)
  more_rows (Err f) o (places_short e x) = over_filled m b.rows b'.rows b''.rows x.used o x.filled

  pub one : (r s : Result Outcome Fault) → Answered m b b' r → Answered m b b'' s → s ≡ r
  one (Ok (Plan p)) s x y =
      decides m b b'' _ p.1 x.filled.count p.0 x.nearest s y
      ∙ sym (decides m b b' _ p.1 x.filled.count p.0 x.nearest (Ok (Plan p)) x)
  one (Ok (NoPlan u)) s x y =
      decides_none m b b'' _ u x.filled.count x.hopeless s y
      ∙ sym (decides_none m b b' _ u x.filled.count x.hopeless (Ok (NoPlan u)) x)
  one (Err f) s (rows_short e x) y = more_rows s x.overfilled.more y ∙ sym (ap Err (too_few_rows f e))
  one (Err f) s (places_short e x) y =
      decides m b b'' _ x.used x.filled.count x.d x.nearest s y
      ∙ sym (decides m b b' _ x.used x.filled.count x.d x.nearest (Err f) (places_short e x))

-- ---- all of it
module _ {N : Type 0} (m : Meaning N) (b b' : Buffers N) where
  then_none : (r : Result Outcome Fault) → Answered m b b' r → Hopeless m → Few m (capacity b.rows) → (used : ℕ) × (r ≡ Ok (NoPlan used))
  then_none (Ok (Plan p)) x h f = never_near m p.0 h x.nearest
  then_none (Ok (NoPlan u)) x h f = (u, refl)
  then_none (Err g) (rows_short e x) h f = absurd (more_few m (capacity b.rows) x.overfilled.more f)
  then_none (Err g) (places_short e x) h f = never_near m x.d h x.nearest

  few_more : (u n : ℕ) → u ≤ n → Few m u → Few m n
  few_more u n l f = record { rows = f.rows; each = λ a ks e. let h = f.each a ks e in (h.0, omega (arith, h.1), h.2) }

  refused_rows : (f : Fault) → f ≡ TooFewRows → Refused m b b' f → More m (capacity b.rows)
  refused_rows f q (rows_short e x) = x.overfilled.more
  refused_rows f q (places_short e x) = let o = too_few_places f e in absurd cc

  refused_places : (f : Fault) → f ≡ TooFewPlaces → Refused m b b' f
      → (d n : ℕ) × (R : ℕ → N) × Nearest m d × (length b.plan < d) × Count m R n × (n ≤ capacity b.rows)
  refused_places f q (rows_short e x) = let o = too_few_rows f e in absurd cc
  refused_places f q (places_short e x) = (x.d, x.used, _, x.nearest, x.over, x.filled.count, x.filled.room)

  at_answer : (r s : Result Outcome Fault) → r ≡ s → Answered m b b' r → Answered m b b' s
  at_answer r s q x = subst (λ (z : Result Outcome Fault). Answered m b b' z) q x

  pub exact : (r : Result Outcome Fault) → Answered m b b' r → Exact m b b' r
  exact r x = record {
    none_then = λ used q.
        let y : Exhausted m b b' used = at_answer r (Ok (NoPlan used)) q x in
        (y.hopeless, few_more used (capacity b.rows) y.filled.room (closed_few m _ used y.closed));
    then_none = then_none r x;
    rows_then = λ q. refused_rows TooFewRows refl (at_answer r (Err TooFewRows) q x);
    then_rows = λ o. more_rows m b b' b' r o x;
    places_then = λ q. refused_places TooFewPlaces refl (at_answer r (Err TooFewPlaces) q x);
    then_places = λ d n R o l c h.
        decides m b b' R n c d o r x
        ∙ ap₂ (λ (u v : Bool). decided u v d n) (le-leb n (capacity b.rows) h) (lt-leb d (length b.plan) l);
    plan_leads = λ d used q.
        let y : Planned m b b' d used = at_answer r (Ok (Plan (d, used))) q x in
        (length-take-le d b'.plan (omega (arith, y.fits, y.plan_past.long)), y.leads);
    plan_least = λ d used q. let y : Planned m b b' d used = at_answer r (Ok (Plan (d, used))) q x in y.nearest.least;
    decides = λ R n d c o. decides m b b' R n c d o r x;
    decides_none = λ R n c h. decides_none m b b' R n c h r x;
    one = λ b'' s y. one m b b' b'' r s x y;
  }
