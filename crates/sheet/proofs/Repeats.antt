-- Names that come again.
use Rattle.std.proofs.Common.{◌≡◌, ℕ, zero, suc, ◌+◌, ◌<◌, ◌≤◌, true, false, eqb, ◌⊎◌, inl, inr, subst, Ok, Err, Result, List, [], ◌∷◌, ◌++◌, map, length, get_or, take, drop, sym, refl, ap, ◌∙◌, arith, below_more, Bor}
use Rattle.std.proofs.lemmas.List.{get_or-map, get_or-take, get_or-drop, length-map, length-take-le, length-drop, map_more, map-append}
use Rattle.std.proofs.lemmas.Slice.Eq.{slice_eq-Decides}
use Rattle.std.proofs.lemmas.Bool.{both_ways, cases_Bool}
use Rattle.std.proofs.lemmas.Bool.Decides.{Decides-eqb}
use lib.Pointwise.{pointwise}
use Rattle.fault.specs.declared.Fault.{Fault}
use Rattle.fault.specs.declared.Fault.TheVariants.{RepeatedName}
use Rattle.fault.specs.declared.Layer.TheVariants.{Sheet}
use Rattle.fault.specs.declared.Place.TheVariants.{At}
use Rattle.fault.specs.Refusals.{refusal, refused, spot}
use Rattle.pieces.specs.Pieces.{pieces, place, piece}
use Rattle.std.specs.List.{onto_first}
use Rattle.sheet.specs.Grid.{words_in, line_at, fact_name, fact_count, action_count}
use Rattle.sheet.specs.Reading.{Apart, Repeated, AgainIn, fact_again, action_again}
use Rattle.sheet.specs.Repeats.{name_of_piece, FirstRepeat, ToldApart}
use Rattle.pieces.proofs.Walk.{Here}

-- the first word of a piece
abbrev pub first_word : List ℕ → List ℕ
first_word p = piece (words_in p) 0

-- an empty slice, for a default that no statement looks at
nowhere : Bor (List ℕ)
nowhere = record { ref_ptr = (0, 0); now = [] }

-- these are the names of the first n pieces past the first ones
abbrev pub Held : (sep : ℕ) → (text : List ℕ) → (past : ℕ) → List (Bor (List ℕ)) → ℕ → Type 0
Held sep text past names n = map (λ w. w.now) names ≡ map first_word (take n (drop past (pieces sep text)))

-- one turn of the loop: names are held of n pieces, and the next piece stands at a place
module _ (sep : ℕ) (text : List ℕ) (past count : ℕ) (names : List (Bor (List ℕ))) (n : ℕ) (held : Held sep text past names n) (at : ℕ) (p : List ℕ)
    (stands : Here (pieces sep text) (n + past) at p) (now : n < count) where
  later : List (List ℕ)
  later = drop past (pieces sep text)

  name : ℕ → List ℕ
  name = name_of_piece sep text past

  enough : n < length later
  unfolding later
  enough = omega (arith, stands.inside, length-drop past (pieces sep text))

  long : length names ≡ n
  unfolding later
  long =
      sym (length-map names (λ w. w.now)) ∙ ap length held ∙ length-map (take n later) first_word ∙ length-take-le n later (omega (arith, enough))

  named : (k : ℕ) → first_word (get_or later k []) ≡ name k
  unfolding later name
  named k = ap first_word (get_or-drop past (pieces sep text) k [] ∙ ap (piece (pieces sep text)) (omega arith))

  held_at : (k : ℕ) → k < n → (get_or names k nowhere).now ≡ name k
  unfolding later
  held_at k h =
      sym (get_or-map (λ w. w.now) names k nowhere [] (omega (arith, long))) ∙ ap (λ (ws : List (List ℕ)). get_or ws k []) held
      ∙ get_or-map first_word (take n later) k [] [] (omega (arith, length-take-le n later (omega (arith, enough)))) ∙ ap first_word (get_or-take n later k [] h) ∙ named k

  module _ (w : Bor (List ℕ)) (is : w.now ≡ first_word p) where
    here : w.now ≡ name n
    unfolding name
    here = is ∙ ap first_word stands.is

    -- one of them is its name
    pub found : Apart (name_of_piece sep text past) n → (k : ℕ) × (k < length names) × ((d : Bor (List ℕ)) → pointwise eqb (get_or names k d).now w.now ≡ true)
        → FirstRepeat sep text past count (Err (RepeatedName at))
    unfolding name
    found apart (k, l, e) =
        let before : k < n = omega (arith, long) in (
          n,
          record {
            inside = now;
            earlier = k;
            before = before;
            again = sym (held_at k before) ∙ (slice_eq-Decides Decides-eqb _ _ _ refl).0 (e nowhere) ∙ here;
            first = apart;
          },
          ap RepeatedName stands.begins,
        )

    -- or none is
    pub apart_more : (next : ℕ) → next ≡ n + 1 → Apart (name_of_piece sep text past) n
        → ((k : ℕ) → (d : Bor (List ℕ)) → 0 ≤ k → k < length names → pointwise eqb (get_or names k d).now w.now ≡ false) → Apart (name_of_piece sep text past) next
    unfolding name
    apart_more next e apart none i j lt k = below_more (λ j. i < j → name i ≡ name j → ⊥) n (λ j k lt. apart i j lt k) last j (omega arith) lt
      where
        last : i < n → name i ≡ name n → ⊥
        last h q = both_ways _ (none i nowhere (omega arith) (omega (arith, long))) ((slice_eq-Decides Decides-eqb _ _ _ refl).1 (held_at i h ∙ q ∙ sym here))

    -- and then it is held too
    pub held_more : (next : ℕ) (more : List (Bor (List ℕ))) → next ≡ n + 1 → more ≡ names ++ w ∷ [] → Held sep text past more next
    unfolding later
    held_more next more e q =
        rw (e, q)
        (map-append (λ w. w.now) names (w ∷ [])
        ∙ rw (held, here) (sym (map_more first_word later n [] enough ∙ ap (λ (p : List ℕ). map first_word (take n later) ++ p ∷ []) (named n))))

-- each of these is one piece
abbrev AreWhole : ℕ → List (List ℕ) → Type 0
AreWhole sep [] = Unit {0}
AreWhole sep (p ∷ ps) = (pieces sep p ≡ p ∷ []) × AreWhole sep ps

are_whole : (sep : ℕ) (text : List ℕ) → AreWhole sep (pieces sep text)
are_whole sep [] = (refl, tt)
are_whole sep (b ∷ bs) = go (cases_Bool (eqb b sep)) (are_whole sep bs)
  where
    onto : (ps : List (List ℕ)) → eqb b sep ≡ false → AreWhole sep ps → AreWhole sep (onto_first b ps)
    onto [] n o = (rw n refl, tt)
    onto (p ∷ ps) n (e, o) = (rw (n, e) refl, o)

    go : (eqb b sep ≡ true) ⊎ (eqb b sep ≡ false) → AreWhole sep (pieces sep bs) → AreWhole sep (pieces sep (b ∷ bs))
    go (inl y) o = rw y (refl, o)
    go (inr n) o = rw n (onto (pieces sep bs) n o)

-- so its first piece is the whole
first_of : (sep : ℕ) (ps : List (List ℕ)) (k : ℕ) → AreWhole sep ps → piece (pieces sep (piece ps k)) 0 ≡ piece ps k
first_of sep [] k o = refl
first_of sep (p ∷ ps) zero (e, o) = ap (λ (z : List (List ℕ)). piece z 0) e
first_of sep (p ∷ ps) (suc k) (e, o) = first_of sep ps k o

-- the words of the first line past its first word are the facts' names
fact_names : (text : List ℕ) → name_of_piece 32 (line_at text 0) 1 ≡ fact_name text
fact_names text = λ t i. first_of 32 (words_in (line_at text 0)) (i + 1) (are_whole 32 (line_at text 0)) t

module _ (text : List ℕ) (facts actions : ℕ) (f : Fault) where
  -- a repeated name is refused by 6
  by_six : (at : ℕ) → f ≡ RepeatedName at → refusal f ≡ refused 6 Sheet (At (spot f))
  by_six at b = rw b refl

  -- what is found among the words of the first line
  pub facts_told : (line : List ℕ) → line ≡ line_at text 0 → FirstRepeat 32 line 1 facts (Err f) → (refusal f ≡ refused 6 Sheet (At (spot f))) × AgainIn text facts actions f
  facts_told line e (i, r, b) = (
    by_six _ b,
    fact_again (record {
      index = i;
      repeated = subst (λ (name : ℕ → List ℕ). Repeated name facts i) (ap (λ (l : List ℕ). name_of_piece 32 l 1) e ∙ fact_names text) r;
      here = ap spot b ∙ ap (λ (l : List ℕ). place (words_in l) (i + 1)) e ∙ omega arith;
    }),
  )

  -- and among the lines of the actions
  pub actions_told : Apart (fact_name text) facts → FirstRepeat 10 text 3 actions (Err f) → (refusal f ≡ refused 6 Sheet (At (spot f))) × AgainIn text facts actions f
  actions_told apart (i, r, b) = (by_six _ b, action_again apart (record { index = i; repeated = r; here = ap spot b }))

-- facts whose names are different
pub facts_apart : (text line : List ℕ) (facts : ℕ) → line ≡ line_at text 0 → FirstRepeat 32 line 1 facts (Ok tt) → Apart (fact_name text) facts
facts_apart text line facts e a = subst (λ (name : ℕ → List ℕ). Apart name facts) (ap (λ (l : List ℕ). name_of_piece 32 l 1) e ∙ fact_names text) a

-- what is told of the actions' names, where the facts' names are different
pub told : (text : List ℕ) → Apart (fact_name text) (fact_count text) → (r : Result (Unit {0}) Fault) → FirstRepeat 10 text 3 (action_count text) r → ToldApart text r
told text apart (Ok _) a = (apart, a)
told text apart (Err f) a = actions_told text (fact_count text) (action_count text) f apart a
