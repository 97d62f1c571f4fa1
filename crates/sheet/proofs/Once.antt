-- What is read from a text is one thing.
use Rattle.std.proofs.Common.{◌≡◌, ℕ, ◌+◌, ◌<◌, ◌≤◌, cond, eqb, ltb, ◌⊎◌, List, ◌++◌, length, take, drop, sym, ap, ◌∙◌, subst, ap₂, inl, inr, arith}
use Rattle.std.proofs.lemmas.List.{append_assoc, take-append-drop, take-take}
use Rattle.std.proofs.lemmas.Bool.{both_ways, cases_order, lt-ltb, le-ltb, eq-eqb, ne_eqb}
use Rattle.fault.specs.declared.Fault.{Fault}
use Rattle.fault.specs.declared.Layer.{Layer}
use Rattle.fault.specs.declared.Layer.TheVariants.{Bytes, Lines as Line-layer, Sheet}
use Rattle.fault.specs.declared.Place.TheVariants.{At}
use Rattle.fault.specs.Refusals.{refusal, refused, spot}
use Rattle.fault.proofs.Apart.{told_apart}
use Rattle.lines.specs.Checked.{Lined, Unlined, wrong_length, wrong_byte}
use Rattle.lines.specs.Grammar.{Lines, Begins, WrongAt}
use Rattle.sheet.specs.Grid.{line_count, line_start, word_start, fact_count, action_count, fact_name, action_name}
use Rattle.sheet.specs.Reading.{Apart, Repeated, Even, Right, Missized, few_lines, no_fact, many_facts, many_actions, Sized, Uneven, IsWrongWord, AgainIn, fact_again, action_again, Refused, bytes, size, count, word, name, Accepted}
use Rattle.sheet.specs.Exactness.{ReadOnce}

-- two numbers neither of which is below the other are the same
neither_below : (m n : ℕ) → (m < n → ⊥) → (n < m → ⊥) → m ≡ n
neither_below m n a b = go (cases_order m n)
  where
    go : (m ≡ n) ⊎ ((m < n) ⊎ (n < m)) → m ≡ n
    go (inl e) = e
    go (inr (inl l)) = absurd (a l)
    go (inr (inr l)) = absurd (b l)

-- faults with one number, layer and place are the same
same_said : (f g : Fault) (n : ℕ) (l : Layer) → refusal f ≡ refused n l (At (spot f)) → refusal g ≡ refused n l (At (spot g)) → spot f ≡ spot g → f ≡ g
same_said f g n l p q e = told_apart f g (p ∙ ap (λ (k : ℕ). refused n l (At k)) e ∙ sym q)

-- ---- the bytes
module _ (text : List ℕ) where
  -- a shorter front of what begins lines begins lines
  begins_shorter : (j k : ℕ) → j ≤ k → Begins (take k text) → Begins (take j text)
  begins_shorter j k h b = record { rest = drop j (take k text) ++ b.rest; whole = subst Lines split b.whole }
    where
      cut : take k text ≡ take j text ++ drop j (take k text)
      cut = sym (take-append-drop j (take k text)) ∙ ap (λ (t : List ℕ). t ++ drop j (take k text)) (take-take j k text h)

      split : take k text ++ b.rest ≡ take j text ++ (drop j (take k text) ++ b.rest)
      split = ap (λ (t : List ℕ). t ++ b.rest) cut ∙ append_assoc (take j text) (drop j (take k text)) b.rest

  -- no wrong place comes before another
  wrong_not_before : (j k : ℕ) → WrongAt text j → WrongAt text k → j < k → ⊥
  wrong_not_before j k v w l = v.wrong (omega (arith, w.inside)) (begins_shorter (j + 1) k (omega arith) w.before)

  -- there is one wrong place
  one_wrong_place : (j k : ℕ) → WrongAt text j → WrongAt text k → j ≡ k
  one_wrong_place j k v w = neither_below j k (wrong_not_before j k v w) (wrong_not_before k j w v)

  -- lines of an allowed length are not refused for their bytes
  lined_not_refused : (f : Fault) → Lined text → Unlined text f → ⊥
  lined_not_refused f l (wrong_length _ s) = both_ways _ s l.size
  lined_not_refused f l (wrong_byte _ _ w) = w.no_lines l.lines

  -- one fault refuses a text for its bytes
  unlined_one : (f g : Fault) → Unlined text f → Unlined text g → f ≡ g
  unlined_one f g (wrong_length p _) (wrong_length q _) = told_apart f g (p ∙ sym q)
  unlined_one f g (wrong_length _ s) (wrong_byte _ t _) = absurd (both_ways _ s t)
  unlined_one f g (wrong_byte _ t _) (wrong_length _ s) = absurd (both_ways _ s t)
  unlined_one f g (wrong_byte p _ v) (wrong_byte q _ w) = same_said f g 2 Bytes p q (one_wrong_place (spot f) (spot g) v w)

-- ---- the other refusals
module _ (text : List ℕ) where
  -- a text of an allowed size is not refused for its size
  sized_not_refused : (f : Fault) → Sized text → Missized text f → ⊥
  sized_not_refused f s (few_lines h _) = omega (arith, s.lines)
  sized_not_refused f s (no_fact _ e _) = omega (arith, s.facts.0)
  sized_not_refused f s (many_facts _ h _) = omega (arith, s.facts.1)
  sized_not_refused f s (many_actions _ _ _ h _) = omega (arith, s.actions)

  -- the place that a refusal for the size names
  size_spot : ℕ
  size_spot =
      cond (ltb (line_count text) 3) (length text)
      (cond (eqb (fact_count text) 0) (length text) (cond (ltb 64 (fact_count text)) (word_start text 0 65) (line_start text 259)))

  -- every refusal for the size names it
  missized_spot : (f : Fault) → Missized text f → spot f ≡ size_spot
  unfolding size_spot
  missized_spot f (few_lines h e) = rw (lt-ltb (line_count text) 3 h) e
  missized_spot f (no_fact h z e) = rw (le-ltb (line_count text) 3 h, eq-eqb (fact_count text) 0 z) e
  missized_spot f (many_facts h m e) = rw (le-ltb (line_count text) 3 h, ne_eqb (fact_count text) 0 (λ z. omega arith), lt-ltb 64 (fact_count text) m) e
  missized_spot f (many_actions h p m _ e) = rw (le-ltb (line_count text) 3 h, ne_eqb (fact_count text) 0 (λ z. omega arith), le-ltb 64 (fact_count text) m) e

  -- the refusals for the size name one place
  missized_one_spot : (f g : Fault) → Missized text f → Missized text g → spot f ≡ spot g
  missized_one_spot f g m n = missized_spot f m ∙ sym (missized_spot g n)

  -- lines with as many words as the first are not refused for their words' number
  even_not_refused : (f : Fault) → Even text (line_count text) → Uneven text f → ⊥
  even_not_refused f e u = u.differs (e u.row u.inside)

  -- the refusals for the words' number name one place: one line is the first that differs
  uneven_one_spot : (f g : Fault) → Uneven text f → Uneven text g → spot f ≡ spot g
  uneven_one_spot f g u v = u.here ∙ ap (line_start text) row ∙ sym v.here
    where
      row : u.row ≡ v.row
      row = neither_below u.row v.row (λ l. u.differs (v.first u.row l)) (λ l. v.differs (u.first v.row l))

  -- words that their columns allow are not refused
  right_not_refused : (f : Fault) → Right text (line_count text) → IsWrongWord text f → ⊥
  right_not_refused f r w = both_ways _ w.wrong (r w.row w.inside w.column w.in_line)

  -- the refusals for a wrong word name one place: one word is the first wrong one
  wrong_one_spot : (f g : Fault) → IsWrongWord text f → IsWrongWord text g → spot f ≡ spot g
  wrong_one_spot f g v w = v.here ∙ ap₂ (word_start text) row column ∙ sym w.here
    where
      row : v.row ≡ w.row
      row = neither_below v.row w.row (λ l. both_ways _ v.wrong (w.first v.row l v.column v.in_line))
          (λ l. both_ways _ w.wrong (v.first w.row l w.column w.in_line))

      column : v.column ≡ w.column
      column = neither_below v.column w.column (λ l. both_ways _ v.wrong (rw row (w.first_in v.column l)))
          (λ l. both_ways _ w.wrong (rw (sym row) (v.first_in w.column l)))

-- a name among names that are all different does not come again
apart_not_repeated : (called : ℕ → List ℕ) (m n i : ℕ) → Apart called m → i < m → Repeated called n i → ⊥
apart_not_repeated called m n i a l r = a r.earlier i r.before l r.again

-- one name is the first that comes again
one_repeated : (called : ℕ → List ℕ) (n i j : ℕ) → Repeated called n i → Repeated called n j → i ≡ j
one_repeated called n i j r s = neither_below i j (λ l. apart_not_repeated called j n i s.first l r) (λ l. apart_not_repeated called i n j r.first l s)

module _ (text : List ℕ) (facts actions : ℕ) where
  -- names that are all different are not refused
  apart_not_refused : (f : Fault) → Apart (fact_name text) facts → Apart (action_name text) actions → AgainIn text facts actions f → ⊥
  apart_not_refused f a b (fact_again r) = apart_not_repeated (fact_name text) facts facts r.index a r.repeated.inside r.repeated
  apart_not_refused f a b (action_again _ r) = apart_not_repeated (action_name text) actions actions r.index b r.repeated.inside r.repeated

  -- the refusals for a name that comes again name one place
  again_one_spot : (f g : Fault) → AgainIn text facts actions f → AgainIn text facts actions g → spot f ≡ spot g
  again_one_spot f g (fact_again r) (fact_again s) =
      r.here ∙ ap (λ (i : ℕ). word_start text 0 (i + 1)) (one_repeated (fact_name text) facts r.index s.index r.repeated s.repeated) ∙ sym s.here
  again_one_spot f g (fact_again r) (action_again a _) = absurd (apart_not_repeated (fact_name text) facts facts r.index a r.repeated.inside r.repeated)
  again_one_spot f g (action_again a _) (fact_again r) = absurd (apart_not_repeated (fact_name text) facts facts r.index a r.repeated.inside r.repeated)
  again_one_spot f g (action_again _ r) (action_again _ s) =
      r.here ∙ ap (λ (i : ℕ). line_start text (i + 3)) (one_repeated (action_name text) actions r.index s.index r.repeated s.repeated) ∙ sym s.here

-- ---- the refusals in their order
-- at most one fault is refused by P
abbrev Unique : (Fault → Type 0) → Type 0
Unique P = (f g : Fault) → P f → P g → f ≡ g

-- the fault says this number and layer, and is refused by P
abbrev Said : ℕ → Layer → (Fault → Type 0) → Fault → Type 0
Said n l P f = (refusal f ≡ refused n l (At (spot f))) × P f

-- where all places are one, at most one fault is refused
said_unique : (n : ℕ) (l : Layer) (P : Fault → Type 0) → ((f g : Fault) → P f → P g → spot f ≡ spot g) → Unique (Said n l P)
said_unique n l P h f g (p, x) (q, y) = same_said f g n l p q (h f g x y)

-- refused by P, or passed by it and refused later by Q
abbrev OrLater : (Fault → Type 0) → Type 0 → (Fault → Type 0) → Fault → Type 0
OrLater P C Q f = P f ⊎ (C × Q f)

-- what is passed is not refused, so at most one fault is refused
later_unique : (P : Fault → Type 0) (C : Type 0) (Q : Fault → Type 0) → ((f : Fault) → C → P f → ⊥) → Unique P → Unique Q → Unique (OrLater P C Q)
later_unique P C Q n u v f g (inl x) (inl y) = u f g x y
later_unique P C Q n u v f g (inl x) (inr (c, _)) = absurd (n f c x)
later_unique P C Q n u v f g (inr (c, _)) (inl y) = absurd (n g c y)
later_unique P C Q n u v f g (inr (_, x)) (inr (_, y)) = v f g x y

module _ (text : List ℕ) where
  -- the refusals from each one on
  abbrev FromNames : Fault → Type 0
  FromNames = Said 6 Sheet (AgainIn text (fact_count text) (action_count text))

  abbrev FromWords : Fault → Type 0
  FromWords = OrLater (Said 5 Sheet (IsWrongWord text)) (Right text (line_count text)) FromNames

  abbrev FromCounts : Fault → Type 0
  FromCounts = OrLater (Said 4 Line-layer (Uneven text)) (Even text (line_count text)) FromWords

  abbrev FromSizes : Fault → Type 0
  FromSizes = OrLater (Said 3 Line-layer (Missized text)) (Sized text) FromCounts

  abbrev FromBytes : Fault → Type 0
  FromBytes = OrLater (Unlined text) (Lined text) FromSizes

  -- a refusal is the first that applies, with what the earlier ones passed
  in_order : (f : Fault) → Refused text f → FromBytes f
  in_order f (bytes u) = inl u
  in_order f (size e l m) = inr (l, inl (e, m))
  in_order f (count e l s u) = inr (l, inr (s, inl (e, u)))
  in_order f (word e l s v w) = inr (l, inr (s, inr (v, inl (e, w))))
  in_order f (name e l s v r a) = inr (l, inr (s, inr (v, inr (r, (e, a)))))

  -- at most one fault is refused, from the last refusal on up to all of them
  names_unique : Unique FromNames
  names_unique = said_unique 6 Sheet (AgainIn text (fact_count text) (action_count text)) (again_one_spot text (fact_count text) (action_count text))

  words_unique : Unique FromWords
  words_unique = later_unique (Said 5 Sheet (IsWrongWord text)) (Right text (line_count text)) FromNames (λ f c p. right_not_refused text f c p.1)
      (said_unique 5 Sheet (IsWrongWord text) (wrong_one_spot text)) names_unique

  counts_unique : Unique FromCounts
  counts_unique = later_unique (Said 4 Line-layer (Uneven text)) (Even text (line_count text)) FromWords (λ f c p. even_not_refused text f c p.1)
      (said_unique 4 Line-layer (Uneven text) (uneven_one_spot text)) words_unique

  sizes_unique : Unique FromSizes
  sizes_unique = later_unique (Said 3 Line-layer (Missized text)) (Sized text) FromCounts (λ f c p. sized_not_refused text f c p.1)
      (said_unique 3 Line-layer (Missized text) (missized_one_spot text)) counts_unique

  bytes_unique : Unique FromBytes
  bytes_unique = later_unique (Unlined text) (Lined text) FromSizes (lined_not_refused text) (unlined_one text) sizes_unique

  -- an accepted text is not refused
  accepted_not_refused : Accepted text → (f : Fault) → Refused text f → ⊥
  accepted_not_refused a f (bytes u) = lined_not_refused text f a.lined u
  accepted_not_refused a f (size _ _ m) = sized_not_refused text f a.sized m
  accepted_not_refused a f (count _ _ _ u) = even_not_refused text f a.even u
  accepted_not_refused a f (word _ _ _ _ w) = right_not_refused text f a.right w
  accepted_not_refused a f (name _ _ _ _ _ r) = apart_not_refused text (fact_count text) (action_count text) f a.facts_apart a.actions_apart r

-- every text is read in one way
pub read_once : (text : List ℕ) → ReadOnce text
read_once text = record {
  not_both = accepted_not_refused text;
  one_refusal = λ f g r s. bytes_unique text f g (in_order text f r) (in_order text g s);
}
