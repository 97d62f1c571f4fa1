-- The lines of a task with names: their words are those that their columns allow, and give back the names and the actions.
use Rattle.std.proofs.Common.{◌≡◌, ℕ, zero, suc, ◌+◌, ◌^◌, ◌<◌, true, ltb, List, [], ◌∷◌, map, length, get_or, drop, codes, refl, ap, ◌∙◌, ap₂, arith}
use Rattle.std.specs.List.{range_with_len, All}
use Rattle.std.proofs.lemmas.List.FromFn.{length-map-range_with_len}
use Rattle.std.proofs.lemmas.List.Elements.{All-map}
use Rattle.std.proofs.lemmas.List.Sums.{AllPass-from_list_all, list_all-from_AllPass}
use Rattle.std.proofs.lemmas.Bool.{and_parts, and_from, ne_eqb, ltb-true}
use Rattle.lines.specs.Grammar.{is_word, is_line, joined}
use Rattle.pieces.specs.Pieces.{piece}
use Rattle.words.specs.declared.kind.Kind.{Kind}
use Rattle.words.specs.declared.kind.Kind.TheVariants as kind
use Rattle.words.specs.Words.{is_name, is_mark, allowed_first, allowed_later, allowed, kind_of, holds}
use Rattle.words.specs.Marks.{mark_word}
use Rattle.strips.specs.declared.action.Action.{Action}
use Rattle.strips.specs.Sets.{has}
use Rattle.strips.specs.Tasks.{Task, fine_action, fine_actions}
use Rattle.sheet.specs.Grid.{words_in}
use Rattle.sheet.specs.Reading.{set_of, marked, action_in}
use Rattle.dual_text.specs.Written.{for_facts, action_words, action_rows, rows_of, are_names, Named}
use Rattle.dual_text.proofs.AcceptedWords.{action_kind}
use Rattle.dual_text.proofs.Splitting.{line_split}
use Rattle.dual_text.proofs.Encoding.{set_of_words, mark_needs, mark_adds, mark_deletes, mark_made, now_allowed, wish_allowed, first_word, later_word}

-- a line of the kind, with a word for each of n facts, each allowed in its column
pub record Row (k : Kind) (n : ℕ) (row : List (List ℕ)) : Type 0 where
  pub line : is_line row ≡ true
  pub long : length row ≡ suc n
  pub right : (j : ℕ) → j < suc n → allowed k j (piece row j) ≡ true

-- such a line from its first word and those for the facts
row_made : (k : Kind) (n : ℕ) (w : List ℕ) (ws : List (List ℕ)) → allowed_first k w ≡ true → length ws ≡ n
    → All (λ v. allowed_later k v ≡ true) ws → Row k n (w ∷ ws)
row_made k n w ws f l a = record {
  line = and_from _ _ (first_word k w f) (list_all-from_AllPass is_word ws (λ j d h. later_word k (get_or ws j d) (a j d h)));
  long = ap suc l;
  right = right;
}
  where
    right : (j : ℕ) → j < suc n → allowed k j (piece (w ∷ ws) j) ≡ true
    right zero h = f
    right (suc j) h = rw (ne_eqb (suc j) 0 (λ e. omega arith)) (a j [] (omega arith))

-- what holds of the word of every fact holds of the words for n facts
for_each_fact : (P : List ℕ → Type 0) (word : ℕ → List ℕ) → ((i : ℕ) → P (word i)) → (n : ℕ) → All P (for_facts n word)
for_each_fact P word f n = All-map P word (range_with_len 0 n) (λ k d h. f (get_or (range_with_len 0 n) k d))

-- the set of a line's facts, read off its words for the facts
pub set_read : (x w n : ℕ) (line first : List ℕ) (word : ℕ → List ℕ) → words_in line ≡ first ∷ for_facts n word
    → ((i : ℕ) → holds x (word i) ≡ has w i) → w < 2 ^ n → marked x line ≡ w
set_read x w n line first word s e h =
    ap (λ (z : List (List ℕ)). set_of (map (holds x) (drop 1 z))) s ∙ set_of_words x w n word e h

-- the line of an action
action_row : (n : ℕ) (name : List ℕ) (p : Action) → is_name name ≡ true → Row kind.Action n (action_words n name p)
action_row n name p h =
    row_made kind.Action n name _ h (length-map-range_with_len _ 0 n)
    (for_each_fact (λ v. is_mark v ≡ true) _ (λ i. mark_made (has p.needs i) (has p.adds i) (has p.deletes i)) n)

-- gives back the action
action_read : (n : ℕ) (name : List ℕ) (p : Action) → is_name name ≡ true → fine_action n p ≡ true → action_in (joined 32 (action_words n name p)) ≡ p
action_read n name p h f =
    let a = and_parts (ltb p.needs (2 ^ n)) _ f in
    let b = and_parts (ltb p.adds (2 ^ n)) _ a.1 in
    same
    (set_read 112 p.needs n row name word split (λ i. mark_needs (has p.needs i) (has p.adds i) (has p.deletes i)) (ltb-true _ _ a.0))
    (set_read 97 p.adds n row name word split (λ i. mark_adds (has p.needs i) (has p.adds i) (has p.deletes i)) (ltb-true _ _ b.0))
    (set_read 100 p.deletes n row name word split (λ i. mark_deletes (has p.needs i) (has p.adds i) (has p.deletes i)) (ltb-true _ _ b.1))
  where
    word : ℕ → List ℕ
    word i = mark_word (has p.needs i) (has p.adds i) (has p.deletes i)

    row : List ℕ
    row = joined 32 (action_words n name p)

    split : words_in row ≡ name ∷ for_facts n word
    split = line_split (action_words n name p) (action_row n name p h).line

    same : {x y z : ℕ} → x ≡ p.needs → y ≡ p.adds → z ≡ p.deletes → ◌≡◌ {A = Action} (record { needs = x; adds = y; deletes = z }) p
    same e f g = rw (e, f, g) refl

-- the lines of the actions: as many as there are actions
pub action_rows_counted : (n : ℕ) (names : List (List ℕ)) (ps : List Action) → length names ≡ length ps → length (action_rows n names ps) ≡ length ps
action_rows_counted n [] ps e = e
action_rows_counted n (name ∷ names) [] e = refl
action_rows_counted n (name ∷ names) (p ∷ ps) e = ap suc (action_rows_counted n names ps (omega arith))

-- each a line of its kind
action_rows_made : (n : ℕ) (names : List (List ℕ)) (ps : List Action) (k : ℕ) → are_names names ≡ true → k < length (action_rows n names ps)
    → Row kind.Action n (get_or (action_rows n names ps) k [])
action_rows_made n [] ps k h l = absurd (omega arith)
action_rows_made n (name ∷ names) [] k h l = absurd (omega arith)
action_rows_made n (name ∷ names) (p ∷ ps) zero h l = action_row n name p (and_parts (is_name name) (are_names names) h).0
action_rows_made n (name ∷ names) (p ∷ ps) (suc k) h l =
    action_rows_made n names ps k (and_parts (is_name name) (are_names names) h).1 (omega arith)

-- with the action's name first
pub action_rows_named : (n : ℕ) (names : List (List ℕ)) (ps : List Action) (k : ℕ) → length names ≡ length ps → k < length ps
    → piece (get_or (action_rows n names ps) k []) 0 ≡ piece names k
action_rows_named n [] ps k e l = absurd (omega arith)
action_rows_named n (name ∷ names) [] k e l = absurd (omega arith)
action_rows_named n (name ∷ names) (p ∷ ps) zero e l = refl
action_rows_named n (name ∷ names) (p ∷ ps) (suc k) e l = action_rows_named n names ps k (omega arith) (omega arith)

-- the lines of the actions give back the actions
pub actions_read : (n : ℕ) (names : List (List ℕ)) (ps : List Action) → length names ≡ length ps → are_names names ≡ true → fine_actions n ps ≡ true
    → map action_in (map (joined 32) (action_rows n names ps)) ≡ ps
actions_read n [] [] e h f = refl
actions_read n [] (p ∷ ps) e h f = absurd (omega arith)
actions_read n (name ∷ names) [] e h f = refl
actions_read n (name ∷ names) (p ∷ ps) e h f =
    let k = and_parts (is_name name) (are_names names) h in
    let g = and_parts (fine_action n p) (fine_actions n ps) f in
    ap₂ (λ (x : Action) (xs : List Action). x ∷ xs) (action_read n name p k.0 g.0) (actions_read n names ps (omega arith) k.1 g.1)

-- and their names
pub names_read : (n : ℕ) (names : List (List ℕ)) (ps : List Action) → length names ≡ length ps → are_names names ≡ true
    → map (λ line. piece (words_in line) 0) (map (joined 32) (action_rows n names ps)) ≡ names
names_read n [] ps e h = refl
names_read n (name ∷ names) [] e h = absurd (omega arith)
names_read n (name ∷ names) (p ∷ ps) e h =
    let k = and_parts (is_name name) (are_names names) h in
    ap₂ (λ (x : List ℕ) (xs : List (List ℕ)). x ∷ xs)
    (ap (λ (z : List (List ℕ)). piece z 0) (line_split (action_words n name p) (action_row n name p k.0).line))
    (names_read n names ps (omega arith) k.1)

-- every line past the third is an action's
later_kind : (r : ℕ) → kind_of (suc (suc (suc r))) ≡ kind.Action
later_kind r = let e : suc (suc (suc r)) ≡ r + 3 = omega arith in ap kind_of e ∙ action_kind r

-- every line of a task with names is one of its kind
pub rows_made : (facts actions : List (List ℕ)) (t : Task) (m : ℕ) → Named facts t.facts → Named actions m
    → (r : ℕ) → r < length (rows_of facts actions t) → Row (kind_of r) t.facts (get_or (rows_of facts actions t) r [])
rows_made facts actions t m f a zero h = row_made kind.Facts t.facts (codes "line") facts refl f.count (AllPass-from_list_all is_name facts f.each)
rows_made facts actions t m f a (suc zero) h =
    row_made kind.Now t.facts (codes "now") _ refl (length-map-range_with_len _ 0 t.facts)
    (for_each_fact (λ v. allowed_later kind.Now v ≡ true) _ (λ i. now_allowed (has t.state i)) t.facts)
rows_made facts actions t m f a (suc (suc zero)) h =
    row_made kind.Wish t.facts (codes "wish") _ refl (length-map-range_with_len _ 0 t.facts)
    (for_each_fact (λ v. allowed_later kind.Wish v ≡ true) _ (λ i. wish_allowed (has t.goal i)) t.facts)
rows_made facts actions t m f a (suc (suc (suc r))) h =
    rw (later_kind r) (action_rows_made t.facts actions t.actions r a.each (omega arith))
