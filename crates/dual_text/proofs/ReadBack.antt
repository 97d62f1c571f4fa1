-- The text of a task with names gives back the task and the names.
use Rattle.std.proofs.Common.{◌≡◌, ℕ, suc, ◌+◌, ◌^◌, ◌<◌, ◌≤◌, true, ltb, leb, List, [], ◌∷◌, ◌++◌, map, length, get_or, take, drop, codes, sym, refl, ap, ◌∙◌, subst, add-one, arith}
use Rattle.std.proofs.lemmas.List.{length-append, length-map, take_at}
use Rattle.std.proofs.lemmas.List.Elements.{All-from_get_or}
use Rattle.std.proofs.lemmas.List.Sums.{list_all-from_AllPass}
use Rattle.std.proofs.lemmas.Bool.{and_from, and_parts, le-leb, leb-true, ltb-true}
use Rattle.lines.specs.Grammar.{is_line, are_lines, joined, lines_text}
use Rattle.lines.specs.Checked.{Lined}
use Rattle.pieces.specs.Pieces.{piece}
use Rattle.words.specs.Words.{allowed, kind_of}
use Rattle.strips.specs.declared.action.Action.{Action}
use Rattle.strips.specs.Sets.{has}
use Rattle.strips.specs.Tasks.{Task, fine}
use Rattle.sheet.specs.Grid.{lines, line_count, line_at, words_in, word_count, fact_count, action_count, fact_name, action_name, action_lines}
use Rattle.sheet.specs.Reading.{action_in, Apart, RightIn, Accepted}
use Rattle.dual_text.specs.Written.{action_rows, rows_of, written, Named}
use Rattle.dual_text.specs.Texts.{ReadsAs, IsReadBack}
use Rattle.dual_text.proofs.Splitting.{lines_split, lines_counted, words_at}
use Rattle.dual_text.proofs.Encoding.{now_tells, wish_tells}
use Rattle.dual_text.proofs.Rows.{Row, set_read, action_rows_counted, action_rows_named, actions_read, names_read, rows_made}

-- the text is lines of an allowed length, and these are their words
record Shows (text : List ℕ) (rows : List (List (List ℕ))) : Type 0 where
  lined : Lined text
  split : lines text ≡ map (joined 32) rows ++ [] ∷ []
  counted : line_count text ≡ length rows
  words : (r : ℕ) → r < length rows → words_in (line_at text r) ≡ get_or rows r []

-- the text of some lines shows them
shows : (rows : List (List (List ℕ))) → are_lines rows ≡ true → 0 < length rows → length (lines_text rows) ≤ 65535 → Shows (lines_text rows) rows
shows rows g h l = record {
  lined = record {
    size = and_from _ _ (le-leb 1 (length (lines_text rows)) (some rows h)) (le-leb (length (lines_text rows)) 65535 l);
    lines = record { lines = rows; good = g; same = refl };
  };
  split = lines_split rows g;
  counted = lines_counted rows g;
  words = λ r k. words_at rows r g k;
}
  where
    some : (rows : List (List (List ℕ))) → 0 < length rows → 1 ≤ length (lines_text rows)
    some [] h = absurd (omega arith)
    some (l ∷ ls) h = omega (arith, length-append (joined 32 l) (10 ∷ lines_text ls))

-- names that are the same are apart where the others are
apart_same : (f g : ℕ → List ℕ) (n : ℕ) → ((i : ℕ) → i < n → f i ≡ g i) → Apart g n → Apart f n
apart_same f g n e a i j h k q = a i j h k (sym (e i (omega arith)) ∙ q ∙ e j k)

-- a text of lines of their kinds is accepted, where there are enough of them and no name comes again
accepted_made : (text : List ℕ) (rows : List (List (List ℕ))) (n k : ℕ) → Shows text rows → length rows ≡ 3 + k → 0 < n → n ≤ 64 → k ≤ 256
    → ((r : ℕ) → r < length rows → Row (kind_of r) n (get_or rows r []))
    → Apart (λ i. piece (get_or rows 0 []) (i + 1)) n → Apart (λ i. piece (get_or rows (i + 3) []) 0) k → Accepted text
accepted_made text rows n k s e low high few made fact_apart action_apart = record {
  lined = s.lined;
  sized = record {
    lines = omega (arith, s.counted);
    facts = (omega (arith, first), omega (arith, first));
    actions = omega (arith, s.counted);
  };
  even = λ j l. wide j (omega (arith, s.counted)) ∙ sym first;
  right = λ r l j m. rights r (omega (arith, s.counted)) j m;
  facts_apart =
      subst (Apart (fact_name text)) facts_counted
      (apart_same (fact_name text) _ n (λ i l. ap (λ (z : List (List ℕ)). piece z (i + 1)) (s.words 0 (omega arith))) fact_apart);
  actions_apart =
      subst (Apart (action_name text)) actions_counted
      (apart_same (action_name text) _ k (λ i l. ap (λ (z : List (List ℕ)). piece z 0) (s.words (i + 3) (omega arith))) action_apart);
}
  where
    wide : (r : ℕ) → r < length rows → word_count text r ≡ suc n
    wide r l = ap length (s.words r l) ∙ (made r l).long

    first : word_count text 0 ≡ suc n
    first = wide 0 (omega arith)

    rights : (r : ℕ) → r < length rows → RightIn text r (word_count text r)
    rights r l j m =
        subst (λ (z : List (List ℕ)). allowed (kind_of r) j (piece z j) ≡ true) (sym (s.words r l)) ((made r l).right j (omega (arith, wide r l)))

    facts_counted : n ≡ fact_count text
    facts_counted = omega (arith, first)

    actions_counted : k ≡ action_count text
    actions_counted = omega (arith, s.counted)

-- a text that shows the lines of a fine task with good names is accepted, and reads as the task with the names
reads : (text : List ℕ) (facts actions : List (List ℕ)) (t : Task) → Shows text (rows_of facts actions t) → fine t ≡ true
    → Named facts t.facts → Named actions (length t.actions) → ReadsAs text facts actions t
reads text facts actions t s h f a =
    let p = and_parts (leb 1 t.facts) _ h in
    let q = and_parts (leb t.facts 64) _ p.1 in
    let u = and_parts (leb (length t.actions) 256) _ q.1 in
    let v = and_parts (ltb t.state (2 ^ t.facts)) _ u.1 in
    let w = and_parts (ltb t.goal (2 ^ t.facts)) _ v.1 in
    record {
      accepted =
          accepted_made text (rows_of facts actions t) t.facts (length t.actions) s rows_counted
          (leb-true _ _ p.0) (leb-true _ _ q.0) (leb-true _ _ u.0)
          (rows_made facts actions t (length t.actions) f a)
          (apart_same _ (piece facts) t.facts fact_named f.apart)
          (apart_same _ (piece actions) (length t.actions) action_named a.apart);
      task =
          same facts_counted
          (ap (map action_in) the_action_lines ∙ actions_read t.facts actions t.actions a.count a.each w.1)
          (set_read 49 t.state t.facts (line_at text 1) (codes "now") _ (s.words 1 (omega arith)) (λ i. now_tells (has t.state i)) (ltb-true _ _ v.0))
          (set_read 49 t.goal t.facts (line_at text 2) (codes "wish") _ (s.words 2 (omega arith)) (λ i. wish_tells (has t.goal i)) (ltb-true _ _ w.0));
      the_fact_names = ap (drop 1) (s.words 0 (omega arith));
      the_action_names = ap (map (λ line. piece (words_in line) 0)) the_action_lines ∙ names_read t.facts actions t.actions a.count a.each;
    }
  where
    body : List (List (List ℕ))
    body = action_rows t.facts actions t.actions

    body_counted : length body ≡ length t.actions
    body_counted = action_rows_counted t.facts actions t.actions a.count

    rows_counted : length (rows_of facts actions t) ≡ 3 + length t.actions
    rows_counted = omega (arith, body_counted)

    facts_counted : fact_count text ≡ t.facts
    facts_counted = omega (arith, ap length (s.words 0 (omega arith)), f.count)

    actions_counted : length (map (joined 32) body) ≡ action_count text
    actions_counted = length-map body (joined 32) ∙ omega (arith, s.counted)

    the_action_lines : action_lines text ≡ map (joined 32) body
    the_action_lines =
        ap (λ (z : List (List ℕ)). take (action_count text) (drop 3 z)) s.split
        ∙ take_at (map (joined 32) body) ([] ∷ []) (action_count text) actions_counted

    fact_named : (i : ℕ) → i < t.facts → piece (codes "line" ∷ facts) (i + 1) ≡ piece facts i
    fact_named i l = rw add-one refl

    action_named : (k : ℕ) → k < length t.actions → piece (get_or (rows_of facts actions t) (k + 3) []) 0 ≡ piece actions k
    action_named k l =
        ap (λ (r : ℕ). piece (get_or (rows_of facts actions t) r []) 0) (three k) ∙ action_rows_named t.facts actions t.actions k a.count l
      where
        three : (k : ℕ) → k + 3 ≡ suc (suc (suc k))
        three k = omega arith

    same : {n x y : ℕ} {ps : List Action} → n ≡ t.facts → ps ≡ t.actions → x ≡ t.state → y ≡ t.goal
        → ◌≡◌ {A = Task} (record { facts = n; actions = ps; state = x; goal = y }) t
    same d e f g = rw (d, e, f, g) refl

-- the theorem
pub read_back : IsReadBack
read_back facts actions t h f a l =
    reads (written facts actions t) facts actions t (shows (rows_of facts actions t) lines_good (omega arith) l) h f a
  where
    lines_good : are_lines (rows_of facts actions t) ≡ true
    lines_good =
        list_all-from_AllPass is_line (rows_of facts actions t)
        (All-from_get_or (λ row. is_line row ≡ true) (rows_of facts actions t) [] (λ r k. (rows_made facts actions t (length t.actions) f a r k).line))
