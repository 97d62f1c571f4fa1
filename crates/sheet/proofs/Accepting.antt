-- What holds of the lines of an accepted text.
use Rattle.std.proofs.Common.{◌≡◌, ℕ, ◌+◌, ◌<◌, true, List, length, sym, refl, ◌∙◌, subst, arith, below_more}
use Rattle.std.proofs.lemmas.Bool.{ne_eqb}
use Rattle.words.specs.declared.kind.Kind.{Kind}
use Rattle.words.specs.declared.kind.Kind.TheVariants.{Action}
use Rattle.words.specs.Words.{allowed, is_mark, kind_of}
use Rattle.sheet.specs.Grid.{line_count, line_at, words_in, word_count, word_at, action_count}
use Rattle.sheet.specs.Reading.{RightIn, Right, Accepted}
use Rattle.sheet.specs.Shape.{GoodWords, GoodMarks}

-- one line more whose words its columns allow
pub right_more : (text : List ℕ) (row next : ℕ) (line : List ℕ) (kind : Kind) → next ≡ row + 1 → kind ≡ kind_of row → line ≡ line_at text row → Right text row
    → GoodWords line kind (length (words_in line)) → Right text next
right_more text row next line kind n k l before here =
    rw n (below_more (λ r. RightIn text r (word_count text r)) row before (subst (λ (l : List ℕ). GoodWords l (kind_of row) (length (words_in l))) l (rw k at here)))

-- past the first three, lines are actions
action_kind : (k : ℕ) → kind_of (k + 3) ≡ Action
action_kind k = rw (ne_eqb (k + 3) 0 (λ e. omega arith), ne_eqb (k + 3) 1 (λ e. omega arith), ne_eqb (k + 3) 2 (λ e. omega arith)) refl

-- past the first word of an action, words are marks
later_marks : (i : ℕ) (w : List ℕ) → allowed Action (i + 1) w ≡ is_mark w
later_marks i w = rw (ne_eqb (i + 1) 0 (λ e. omega arith)) refl

-- the line of an action has good marks
pub marks_good : (text : List ℕ) (k : ℕ) → Accepted text → k < action_count text → GoodMarks (line_at text (k + 3))
marks_good text k a h = (omega (arith, words, a.sized.facts.1), marks)
  where
    inside : k + 3 < line_count text
    inside = omega arith

    words : word_count text (k + 3) ≡ word_count text 0
    words = a.even (k + 3) inside

    marks : (i : ℕ) → i + 1 < word_count text (k + 3) → is_mark (word_at text (k + 3) (i + 1)) ≡ true
    marks i l =
        sym (later_marks i (word_at text (k + 3) (i + 1))) ∙ subst (λ (q : Kind). allowed q (i + 1) (word_at text (k + 3) (i + 1)) ≡ true) (action_kind k) (a.right (k + 3) inside (i + 1) l)
