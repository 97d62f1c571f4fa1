-- The text of a task with given names. Assumes nothing.
use Rattle.std.specs.Prelude.{◌≡◌, ℕ, Bool, true, cond, List, [], ◌∷◌, map, length, codes}
use Rattle.std.specs.List.{list_all, range_with_len}
use Rattle.lines.specs.Grammar.{lines_text}
use Rattle.pieces.specs.Pieces.{piece}
use Rattle.words.specs.Words.{is_name}
use Rattle.words.specs.Marks.{mark_word}
use Rattle.strips.specs.declared.action.Action.{Action}
use Rattle.strips.specs.Sets.{has}
use Rattle.strips.specs.Tasks.{Task}
use Rattle.sheet.specs.Grid.{words_in, line_at, cells, action_lines}
use Rattle.sheet.specs.Reading.{Apart}

-- the names of a text's facts, and of its actions
abbrev pub fact_names : List ℕ → List (List ℕ)
fact_names text = cells (line_at text 0)

abbrev pub action_names : List ℕ → List (List ℕ)
action_names text = map (λ line. piece (words_in line) 0) (action_lines text)

-- a fact that holds now or not
abbrev pub now_word : Bool → List ℕ
now_word b = cond b (codes "1") (codes "0")

-- a fact that is to hold or not
abbrev pub wish_word : Bool → List ℕ
wish_word b = cond b (codes "1") (codes "-")

-- a word for each of n facts
abbrev pub for_facts : ℕ → (ℕ → List ℕ) → List (List ℕ)
for_facts n word = map word (range_with_len 0 n)

-- the words of an action: its name and a mark for each fact
abbrev pub action_words : ℕ → List ℕ → Action → List (List ℕ)
action_words n name p = name ∷ for_facts n (λ i. mark_word (has p.needs i) (has p.adds i) (has p.deletes i))

abbrev pub action_rows : ℕ → List (List ℕ) → List Action → List (List (List ℕ))
action_rows n [] ps = []
action_rows n (name ∷ names) [] = []
action_rows n (name ∷ names) (p ∷ ps) = action_words n name p ∷ action_rows n names ps

-- the lines of a task with given names of its facts and actions
abbrev pub rows_of : List (List ℕ) → List (List ℕ) → Task → List (List (List ℕ))
rows_of facts actions t =
    (codes "line" ∷ facts)
    ∷ (codes "now" ∷ for_facts t.facts (λ i. now_word (has t.state i)))
    ∷ (codes "wish" ∷ for_facts t.facts (λ i. wish_word (has t.goal i)))
    ∷ action_rows t.facts actions t.actions

-- its text
abbrev pub written : List (List ℕ) → List (List ℕ) → Task → List ℕ
written facts actions t = lines_text (rows_of facts actions t)

abbrev pub are_names : List (List ℕ) → Bool
are_names ws = list_all is_name ws

-- n names, no two of them the same
pub record Named (names : List (List ℕ)) (n : ℕ) : Type 0 where
  pub count : length names ≡ n
  pub each : are_names names ≡ true
  pub apart : Apart (piece names) n
