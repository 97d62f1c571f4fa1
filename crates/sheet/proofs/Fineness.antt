-- What is read from an accepted text is a task.
use Rattle.std.proofs.Common.{◌≡◌, ℕ, suc, ◌+◌, ◌^◌, ◌<◌, ◌≤◌, true, List, [], ◌∷◌, map, length, get_or, drop, IsSome, Some, None, Option, refl, ap, ◌∙◌, subst, arith}
use Rattle.std.proofs.lemmas.List.{get_or-take, get_or-drop, length-map, length-take-le, length-drop}
use Rattle.std.proofs.lemmas.Bool.{le-leb, lt-ltb, both_ways}
use Rattle.strips.specs.declared.action.Action.{Action}
use Rattle.strips.specs.declared.task.Task.{Task as Owned}
use Rattle.strips.specs.Tasks.{fine, fine_actions}
use Rattle.strips.specs.Views.{Made}
use Rattle.words.specs.Words.{holds}
use Rattle.sheet.specs.Grid.{lines, line_count, line_at, words_in, word_count, cells, fact_count, action_count, action_lines}
use Rattle.sheet.specs.Reading.{marked, action_in, task_of, Accepted}
use Rattle.sheet.proofs.Flags.{set_below}

-- the facts with a letter are facts of the line
marked_below : (x : ℕ) (line : List ℕ) (n : ℕ) → length (words_in line) ≡ n + 1 → marked x line < 2 ^ n
marked_below x line n h = subst (λ (m : ℕ). marked x line < 2 ^ m) long (set_below (map (holds x) (cells line)))
  where
    long : length (map (holds x) (cells line)) ≡ n
    long = omega (arith, length-map (cells line) (holds x), length-drop 1 (words_in line))

-- lines of n facts are actions on n facts
actions_fine : (n : ℕ) (ls : List (List ℕ)) → ((k : ℕ) → k < length ls → length (words_in (get_or ls k [])) ≡ n + 1) → fine_actions n (map action_in ls) ≡ true
actions_fine n [] h = refl
actions_fine n (l ∷ ls) h =
    let w = h 0 (omega arith) in
    rw (lt-ltb _ _ (marked_below 112 l n w), lt-ltb _ _ (marked_below 97 l n w), lt-ltb _ _ (marked_below 100 l n w)) (actions_fine n ls (λ k g. h (suc k) (omega arith)))

-- the lines of the actions are the lines from the fourth on
pub action_line_at : (text : List ℕ) (k : ℕ) → k < action_count text → get_or (action_lines text) k [] ≡ line_at text (k + 3)
action_line_at text k h = get_or-take (action_count text) (drop 3 (lines text)) k [] h ∙ get_or-drop 3 (lines text) k [] ∙ ap (line_at text) (turned k)
  where
    turned : (k : ℕ) → 3 + k ≡ k + 3
    turned k = omega arith

-- as many lines as actions
pub the_action_lines : (text : List ℕ) → length (action_lines text) ≡ action_count text
the_action_lines text = length-take-le (action_count text) (drop 3 (lines text)) (omega (arith, length-drop 3 (lines text)))

pub task_fine : (text : List ℕ) → Accepted text → fine (task_of text) ≡ true
task_fine text a =
    rw (
      le-leb 1 (fact_count text) a.sized.facts.0,
      le-leb (fact_count text) 64 a.sized.facts.1,
      le-leb (length (map action_in (action_lines text))) 256 (omega (arith, length-map (action_lines text) action_in, the_action_lines text, a.sized.actions)),
      lt-ltb _ _ (marked_below 49 (line_at text 1) (fact_count text) (words 1 (omega (arith, a.sized.lines)))),
      lt-ltb _ _ (marked_below 49 (line_at text 2) (fact_count text) (words 2 (omega (arith, a.sized.lines)))),
    ) (actions_fine (fact_count text) (action_lines text) (λ k g. in_line k (omega (arith, the_action_lines text))))
  where
    words : (r : ℕ) → r < line_count text → word_count text r ≡ fact_count text + 1
    words r h = omega (arith, a.even r h, a.sized.facts.0)

    in_line : (k : ℕ) → k < action_count text → length (words_in (get_or (action_lines text) k [])) ≡ fact_count text + 1
    in_line k h = rw (action_line_at text k h) (words (k + 3) (omega arith))

-- at most 256 actions
pub few_actions : (text : List ℕ) → Accepted text → length (task_of text).actions ≤ 256
few_actions text a = omega (arith, length-map (action_lines text) action_in, the_action_lines text, a.sized.actions)

-- so a task with the text's facts, actions, state and goal is made
pub task_made : (text : List ℕ) (facts : ℕ) (actions : List Action) (state goal : ℕ) (r : Option Owned) → Accepted text
    → facts ≡ (task_of text).facts → actions ≡ (task_of text).actions → state ≡ (task_of text).state → goal ≡ (task_of text).goal
    → Made (record { facts = facts; actions = actions; state = state; goal = goal }) r → IsSome r
task_made text facts actions state goal r a f p s g m = some r (rw (f, p, s, g) at m)
  where
    some : (r : Option Owned) → Made (task_of text) r → IsSome r
    some (Some t) m = refl
    some None m = absurd (both_ways (fine (task_of text)) m (task_fine text a))
