-- What reading a sheet gives: the task, or the refusal with its place. Assumes nothing.
use Rattle.std.specs.Prelude.{◌≡◌, ℕ, ◌+◌, ◌*◌, ◌<◌, ◌≤◌, Bool, true, false, cond, List, [], ◌∷◌, map, length, ◌≢◌}
use Rattle.fault.specs.declared.Fault.{Fault}
use Rattle.fault.specs.declared.Layer.TheVariants.{Lines, Sheet}
use Rattle.fault.specs.declared.Place.TheVariants.{At}
use Rattle.fault.specs.Refusals.{refusal, refused, spot}
use Rattle.lines.specs.Checked.{Lined, Unlined}
use Rattle.strips.specs.declared.action.Action.{Action}
use Rattle.strips.specs.Tasks.{Task}
use Rattle.words.specs.Words.{allowed, kind_of, holds}
use Rattle.sheet.specs.Grid.{line_count, line_at, line_start, word_count, word_at, word_start, fact_count, action_count, fact_name, action_name, cells, action_lines}

-- the set whose fact i is in it where flag i is true
abbrev pub set_of : List Bool → ℕ
set_of [] = 0
set_of (f ∷ fs) = cond f 1 0 + 2 * set_of fs

-- the facts whose word in the line has the byte
abbrev pub marked : ℕ → List ℕ → ℕ
marked x line = set_of (map (holds x) (cells line))

-- the action of a line: p is needed, a added, d deleted
abbrev pub action_in : List ℕ → Action
action_in line = record { needs = marked 112 line; adds = marked 97 line; deletes = marked 100 line }

-- the task of a sheet: 1 stands for a fact that holds now, or that is to hold
abbrev pub task_of : List ℕ → Task
task_of text = record {
  facts = fact_count text;
  actions = map action_in (action_lines text);
  state = marked 49 (line_at text 1);
  goal = marked 49 (line_at text 2);
}

-- the names below n are all different
abbrev pub Apart : (ℕ → List ℕ) → ℕ → Type 0
Apart name n = (i j : ℕ) → i < j → j < n → name i ≢ name j

-- name i is one of those before it, and it is the first that is
pub record Repeated (name : ℕ → List ℕ) (n i : ℕ) : Type 0 where
  pub inside : i < n
  pub earlier : ℕ
  pub before : earlier < i
  pub again : name earlier ≡ name i
  pub first : Apart name i

module _ (text : List ℕ) where
  -- every line has as many words as the first, up to line r
  abbrev pub Even : ℕ → Type 0
  Even r = (j : ℕ) → j < r → word_count text j ≡ word_count text 0

  -- the words of line r up to column c are ones that their columns allow
  abbrev pub RightIn : ℕ → ℕ → Type 0
  RightIn r c = (j : ℕ) → j < c → allowed (kind_of r) j (word_at text r j) ≡ true

  -- and so are all words of the lines up to line r
  abbrev pub Right : ℕ → Type 0
  Right r = (j : ℕ) → j < r → RightIn j (word_count text j)

  -- 3: the number of lines, of facts or of actions
  pub data Missized (f : Fault) : Type 0 where
    few_lines : line_count text < 3 → spot f ≡ length text → Missized f
    no_fact : 3 ≤ line_count text → fact_count text ≡ 0 → spot f ≡ length text → Missized f
    many_facts : 3 ≤ line_count text → 64 < fact_count text → spot f ≡ word_start text 0 65 → Missized f
    many_actions : 3 ≤ line_count text → 0 < fact_count text → fact_count text ≤ 64 → 256 < action_count text → spot f ≡ line_start text 259 → Missized f

  pub record Sized : Type 0 where
    pub lines : 3 ≤ line_count text
    pub facts : (0 < fact_count text) × (fact_count text ≤ 64)
    pub actions : action_count text ≤ 256

  -- 4: the first line with another number of words than the first line
  pub record Uneven (f : Fault) : Type 0 where
    pub row : ℕ
    pub inside : row < line_count text
    pub differs : word_count text row ≡ word_count text 0 → ⊥
    pub first : Even row
    pub here : spot f ≡ line_start text row

  -- 5: the first word that its column does not allow
  pub record IsWrongWord (f : Fault) : Type 0 where
    pub row : ℕ
    pub column : ℕ
    pub inside : row < line_count text
    pub in_line : column < word_count text row
    pub wrong : allowed (kind_of row) column (word_at text row column) ≡ false
    pub first : Right row
    pub first_in : RightIn row column
    pub here : spot f ≡ word_start text row column

  -- 6: the first name that comes again, among the facts or else among the actions
  pub record FactAgain (facts : ℕ) (f : Fault) : Type 0 where
    pub index : ℕ
    pub repeated : Repeated (fact_name text) facts index
    pub here : spot f ≡ word_start text 0 (index + 1)

  pub record ActionAgain (actions : ℕ) (f : Fault) : Type 0 where
    pub index : ℕ
    pub repeated : Repeated (action_name text) actions index
    pub here : spot f ≡ line_start text (index + 3)

  pub data AgainIn (facts actions : ℕ) (f : Fault) : Type 0 where
    fact_again : FactAgain facts f → AgainIn facts actions f
    action_again : Apart (fact_name text) facts → ActionAgain actions f → AgainIn facts actions f

  -- The refusals of a text, in their order: each is tried over the whole text before the next.
  pub data Refused (f : Fault) : Type 0 where
    bytes : Unlined text f → Refused f
    size : refusal f ≡ refused 3 Lines (At (spot f)) → Lined text → Missized f → Refused f
    count : refusal f ≡ refused 4 Lines (At (spot f)) → Lined text → Sized → Uneven f → Refused f
    word : refusal f ≡ refused 5 Sheet (At (spot f)) → Lined text → Sized → Even (line_count text) → IsWrongWord f → Refused f
    name : refusal f ≡ refused 6 Sheet (At (spot f)) → Lined text → Sized → Even (line_count text) → Right (line_count text) → AgainIn (fact_count text) (action_count text) f → Refused f

  -- what is left where no refusal applies
  pub record Accepted : Type 0 where
    pub lined : Lined text
    pub sized : Sized
    pub even : Even (line_count text)
    pub right : Right (line_count text)
    pub facts_apart : Apart (fact_name text) (fact_count text)
    pub actions_apart : Apart (action_name text) (action_count text)
