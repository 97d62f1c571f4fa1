-- What may come after each state of the line reader. Assumes nothing.
use Rattle.std.specs.Prelude.{ℕ, List, [], ◌∷◌, ◌++◌}
use Rattle.lines.specs.Grammar.{Lines}
use Rattle.lines.specs.declared.reader.State.{State}
use Rattle.lines.specs.declared.reader.State.TheVariants.{LineStart, WordStart, InWord}

-- a shortest text that leads to the state: nothing, a hyphen, or a hyphen and a space
abbrev pub shortest : State → List ℕ
shortest LineStart = []
shortest InWord = 45 ∷ []
shortest WordStart = 45 ∷ 32 ∷ []

-- after the state the bytes make lines: a state is known by what may come after its shortest text
abbrev pub Coming : State → List ℕ → Type 0
Coming s q = Lines (shortest s ++ q)

-- after the byte b, state s is state t: the same may come
pub record Onward (s : State) (b : ℕ) (t : State) : Type 0 where
  pub only : (q : List ℕ) → Coming s (b ∷ q) → Coming t q
  pub all : (q : List ℕ) → Coming t q → Coming s (b ∷ q)

-- the byte b may not come in state s
abbrev pub Stuck : State → ℕ → Type 0
Stuck s b = (q : List ℕ) → Coming s (b ∷ q) → ⊥
