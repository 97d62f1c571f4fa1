-- The lines and words of a text, by number and by place. Assumes nothing.
use Rattle.std.specs.Prelude.{ℕ, ◌+◌, ◌-◌, List, length, take, drop}
use Rattle.pieces.specs.Pieces.{pieces, place, piece}

-- the pieces between line ends; in a text of lines there is one more than lines, and the last is empty
abbrev pub lines : List ℕ → List (List ℕ)
lines text = pieces 10 text

abbrev pub line_count : List ℕ → ℕ
line_count text = length (lines text) - 1

abbrev pub line_at : List ℕ → ℕ → List ℕ
line_at text r = piece (lines text) r

-- where a line begins
abbrev pub line_start : List ℕ → ℕ → ℕ
line_start text r = place (lines text) r

-- the words of a line
abbrev pub words_in : List ℕ → List (List ℕ)
words_in line = pieces 32 line

abbrev pub word_count : List ℕ → ℕ → ℕ
word_count text r = length (words_in (line_at text r))

abbrev pub word_at : List ℕ → ℕ → ℕ → List ℕ
word_at text r c = piece (words_in (line_at text r)) c

-- where a word begins
abbrev pub word_start : List ℕ → ℕ → ℕ → ℕ
word_start text r c = line_start text r + place (words_in (line_at text r)) c

-- a fact for each word of the first line but one, an action for each line but three
abbrev pub fact_count : List ℕ → ℕ
fact_count text = word_count text 0 - 1

abbrev pub action_count : List ℕ → ℕ
action_count text = line_count text - 3

abbrev pub fact_name : List ℕ → ℕ → List ℕ
fact_name text i = word_at text 0 (i + 1)

abbrev pub action_name : List ℕ → ℕ → List ℕ
action_name text k = word_at text (k + 3) 0

-- the words for the facts
abbrev pub cells : List ℕ → List (List ℕ)
cells line = drop 1 (words_in line)

-- the lines of the actions
abbrev pub action_lines : List ℕ → List (List ℕ)
action_lines text = take (action_count text) (drop 3 (lines text))
