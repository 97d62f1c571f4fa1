-- The names of an accepted text are names, all different.
use Rattle.std.proofs.Common.{◌≡◌, ℕ, ◌<◌, true, List, [], length, sym, ap, ◌∙◌, arith}
use Rattle.std.proofs.lemmas.List.{get_or-map, length-map}
use Rattle.std.proofs.lemmas.List.Elements.{All-from_get_or}
use Rattle.std.proofs.lemmas.List.Sums.{list_all-from_AllPass}
use Rattle.pieces.specs.Pieces.{piece}
use Rattle.words.specs.Words.{is_name}
use Rattle.sheet.specs.Grid.{line_count, line_at, words_in, action_count, action_name, action_lines}
use Rattle.dual_text.specs.Written.{fact_names, action_names, are_names}
use Rattle.dual_text.specs.Texts.{NamesGood}
use Rattle.dual_text.proofs.AcceptedWords.{cell_is, cells_even, cell_allowed, the_action_lines, action_line, action_named}

-- words that are each a name are names
names_from_each : (ws : List (List ℕ)) → ((k : ℕ) → k < length ws → is_name (piece ws k) ≡ true) → are_names ws ≡ true
names_from_each ws f = list_all-from_AllPass is_name ws (All-from_get_or (λ w. is_name w ≡ true) ws [] f)

-- there is a name for each action
names_of_actions : (text : List ℕ) → length (action_names text) ≡ action_count text
names_of_actions text = length-map (action_lines text) (λ (line : List ℕ). piece (words_in line) 0) ∙ the_action_lines text

-- name k is the first word of the line of action k
name_of_action : (text : List ℕ) (k : ℕ) → k < action_count text → piece (action_names text) k ≡ action_name text k
name_of_action text k h =
    get_or-map (λ (line : List ℕ). piece (words_in line) 0) (action_lines text) k [] [] (omega (arith, the_action_lines text))
    ∙ ap (λ (line : List ℕ). piece (words_in line) 0) (action_line text k h)

-- the names of an accepted text are names, all different
pub names_good : NamesGood
names_good text a =
    let first : 0 < line_count text = omega (arith, a.sized.lines) in
    record {
      facts = record {
        count = cells_even text a 0 first;
        each = names_from_each (fact_names text) (λ k h. cell_allowed text a 0 k first (omega (arith, cells_even text a 0 first)));
        apart = λ i j h l e. a.facts_apart i j h l (sym (cell_is (line_at text 0) i) ∙ e ∙ cell_is (line_at text 0) j);
      };
      actions = record {
        count = names_of_actions text;
        each = names_from_each (action_names text) (λ k h.
            let l : k < action_count text = omega (arith, names_of_actions text) in rw (name_of_action text k l) (action_named text a k l));
        apart = λ i j h l e. a.actions_apart i j h l (sym (name_of_action text i (omega arith)) ∙ e ∙ name_of_action text j l);
      };
    }
