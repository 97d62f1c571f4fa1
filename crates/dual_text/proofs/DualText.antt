-- The dual text reads as the dual task with the same names, and its dual text is the first text.
use Rattle.std.proofs.Common.{◌≡◌, ℕ, ◌≤◌, leb, List, map, length, sym, ap, ◌∙◌, subst}
use Rattle.std.proofs.lemmas.List.{length-map}
use Rattle.std.proofs.lemmas.Bool.{and_parts, leb-true}
use Rattle.strips.specs.Actions.{dual_action}
use Rattle.strips.specs.Duality.{dual}
use Rattle.strips.proofs.Dual.{dual_fine, involution}
use Rattle.sheet.specs.Grid.{action_count, action_lines}
use Rattle.sheet.specs.Reading.{action_in, task_of, Accepted}
use Rattle.sheet.proofs.Fineness.{task_fine}
use Rattle.dual_text.specs.Written.{fact_names, action_names, written, Named}
use Rattle.dual_text.specs.Texts.{ReadsAs}
use Rattle.dual_text.specs.Dual.{dual_of_text, DualRead, Twice}
use Rattle.dual_text.proofs.AcceptedWords.{the_action_lines}
use Rattle.dual_text.proofs.GoodNames.{names_good}
use Rattle.dual_text.proofs.Lengths.{as_long}
use Rattle.dual_text.proofs.ReadBack.{read_back}
use Rattle.dual_text.proofs.WrittenBack.{written_back}

-- the dual text of an accepted text reads as the dual task, with the names of the text
dual_reads_as : (text : List ℕ) → Accepted text → ReadsAs (dual_of_text text) (fact_names text) (action_names text) (dual (task_of text))
dual_reads_as text a =
    read_back (fact_names text) (action_names text) (dual (task_of text)) (dual_fine (task_of text) (task_fine text a))
    (names_good text a).facts (subst (Named (action_names text)) (sym counted) (names_good text a).actions) short
  where
    counted : length (map dual_action (map action_in (action_lines text))) ≡ action_count text
    counted = length-map (map action_in (action_lines text)) dual_action ∙ length-map (action_lines text) action_in ∙ the_action_lines text

    short : length (dual_of_text text) ≤ 65535
    short =
        subst (λ (n : ℕ). n ≤ 65535) (sym (as_long text a))
        (leb-true (length text) 65535 (and_parts (leb 1 (length text)) _ a.lined.size).1)

-- what is read from the dual text is the dual of what is read from the text
pub dual_read : DualRead
dual_read text a =
    let r = dual_reads_as text a in
    record { accepted = r.accepted; task = r.task; the_fact_names = r.the_fact_names; the_action_names = r.the_action_names }

-- a text that reads as the dual task of an accepted text, with its names, has that text for its dual
dual_of_dual : (text other : List ℕ) → Accepted text → ReadsAs other (fact_names text) (action_names text) (dual (task_of text)) → dual_of_text other ≡ text
dual_of_dual text other a r =
    (λ k. written (r.the_fact_names k) (r.the_action_names k) (dual (r.task k)))
    ∙ ap (written (fact_names text) (action_names text)) (involution (task_of text) (task_fine text a))
    ∙ sym (written_back text a)

-- dualising twice gives the first text
pub twice : Twice
twice text a = dual_of_dual text (dual_of_text text) a (dual_reads_as text a)
