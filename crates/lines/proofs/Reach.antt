-- What the reader knows after some bytes.
use Rattle.std.proofs.Common.{◌≡◌, ℕ, ◌+◌, ◌<◌, ◌≤◌, List, [], ◌∷◌, ◌++◌, length, get_or, take, drop, sym, ap, ◌∙◌, subst, append_assoc, arith}
use Rattle.std.proofs.lemmas.List.{append-nil, take-append-drop, take_more, take_all, drop_more}
use Rattle.lines.specs.Grammar.{Lines, Begins, WrongAt}
use Rattle.lines.specs.Coming.{Coming, Onward, Stuck}
use Rattle.lines.specs.declared.reader.State.{State}
use Rattle.lines.specs.declared.reader.State.TheVariants.{LineStart}
use Rattle.lines.proofs.Steps.{unended, none_lines, coming}

-- after the bytes p, what may come is what may come in state s
pub record Reached (s : State) (p : List ℕ) : Type 0 where
  pub only : (q : List ℕ) → Lines (p ++ q) → Coming s q
  pub all : (q : List ℕ) → Coming s q → Lines (p ++ q)

module _ (s : State) (bs : List ℕ) (k : ℕ) where
  -- one byte more is read
  pub reached_more : (t : State) → k < length bs → Onward s (get_or bs k 0) t → Reached s (take k bs) → Reached t (take (k + 1) bs)
  reached_more t h o r = rw (take_more bs k 0) (record {
    only = λ q l. o.only q (r.only (get_or bs k 0 ∷ q) (rw append_assoc at l));
    all = λ q c. rw append_assoc (r.all (get_or bs k 0 ∷ q) (o.all q c));
  })

  -- some lines begin with what is read
  begun : Reached s (take k bs) → Begins (take k bs)
  begun r = let c = coming s in record { rest = c.0; whole = r.all c.0 c.1 }

  -- the byte that may not come is the first wrong one
  pub wrong_here : k < length bs → Reached s (take k bs) → Stuck s (get_or bs k 0) → WrongAt bs k
  wrong_here h r n = record {
    inside = omega arith;
    before = begun r;
    wrong = λ _ b. n b.rest (r.only (get_or bs k 0 ∷ b.rest) (rw (take_more bs k 0, append_assoc) at b.whole));
    no_lines = λ l. n (drop (k + 1) bs) (r.only (get_or bs k 0 ∷ drop (k + 1) bs) (subst Lines (sym (take-append-drop k bs) ∙ ap (λ (t : List ℕ). take k bs ++ t) (drop_more bs k 0 h)) l));
  }

  -- the end of a text that ends too early is wrong
  pub wrong_end : length bs ≤ k → k ≤ length bs → Reached s (take k bs) → (s ≡ LineStart → ⊥) → WrongAt bs (length bs)
  wrong_end h g r n = let e : k ≡ length bs = omega arith in record {
    inside = omega arith;
    before = subst (λ (i : ℕ). Begins (take i bs)) e (begun r);
    wrong = λ lt _. omega arith;
    no_lines = λ l. unended s n (r.only [] (subst Lines (sym (take_all k bs h) ∙ sym (append-nil (take k bs))) l));
  }

  -- a text that ends at a line's start is lines
  pub good_end : length bs ≤ k → Reached s (take k bs) → s ≡ LineStart → Lines bs
  good_end h r e = subst Lines (append-nil (take k bs) ∙ take_all k bs h) (r.all [] (rw e none_lines))
