-- Sets of facts as flags in their order.
use Rattle.std.proofs.Common.{◌≡◌, ℕ, zero, suc, ◌+◌, ◌*◌, ◌^◌, ◌<◌, ◌≤◌, Bool, true, false, cond, ◌==◌, List, [], ◌∷◌, map, length, get_or, take, Decides, sym, refl, ap, ◌∙◌, subst, pow-suc, arith}
use Rattle.std.proofs.lemmas.List.{get_or-map, get_or-drop, length-drop, length-map, length-take-le, take_all}
use Rattle.std.proofs.lemmas.Bool.Decides.{Decides-by_or, Decides-eqb}
use Rattle.std.specs.List.{ContainsAt as Has}
use Rattle.strips.specs.declared.action.Action.{Action}
use Rattle.words.specs.Words.{holds}
use Rattle.pieces.specs.Pieces.{piece}
use Rattle.sheet.specs.Grid.{words_in, cells}
use Rattle.sheet.specs.Reading.{set_of, marked, action_in}
use Rattle.sheet.specs.Shape.{MarkedMore}

-- one flag more is one fact more
set_more : (fs : List Bool) (i : ℕ) → i < length fs → set_of (take (suc i) fs) ≡ set_of (take i fs) + cond (get_or fs i false) (2 ^ i) 0
set_more [] i h = absurd (omega arith)
set_more (true ∷ fs) zero h = refl
set_more (false ∷ fs) zero h = refl
set_more (f ∷ fs) (suc i) h = doubled (get_or fs i false) (set_more fs i (omega arith))
  where
    doubled : (b : Bool) → set_of (take (suc i) fs) ≡ set_of (take i fs) + cond b (2 ^ i) 0
        → cond f 1 0 + 2 * set_of (take (suc i) fs) ≡ cond f 1 0 + 2 * set_of (take i fs) + cond b (2 ^ suc i) 0
    doubled true e = rw pow-suc (omega (arith, e))
    doubled false e = omega (arith, e)

-- the set of n flags has facts below n only
pub set_below : (fs : List Bool) → set_of fs < 2 ^ length fs
set_below [] = omega arith
set_below (true ∷ fs) = rw pow-suc (omega (arith, set_below fs))
set_below (false ∷ fs) = rw pow-suc (omega (arith, set_below fs))

-- the facts below i with the letter in their word
abbrev pub sofar : ℕ → List ℕ → ℕ → ℕ
sofar x line i = set_of (take i (map (holds x) (cells line)))

-- the facts below i are below i
sofar_below : (x : ℕ) (line : List ℕ) (i : ℕ) → i + 1 ≤ length (words_in line) → sofar x line i < 2 ^ i
sofar_below x line i h = subst (λ (n : ℕ). sofar x line i < 2 ^ n) long (set_below (take i (map (holds x) (cells line))))
  where
    long : length (take i (map (holds x) (cells line))) ≡ i
    long = length-take-le i (map (holds x) (cells line)) (omega (arith, length-map (cells line) (holds x), length-drop 1 (words_in line)))

-- one word more
pub sofar_more : (x : ℕ) (line : List ℕ) (i : ℕ) (w : List ℕ) (b : Bool) (before after : ℕ) → i + 1 < length (words_in line)
    → before ≡ sofar x line i → w ≡ piece (words_in line) (i + 1) → b ≡ holds x w → (before < 2 ^ i → after ≡ before + cond b (2 ^ i) 0) → after ≡ sofar x line (i + 1)
sofar_more x line i w b before after h p q t e =
    e (rw p (sofar_below x line i (omega arith))) ∙ rw (p, t, q) (sym (ap (sofar x line) next ∙ set_more flags i long ∙ ap (λ (b : Bool). sofar x line i + cond b (2 ^ i) 0) is))
  where
    next : i + 1 ≡ suc i
    next = omega arith

    flags : List Bool
    flags = map (holds x) (cells line)

    long : i < length flags
    long = omega (arith, length-map (cells line) (holds x), length-drop 1 (words_in line))

    is : get_or flags i false ≡ holds x (piece (words_in line) (i + 1))
    is =
        get_or-map (holds x) (cells line) i [] false (omega (arith, length-drop 1 (words_in line)))
        ∙ ap (holds x) (get_or-drop 1 (words_in line) i [] ∙ ap (piece (words_in line)) (omega arith))

-- all words
pub sofar_all : (x : ℕ) (line : List ℕ) (i : ℕ) → length (words_in line) ≤ i + 1 → sofar x line i ≡ marked x line
sofar_all x line i h = ap set_of (take_all i (map (holds x) (cells line)) (omega (arith, length-map (cells line) (holds x), length-drop 1 (words_in line))))

-- a letter is in a word exactly where it is at some place of it
pub holds_decides : (x : ℕ) (w : List ℕ) → Decides (holds x w) (Has w x)
holds_decides x w = Decides-by_or (λ b. b == x) (λ b. b ≡ x) (holds x) (λ b. Decides-eqb b x) refl (λ _ _. refl) w

-- the action read so far from a line of marks
pub record ReadSoFar (line : List ℕ) (i : ℕ) (p : Action) : Type 0 where
  pub needs : p.needs ≡ sofar 112 line i
  pub adds : p.adds ≡ sofar 97 line i
  pub deletes : p.deletes ≡ sofar 100 line i

-- one mark more
pub read_more : (line : List ℕ) (i : ℕ) (w : List ℕ) (p q : Action) → i + 1 < length (words_in line) → w ≡ piece (words_in line) (i + 1)
    → MarkedMore p i w q → ReadSoFar line i p → ReadSoFar line (i + 1) q
read_more line i w p q h e m r = record {
  needs = sofar_more 112 line i w _ _ _ h r.needs e refl m.needs;
  adds = sofar_more 97 line i w _ _ _ h r.adds e refl m.adds;
  deletes = sofar_more 100 line i w _ _ _ h r.deletes e refl m.deletes;
}

-- all marks
pub read_all : (line : List ℕ) (i : ℕ) (p : Action) → length (words_in line) ≤ i + 1 → ReadSoFar line i p → p ≡ action_in line
read_all line i p h r =
    let n = r.needs ∙ sofar_all 112 line i h in
    let a = r.adds ∙ sofar_all 97 line i h in
    let d = r.deletes ∙ sofar_all 100 line i h in
    λ k. record { needs = n k; adds = a k; deletes = d k }
