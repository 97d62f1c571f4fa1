-- A line whose words past the first are written over.
use Rattle.std.proofs.Common.{◌≡◌, ℕ, zero, suc, ◌+◌, ◌-◌, ◌<◌, Bool, true, false, cond, ◌⊎◌, List, [], ◌∷◌, map, length, get_or, take, drop, replicate, codes, Decides, sym, refl, ap, ◌∙◌, inl, inr, arith}
use borrow.Rule.Slice.PartMut.{put_mid}
use Rattle.std.proofs.lemmas.List.{get_or-map, length-drop, length-map}
use Rattle.std.proofs.lemmas.Bool.{cases_Bool, cases_eq, eq-eqb, ne_eqb}
use Rattle.pieces.specs.Pieces.{place, piece}
use Rattle.pieces.proofs.Splits.{some_piece}
use Rattle.lines.specs.Grammar.{joined}
use Rattle.words.specs.Words.{is_mark, holds}
use Rattle.words.specs.Marks.{dual_mark}
use Rattle.words.proofs.Reading.{dual_length}
use Rattle.sheet.specs.Grid.{words_in, cells}
use Rattle.sheet.specs.Shape.{GoodMarks}
use Rattle.dual_text.specs.Turned.{turned_marks, turned_flags, Flags}
use Rattle.dual_text.proofs.AcceptedWords.{first_and_cells, cell_is}
use Rattle.dual_text.proofs.InPlace.{Alike, over, over_more}
use Rattle.dual_text.proofs.Joining.{joined_pieces}

-- a line's first word, and past it words made from another line's
abbrev pub made_from : (List ℕ → List ℕ) → List ℕ → List ℕ → List (List ℕ)
made_from f line other = piece (words_in line) 0 ∷ map f (cells other)

-- its first word is the line's own
pub first_over : (f : List ℕ → List ℕ) (line other : List ℕ) → over 32 (words_in line) (made_from f line other) 1 ≡ line
first_over f line other = ap (joined 32) (sym (first_and_cells line)) ∙ joined_pieces 32 line

-- and the others are made each from the word beside it
made_at : (f : List ℕ → List ℕ) (line other : List ℕ) (k : ℕ) → k + 1 < length (words_in other)
    → piece (made_from f line other) (k + 1) ≡ f (piece (words_in other) (k + 1))
made_at f line other k h =
    ap (piece (made_from f line other)) next ∙ get_or-map f (cells other) k [] [] (omega (arith, length-drop 1 (words_in other))) ∙ ap f (cell_is other k)
  where
    next : k + 1 ≡ suc k
    next = omega arith

-- words that are as long as those that they are written over
made_alike : (f : List ℕ → List ℕ) (line other : List ℕ) → length (words_in line) ≡ length (words_in other)
    → ((k : ℕ) → k + 1 < length (words_in line) → length (piece (words_in line) (k + 1)) ≡ length (f (piece (words_in other) (k + 1))))
    → Alike (words_in line) (made_from f line other)
made_alike f line other e g = (omega (arith, some_piece 32 other, length-map (cells other) f, length-drop 1 (words_in other)), each)
  where
    next : (k : ℕ) → k + 1 ≡ suc k
    next k = omega arith

    each : (j : ℕ) → j < length (words_in line) → length (piece (words_in line) j) ≡ length (piece (made_from f line other) j)
    each zero h = refl
    each (suc k) h =
        ap (λ (n : ℕ). length (piece (words_in line) n)) (sym (next k)) ∙ g k (omega arith) ∙ ap length (sym (made_at f line other k (omega arith)))
        ∙ ap (λ (n : ℕ). length (piece (made_from f line other) n)) (next k)

-- the dual marks are as long as the marks
pub marks_alike : (line : List ℕ) → GoodMarks line → Alike (words_in line) (turned_marks line)
marks_alike line g = made_alike dual_mark line line refl (λ k h. dual_length (piece (words_in line) (k + 1)) (g.1 k h))

-- one mark more is turned
pub marks_more : (line : List ℕ) (k at e : ℕ) (b w : List ℕ) → GoodMarks line → k + 1 < length (words_in line) → at ≡ place (words_in line) (k + 1)
    → e + 1 ≡ place (words_in line) (k + 1 + 1) → b ≡ over 32 (words_in line) (turned_marks line) (k + 1)
    → (is_mark (take (e - at) (drop at b)) ≡ true → w ≡ dual_mark (take (e - at) (drop at b)))
    → put_mid at (e - at) b w ≡ over 32 (words_in line) (turned_marks line) (k + 1 + 1)
marks_more line k at e b w g h q n s f =
    over_more 32 (words_in line) (turned_marks line) (k + 1) at e b w (marks_alike line g) h q n s
    (λ r. f (ap is_mark r ∙ g.1 k h) ∙ ap dual_mark r ∙ sym (made_at dual_mark line line k h))

-- the flag that a line writes beside a word
abbrev pub flag_from : ℕ → List ℕ → List ℕ
flag_from off w = cond (holds 49 w) (off ∷ []) (codes "1")

-- flags are written over flags
pub flags_alike : (off : ℕ) (line other : List ℕ) → Flags line other → Alike (words_in line) (turned_flags off line other)
flags_alike off line other g =
    made_alike (flag_from off) line other g.even (λ k h. g.single k h ∙ sym (one (holds 49 (piece (words_in other) (k + 1)))))
  where
    one : (b : Bool) → length (cond b (off ∷ []) (codes "1")) ≡ 1
    one true = refl
    one false = refl

-- one flag more is turned
pub flags_more : (off : ℕ) (line other : List ℕ) (k at e : ℕ) (b v w : List ℕ) → Flags line other → k + 1 < length (words_in line)
    → at ≡ place (words_in line) (k + 1) → e + 1 ≡ place (words_in line) (k + 1 + 1) → b ≡ over 32 (words_in line) (turned_flags off line other) (k + 1)
    → v ≡ piece (words_in other) (k + 1) → (length v ≡ 1 → length (take (e - at) (drop at b)) ≡ 1 → w ≡ flag_from off v)
    → put_mid at (e - at) b w ≡ over 32 (words_in line) (turned_flags off line other) (k + 1 + 1)
flags_more off line other k at e b v w g h q n s t f =
    over_more 32 (words_in line) (turned_flags off line other) (k + 1) at e b w (flags_alike off line other g) h q n s
    (λ r. f (ap length t ∙ g.single_other k there) (ap length r ∙ g.single k h) ∙ ap (flag_from off) t ∙ sym (made_at (flag_from off) line other k there))
  where
    there : k + 1 < length (words_in other)
    there = omega (arith, g.even)

-- a word of one byte has a 1 where it is that
has_one : (w : List ℕ) (r : Bool) → Decides r (w ≡ codes "1") → length w ≡ 1 → holds 49 w ≡ r
has_one [] r d l = absurd (omega arith)
has_one (a ∷ []) r d l = go (cases_eq a 49) (cases_Bool r)
  where
    go : (a ≡ 49) ⊎ (a ≡ 49 → ⊥) → (r ≡ true) ⊎ (r ≡ false) → holds 49 (a ∷ []) ≡ r
    go (inl e) s = rw (eq-eqb a 49 e) (sym (d.1 (ap (λ (x : ℕ). x ∷ []) e)))
    go (inr n) (inl t) = absurd (n (ap (λ (z : List ℕ). get_or z 0 0) (d.0 t)))
    go (inr n) (inr f) = rw (ne_eqb a 49 n) (sym f)
has_one (a ∷ b ∷ bs) r d l = absurd (omega arith)

-- the flag that is written over a word of one byte
pub flag_turned : (off x : ℕ) (v w after : List ℕ) (r : Bool) → Decides r (v ≡ codes "1") → x ≡ cond r off 49 → after ≡ replicate (length w) x
    → length v ≡ 1 → length w ≡ 1 → after ≡ flag_from off v
flag_turned off x v w after r d e s l m = s ∙ ap (λ (n : ℕ). replicate n x) m ∙ rw (has_one v r d l, e) (both r)
  where
    both : (r : Bool) → ◌≡◌ {A = List ℕ} (cond r off 49 ∷ []) (cond r (off ∷ []) (codes "1"))
    both true = refl
    both false = refl
