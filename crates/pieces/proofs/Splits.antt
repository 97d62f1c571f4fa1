-- Texts and their pieces.
use Rattle.std.proofs.Common.{◌≡◌, ℕ, zero, suc, ◌+◌, ◌-◌, ◌<◌, ◌≤◌, true, false, cond, not, ◌==◌, eqb, nat_le, ◌⊎◌, List, [], ◌∷◌, length, get_or, take, drop, sym, refl, ap, ap₂, ◌∙◌, subst, inl, inr, arith}
use Rattle.std.specs.List.{onto_first, position_or_len}
use Rattle.std.proofs.lemmas.List.{length-drop, get_or-drop, take_all, drop-drop}
use Rattle.std.proofs.lemmas.List.Folds.{length-prefix_len}
use Rattle.std.proofs.lemmas.List.Sums.{count_by-le-length, fails_before_first, position_or_len_is, prefix_len-le-length}
use Rattle.std.proofs.lemmas.List.Splits.{length-slice_split, slice_split_first, slice_split_none}
use Rattle.std.proofs.lemmas.Bool.{le-leb, lt-leb, cases_Bool, cases_lt, eq-eqb, ne_eqb}
use Rattle.pieces.specs.Pieces.{pieces, spanned, place, piece, Ends, placed, pieces_left}
use Rattle.pieces.specs.declared.Pieces.{Pieces}

-- how many bytes stand in front of the first separator
abbrev before : ℕ → List ℕ → ℕ
before sep text = position_or_len (λ b. b == sep) text

-- a text is one piece, or a piece, a separator and a text
abbrev Split : ℕ → List ℕ → Type 0
Split sep text =
    ((before sep text ≡ length text) × (pieces sep text ≡ text ∷ []))
    ⊎ ((before sep text < length text) × (pieces sep text ≡ take (before sep text) text ∷ pieces sep (drop (before sep text + 1) text)))

split : (sep : ℕ) (text : List ℕ) → Split sep text
split sep text = go (cases_lt (before sep text) (length text))
  where
    go : (before sep text < length text) ⊎ (length text ≤ before sep text) → Split sep text
    go (inl h) = inr (h, slice_split_first (λ b. b == sep) text 0 h)
    go (inr h) = inl (
      omega (arith, prefix_len-le-length (λ b. not (b == sep)) text),
      slice_split_none (λ b. b == sep) text (λ k d l. fails_before_first (λ b. b == sep) text k d (omega arith)),
    )

-- a text has a piece
pub some_piece : (sep : ℕ) (text : List ℕ) → 0 < length (pieces sep text)
some_piece sep text = omega (arith, length-slice_split (λ b. b == sep) text)

-- the first piece stands in front of the first separator
first_is : (sep : ℕ) (text : List ℕ) → piece (pieces sep text) 0 ≡ take (before sep text) text
first_is sep text = go (split sep text)
  where
    go : Split sep text → piece (pieces sep text) 0 ≡ take (before sep text) text
    go (inl (e, q)) = ap (λ (z : List (List ℕ)). piece z 0) q ∙ sym (take_all (before sep text) text (omega arith))
    go (inr (h, q)) = ap (λ (z : List (List ℕ)). piece z 0) q

first_long : (sep : ℕ) (text : List ℕ) → length (piece (pieces sep text) 0) ≡ before sep text
first_long sep text = ap length (first_is sep text) ∙ length-prefix_len (λ b. not (b == sep)) text

-- it ends at the first separator of a text
pub first_end : (sep : ℕ) (text : List ℕ) (e : ℕ) → e ≤ length text → ((i : ℕ) → i < e → get_or text i 0 ≡ sep → ⊥)
    → (e < length text → get_or text e 0 ≡ sep) → length (piece (pieces sep text) 0) ≡ e
first_end sep text e h none here =
    first_long sep text
    ∙ position_or_len_is (λ b. b == sep) text e 0 h (λ k l. ne_eqb (get_or text k 0) sep (none k l)) (λ l. eq-eqb (get_or text e 0) sep (here l))

-- it begins the text
pub first_piece : (sep : ℕ) (text : List ℕ) → take (length (piece (pieces sep text) 0)) text ≡ piece (pieces sep text) 0
first_piece sep text = ap (λ (n : ℕ). take n text) (first_long sep text) ∙ sym (first_is sep text)

-- and is no longer than it
pub first_inside : (sep : ℕ) (text : List ℕ) → length (piece (pieces sep text) 0) ≤ length text
first_inside sep text = omega (arith, first_long sep text, prefix_len-le-length (λ b. not (b == sep)) text)

-- what is left of a text at the beginning of a piece is that piece and those after it
pub record FromPiece (sep : ℕ) (text : List ℕ) (k : ℕ) : Type 0 where
  pub inside : place (pieces sep text) k ≤ length text
  pub rest : pieces sep (drop (place (pieces sep text) k) text) ≡ drop k (pieces sep text)

pub from_piece : (sep : ℕ) (text : List ℕ) (k : ℕ) → k < length (pieces sep text) → FromPiece sep text k
from_piece sep text zero h = record { inside = omega arith; rest = refl }
from_piece sep text (suc k) h = go (split sep text) (λ bs. from_piece sep bs k)
  where
    go : Split sep text → ((bs : List ℕ) → k < length (pieces sep bs) → FromPiece sep bs k) → FromPiece sep text (suc k)
    go (inl (e, q)) f = absurd (omega (arith, ap length q))
    go (inr (l, q)) f =
        let n = before sep text in
        let rest = drop (n + 1) text in
        let r = f rest (omega (arith, ap length q)) in
        let long = length-prefix_len (λ b. not (b == sep)) text in
        let gone : drop (length (take n text) + 1 + place (pieces sep rest) k) text ≡ drop (place (pieces sep rest) k) rest =
        ap (λ (i : ℕ). drop i text) (omega arith) ∙ sym (drop-drop (place (pieces sep rest) k) (n + 1) text) in
        record {
          inside = rw q (omega (arith, r.inside, length-drop (n + 1) text));
          rest = rw q (ap (pieces sep) gone ∙ r.rest);
        }

-- a piece stands in the text from where it begins
pub piece_stands : (sep : ℕ) (text : List ℕ) (k : ℕ) → k < length (pieces sep text)
    → take (length (piece (pieces sep text) k)) (drop (place (pieces sep text) k) text) ≡ piece (pieces sep text) k
piece_stands sep text k h =
    subst (λ (p : List ℕ). take (length p) (drop (place (pieces sep text) k) text) ≡ p) the (first_piece sep (drop (place (pieces sep text) k) text))
  where
    the : piece (pieces sep (drop (place (pieces sep text) k) text)) 0 ≡ piece (pieces sep text) k
    the = ap (λ (z : List (List ℕ)). get_or z 0 []) (from_piece sep text k h).rest ∙ get_or-drop k (pieces sep text) 0 [] ∙ ap (piece (pieces sep text)) (omega arith)

-- where the pieces up to and with piece k end
pub place_more : (ps : List (List ℕ)) (k : ℕ) → k < length ps → place ps (suc k) ≡ place ps k + length (piece ps k) + 1
place_more [] k h = absurd (omega arith)
place_more (p ∷ ps) zero h = omega arith
place_more (p ∷ ps) (suc k) h = omega (arith, place_more ps k (omega arith))

-- the first piece from a place on ends the piece that the place is in
pub ends_at : (sep : ℕ) (text : List ℕ) (at e : ℕ) → at ≤ length text → e ≡ at + length (piece (pieces sep (drop at text)) 0) → Ends sep text at e
ends_at sep text at e h x = record {
  inside = omega (arith, first_inside sep (drop at text), length-drop at text);
  onward = λ _. omega arith;
  exact = λ _. x;
  past = λ g. omega (arith, first_inside sep (drop at text), length-drop at text);
  after = λ k l q. omega arith;
  is = λ k l q. ap (λ (n : ℕ). take n (drop at text)) (omega arith) ∙ first_piece sep (drop at text) ∙ the k l q;
  next = λ k l q.
      omega (arith, ap (place (pieces sep text)) (next_is k), place_more (pieces sep text) k l, ap length (the k l q));
}
  where
    next_is : (k : ℕ) → k + 1 ≡ suc k
    next_is k = omega arith

    the : (k : ℕ) → k < length (pieces sep text) → at ≡ place (pieces sep text) k → piece (pieces sep (drop at text)) 0 ≡ piece (pieces sep text) k
    the k l q =
        let f = from_piece sep text k l in
        ap (λ (n : ℕ). piece (pieces sep (drop n text)) 0) q ∙ ap (λ (z : List (List ℕ)). get_or z 0 []) f.rest ∙ get_or-drop k (pieces sep text) 0 []
        ∙ ap (piece (pieces sep text)) (omega arith)

-- past the text no piece begins
pub ends_past : (sep : ℕ) (text : List ℕ) (at : ℕ) → length text < at → Ends sep text at (length text)
ends_past sep text at h = record {
  inside = omega arith;
  onward = λ g. absurd (omega arith);
  exact = λ g. absurd (omega arith);
  past = λ _. refl;
  after = λ k l q. absurd (omega (arith, (from_piece sep text k l).inside));
  is = λ k l q. absurd (omega (arith, (from_piece sep text k l).inside));
  next = λ k l q. absurd (omega (arith, (from_piece sep text k l).inside));
}

-- all pieces, each with a separator behind it, are one byte longer than the text
pub spanned_all : (sep : ℕ) (text : List ℕ) → spanned (pieces sep text) ≡ length text + 1
spanned_all sep [] = refl
spanned_all sep (b ∷ bs) = go (cases_Bool (eqb b sep)) (spanned_all sep bs)
  where
    onto : (ps : List (List ℕ)) → 0 < length ps → spanned (onto_first b ps) ≡ suc (spanned ps)
    onto [] h = absurd (omega arith)
    onto (p ∷ ps) h = omega arith

    go : (eqb b sep ≡ true) ⊎ (eqb b sep ≡ false) → spanned (pieces sep bs) ≡ length bs + 1 → spanned (pieces sep (b ∷ bs)) ≡ suc (length bs) + 1
    go (inl y) e = rw y (omega (arith, e))
    go (inr n) e = rw n (omega (arith, e, onto (pieces sep bs) (some_piece sep bs)))

-- past the last piece the place is one past the text
pub place_past : (sep : ℕ) (text : List ℕ) (k : ℕ) → length (pieces sep text) ≤ k → place (pieces sep text) k ≡ length text + 1
place_past sep text k h = ap spanned (take_all k (pieces sep text) h) ∙ spanned_all sep text

-- and no place is further
pub place_inside : (sep : ℕ) (text : List ℕ) (k : ℕ) → place (pieces sep text) k ≤ length text + 1
place_inside sep text k = go (cases_lt k (length (pieces sep text)))
  where
    go : (k < length (pieces sep text)) ⊎ (length (pieces sep text) ≤ k) → place (pieces sep text) k ≤ length text + 1
    go (inl l) = omega (arith, (from_piece sep text k l).inside)
    go (inr l) = omega (arith, place_past sep text k l)

-- a piece with its place, and those behind it
pub left_more : (sep : ℕ) (text : List ℕ) (at e : ℕ) → at ≤ length text → e ≡ at + length (piece (pieces sep (drop at text)) 0)
    → placed at (pieces sep (drop at text)) ≡ (at, take (e - at) (drop at text)) ∷ cond (nat_le (e + 1) (length text)) (placed (e + 1) (pieces sep (drop (e + 1) text))) []
left_more sep text at e h x = go (split sep (drop at text))
  where
    rest : List ℕ
    rest = drop at text

    n : ℕ
    n = before sep rest

    ends : e ≡ at + n
    ends = x ∙ ap (λ (m : ℕ). at + m) (first_long sep rest)

    go : Split sep rest → placed at (pieces sep rest) ≡ (at, take (e - at) rest) ∷ cond (nat_le (e + 1) (length text)) (placed (e + 1) (pieces sep (drop (e + 1) text))) []
    go (inl (u, q)) =
        let a = length-drop at text in
        let z = ends in
        rw (q, lt-leb (e + 1) (length text) (omega arith)) (ap (λ (z : List ℕ). (at, z) ∷ []) (sym (take_all (e - at) rest (omega arith))))
    go (inr (l, q)) =
        let a = length-drop at text in
        let z = ends in
        let f : drop (e + 1) text ≡ drop (n + 1) rest = ap (λ (m : ℕ). drop m text) (omega arith) ∙ sym (drop-drop (n + 1) at text) in
        let long = length-prefix_len (λ b. not (b == sep)) rest in
        rw (q, le-leb (e + 1) (length text) (omega arith), f)
        (ap₂ (λ (z : List ℕ) (m : ℕ). (at, z) ∷ placed m (pieces sep (drop (n + 1) rest))) (ap (λ (m : ℕ). take m rest) (omega arith)) (omega arith))

-- what is left at a place of the text
pub left_from : (s : Pieces) → s.at ≤ length s.text.now → pieces_left s ≡ placed s.at (pieces s.sep (drop s.at s.text.now))
unfolding pieces_left
left_from s h = rw (le-leb s.at (length s.text.now) h) refl

-- and past it
pub left_past : (s : Pieces) → length s.text.now < s.at → pieces_left s ≡ []
unfolding pieces_left
left_past s h = rw (lt-leb s.at (length s.text.now) h) refl

-- the pieces are at most one more than the bytes
pub few_pieces : (sep : ℕ) (text : List ℕ) → length (pieces sep text) ≤ length text + 1
few_pieces sep text = omega (arith, length-slice_split (λ b. b == sep) text, count_by-le-length (λ b. b == sep) text)
