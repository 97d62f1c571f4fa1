-- A text that is written over piece by piece, each piece with one as long.
use Rattle.std.proofs.Common.{◌≡◌, ℕ, zero, suc, ◌+◌, ◌-◌, ◌<◌, ◌≤◌, List, [], ◌∷◌, ◌++◌, length, take, drop, sym, refl, ap, ◌∙◌, arith}
use borrow.Rule.Slice.PartMut.{put_mid}
use Rattle.std.proofs.lemmas.List.{append_assoc, drop_all, drop_at, drop_more, length-append, take_all, take-append-drop, take_at, take_more}
use Rattle.pieces.specs.Pieces.{spanned, place, piece}
use Rattle.pieces.proofs.Splits.{place_more}
use Rattle.lines.specs.Grammar.{behind, joined}

-- as many pieces, and each as long as the other's
abbrev pub Alike : List (List ℕ) → List (List ℕ) → Type 0
Alike ps ts = (length ps ≡ length ts) × ((j : ℕ) → j < length ps → length (piece ps j) ≡ length (piece ts j))

-- the text with its first k pieces written over
abbrev pub over : ℕ → List (List ℕ) → List (List ℕ) → ℕ → List ℕ
over sep ps ts k = joined sep (take k ts ++ drop k ps)

-- some parts, each with a separator behind it
abbrev ended : ℕ → List (List ℕ) → List ℕ
ended sep [] = []
ended sep (x ∷ xs) = x ++ sep ∷ ended sep xs

ended_length : (sep : ℕ) (xs : List (List ℕ)) → length (ended sep xs) ≡ spanned xs
ended_length sep [] = refl
ended_length sep (x ∷ xs) = omega (arith, length-append x (sep ∷ ended sep xs), ended_length sep xs)

-- the text around one of its parts
joined_at : (sep : ℕ) (xs : List (List ℕ)) (y : List ℕ) (ys : List (List ℕ)) → joined sep (xs ++ y ∷ ys) ≡ ended sep xs ++ (y ++ behind sep ys)
joined_at sep [] y ys = refl
joined_at sep (x ∷ xs) y ys = ap (λ (z : List ℕ). x ++ z) (behind_at xs) ∙ sym (append_assoc x (sep ∷ ended sep xs) (y ++ behind sep ys))
  where
    behind_at : (xs : List (List ℕ)) → behind sep (xs ++ y ∷ ys) ≡ sep ∷ (ended sep xs ++ (y ++ behind sep ys))
    behind_at [] = refl
    behind_at (x ∷ xs) =
        ap (λ (z : List ℕ). sep ∷ (x ++ z)) (behind_at xs) ∙ ap (λ (z : List ℕ). sep ∷ z) (sym (append_assoc x (sep ∷ ended sep xs) (y ++ behind sep ys)))

-- pieces that are alike begin at the same places
alike_place : (ps ts : List (List ℕ)) (k : ℕ) → Alike ps ts → place ps k ≡ place ts k
alike_place ps ts zero a = refl
alike_place [] [] (suc k) a = refl
alike_place [] (t ∷ ts) (suc k) a = absurd (omega (arith, a.0))
alike_place (p ∷ ps) [] (suc k) a = absurd (omega (arith, a.0))
alike_place (p ∷ ps) (t ∷ ts) (suc k) a =
    omega (arith, a.1 0 (omega arith), alike_place ps ts k (omega (arith, a.0), λ j h. a.1 (suc j) (omega arith)))

-- one piece more is written over
pub over_more : (sep : ℕ) (ps ts : List (List ℕ)) (k at e : ℕ) (b w : List ℕ) → Alike ps ts → k < length ps → at ≡ place ps k
    → e + 1 ≡ place ps (k + 1) → b ≡ over sep ps ts k → (take (e - at) (drop at b) ≡ piece ps k → w ≡ piece ts k) → put_mid at (e - at) b w ≡ over sep ps ts (k + 1)
over_more sep ps ts k at e b w a h q n s f =
    ap (λ (z : List ℕ). z ++ (w ++ drop (e - at) (drop at b))) (ap (take at) whole ∙ take_at front (piece ps k ++ rest) at long)
    ∙ ap (λ (z : List ℕ). front ++ (z ++ drop (e - at) (drop at b))) (f (ap (take (e - at)) left ∙ take_at (piece ps k) rest (e - at) size))
    ∙ ap (λ (z : List ℕ). front ++ (piece ts k ++ z)) (ap (drop (e - at)) left ∙ drop_at (piece ps k) rest (e - at) size) ∙ sym after
  where
    front : List ℕ
    front = ended sep (take k ts)

    rest : List ℕ
    rest = behind sep (drop (k + 1) ps)

    whole : b ≡ front ++ (piece ps k ++ rest)
    whole = s ∙ ap (λ (z : List (List ℕ)). joined sep (take k ts ++ z)) (drop_more ps k [] h) ∙ joined_at sep (take k ts) (piece ps k) (drop (k + 1) ps)

    after : over sep ps ts (k + 1) ≡ front ++ (piece ts k ++ rest)
    after =
        ap (λ (z : List (List ℕ)). joined sep (z ++ drop (k + 1) ps)) (take_more ts k [] (omega (arith, a.0)))
        ∙ ap (joined sep) (append_assoc (take k ts) (piece ts k ∷ []) (drop (k + 1) ps)) ∙ joined_at sep (take k ts) (piece ts k) (drop (k + 1) ps)

    long : length front ≡ at
    long = ended_length sep (take k ts) ∙ sym (alike_place ps ts k a) ∙ sym q

    next : k + 1 ≡ suc k
    next = omega arith

    size : length (piece ps k) ≡ e - at
    size = omega (arith, place_more ps k h, ap (place ps) next)

    left : drop at b ≡ piece ps k ++ rest
    left = ap (drop at) whole ∙ drop_at front (piece ps k ++ rest) at long

-- all pieces are written over, but those that stay
pub over_rest : (sep : ℕ) (ps ts : List (List ℕ)) (k : ℕ) → drop k ps ≡ drop k ts → over sep ps ts k ≡ joined sep ts
over_rest sep ps ts k e = ap (λ (z : List (List ℕ)). joined sep (take k ts ++ z)) e ∙ ap (joined sep) (take-append-drop k ts)

-- all pieces are written over
pub over_all : (sep : ℕ) (ps ts : List (List ℕ)) (k : ℕ) → Alike ps ts → length ps ≤ k → over sep ps ts k ≡ joined sep ts
over_all sep ps ts k a h = over_rest sep ps ts k (drop_all k ps h ∙ sym (drop_all k ts (omega (arith, a.0))))

-- parts joined are one separator shorter than the parts with one behind each
joined_length : (sep : ℕ) (ps : List (List ℕ)) → 0 < length ps → length (joined sep ps) + 1 ≡ spanned ps
joined_length sep [] h = absurd (omega arith)
joined_length sep (p ∷ ps) h = omega (arith, length-append p (behind sep ps), behind_length ps)
  where
    behind_length : (ps : List (List ℕ)) → length (behind sep ps) ≡ spanned ps
    behind_length [] = refl
    behind_length (p ∷ ps) = omega (arith, length-append p (behind sep ps), behind_length ps)

-- pieces that are alike are joined to texts of the same length
pub alike_joined : (sep : ℕ) (ps ts : List (List ℕ)) → Alike ps ts → 0 < length ps → length (joined sep ps) ≡ length (joined sep ts)
alike_joined sep ps ts a h =
    omega (
      arith,
      joined_length sep ps h,
      joined_length sep ts (omega (arith, a.0)),
      alike_place ps ts (length ps) a,
      ap spanned (take_all (length ps) ps (omega arith)),
      ap spanned (take_all (length ps) ts (omega (arith, a.0))),
    )
