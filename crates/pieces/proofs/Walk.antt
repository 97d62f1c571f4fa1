-- A walk over the pieces of a text, one after the other.
use Rattle.std.proofs.Common.{◌≡◌, ℕ, zero, suc, ◌+◌, ◌<◌, ◌≤◌, List, [], ◌∷◌, length, get_or, take, drop, map, subst, Option, Some, None, IfSome, refl, ap, ◌∙◌, arith}
use Rattle.std.specs.declared.iter.Skip.{Skip}
use Rattle.std.specs.declared.iter.Take.{Take}
use Rattle.std.specs.declared.iter.Enumerate.{Enumerate}
use Rattle.std.specs.declared.iter.Zip.{Zip}
use Rattle.std.proofs.lemmas.Slice.Zip.{get_or-zip, length-zip}
use Rattle.std.specs.Iterator.Adapters.{skip_source, skip_count, skip_steps, zip_first, zip_second, enumerate_source, enumerate_count, enumerate_steps, take_source, take_count, take_steps}
use Rattle.std.proofs.lemmas.Iterator.{YieldsList, YieldsList-from_zip, YieldsList-from_take, zips}
use Rattle.std.proofs.lemmas.Iterator.Adapters.{YieldsList-from_skip}
use Rattle.std.proofs.lemmas.Iterator.Consumers.{YieldsList-from_first, YieldsList-from_enumerate}
use Rattle.std.proofs.lemmas.List.{get_or-drop, get_or-take, length-drop, length-take}
use Rattle.std.proofs.lemmas.List.FromFn.{length-enumerate_from, get_or-enumerate_from}
use Rattle.pieces.specs.declared.Pieces.{Pieces}
use Rattle.pieces.proofs.Splits.{spanned_all, place_more}
use Rattle.pieces.specs.Pieces.{pieces, spanned, place, piece, placed, located, pieces_left}
use Rattle.pieces.specs.declared.Piece.{Piece}
use Rattle.std.specs.Iterator.{YieldsFirstBy}
use Rattle.std.specs.Iterator.Runs.{Run, ItemsMapTo, AllItems}
use Rattle.std.proofs.iter.Rest.{run_of_first_by}
use Rattle.std.proofs.iter.runs.Sources.{from_front}
use Rattle.std.specs.List.{HoldsAt, zip, enumerate_from}

-- as many pieces, each with its place
pub length-placed : (n : ℕ) (ps : List (List ℕ)) → length (placed n ps) ≡ length ps
length-placed n [] = refl
length-placed n (p ∷ ps) = ap suc (length-placed (n + length p + 1) ps)

-- the one at k is piece k with the place where it begins
placed_at : (n : ℕ) (ps : List (List ℕ)) (k : ℕ) (x : ℕ × List ℕ) → k < length ps → get_or (placed n ps) k x ≡ (n + place ps k, piece ps k)
placed_at n [] k x h = absurd (omega arith)
placed_at n (p ∷ ps) zero x h = ap (λ (m : ℕ). (m, p)) (omega arith)
placed_at n (p ∷ ps) (suc k) x h = placed_at (n + length p + 1) ps k x (omega arith) ∙ ap (λ (m : ℕ). (m, piece ps k)) (omega arith)

-- piece k of a walk: where it begins and where the next does, and its bytes
pub record Here (ps : List (List ℕ)) (k start : ℕ) (bytes : List ℕ) : Type 0 where
  pub inside : k < length ps
  pub begins : start ≡ place ps k
  pub is : bytes ≡ piece ps k
  pub next : start + length bytes + 1 ≡ place ps (k + 1)

here_at : (ps : List (List ℕ)) (k : ℕ) {x : ℕ × List ℕ} → k < length ps → x ≡ get_or (placed 0 ps) k x → Here ps k x.0 x.1
here_at ps k {x} l e =
    let same = e ∙ placed_at 0 ps k x l in
    let begin = ap (λ (y : ℕ × List ℕ). y.0) same in
    let bytes = ap (λ (y : ℕ × List ℕ). y.1) same in
    let more : k + 1 ≡ suc k = omega arith in
    record {
      inside = l;
      begins = begin ∙ omega arith;
      is = bytes;
      next = omega (arith, ap length bytes, place_more ps k l, ap (place ps) more);
    }

-- what comes at turn k of a walk, as `YieldsList-turn` answers it
pub here : (ps : List (List ℕ)) {k : ℕ} {x : ℕ × List ℕ} → (k < length (placed 0 ps)) × (x ≡ get_or (placed 0 ps) k x) → Here ps k x.0 x.1
here ps {k} {x} (h, e) = here_at ps k (omega (arith, length-placed 0 ps)) e

-- and at turn i of a walk that leaves out the first n
pub here_past : (ps : List (List ℕ)) (n : ℕ) {i : ℕ} {x : ℕ × List ℕ} → (i < length (drop n (placed 0 ps))) × (x ≡ get_or (drop n (placed 0 ps)) i x) → Here ps (i + n) x.0 x.1
here_past ps n {i} {x} (h, e) =
    here_at ps (i + n) (omega (arith, length-placed 0 ps, length-drop n (placed 0 ps)))
    (e ∙ get_or-drop n (placed 0 ps) i x ∙ ap (λ (k : ℕ). get_or (placed 0 ps) k x) (omega arith))

-- at its end no piece is left, as `YieldsList-end` answers it
pub walked_past : (ps : List (List ℕ)) (n : ℕ) {i : ℕ} → i ≡ length (drop n (placed 0 ps)) → length ps ≤ i + n
walked_past ps n e = omega (arith, length-placed 0 ps, length-drop n (placed 0 ps))

-- a walk over all pieces but the first n
pub walk_past : (n sep : ℕ) (text : List ℕ) {s : Skip Pieces} → pieces_left (skip_source s) ≡ placed 0 (pieces sep text) → skip_count s ≡ n
    → YieldsList (skip_steps (YieldsFirstBy located pieces_left)) located s (drop n (placed 0 (pieces sep text)))
walk_past n sep text e = YieldsList-from_skip n (YieldsList-from_first located pieces_left (placed 0 (pieces sep text)) e)

-- the same over two texts beside each other
abbrev pub beside : List (List ℕ) → List (List ℕ) → ℕ → List ((ℕ × List ℕ) × (ℕ × List ℕ))
beside ps qs n = drop n (zip (placed 0 ps) (placed 0 qs))

pub here_beside : (ps qs : List (List ℕ)) (n : ℕ) {i : ℕ} {x : (ℕ × List ℕ) × (ℕ × List ℕ)} → (i < length (beside ps qs n)) × (x ≡ get_or (beside ps qs n) i x)
    → Here ps (i + n) x.0.0 x.0.1 × Here qs (i + n) x.1.0 x.1.1
here_beside ps qs n {i} {x} (h, e) =
    let xs = placed 0 ps in
    let ys = placed 0 qs in
    let long = length-zip xs ys in
    let off = length-drop n (zip xs ys) in
    let a = length-placed 0 ps in
    let b = length-placed 0 qs in
    let same = e ∙ get_or-drop n (zip xs ys) i x ∙ ap (λ (k : ℕ). get_or (zip xs ys) k x) (omega arith) ∙ get_or-zip xs ys (i + n) x (omega arith) (omega arith) in (
      here_at ps (i + n) (omega arith) (ap (λ (y : (ℕ × List ℕ) × (ℕ × List ℕ)). y.0) same),
      here_at qs (i + n) (omega arith) (ap (λ (y : (ℕ × List ℕ) × (ℕ × List ℕ)). y.1) same),
    )

pub walked_beside : (ps qs : List (List ℕ)) (n : ℕ) {i : ℕ} → length ps ≡ length qs → i ≡ length (beside ps qs n) → length ps ≤ i + n
walked_beside ps qs n l e =
    let xs = placed 0 ps in
    let ys = placed 0 qs in
    omega (arith, length-placed 0 ps, length-placed 0 qs, length-zip xs ys, length-drop n (zip xs ys))

pub walk_beside : (n sep : ℕ) (text other : List ℕ) {s : Skip (Zip Pieces Pieces)} → pieces_left (zip_first (skip_source s)) ≡ placed 0 (pieces sep text)
    → pieces_left (zip_second (skip_source s)) ≡ placed 0 (pieces sep other) → skip_count s ≡ n
    → YieldsList (skip_steps (zips (YieldsFirstBy located pieces_left) (YieldsFirstBy located pieces_left))) (λ p. (located p.0, located p.1)) s (beside (pieces sep text) (pieces sep other) n)
walk_beside n sep text other e f =
    YieldsList-from_skip n (YieldsList-from_zip (YieldsList-from_first located pieces_left (placed 0 (pieces sep text)) e)
    (YieldsList-from_first located pieces_left (placed 0 (pieces sep other)) f))

-- the same over the first n pieces with their numbers
abbrev pub numbered : List (List ℕ) → ℕ → List (ℕ × (ℕ × List ℕ))
numbered ps n = take n (enumerate_from 0 (placed 0 ps))

pub here_numbered : (ps : List (List ℕ)) (n : ℕ) {i : ℕ} {x : ℕ × (ℕ × List ℕ)} → (i < length (numbered ps n)) × (x ≡ get_or (numbered ps n) i x)
    → (x.0 ≡ i) × (i < n) × Here ps i x.1.0 x.1.1
here_numbered ps n {i} {x} (h, e) =
    let xs = placed 0 ps in
    let long = length-take n (enumerate_from 0 xs) in
    let all = length-enumerate_from 0 xs in
    let a = length-placed 0 ps in
    let same = e ∙ get_or-take n (enumerate_from 0 xs) i x (omega arith) ∙ get_or-enumerate_from 0 xs i x (omega arith) in (
      ap (λ (y : ℕ × (ℕ × List ℕ)). y.0) same ∙ omega arith,
      omega arith,
      here_at ps i (omega arith) (ap (λ (y : ℕ × (ℕ × List ℕ)). y.1) same),
    )

pub walked_numbered : (ps : List (List ℕ)) (n : ℕ) {i : ℕ} → n ≤ length ps → i ≡ length (numbered ps n) → i ≡ n
walked_numbered ps n l e =
    let xs = placed 0 ps in
    omega (arith, length-take n (enumerate_from 0 xs), length-enumerate_from 0 xs, length-placed 0 ps)

pub walk_numbered : (n sep : ℕ) (text : List ℕ) {s : Take (Enumerate Pieces)} → pieces_left (enumerate_source (take_source s)) ≡ placed 0 (pieces sep text)
    → enumerate_count (take_source s) ≡ 0 → take_count s ≡ n
    → YieldsList (take_steps (enumerate_steps (YieldsFirstBy located pieces_left))) (λ p. (p.0, located p.1)) s (numbered (pieces sep text) n)
walk_numbered n sep text e f g =
    YieldsList-from_take n (YieldsList-from_enumerate (YieldsList-from_first located pieces_left (placed 0 (pieces sep text)) e) f) g

-- a walk from here on gives the bytes of each piece that is left, in order
pub bytes_in_order : (p : Run (YieldsFirstBy located pieces_left)) (ps : List (List ℕ)) → pieces_left p.from ≡ placed 0 ps → ItemsMapTo p (λ x. x.bytes.now) ps
bytes_in_order p ps e =
    subst (λ (xs : List (List ℕ)). ItemsMapTo p (λ x. x.bytes.now) xs) (ap (map (λ y. y.1)) e ∙ bytes_of 0 ps)
    (from_front (YieldsFirstBy located pieces_left) (λ x. x.bytes.now) (λ s. map (λ y. y.1) (pieces_left s)) (λ s t h. ap (λ xs. length (map (λ y. y.1) xs)) h.0) (λ s x t h. ap (map (λ y. y.1)) h) p p.seen)
  where
    bytes_of : (n : ℕ) (ps : List (List ℕ)) → map (λ (y : ℕ × List ℕ). y.1) (placed n ps) ≡ ps
    bytes_of n [] = refl
    bytes_of n (b ∷ bs) = ap (λ (z : List (List ℕ)). b ∷ z) (bytes_of (n + length b + 1) bs)

-- and the place where each begins
pub starts_in_order : (p : Run (YieldsFirstBy located pieces_left)) (ps : List (List ℕ)) → pieces_left p.from ≡ placed 0 ps
    → (k : ℕ) → IfSome (p.at k) (λ x. x.start ≡ place ps k)
starts_in_order p ps e k = go (p.at k) ((subst (λ (xs : List (ℕ × List ℕ)). ItemsMapTo p located xs) e (run_of_first_by located pieces_left p).1).3 k)
  where
    start_of : (n : ℕ) (ps : List (List ℕ)) (k : ℕ) (d : ℕ × List ℕ) → d.0 ≡ n + place ps k → (get_or (placed n ps) k d).0 ≡ n + place ps k
    start_of n [] k d h = h ∙ omega arith
    start_of n (b ∷ bs) zero d h = omega arith
    start_of n (b ∷ bs) (suc k) d h = start_of (n + length b + 1) bs k d (h ∙ omega arith) ∙ omega arith

    go : (o : Option Piece) → IfSome o (λ x. HoldsAt (λ y. located x ≡ y) (placed 0 ps) k) → IfSome o (λ x. x.start ≡ place ps k)
    go None h = tt
    go (Some x) h = ap (λ (y : ℕ × List ℕ). y.0) (h (place ps k, [])) ∙ start_of 0 ps k (place ps k, []) (omega arith) ∙ omega arith

-- and each of them stands in the text
pub each_inside : (p : Run (YieldsFirstBy located pieces_left)) (sep : ℕ) (text : List ℕ) → pieces_left p.from ≡ placed 0 (pieces sep text)
    → AllItems p (λ x. x.start + length x.bytes.now ≤ length text)
each_inside p sep text e k = go (p.at k) ((subst (λ (xs : List (ℕ × List ℕ)). ItemsMapTo p located xs) e (run_of_first_by located pieces_left p).1).3 k)
  where
    bounded : (n : ℕ) (ps : List (List ℕ)) (k : ℕ) (d : ℕ × List ℕ) → d.0 + length d.1 + 1 ≤ n + spanned ps
        → (get_or (placed n ps) k d).0 + length (get_or (placed n ps) k d).1 + 1 ≤ n + spanned ps
    bounded n [] k d h = h
    bounded n (b ∷ bs) zero d h = omega arith
    bounded n (b ∷ bs) (suc k) d h = omega (arith, bounded (n + length b + 1) bs k d (omega arith))

    go : (o : Option Piece) → IfSome o (λ x. HoldsAt (λ y. located x ≡ y) (placed 0 (pieces sep text)) k) → IfSome o (λ x. x.start + length x.bytes.now ≤ length text)
    go None h = tt
    go (Some x) h =
        omega (
          arith,
          ap (λ (y : ℕ × List ℕ). y.0) (h (0, [])),
          ap (λ (y : ℕ × List ℕ). length y.1) (h (0, [])),
          bounded 0 (pieces sep text) k (0, []) (omega (arith, spanned_all sep text)),
          spanned_all sep text,
        )
