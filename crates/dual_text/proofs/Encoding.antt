-- The words for the facts of a set give back the set, and are words that their columns allow.
use Rattle.std.proofs.Common.{◌≡◌, ℕ, ◌^◌, ◌<◌, ◌≤◌, Bool, true, false, ◌||◌, ◌⊎◌, List, [], ◌∷◌, map, get_or, codes, sym, refl, ap, ◌∙◌, ap₂, inl, inr, arith}
use Rattle.std.specs.List.{range_with_len}
use Rattle.std.specs.Str.{bytes_eq}
use Rattle.std.proofs.lemmas.Slice.Eq.{bytes_eq-Decides}
use Rattle.std.proofs.lemmas.List.Elements.{All-weaker}
use Rattle.std.proofs.lemmas.List.Sums.{AllPass-from_list_all, list_all-from_AllPass}
use Rattle.std.proofs.lemmas.Bool.{and_parts, cases_lt, or_cases}
use Rattle.std.proofs.lemmas.Bool.Decides.{nat_tests}
use Rattle.lines.specs.Grammar.{word_byte, word_bytes, is_word, are_words}
use Rattle.words.specs.declared.kind.Kind.{Kind}
use Rattle.words.specs.declared.kind.Kind.TheVariants.{Facts, Now, Wish, Action}
use Rattle.words.specs.Words.{letter, digit, letters_digits, is_name, is_mark, among, allowed_first, allowed_later, holds}
use Rattle.words.specs.Marks.{mark_word}
use Rattle.strips.specs.Sets.{has}
use Rattle.sheet.specs.Reading.{set_of}
use Rattle.dual_text.proofs.Decoding.{has_set}
use Rattle.strips.proofs.Words.{equal, has_past}
use Rattle.std.proofs.Math.ListN.{get_or-eq_default}
use Rattle.std.proofs.lemmas.List.FromFn.{get_or-map-range_with_len, length-map-range_with_len}
use Rattle.dual_text.specs.Written.{now_word, wish_word, for_facts}

-- a set of n facts is the set of those facts
set_of_facts : (w n : ℕ) → w < 2 ^ n → set_of (map (has w) (range_with_len 0 n)) ≡ w
set_of_facts w n h = equal _ w (λ i. has_set flags i ∙ at i (cases_lt i n))
  where
    flags : List Bool
    flags = map (has w) (range_with_len 0 n)

    at : (i : ℕ) → (i < n) ⊎ (n ≤ i) → get_or flags i false ≡ has w i
    at i (inl l) = get_or-map-range_with_len (has w) 0 n i i false l (omega arith)
    at i (inr l) = get_or-eq_default flags false (omega (arith, length-map-range_with_len (has w) 0 n)) ∙ sym (has_past n w i h l)

-- a set read off the words of its facts, where the letter tells the facts that are in it
pub set_of_words : (x w n : ℕ) (word : ℕ → List ℕ) → ((i : ℕ) → holds x (word i) ≡ has w i) → w < 2 ^ n
    → set_of (map (holds x) (for_facts n word)) ≡ w
set_of_words x w n word e h = ap set_of (told (range_with_len 0 n)) ∙ set_of_facts w n h
  where
    told : (is : List ℕ) → map (holds x) (map word is) ≡ map (has w) is
    told [] = refl
    told (i ∷ is) = ap₂ (λ (b : Bool) (bs : List Bool). b ∷ bs) (e i) (told is)

-- the letters of a mark tell what it was made of
pub mark_needs : (p a d : Bool) → holds 112 (mark_word p a d) ≡ p
mark_needs p a d = grind arith

pub mark_adds : (p a d : Bool) → holds 97 (mark_word p a d) ≡ a
mark_adds p a d = grind arith

pub mark_deletes : (p a d : Bool) → holds 100 (mark_word p a d) ≡ d
mark_deletes p a d = grind arith

-- and 1 tells what holds
pub now_tells : (b : Bool) → holds 49 (now_word b) ≡ b
now_tells true = refl
now_tells false = refl

pub wish_tells : (b : Bool) → holds 49 (wish_word b) ≡ b
wish_tells true = refl
wish_tells false = refl

-- what is made as a mark is a mark
pub mark_made : (p a d : Bool) → is_mark (mark_word p a d) ≡ true
mark_made p a d = grind (arith, nat_tests)

-- a word that is one of some words is a word
word_among : (w : List ℕ) (xs : List (List ℕ)) → are_words xs ≡ true → among w xs ≡ true → is_word w ≡ true
word_among w [] g h = let z : ◌≡◌ {A = ℕ} 0 1 = cc in absurd (omega arith)
word_among w (x ∷ xs) g h =
    go (or_cases (bytes_eq w x) (among w xs) h) (word_among w xs (and_parts (is_word x) (are_words xs) g).1)
  where
    go : (bytes_eq w x ≡ true) ⊎ (among w xs ≡ true) → (among w xs ≡ true → is_word w ≡ true) → is_word w ≡ true
    go (inl e) f = rw ((bytes_eq-Decides w x).0 e) (and_parts (is_word x) (are_words xs) g).0
    go (inr e) f = f e

-- letters and digits are bytes of words
letters_bytes : (bs : List ℕ) → letters_digits bs ≡ true → word_bytes bs ≡ true
letters_bytes bs h =
    list_all-from_AllPass word_byte bs (All-weaker (λ b. (letter b || digit b) ≡ true) (λ b. word_byte b ≡ true) (λ b l. grind (arith, nat_tests)) bs (AllPass-from_list_all _ bs h))

-- a name is a word
name_word : (w : List ℕ) → is_name w ≡ true → is_word w ≡ true
name_word [] h = h
name_word (b ∷ bs) h =
    let k = and_parts (letter b) _ h in
    let r = letters_bytes bs (and_parts (letters_digits bs) _ k.1).0 in
    let l = k.0 in
    grind (arith, nat_tests)

-- what a column allows is a word
pub first_word : (k : Kind) (w : List ℕ) → allowed_first k w ≡ true → is_word w ≡ true
first_word Facts w h = rw ((bytes_eq-Decides w (codes "line")).0 h) refl
first_word Now w h = rw ((bytes_eq-Decides w (codes "now")).0 h) refl
first_word Wish w h = rw ((bytes_eq-Decides w (codes "wish")).0 h) refl
first_word Action w h = name_word w h

pub later_word : (k : Kind) (w : List ℕ) → allowed_later k w ≡ true → is_word w ≡ true
later_word Facts w h = name_word w h
later_word Now w h = word_among w (codes "0" ∷ codes "1" ∷ []) refl h
later_word Wish w h = word_among w (codes "1" ∷ codes "-" ∷ []) refl h
later_word Action w h =
    word_among w (codes "-" ∷ codes "p" ∷ codes "a" ∷ codes "d" ∷ codes "pa" ∷ codes "pd" ∷ codes "ad" ∷ codes "pad" ∷ []) refl h

-- what a fact's word says now, or for the goal, is allowed there
pub now_allowed : (b : Bool) → allowed_later Now (now_word b) ≡ true
now_allowed true = refl
now_allowed false = refl

pub wish_allowed : (b : Bool) → allowed_later Wish (wish_word b) ≡ true
wish_allowed true = refl
wish_allowed false = refl
