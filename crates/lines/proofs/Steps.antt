-- What a byte does to what may come.
use Rattle.std.proofs.Common.{◌≡◌, ℕ, true, false, List, [], ◌∷◌, ◌++◌, refl, ap, ◌∙◌, arith}
use Rattle.std.proofs.lemmas.Bool.{false≢true, both_ways, and_parts, and_from}
use Rattle.lines.specs.Grammar.{word_byte, word_bytes, are_words, are_lines, behind, lines_text, Lines}
use Rattle.lines.specs.Coming.{Coming, Onward, Stuck}
use Rattle.lines.specs.declared.reader.State.{State}
use Rattle.lines.specs.declared.reader.State.TheVariants.{LineStart, WordStart, InWord}

-- what may come inside a word: more of the word, words, each behind a space, the line's end, and lines
record Rest (q : List ℕ) : Type 0 where
  bytes : List ℕ
  words : List (List ℕ)
  lines : List (List (List ℕ))
  good_bytes : word_bytes bytes ≡ true
  good_words : are_words words ≡ true
  good_lines : are_lines lines ≡ true
  same : q ≡ (bytes ++ behind 32 words) ++ (10 ∷ lines_text lines)

-- lines that are not none: a byte of a word, and the rest
opened : {b : ℕ} {q : List ℕ} → Lines (b ∷ q) → (word_byte b ≡ true) × Rest q
opened {b} {q} l = go l.lines l.good l.same
  where
    go : (ls : List (List (List ℕ))) → are_lines ls ≡ true → b ∷ q ≡ lines_text ls → (word_byte b ≡ true) × Rest q
    go [] g e = let z : ◌≡◌ {A = ℕ} 0 1 = cc in absurd (omega arith)
    go ([] ∷ ls) g e = absurd (false≢true g)
    go (([] ∷ ws) ∷ ls) g e = absurd (false≢true g)
    go (((x ∷ bs) ∷ ws) ∷ ls) g e =
        let h : b ≡ x = cc in
        let t : q ≡ (bs ++ behind 32 ws) ++ (10 ∷ lines_text ls) = cc in
        let p = and_parts _ _ g in
        let r = and_parts _ _ p.0 in
        let s = and_parts _ _ r.0 in
        (ap word_byte h ∙ s.0, record { bytes = bs; words = ws; lines = ls; good_bytes = s.1; good_words = r.1; good_lines = p.1; same = t })

-- a byte of a word and the rest are lines
opening : {b : ℕ} {q : List ℕ} → word_byte b ≡ true → Rest q → Lines (b ∷ q)
opening {b} h r = record {
  lines = ((b ∷ r.bytes) ∷ r.words) ∷ r.lines;
  good = and_from _ _ (and_from _ _ (and_from _ _ h r.good_bytes) r.good_words) r.good_lines;
  same = ap (λ (x : List ℕ). b ∷ x) r.same;
}

-- a word's first byte may be any other
other : {b d : ℕ} {q : List ℕ} → word_byte d ≡ true → Lines (b ∷ q) → Lines (d ∷ q)
other h l = opening h (opened l).1

-- a byte inside a word, and what may come after it: a byte of a word, a space or a line's end
data Next (b : ℕ) (q : List ℕ) : Type 0 where
  at_byte : word_byte b ≡ true → Rest q → Next b q
  at_space : b ≡ 32 → Lines q → (q ≡ [] → ⊥) → Next b q
  at_end : b ≡ 10 → Lines q → Next b q

-- inside a word no other byte comes
next : {b : ℕ} {q : List ℕ} → Rest (b ∷ q) → Next b q
next {b} {q} r = go r.bytes r.words r.good_bytes r.good_words r.same
  where
    go : (bs : List ℕ) (ws : List (List ℕ)) → word_bytes bs ≡ true → are_words ws ≡ true → b ∷ q ≡ (bs ++ behind 32 ws) ++ (10 ∷ lines_text r.lines) → Next b q
    go [] [] g h e = at_end (cc) (record { lines = r.lines; good = r.good_lines; same = cc })
    go [] ([] ∷ ws) g h e = absurd (false≢true h)
    go [] ((x ∷ bs) ∷ ws) g h e =
        at_space (cc) (record { lines = ((x ∷ bs) ∷ ws) ∷ r.lines; good = and_from _ _ h r.good_lines; same = cc }) (λ n. let z : ◌≡◌ {A = ℕ} 0 1 = cc in absurd (omega arith))
    go (x ∷ bs) ws g h e =
        let k : b ≡ x = cc in
        let t : q ≡ (bs ++ behind 32 ws) ++ (10 ∷ lines_text r.lines) = cc in
        let p = and_parts _ _ g in
        at_byte (ap word_byte k ∙ p.0) (record { bytes = bs; words = ws; lines = r.lines; good_bytes = p.1; good_words = h; good_lines = r.good_lines; same = t })

-- the rest inside a word is not empty
no_rest : Rest [] → ⊥
no_rest r = go r.bytes r.words r.same
  where
    go : (bs : List ℕ) (ws : List (List ℕ)) → ◌≡◌ {A = List ℕ} [] ((bs ++ behind 32 ws) ++ (10 ∷ lines_text r.lines)) → ⊥
    go [] [] e = let z : ◌≡◌ {A = ℕ} 0 1 = cc in omega arith
    go [] (w ∷ ws) e = let z : ◌≡◌ {A = ℕ} 0 1 = cc in omega arith
    go (x ∷ bs) ws e = let z : ◌≡◌ {A = ℕ} 0 1 = cc in omega arith

-- a byte of a word before the rest
rest_byte : {b : ℕ} {q : List ℕ} → word_byte b ≡ true → Rest q → Rest (b ∷ q)
rest_byte {b} h r = record {
  bytes = b ∷ r.bytes;
  words = r.words;
  lines = r.lines;
  good_bytes = and_from _ _ h r.good_bytes;
  good_words = r.good_words;
  good_lines = r.good_lines;
  same = ap (λ (x : List ℕ). b ∷ x) r.same;
}

-- a space before a word
rest_space : {b : ℕ} {q : List ℕ} → word_byte b ≡ true → Rest q → Rest (32 ∷ b ∷ q)
rest_space {b} h r = record {
  bytes = [];
  words = (b ∷ r.bytes) ∷ r.words;
  lines = r.lines;
  good_bytes = refl;
  good_words = and_from _ _ (and_from _ _ h r.good_bytes) r.good_words;
  good_lines = r.good_lines;
  same = ap (λ (x : List ℕ). 32 ∷ b ∷ x) r.same;
}

-- a line's end before lines
rest_end : {q : List ℕ} → Lines q → Rest (10 ∷ q)
rest_end l = record {
  bytes = [];
  words = [];
  lines = l.lines;
  good_bytes = refl;
  good_words = refl;
  good_lines = l.good;
  same = ap (λ (x : List ℕ). 10 ∷ x) l.same;
}

-- after a space, lines that are not none
spaced : {q : List ℕ} → Coming WordStart q → Lines q × (q ≡ [] → ⊥)
spaced l = elim (next (opened l).1) [ at_byte g r ↦ absurd (false≢true g) | at_space e k n ↦ (k, n) | at_end e k ↦ absurd (omega (arith, e)) ]

-- a byte of a word leads into a word
pub word_on : (s : State) (b : ℕ) → word_byte b ≡ true → Onward s b InWord
word_on LineStart b h = record { only = λ q l. other refl l; all = λ q l. other h l }
word_on WordStart b h = record { only = λ q l. other refl (spaced l).0; all = λ q l. opening refl (rest_space h (opened l).1) }
word_on InWord b h = record {
  only = λ q l. elim (next (opened l).1) [
    | at_byte g r ↦ opening refl r
    | at_space e k n ↦ absurd (both_ways (word_byte b) (ap word_byte e) h)
    | at_end e k ↦ absurd (both_ways (word_byte b) (ap word_byte e) h)
  ];
  all = λ q l. opening refl (rest_byte h (opened l).1);
}

-- byte 10 leads from a word to a line's start
pub end_on : Onward InWord 10 LineStart
end_on = record {
  only = λ q l. elim (next (opened l).1) [ at_byte g r ↦ absurd (false≢true g) | at_space e k n ↦ absurd (omega (arith, e)) | at_end e k ↦ k ];
  all = λ q l. opening refl (rest_end l);
}

-- no other byte may come
pub stuck : (s : State) (b : ℕ) → word_byte b ≡ false → (s ≡ InWord → b ≡ 32 → ⊥) → (s ≡ InWord → b ≡ 10 → ⊥) → Stuck s b
stuck LineStart b h m n q l = both_ways (word_byte b) h (opened l).0
stuck WordStart b h m n q l = both_ways (word_byte b) h (opened (spaced l).0).0
stuck InWord b h m n q l = elim (next (opened l).1) [ at_byte g r ↦ both_ways (word_byte b) h g | at_space e k o ↦ m refl e | at_end e k ↦ n refl e ]

-- a text does not end in a word or before one
pub unended : (s : State) → (s ≡ LineStart → ⊥) → Coming s [] → ⊥
unended LineStart n l = n refl
unended WordStart n l = (spaced l).1 refl
unended InWord n l = no_rest (opened l).1

-- the empty text is lines: none
pub none_lines : Lines []
none_lines = record { lines = []; good = refl; same = refl }

-- something may come in every state
pub coming : (s : State) → (q : List ℕ) × Coming s q
coming LineStart = ([], none_lines)
coming WordStart = (45 ∷ 10 ∷ [], record { lines = ((45 ∷ []) ∷ (45 ∷ []) ∷ []) ∷ []; good = refl; same = refl })
coming InWord = (10 ∷ [], record { lines = ((45 ∷ []) ∷ []) ∷ []; good = refl; same = refl })
