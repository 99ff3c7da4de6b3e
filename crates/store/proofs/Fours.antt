-- Words as bytes, four by four.
use Rattle.std.proofs.Common.{◌≡◌, ℕ, zero, suc, ◌+◌, ◌*◌, ◌/◌, ◌%◌, ◌^◌, ◌<◌, List, [], ◌∷◌, ◌++◌, length, get_or, map, set, w32, refl, sym, ap, ◌∙◌, mod-eq_of_lt, arith}
use native.Mathlib.Nat.{div-div-eq-div-mul}
use borrow.Rule.Slice.PartMut.{put_mid}
use Rattle.std.proofs.lemmas.Grind.{common_steps}
use Rattle.std.proofs.lemmas.List.{get_or-map}
use Rattle.std.specs.Int.{from_be_bytes, to_be_bytes}
use Rattle.std.specs.Simd.{first_chunks}
use Rattle.store.specs.Bytes.{bytes_left_over, bytes_of_words, word_of, words_of_bytes}

-- There is a word for every four bytes.
pub length_words : (bytes : List ℕ) → length (words_of_bytes bytes) ≡ length bytes / 4
length_words [] = refl
length_words (a ∷ []) = refl
length_words (a ∷ b ∷ []) = refl
length_words (a ∷ b ∷ c ∷ []) = refl
length_words (a ∷ b ∷ c ∷ d ∷ rest) = let e = length_words rest in omega arith

-- A word is what its four bytes are.
word_of_parts : (v : ℕ) → v < 2 ^ 32 → word_of (v / 16777216 % 256) (v / 65536 % 256) (v / 256 % 256) (v % 256) ≡ v
word_of_parts v h =
    let a : v / 256 / 256 ≡ v / 65536 = div-div-eq-div-mul v 256 256 in
    let b : v / 65536 / 256 ≡ v / 16777216 = div-div-eq-div-mul v 65536 256 in
    let c : v / 16777216 < 256 = omega arith in
    let d : v / 16777216 % 256 ≡ v / 16777216 = mod-eq_of_lt c in
    let e : v / 256 ≡ 256 * (v / 65536) + v / 256 % 256 = omega arith in
    let f : v / 65536 ≡ 256 * (v / 16777216) + v / 65536 % 256 = omega arith in
    omega arith

-- Four places further on.
four : (a : ℕ) → 4 * suc a ≡ suc (suc (suc (suc (4 * a))))
four a = omega arith

-- The words of bytes are those of their chunks of four.
words_are_chunks : (bytes : List ℕ) → words_of_bytes bytes ≡ map (from_be_bytes w32) (first_chunks 4 (length bytes / 4) bytes)
words_are_chunks [] = refl
words_are_chunks (a ∷ []) = refl
words_are_chunks (a ∷ b ∷ []) = refl
words_are_chunks (a ∷ b ∷ c ∷ []) = refl
words_are_chunks (a ∷ b ∷ c ∷ d ∷ rest) =
    let n : length (a ∷ b ∷ c ∷ d ∷ rest) / 4 ≡ suc (length rest / 4) = omega arith in
    let first : word_of a b c d ≡ from_be_bytes w32 (a ∷ b ∷ c ∷ d ∷ []) = omega arith in
    let others = words_are_chunks rest in
    rw (n, first, others) refl

-- So each word is what its chunk says.
pub word_of_chunk : (bytes : List ℕ) (a : ℕ) (none : List ℕ) → a < length bytes / 4 →
    get_or (words_of_bytes bytes) a 0 ≡ from_be_bytes w32 (get_or (first_chunks 4 (length bytes / 4) bytes) a none)
word_of_chunk bytes a none h =
    let chunks = words_are_chunks bytes in
    let e = length_words bytes in
    grind (arith, common_steps, get_or-map)

-- Four bytes put in further on leave the first four.
put_further : (a p q r s : ℕ) (rest part : List ℕ) →
    put_mid (4 * suc a) 4 (p ∷ q ∷ r ∷ s ∷ rest) part ≡ p ∷ q ∷ r ∷ s ∷ put_mid (4 * a) 4 rest part
put_further a p q r s rest part = rw (four a) refl

-- The bytes of a word put in at place 4a make it word a, and the other words stay.
words_put : (bytes : List ℕ) (a v : ℕ) → a < length bytes / 4 → v < 2 ^ 32 →
    words_of_bytes (put_mid (4 * a) 4 bytes (to_be_bytes w32 v)) ≡ set (words_of_bytes bytes) a v
words_put [] a v h fits = absurd (omega arith)
words_put (p ∷ []) a v h fits = absurd (omega arith)
words_put (p ∷ q ∷ []) a v h fits = absurd (omega arith)
words_put (p ∷ q ∷ r ∷ []) a v h fits = absurd (omega arith)
words_put (p ∷ q ∷ r ∷ s ∷ rest) zero v h fits = ap (λ w. w ∷ words_of_bytes rest) (word_of_parts v fits)
words_put (p ∷ q ∷ r ∷ s ∷ rest) (suc a) v h fits =
    let k : a < length rest / 4 = omega arith in
    rw (put_further a p q r s rest (to_be_bytes w32 v)) (ap (λ l. word_of p q r s ∷ l) (words_put rest a v k fits))

-- The bytes of words of which one was made anew.
bytes_set : (words : List ℕ) (a v : ℕ) → a < length words → bytes_of_words (set words a v) ≡ put_mid (4 * a) 4 (bytes_of_words words) (to_be_bytes w32 v)
bytes_set [] a v h = absurd (omega arith)
bytes_set (w ∷ words) zero v h = refl
bytes_set (w ∷ words) (suc a) v h =
    let k : a < length words = omega arith in
    let others = bytes_set words a v k in
    rw put_further (ap (λ l. (w / 256 ^ 3 % 256) ∷ (w / 256 ^ 2 % 256) ∷ (w / 256 % 256) ∷ (w % 256) ∷ l) others)

-- Words made of bytes have 32 bits.
pub words_fit : (bytes : List ℕ) → ((i : ℕ) → get_or bytes i 0 < 256) → (a : ℕ) → get_or (words_of_bytes bytes) a 0 < 2 ^ 32
words_fit [] all a = omega arith
words_fit (p ∷ []) all a = omega arith
words_fit (p ∷ q ∷ []) all a = omega arith
words_fit (p ∷ q ∷ r ∷ []) all a = omega arith
words_fit (p ∷ q ∷ r ∷ s ∷ rest) all zero = omega (arith, all 0, all 1, all 2, all 3)
words_fit (p ∷ q ∷ r ∷ s ∷ rest) all (suc a) = words_fit rest (λ i. all (suc (suc (suc (suc i))))) a

-- A word's bytes are those that it was made of.
parts_of_word : (p q r s : ℕ) → p < 256 → q < 256 → r < 256 → s < 256 →
    (word_of p q r s / 256 ^ 3 % 256 ≡ p) × (word_of p q r s / 256 ^ 2 % 256 ≡ q) × (word_of p q r s / 256 % 256 ≡ r) × (word_of p q r s % 256 ≡ s)
parts_of_word p q r s hp hq hr hs = (omega arith, omega arith, omega arith, omega arith)

-- Bytes that come in fours are those of their words.
pub bytes_back : (bytes : List ℕ) → ((i : ℕ) → get_or bytes i 0 < 256) → length bytes % 4 ≡ 0 → bytes_of_words (words_of_bytes bytes) ≡ bytes
bytes_back [] all e = refl
bytes_back (p ∷ []) all e = absurd (omega arith)
bytes_back (p ∷ q ∷ []) all e = absurd (omega arith)
bytes_back (p ∷ q ∷ r ∷ []) all e = absurd (omega arith)
bytes_back (p ∷ q ∷ r ∷ s ∷ rest) all e =
    let fours : length rest % 4 ≡ 0 = omega arith in
    let back = bytes_back rest (λ i. all (suc (suc (suc (suc i))))) fours in
    let parts = parts_of_word p q r s (all 0) (all 1) (all 2) (all 3) in
    cc

-- The bytes left over stay where the bytes of a word are put in.
left_over_put : (bytes : List ℕ) (a v : ℕ) → a < length bytes / 4 → bytes_left_over (put_mid (4 * a) 4 bytes (to_be_bytes w32 v)) ≡ bytes_left_over bytes
left_over_put [] a v h = absurd (omega arith)
left_over_put (p ∷ []) a v h = absurd (omega arith)
left_over_put (p ∷ q ∷ []) a v h = absurd (omega arith)
left_over_put (p ∷ q ∷ r ∷ []) a v h = absurd (omega arith)
left_over_put (p ∷ q ∷ r ∷ s ∷ rest) zero v h = refl
left_over_put (p ∷ q ∷ r ∷ s ∷ rest) (suc a) v h =
    let k : a < length rest / 4 = omega arith in
    rw (put_further a p q r s rest (to_be_bytes w32 v)) (left_over_put rest a v k)

pub left_over_written : (bytes part : List ℕ) (a k v : ℕ) → a < length bytes / 4 → k ≡ 4 → part ≡ to_be_bytes w32 v → bytes_left_over (put_mid (4 * a) k bytes part) ≡ bytes_left_over bytes
left_over_written bytes part a k v h four_bytes same = rw (four_bytes, same) (left_over_put bytes a v h)

-- Bytes are those of their words, and behind them those left over.
pub bytes_whole : (bytes : List ℕ) → ((i : ℕ) → get_or bytes i 0 < 256) → bytes_of_words (words_of_bytes bytes) ++ bytes_left_over bytes ≡ bytes
bytes_whole [] all = refl
bytes_whole (p ∷ []) all = refl
bytes_whole (p ∷ q ∷ []) all = refl
bytes_whole (p ∷ q ∷ r ∷ []) all = refl
bytes_whole (p ∷ q ∷ r ∷ s ∷ rest) all =
    let whole = bytes_whole rest (λ i. all (suc (suc (suc (suc i))))) in
    let parts = parts_of_word p q r s (all 0) (all 1) (all 2) (all 3) in
    cc

-- The words of memory in which the bytes of a word were made anew.
pub words_written : (bytes part : List ℕ) (a k v : ℕ) → a < length bytes / 4 → v < 2 ^ 32 → k ≡ 4 → part ≡ to_be_bytes w32 v →
    set (words_of_bytes bytes) a v ≡ words_of_bytes (put_mid (4 * a) k bytes part)
words_written bytes part a k v h fits four_bytes same = rw (four_bytes, same) (sym (words_put bytes a v h fits))

-- Where the memory was nothing but its words, it still is.
pub exact_written : (bytes part : List ℕ) (a k v : ℕ) → a < length bytes / 4 → v < 2 ^ 32 → k ≡ 4 → part ≡ to_be_bytes w32 v →
    bytes_of_words (words_of_bytes bytes) ≡ bytes → bytes_of_words (words_of_bytes (put_mid (4 * a) k bytes part)) ≡ put_mid (4 * a) k bytes part
exact_written bytes part a k v h fits four_bytes same exact =
    let e = length_words bytes in
    let there : a < length (words_of_bytes bytes) = omega arith in
    rw (four_bytes, same) (ap bytes_of_words (words_put bytes a v h fits) ∙ bytes_set (words_of_bytes bytes) a v there ∙ ap (λ l. put_mid (4 * a) 4 l (to_be_bytes w32 v)) exact)

-- What the calls of a byte store's memory are proved with.
pub ruleset fours = (bytes_back, bytes_whole, exact_written, left_over_written, length_words, word_of_chunk, words_fit, words_written, common_steps)
