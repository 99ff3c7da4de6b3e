-- Two words of a store swapped.
use Rattle.std.specs.Prelude.{ℕ, Bool, cond, ◌&&◌, List, length, Ok, Err, Result, nat_lt, slice_index, slice_set}
use Rattle.book.specs.declared.Refusal.{Refusal}
use Rattle.book.specs.declared.Refusal.TheVariants.{BeyondBook}

-- Whether there are both words.
abbrev pub both_there : List ℕ → ℕ → ℕ → Bool
both_there words a b = nat_lt a (length words) && nat_lt b (length words)

-- What a swap answers.
abbrev pub swap_answer : List ℕ → ℕ → ℕ → Result (Unit {0}) Refusal
swap_answer words a b = cond (both_there words a b) (Ok tt) (Err BeyondBook)

-- The words after it: each of the two is what the other was, and the rest stays.
abbrev pub swapped : List ℕ → ℕ → ℕ → List ℕ
swapped words a b =
    cond (both_there words a b) (slice_set (slice_set words a (slice_index words b)) b (slice_index words a)) words

-- Memory after two of the words that it is were swapped, where it has the length of a book. Otherwise nothing has changed.
abbrev pub lent_swapped : {X : Type 0} → (ℕ → Bool) → (List X → List ℕ) → (List ℕ → List X) → List X → ℕ → ℕ → List X
lent_swapped is_length words cells memory a b =
    cond (is_length (length memory)) (cells (swapped (words memory) a b)) memory
