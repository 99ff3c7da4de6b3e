-- What a store means: a list of words, numbered from 0, each a 32-bit number.
use Rattle.std.specs.Prelude.{◌≡◌, ℕ, ◌^◌, ◌<◌, true, cond, List, length, Ok, Err, Result, nat_lt, slice_index}
use Rattle.book.specs.Lengths.{is_book_length}
use Rattle.book.specs.declared.Refusal.{Refusal}
use Rattle.book.specs.declared.Refusal.TheVariants.{BeyondBook}

-- The words of a book: 1 to 4,096 of them, each a number of 32 bits.
abbrev pub Book : List ℕ → Type 0
Book words = (is_book_length (length words) ≡ true) × ((a : ℕ) → slice_index words a < 2 ^ 32)

-- What reading word a answers: the word, or that there is none.
abbrev pub reading : List ℕ → ℕ → Result ℕ Refusal
reading words a = cond (nat_lt a (length words)) (Ok (slice_index words a)) (Err BeyondBook)

-- What writing word a answers.
abbrev pub writing : List ℕ → ℕ → Result (Unit {0}) Refusal
writing words a = cond (nat_lt a (length words)) (Ok tt) (Err BeyondBook)
