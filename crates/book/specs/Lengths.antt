-- How long a book may be.
use Rattle.std.specs.Prelude.{ℕ, Bool, ◌&&◌, nat_le}

-- The most words that a book has.
abbrev pub most_words : ℕ
most_words = 4096

-- Whether a book may have so many words: at least one, and not too many.
abbrev pub is_book_length : ℕ → Bool
is_book_length length = nat_le 1 length && nat_le length most_words
