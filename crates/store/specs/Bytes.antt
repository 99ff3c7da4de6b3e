-- How bytes are read as words.
use Rattle.std.specs.Prelude.{ℕ, ◌+◌, ◌*◌, ◌/◌, ◌%◌, ◌^◌, Bool, ◌&&◌, List, [], ◌∷◌, ◌==◌}
use Rattle.book.specs.Lengths.{is_book_length}

-- How many bytes a word takes.
abbrev pub word_bytes : ℕ
word_bytes = 4

-- The word that four bytes are: the first counts most.
abbrev pub word_of : ℕ → ℕ → ℕ → ℕ → ℕ
word_of first second third fourth = first * 256 ^ 3 + second * 256 ^ 2 + third * 256 + fourth

-- The words that bytes are. Bytes left over at the end are no word.
abbrev pub words_of_bytes : List ℕ → List ℕ
words_of_bytes [] = []
words_of_bytes (a ∷ []) = []
words_of_bytes (a ∷ b ∷ []) = []
words_of_bytes (a ∷ b ∷ c ∷ []) = []
words_of_bytes (a ∷ b ∷ c ∷ d ∷ rest) = word_of a b c d ∷ words_of_bytes rest

-- The bytes left over at the end, behind those of the last word.
abbrev pub bytes_left_over : List ℕ → List ℕ
bytes_left_over [] = []
bytes_left_over (a ∷ []) = a ∷ []
bytes_left_over (a ∷ b ∷ []) = a ∷ b ∷ []
bytes_left_over (a ∷ b ∷ c ∷ []) = a ∷ b ∷ c ∷ []
bytes_left_over (a ∷ b ∷ c ∷ d ∷ rest) = bytes_left_over rest

-- The bytes that words are: four for each.
abbrev pub bytes_of_words : List ℕ → List ℕ
bytes_of_words [] = []
bytes_of_words (w ∷ words) =
    (w / 256 ^ 3 % 256) ∷ (w / 256 ^ 2 % 256) ∷ (w / 256 % 256) ∷ (w % 256) ∷ bytes_of_words words

-- Whether so many bytes are the words of a book: none is left over, and there are not too few or too many words.
abbrev pub is_byte_length : ℕ → Bool
is_byte_length bytes = bytes % word_bytes == 0 && is_book_length (bytes / word_bytes)
