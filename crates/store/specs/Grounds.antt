-- What a store stands on, apart from its words: all that a write must leave alone.
use Rattle.std.specs.Prelude.{ℕ, List}

-- Borrowed memory, by the name under which the language's logic knows the loan; or the store below a window, with where the
-- window begins, how many words it has, and the words in front of it and behind it.
pub data Ground : Type 0 where
  Lent : (loan : ℕ) → Ground
  Around : (first count : ℕ) (front back : List ℕ) (below : Ground) → Ground
