-- A window: some words of a store in a row, taken as a store of their own.
use Rattle.std.specs.Prelude.{ℕ, ◌+◌, Bool, cond, ◌&&◌, List, take, drop, Ok, Err, Result, nat_le, nat_lt}
use Rattle.book.specs.declared.Refusal.{Refusal}
use Rattle.book.specs.declared.Refusal.TheVariants.{BeyondBook}
use Rattle.store.specs.Grounds.{Ground, Around}

-- The words of a window: `count` of those below it, from word `first` on.
abbrev pub window : ℕ → ℕ → List ℕ → List ℕ
window first count words = take count (drop first words)

-- Whether a store of some length has such a window: with a word at least, and none past the store's end.
abbrev pub is_inside : ℕ → ℕ → ℕ → Bool
is_inside first count length = nat_le 1 count && nat_le (first + count) length

-- The number below of word a of a window; refused where the window has no word a.
abbrev pub place_below : ℕ → ℕ → ℕ → Result ℕ Refusal
place_below first count a = cond (nat_lt a count) (Ok (first + a)) (Err BeyondBook)

-- What a window stands on: where it begins and how many words it has, the words in front of it and behind it, and what the
-- store below stands on.
abbrev pub around : ℕ → ℕ → List ℕ → Ground → Ground
around first count words below = Around first count (take first words) (drop (first + count) words) below
