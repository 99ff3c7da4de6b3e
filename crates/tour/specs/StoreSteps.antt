-- What the steps of the story make of a store's words, and what is answered.
use Rattle.std.specs.Prelude.{ℕ, ◌+◌, cond, List, [], ◌∷◌, ◌++◌, length, take, drop, Some, None, Option, Result, slice_set}
use Rattle.std.specs.Result.{result_map_both}
use Rattle.book.specs.declared.Refusal.{Refusal}
use Rattle.store.specs.Windows.{is_inside, window}
use Rattle.store.specs.Words.{reading, writing}
use Rattle.store.specs.Swaps.{swap_answer, swapped}
use Rattle.tour.specs.declared.store_story.StoreStep.{StoreStep}
use Rattle.tour.specs.declared.store_story.StoreStep.TheVariants.{Read, Write, Swap}

-- What a store with these words answers to a step: a reading gives the word.
abbrev pub answer_to : StoreStep → List ℕ → Result (Option ℕ) Refusal
answer_to (Read word) words = result_map_both Some (λ refusal. refusal) (reading words word)
answer_to (Write word value) words = result_map_both (λ done. None) (λ refusal. refusal) (writing words word)
answer_to (Swap a b) words = result_map_both (λ done. None) (λ refusal. refusal) (swap_answer words a b)

-- The words after a step.
abbrev pub words_after : StoreStep → List ℕ → List ℕ
words_after (Read word) words = words
words_after (Write word value) words = slice_set words word value
words_after (Swap a b) words = swapped words a b

-- The words after some steps, the first of the list first.
abbrev pub words_after_all : List StoreStep → List ℕ → List ℕ
words_after_all [] words = words
words_after_all (step ∷ steps) words = words_after_all steps (words_after step words)

-- The words after something was done on a window of them, if there is such a window: those outside it are as they were.
abbrev pub in_window : ℕ → ℕ → (List ℕ → List ℕ) → List ℕ → List ℕ
in_window first count done words =
    cond
    (is_inside first count (length words))
    (take first words ++ (done (window first count words) ++ drop (first + count) words))
    words

-- The words after something was done on all of them, then on words 2 to 4, then on words 1 and 2 as a
-- window of a window.
abbrev pub with_windows : (List ℕ → List ℕ) → List ℕ → List ℕ
with_windows done words = in_window 1 4 (in_window 0 2 done) (in_window 2 3 done (done words))
