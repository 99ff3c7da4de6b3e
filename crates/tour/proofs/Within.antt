-- What is done on a window, seen from the store below.
use Rattle.std.proofs.Common.{◌≡◌, ℕ, ◌+◌, true, List, [], ◌++◌, length, take, drop, sym, refl, ◌∙◌, drop-drop}
use Rattle.std.proofs.lemmas.Bool.{cond_both, cond-true}
use Rattle.std.proofs.lemmas.List.{take-append-drop}
use Rattle.store.specs.Grounds.{Ground}
use Rattle.store.specs.Windows.{around, is_inside, window}
use Rattle.tour.specs.StoreSteps.{in_window, words_after_all}

-- Words are those in front of a window, those of the window and those behind it.
parted : (first count : ℕ) (words : List ℕ) → words ≡ take first words ++ (window first count words ++ drop (first + count) words)
parted first count words =
    let rest = take-append-drop count (drop first words) in
    let far = drop-drop count first words in
    let all = take-append-drop first words in
    cc

-- Where only the words of a window have changed, the others are as they were.
restored : (first count : ℕ) (before after inner : List ℕ) (below below' : Ground) →
    around first count after below' ≡ around first count before below → window first count after ≡ inner →
    after ≡ take first before ++ (inner ++ drop (first + count) before)
restored first count before after inner below below' same made = let whole = parted first count after in cc

-- Nothing done on a window is nothing done.
pub nothing_done : (first count : ℕ) (words : List ℕ) → in_window first count (words_after_all []) words ≡ words
nothing_done first count words =
    cond_both
    (is_inside first count (length words))
    (take first words ++ (window first count words ++ drop (first + count) words))
    words
    (λ l. l ≡ words)
    (λ e. sym (parted first count words))
    (λ e. refl)

-- A window's numbers are kept, and so what is around it; its words are made anew.
pub seen : (first count : ℕ) (done : List ℕ → List ℕ) (before : List ℕ) (below : Ground) (first' count' : ℕ) (after : List ℕ) (below' : Ground) →
    is_inside first count (length before) ≡ true →
    around first' count' after below' ≡ around first count before below →
    window first' count' after ≡ done (window first count before) →
    (after ≡ in_window first count done before) × (below' ≡ below)
seen first count done before below first' count' after below' fits same made =
    let f : first' ≡ first = cc in
    let n : count' ≡ count = cc in
    let same' : around first count after below' ≡ around first count before below = cc in
    let made' : window first count after ≡ done (window first count before) = cc in (
      restored first count before after (done (window first count before)) below below' same' made'
          ∙ sym (cond-true (is_inside first count (length before)) (take first before ++ (done (window first count before) ++ drop (first + count) before)) before fits),
      cc,
    )
