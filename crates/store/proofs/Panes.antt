-- A word of a window, written.
use Rattle.std.proofs.Common.{◌≡◌, ℕ, ◌+◌, ◌<◌, List, take, drop, set, ap, ◌∙◌}
use lib.Seq.{drop-set-add, take-set-lt}
use Rattle.store.specs.Windows.{window}

-- To write a word of a window is to write the one below it.
pub set_within : (first count a v : ℕ) (words : List ℕ) → a < count → window first count (set words (first + a) v) ≡ set (window first count words) a v
set_within first count a v words h =
    ap (λ l. take count l) (drop-set-add first words a v) ∙ take-set-lt count (drop first words) a v h
