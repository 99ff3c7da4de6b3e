-- What a contention manager means: the ranks of eight jobs, and the next rank number.
use Rattle.std.specs.Prelude.{◌≡◌, ℕ, ◌+◌, ◌<◌, ◌≤◌, Bool, true, false, cond, not, ◌&&◌, List, length, replicate, is_some, Some, None, Option, nat_lt, slice_index_or, slice_set}

-- How many jobs there are; they are numbered from 0.
abbrev pub jobs : ℕ
jobs = 8

-- The greatest 32-bit number. It is never given as a rank.
abbrev pub last_number : ℕ
last_number = 4294967295

-- The rank of each job, absent or a number, and the number that the next rank is.
pub record Ranks : Type 0 where
  pub of_jobs : List (Option ℕ)
  pub next : ℕ

-- The rank of a job. What is no job has none.
abbrev pub rank_of : ℕ → Ranks → Option ℕ
rank_of job ranks = slice_index_or ranks.of_jobs job None

-- No job has a rank.
abbrev pub no_ranks : ℕ → Ranks
no_ranks next = record { of_jobs = replicate jobs None; next = next }

-- Whether a rank can be given: to a job that has none, while a number is left.
abbrev pub can_rank : ℕ → Ranks → Bool
can_rank job ranks =
    nat_lt job jobs && (not (is_some (rank_of job ranks)) && nat_lt ranks.next last_number)

-- The job gets the next number as its rank, and the next number rises by one.
abbrev pub with_rank : ℕ → Ranks → Ranks
with_rank job ranks =
    record { of_jobs = slice_set ranks.of_jobs job (Some ranks.next); next = ranks.next + 1 }

-- After a manager was told that a job began or wrote: where its rule gives a rank and the job can have one, it has one.
-- Otherwise nothing has changed.
abbrev pub after_event : Bool → ℕ → Ranks → Ranks
after_event gives job ranks = cond (gives && can_rank job ranks) (with_rank job ranks) ranks

-- After a manager was told that a job ended: its rank is gone, and nothing else has changed.
abbrev pub after_end : ℕ → Ranks → Ranks
after_end job ranks = record { of_jobs = slice_set ranks.of_jobs job None; next = ranks.next }

-- Whether a job with the first rank yields to one with the second: it has none, or the other's is lower.
abbrev pub yields_to : Option ℕ → Option ℕ → Bool
yields_to None other = true
yields_to (Some rank) None = false
yields_to (Some rank) (Some other) = nat_lt other rank

-- Every rank is below the next number.
abbrev pub BelowNext : List (Option ℕ) → ℕ → Type 0
BelowNext ranks next = (job rank : ℕ) → slice_index_or ranks job None ≡ Some rank → rank < next

-- No two jobs have the same rank.
abbrev pub Apart : List (Option ℕ) → Type 0
Apart ranks = (job other : ℕ) → (job < other) × (is_some (slice_index_or ranks job None) ≡ true) × (slice_index_or ranks job None ≡ slice_index_or ranks other None) → ⊥

-- The law that every manager keeps: there are eight ranks, the next number has 32 bits, every rank is below it, and no two
-- jobs have the same rank.
pub record Lawful (ranks : Ranks) : Type 0 where
  pub eight : length ranks.of_jobs ≡ jobs
  pub fits : ranks.next ≤ last_number
  pub below : BelowNext ranks.of_jobs ranks.next
  pub apart : Apart ranks.of_jobs

-- Ranks that keep the law keep it through every event, whether a rank is given or not, and through every end.
pub record LawKept : Type 0 where
  pub by_events : (gives : Bool) (job : ℕ) (ranks : Ranks) → Lawful ranks → Lawful (after_event gives job ranks)
  pub by_ends : (job : ℕ) (ranks : Ranks) → Lawful ranks → Lawful (after_end job ranks)
