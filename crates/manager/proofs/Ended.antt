-- All jobs have ended.
use Rattle.std.proofs.Common.{◌≡◌, ℕ, ◌<◌, replicate, None, arith}
use Rattle.std.proofs.lemmas.List.{ext_get_or, get_or-replicate}
use Rattle.manager.specs.Ranks.{Lawful, Ranks, jobs, no_ranks, rank_of}

-- Where none of the eight jobs has a rank, there is none.
pub all_ended : (s : Ranks) (next : ℕ) → Lawful s → s.next ≡ next → ((k : ℕ) → k < jobs → rank_of k s ≡ None) → s ≡ no_ranks next
all_ended s next law stays none =
    let ranks : s.of_jobs ≡ replicate jobs None = grind (arith, ext_get_or None s.of_jobs (replicate jobs None) law.eight, get_or-replicate, none) in
    rw (← ranks, ← stays)
