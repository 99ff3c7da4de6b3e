use Rattle.std.proofs.Common.{◌≡◌, ℕ, ◌<◌, None}
use Rattle.manager.specs.Ranks.{rank_of}
use Rattle.manager.proofs.ending.end_all.Given as goal

-- The jobs so far have no rank, and the next number is what it was.
abbrev pub invariant-loop-job : goal.invariant-loop-job
invariant-loop-job g l =
    ((g.M.ContentionManager.ranks l.manager).next ≡ (g.M.ContentionManager.ranks l.initial.manager).next)
    × ((k : ℕ) → k < l.job → rank_of k (g.M.ContentionManager.ranks l.manager) ≡ None)
