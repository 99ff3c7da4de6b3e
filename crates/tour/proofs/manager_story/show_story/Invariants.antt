use Rattle.std.proofs.Common.{drop}
use Rattle.manager.specs.Ranks.{Ranks}
use Rattle.tour.specs.ManagerSteps.{ToldThrough}
use Rattle.tour.proofs.manager_story.show_story.Given as goal

-- Whatever the steps that are left lead to, all steps lead to from the ranks at first.
abbrev pub invariant-loop-step : goal.invariant-loop-step
invariant-loop-step g l =
    (last : Ranks) →
    ToldThrough (drop l.step-index l.story) (g.M.ContentionManager.ranks l.manager) last →
    ToldThrough l.story (g.M.ContentionManager.ranks l.initial.manager) last
