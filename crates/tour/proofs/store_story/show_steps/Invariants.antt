use Rattle.std.proofs.Common.{◌≡◌, drop}
use Rattle.tour.specs.StoreSteps.{words_after_all}
use Rattle.tour.proofs.store_story.show_steps.Given as goal

-- The steps that are left make of the words now what all of them make of the words at first; nothing else
-- has changed.
abbrev pub invariant-loop-step : goal.invariant-loop-step
invariant-loop-step g l =
    (words_after_all (drop l.step-index l.steps) (g.S.Store.words l.store) ≡ words_after_all l.steps (g.S.Store.words l.initial.store))
    × (g.S.Store.footing l.store ≡ g.S.Store.footing l.initial.store)
