-- What the steps of the story make of a manager's ranks, and what is answered.
use Rattle.std.specs.Prelude.{Bool, List, [], ◌∷◌, Some, None, Option}
use Rattle.manager.specs.declared.event.Event.{Event}
use Rattle.manager.specs.declared.event.Event.TheVariants as event
use Rattle.manager.specs.Ranks.{Ranks, after_end, after_event, rank_of, yields_to}
use Rattle.tour.specs.declared.manager_story.ManagerStep.{ManagerStep}
use Rattle.tour.specs.declared.manager_story.ManagerStep.TheVariants.{Began, Wrote, Ended, Yields}

-- What a manager answers: yes or no to a question, and nothing to what it is told.
abbrev pub answer_of : ManagerStep → Ranks → Option Bool
answer_of (Began job) ranks = None
answer_of (Wrote job length) ranks = None
answer_of (Ended job) ranks = None
answer_of (Yields job other) ranks = Some (yields_to (rank_of job ranks) (rank_of other ranks))

-- The ranks under a manager with this rule after a step.
abbrev pub ranks_after : (Event → Bool) → ManagerStep → Ranks → Ranks
ranks_after gives (Began job) ranks = after_event (gives (event.Began job)) job ranks
ranks_after gives (Wrote job length) ranks = after_event (gives (event.Wrote job length)) job ranks
ranks_after gives (Ended job) ranks = after_end job ranks
ranks_after gives (Yields job other) ranks = ranks

-- The ranks at first and at last are those before and after some steps, whatever the rule gave at each.
pub data ToldThrough : List ManagerStep → Ranks → Ranks → Type 0 where
  nothing_more : {ranks : Ranks} → ToldThrough [] ranks ranks
  step_by_step : (gives : Event → Bool) {step : ManagerStep} {steps : List ManagerStep} {first last : Ranks} →
      ToldThrough steps (ranks_after gives step first) last → ToldThrough (step ∷ steps) first last
