-- A story told to a manager.
use Rattle.std.proofs.lemmas.List.{drop_all, drop_more}
use Rattle.tour.specs.ManagerSteps.{nothing_more, step_by_step}

-- What the loop over a story is proved with.
pub ruleset told = (drop_all, drop_more, nothing_more, step_by_step)
