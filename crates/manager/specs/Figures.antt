-- Figures by which the definition of yielding can be judged by eye.
use Rattle.std.specs.Prelude.{◌≡◌, true, false, Some, None}
use Rattle.manager.specs.Ranks.{yields_to}

-- Of two ranked jobs the one with the higher number yields; a ranked job does not yield to one without a rank; of two jobs
-- without ranks each yields.
pub record RankFigures : Type 0 where
  pub junior : yields_to (Some 5) (Some 3) ≡ true
  pub senior : yields_to (Some 3) (Some 5) ≡ false
  pub ranked_alone : yields_to (Some 3) None ≡ false
  pub unranked : yields_to None None ≡ true
