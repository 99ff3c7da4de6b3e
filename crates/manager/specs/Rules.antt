-- When each manager gives a rank.
use Rattle.std.specs.Prelude.{ℕ, Bool, true, false, ◌==◌}
use Rattle.manager.specs.declared.event.Event.{Event}
use Rattle.manager.specs.declared.event.Event.TheVariants.{Began, Wrote}

-- How many words a job has written when two-phase gives it a rank.
abbrev pub two_phase_length : ℕ
two_phase_length = 10

-- Timid: at no event.
abbrev pub timid_gives : Event → Bool
timid_gives (Began job) = false
timid_gives (Wrote job length) = false

-- Two-phase: where a job has written just so many words.
abbrev pub two_phase_gives : Event → Bool
two_phase_gives (Began job) = false
two_phase_gives (Wrote job length) = length == two_phase_length

-- Greedy: where a job begins.
abbrev pub greedy_gives : Event → Bool
greedy_gives (Began job) = true
greedy_gives (Wrote job length) = false
