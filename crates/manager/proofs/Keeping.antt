-- The law of the ranks is kept, whoever keeps them.
use Rattle.std.proofs.Common.{ℕ, Bool, true, false, rules, arith}
use Rattle.std.proofs.lemmas.Grind.{common_steps}
use Rattle.manager.specs.Ranks.{Ranks, Lawful, LawKept, after_event, after_end}

lawful_event : (gives : Bool) (job : ℕ) (ranks : Ranks) → Lawful ranks → Lawful (after_event gives job ranks)
lawful_event false job ranks h = h
lawful_event true job ranks h = search rules

lawful_end : (job : ℕ) (ranks : Ranks) → Lawful ranks → Lawful (after_end job ranks)
lawful_end job ranks h = grind (arith, common_steps)

pub law_kept : LawKept
law_kept = record { by_events = lawful_event; by_ends = lawful_end }
