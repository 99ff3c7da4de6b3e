-- Where a reader stands on a tape, and the number that it reads there.
use Rattle.std.specs.Prelude.{ℕ, ◌+◌, List, drop, Ok, Err, Result}
use Rattle.tape_number.specs.declared.fault.NumberFault.{NumberFault}
use Rattle.tape.specs.Faults.{shifted}
use Rattle.tape_number.specs.Numbers.{read_number}

-- A spot on a tape: its place, counted in bytes from 0, and the bytes from there on.
pub record Spot : Type 0 where
  pub place : ℕ
  pub bytes : List ℕ

-- The spot that many bytes on.
abbrev pub past : ℕ → Spot → Spot
past count here = record { place = here.place + count; bytes = drop count here.bytes }

-- What a reader answers, with the spot at which it stands then. After a fault nothing more is read.
abbrev pub told : {X E : Type 0} → Result X E → Spot → Result (X × Spot) E
told (Ok x) after = Ok (x, after)
told (Err fault) after = Err fault

-- What is read next, unless what came before is at fault.
abbrev pub and_then : {X Y E : Type 0} → Result (X × Spot) E → (X → Spot → Result Y E) → Result Y E
and_then (Ok x) next = next x.0 x.1
and_then (Err fault) next = Err fault

-- A fault, told as part of a larger one.
abbrev pub wrapped : {X E F : Type 0} → (E → F) → Result X E → Result X F
wrapped wrap (Ok x) = Ok x
wrapped wrap (Err fault) = Err (wrap fault)

-- A number that was read at a spot, with the spot behind it; a fault is told at its place on the tape.
abbrev pub number_from : Spot → Result (ℕ × ℕ) NumberFault → Result (ℕ × Spot) NumberFault
number_from here (Ok x) = Ok (x.0, past x.1 here)
number_from here (Err fault) = Err (shifted here.place fault)

-- The number at a spot, and the spot behind it.
unfoldable pub number_at : Spot → Result (ℕ × Spot) NumberFault
number_at here = number_from here (read_number here.bytes)

-- A number of a larger part, then the rest of that part.
abbrev pub field : {X E : Type 0} → (NumberFault → E) → Spot → (ℕ → Spot → Result X E) → Result X E
field wrap here next = and_then (wrapped wrap (number_at here)) next
