use Rattle.std.proofs.Common.{◌≡◌, ◌^◌, ◌<◌, ◌≤◌, drop}
use Rattle.tape_number.specs.Numbers.{read_groups}
use Rattle.tape_number.proofs.Groups.{above}
use Rattle.tape_number.proofs.number.decode.Given as goal

abbrev pub invariant-loop-i : goal.invariant-loop-i
invariant-loop-i l =
    (l.i ≤ 4) × (l.weight ≡ 128 ^ l.i) × (l.value < l.weight)
    × (read_groups 0 l.bytes ≡ above l.weight l.value (read_groups l.i (drop l.i l.bytes)))
