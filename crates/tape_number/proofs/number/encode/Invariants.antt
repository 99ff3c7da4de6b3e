use Rattle.std.proofs.Common.{◌≡◌, ℕ, suc, ◌+◌, ◌<◌, ◌≤◌, ◌++◌, vec_items, vec_len, vec_capacity}
use Rattle.tape_number.specs.Numbers.{form_in, byte_form}
use Rattle.tape_number.proofs.Forms.{limit}
use Rattle.tape_number.proofs.number.encode.Given as goal

abbrev pub invariant-loop-rest : goal.invariant-loop-rest
invariant-loop-rest l =
    (k : ℕ) × (l.rest < limit k) × (vec_len l.out + suc k ≤ vec_capacity l.out)
    × (vec_items l.initial.out ++ byte_form l.value ≡ vec_items l.out ++ form_in (suc k) l.rest)

abbrev pub decreases-loop-rest : goal.decreases-loop-rest
decreases-loop-rest l = l.rest
