use Rattle.std.proofs.Common.{◌≡◌, ℕ, ◌+◌, ◌*◌, ◌%◌, ◌^◌, ◌<◌, ◌≤◌, false, sym, arith}
use Rattle.tape_number.specs.Numbers.{over_top}
use Rattle.tape_number.proofs.Groups.{fits_group, low_top}
use Rattle.tape_number.proofs.number.decode.Goals as goal

-- The group d of the byte b fits above the groups before it.
group-fits : (i w a b d : ℕ) → i ≤ 4 → w ≡ 128 ^ i → a < w → d ≡ b % 128 → false ≡ over_top i b → (d * w < 2 ^ 32) × (a + d * w < 2 ^ 32) × (a + d * w < w * 128)
group-fits i w a b d h e l m top = fits_group i w a d h e l (omega arith) (λ q. let low = low_top i b (sym top) q in omega arith)

pub overflow_mul-value : goal.overflow_mul-value
overflow_mul-value c =
    let l = c.loop-i in
    record { fits = (group-fits l.i l.weight l.value _ c.group.result l.invariant.0 l.invariant.1 l.invariant.2 c.group.ensures c.if-is_over_top.ensures).0 }

pub overflow_add-value : goal.overflow_add-value
overflow_add-value c =
    let l = c.loop-i in
    record { fits = (group-fits l.i l.weight l.value _ c.group.result l.invariant.0 l.invariant.1 l.invariant.2 c.group.ensures c.if-is_over_top.ensures).1 }
