use Rattle.std.proofs.Common.{refl, arith}
use Rattle.tape_number.specs.Numbers.{byte_form}
use Rattle.tape_number.proofs.number.encode.Goals as goal

pub loop-rest-init : goal.loop-rest-init
unfolding byte_form
loop-rest-init c = (4, omega arith, c.in_ok-reserve.ensures.ok, refl)
