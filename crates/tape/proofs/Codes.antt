-- An item from its first byte on.
use Rattle.std.proofs.Common.{◌≡◌, ℕ, ◌+◌, ◌<◌, List, [], ◌∷◌, length, get_or, drop, Err, refl, arith}
use Rattle.tape.specs.declared.fault.ItemFault.TheVariants.{Cut}
use Rattle.tape.specs.Kinds.{item_kind_of}
use Rattle.tape.specs.Items.{item_from, coded}

pub item_none : (place : ℕ) (bytes : List ℕ) → length bytes ≡ 0 → item_from place bytes ≡ Err (Cut place)
item_none place [] e = refl
item_none place (code ∷ rest) e = absurd (omega arith)

pub item_some : (place : ℕ) (bytes : List ℕ) → 0 < length bytes → item_from place bytes ≡ coded place (item_kind_of (get_or bytes 0 0)) (record { place = place + 1; bytes = drop 1 bytes })
item_some place [] h = absurd (omega arith)
item_some place (code ∷ rest) h = refl
