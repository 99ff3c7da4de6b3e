-- One turn of the loop over the items.
use Rattle.std.proofs.lemmas.List.{map_push}
use Rattle.std.proofs.lemmas.Result.{err_from_is_err_and}
use Rattle.std.proofs.Common.{◌≡◌, append_assoc, append-nil, ◌<◌, [], ◌∷◌, length, Some, Ok, Err, sym, ap, ◌∙◌}
use Rattle.tape.specs.declared.fault.ItemFault.{ItemFault}
use Rattle.tape.specs.Items.{Said, item_at}
use Rattle.tape.specs.Spots.{Spot}
use Rattle.tape.specs.Tapes.{after_item, items_at}
use Rattle.tape.proofs.Readings.{items_more, items_none}
use Rattle.tape.proofs.Shrinks.{item_fewer}

pub turn_fault : (here : Spot) → (fault : ItemFault) → 0 < length here.bytes → Err fault ≡ item_at here → items_at here ≡ record { items = []; fault = Some fault }
turn_fault here fault h e = items_more here h ∙ ap (after_item items_at) (sym e)

pub turn_item : (here : Spot) → (it : Said) (after : Spot) → 0 < length here.bytes → Ok (it, after) ≡ item_at here
    → (length after.bytes < length here.bytes)
    × (items_at here ≡ record { items = it ∷ (items_at after).items; fault = (items_at after).fault })
turn_item here it after h e = (item_fewer here it after (sym e), items_more here h ∙ ap (after_item items_at) (sym e))

-- What the loop over the items is proved with.
pub ruleset turns = (turn_fault, turn_item, items_none, map_push, append_assoc, append-nil, err_from_is_err_and)
