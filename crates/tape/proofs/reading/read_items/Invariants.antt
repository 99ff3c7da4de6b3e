use Rattle.std.proofs.Common.{◌≡◌, ◌+◌, ◌≤◌, ◌++◌, map, length, vec_items, vec_len, vec_capacity}
use Rattle.tape.specs.Items.{said}
use Rattle.tape.specs.Tapes.{items_at}
use Rattle.tape.proofs.reading.read_items.Given as goal

abbrev pub invariant-loop-reader : goal.invariant-loop-reader
invariant-loop-reader l =
    (vec_len l.items + length l.reader.bytes ≤ vec_capacity l.items)
    × (map said (vec_items l.initial.items) ++ (items_at l.initial.reader).items ≡ map said (vec_items l.items) ++ (items_at l.reader).items)
    × ((items_at l.initial.reader).fault ≡ (items_at l.reader).fault)

abbrev pub decreases-loop-reader : goal.decreases-loop-reader
decreases-loop-reader l = length l.reader.bytes
