-- Texts that a loop writes piece by piece.
use Rattle.std.proofs.Common.{◌≡◌, ℕ, ◌+◌, List, [], ◌∷◌, ◌++◌, length, append_assoc, append-nil, arith}
use Rattle.std.proofs.lemmas.Grind.{put_two, take_at_read}
use Rattle.std.proofs.lemmas.List.{map-append, length-map, length-take}
use Rattle.std.proofs.lemmas.Str.{encodes-append}
use Rattle.tape.specs.Items.{Said}
use Rattle.listing.specs.Lines.{item_line, item_lines}

-- The line of an item behind some others.
pub line_more : (number : ℕ) (items : List Said) (it : Said) → item_lines number (items ++ it ∷ []) ≡ item_lines number items ++ item_line (number + length items) it
line_more number [] it = grind (arith, append-nil)
line_more number (first ∷ items) it = grind (arith, line_more (number + 1) items it, append_assoc)

-- What the loop over a remark's bytes needs.
pub ruleset remark_grows = (put_two, take_at_read, encodes-append, append-nil)

-- What the loop over a tape's items needs.
pub ruleset lines_grow = (put_two, take_at_read, line_more, map-append, length-map, length-take, append_assoc)
