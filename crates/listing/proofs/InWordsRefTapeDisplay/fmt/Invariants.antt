use Rattle.std.proofs.Common.{map, take, ◌++◌, vec_items}
use Rattle.std.specs.Fmt.{HasWritten, IsPlainFormatter}
use Rattle.tape.specs.Items.{said}
use Rattle.listing.specs.Lines.{first_line, item_lines}
use Rattle.listing.proofs.InWordsRefTapeDisplay.fmt.Given as goal

abbrev pub invariant-loop-i : goal.invariant-loop-i
invariant-loop-i g l =
    IsPlainFormatter l.fn.f → HasWritten g.W.Write.write_str_gives l.fn.f (first_line l.self.0.now.heading ++ item_lines 1 (map said (take l.i (vec_items l.self.0.now.items)))) l.f
