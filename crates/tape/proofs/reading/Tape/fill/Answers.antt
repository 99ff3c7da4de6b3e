use Rattle.std.proofs.Common.{◌≤◌, length, sym, ap, ◌∙◌, subst, arith, ltb-false}
use Rattle.tape.specs.Headings.{heading_at}
use Rattle.tape.proofs.Backs.{at}
use Rattle.tape.proofs.Shrinks.{Left, heading_left}
use Rattle.tape.proofs.reading.Tape.fill.Goals as goal

pub read_items-requires : goal.read_items-requires
read_items-requires c =
    let tape = c.args.bytes.now in
    let l : length c.next_heading.new.self.bytes ≤ length tape = subst (Left (length tape)) (sym (c.in_ok-next_heading.ensures ∙ ap heading_at c.new-reader.ensures)) (heading_left (at 0 tape)) in
    let room = c.requires.room (ltb-false _ _ (sym c.if-is_too_long.ensures)) in
    let none = c.requires.blank.1 in
    omega arith
