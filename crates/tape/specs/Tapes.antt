-- What a whole tape says: the heading and the items, and the fault that ends them, if one does.
use Rattle.std.specs.Prelude.{ℕ, zero, suc, ◌+◌, cond, List, [], ◌∷◌, map, length, Some, None, Ok, Err, vec_items, Option, Result, ◌==◌, nat_lt}
use Rattle.tape.specs.declared.fault.ItemFault.{ItemFault}
use Rattle.tape.specs.declared.fault.HeadingFault.{HeadingFault}
use Rattle.tape.specs.declared.fault.ProgramFault.{ProgramFault}
use Rattle.tape.specs.declared.fault.ProgramFault.TheVariants as program
use Rattle.tape.specs.declared.heading.Heading.{Heading}
use Rattle.tape.specs.declared.reading.Tape.{Tape}
use Rattle.tape.specs.Faults.{most_bytes}
use Rattle.tape.specs.Headings.{heading_at}
use Rattle.tape.specs.Items.{Said, said, item_at}
use Rattle.tape.specs.Spots.{Spot}

-- Some items, and the fault of the one after them, where that cannot be read.
pub record ItemsRead : Type 0 where
  pub items : List Said
  pub fault : Option ItemFault

-- No more items.
abbrev pub at_end : ItemsRead
at_end = record { items = []; fault = None }

-- An item, then those from the spot behind it on; or its fault.
abbrev pub after_item : (Spot → ItemsRead) → Result (Said × Spot) ItemFault → ItemsRead
after_item more (Ok x) = record { items = x.0 ∷ (more x.1).items; fault = (more x.1).fault }
after_item more (Err fault) = record { items = []; fault = Some fault }

-- The items from a spot on, at most `most` of them.
abbrev pub items_within : (most : ℕ) → Spot → ItemsRead
items_within zero here = at_end
items_within (suc most) here = cond (length here.bytes == 0) at_end (after_item (items_within most) (item_at here))

-- The items from a spot on, up to the end; each takes a byte at least.
unfoldable pub items_at : Spot → ItemsRead
items_at here = items_within (length here.bytes) here

-- A tape, as far as it can be read.
pub record Reading : Type 0 where
  pub heading : Option Heading
  pub items : List Said
  pub fault : Option ProgramFault

-- A tape of which nothing could be read.
abbrev pub unread : ProgramFault → Reading
unread fault = record { heading = None; items = []; fault = Some fault }

-- An item's fault, as the tape's.
abbrev pub in_program : Option ItemFault → Option ProgramFault
in_program None = None
in_program (Some fault) = Some (program.Item fault)

-- The heading and the items behind it; without a heading nothing is read.
abbrev pub after_heading : Result (Heading × Spot) HeadingFault → Reading
after_heading (Ok x) = record { heading = Some x.0; items = (items_at x.1).items; fault = in_program (items_at x.1).fault }
after_heading (Err fault) = unread (program.Heading fault)

-- What a tape says: its length is judged first, then its bytes, one after the other.
unfoldable pub tape_says : List ℕ → Reading
tape_says tape = cond (nat_lt most_bytes (length tape)) (unread program.TooLong) (after_heading (heading_at (record { place = 0; bytes = tape })))

-- The number of the item behind some others: 0 for the heading itself, else one more than the items.
abbrev pub item_after : Option Heading → List Said → ℕ
item_after None items = 0
item_after (Some heading) items = length items + 1

-- The number of the item at fault.
abbrev pub faulty_item : Reading → ℕ
faulty_item r = item_after r.heading r.items

-- What the code has read, where it stopped with a fault or with none.
abbrev pub stopped : Tape → Option ProgramFault → Reading
stopped tape fault = record { heading = tape.heading; items = map said (vec_items tape.items); fault = fault }

-- What a tape of the code says.
abbrev pub reading : Tape → Reading
reading tape = stopped tape tape.fault
