-- Under which number, and at which place, a fault of a tape is told.
use Rattle.std.specs.Prelude.{ℕ, ◌+◌}
use Rattle.tape_number.specs.declared.fault.NumberFault.{NumberFault}
use Rattle.tape_number.specs.declared.fault.NumberFault.TheVariants as in_number
use Rattle.tape_number.specs.Numbers.{number_place}
use Rattle.tape.specs.declared.fault.ItemFault.{ItemFault}
use Rattle.tape.specs.declared.fault.ItemFault.TheVariants as in_item
use Rattle.tape.specs.declared.fault.HeadingFault.{HeadingFault}
use Rattle.tape.specs.declared.fault.HeadingFault.TheVariants as in_heading
use Rattle.tape.specs.declared.fault.ProgramFault.{ProgramFault}
use Rattle.tape.specs.declared.fault.ProgramFault.TheVariants as in_program
use Rattle.book.specs.declared.Refusal.{Refusal}
use Rattle.book.specs.declared.Refusal.TheVariants.{BadLength, CutShort, BadNumber, Unknown, TooLong, BadRemark}

-- The most bytes that a tape may have.
abbrev pub most_bytes : ℕ
most_bytes = 16384

-- The refusal that a number's fault meets.
abbrev pub number_refusal : NumberFault → Refusal
number_refusal (in_number.Cut place) = CutShort
number_refusal (in_number.Form place) = BadNumber

-- A number's fault, where `before` bytes stand in front of the bytes that were read.
abbrev pub shifted : ℕ → NumberFault → NumberFault
shifted before (in_number.Cut place) = in_number.Cut (before + place)
shifted before (in_number.Form place) = in_number.Form (before + place)

-- The refusal that an item's fault meets; a number's is told as it stands.
abbrev pub item_refusal : ItemFault → Refusal
item_refusal (in_item.Number fault) = number_refusal fault
item_refusal (in_item.Cut place) = CutShort
item_refusal (in_item.Code place) = Unknown
item_refusal (in_item.Length place) = BadRemark
item_refusal (in_item.Byte place) = BadRemark

-- The place that an item's fault names.
abbrev pub item_place : ItemFault → ℕ
item_place (in_item.Number fault) = number_place fault
item_place (in_item.Cut place) = place
item_place (in_item.Code place) = place
item_place (in_item.Length place) = place
item_place (in_item.Byte place) = place

-- The refusal that a heading's fault meets.
abbrev pub heading_refusal : HeadingFault → Refusal
heading_refusal (in_heading.Number fault) = number_refusal fault
heading_refusal (in_heading.Kind place) = Unknown
heading_refusal (in_heading.Words place) = BadLength

-- The place that a heading's fault names.
abbrev pub heading_place : HeadingFault → ℕ
heading_place (in_heading.Number fault) = number_place fault
heading_place (in_heading.Kind place) = place
heading_place (in_heading.Words place) = place

-- The refusal that ends a tape.
abbrev pub program_refusal : ProgramFault → Refusal
program_refusal in_program.TooLong = TooLong
program_refusal (in_program.Heading fault) = heading_refusal fault
program_refusal (in_program.Item fault) = item_refusal fault

-- The place that is told: for a tape that is too long, that of the first byte that it should not have.
abbrev pub program_place : ProgramFault → ℕ
program_place in_program.TooLong = most_bytes
program_place (in_program.Heading fault) = heading_place fault
program_place (in_program.Item fault) = item_place fault
