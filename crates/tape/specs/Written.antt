-- How a heading and items are written down as bytes, and which of them a tape can hold.
use Rattle.std.specs.Prelude.{◌≡◌, ℕ, true, List, [], ◌∷◌, ◌++◌, length}
use Rattle.std.specs.List.{flat_map}
use Rattle.tape.specs.declared.heading.Heading.{Heading}
use Rattle.tape.specs.declared.kind.ItemKind.{ItemKind}
use Rattle.tape.specs.declared.kind.ItemKind.TheVariants as kind
use Rattle.tape.specs.Headings.{fits_store}
use Rattle.tape.specs.Items.{Said, start, read, write, seal, put, quit, look, remark, remark_length, printable_front}
use Rattle.tape.specs.Kinds.{item_code, manager_number, store_number}
use Rattle.tape_number.specs.Numbers.{byte_form, IsU32}

-- The kind of an item.
abbrev pub kind_of : Said → ItemKind
kind_of (start job) = kind.Start
kind_of (read job word) = kind.Read
kind_of (write job word value) = kind.Write
kind_of (seal job) = kind.Seal
kind_of (put job) = kind.Put
kind_of (quit job) = kind.Quit
kind_of (look job) = kind.Look
kind_of (remark bytes) = kind.Remark

-- The bytes behind an item's code.
abbrev pub fields_form : Said → List ℕ
fields_form (start job) = byte_form job
fields_form (read job word) = byte_form job ++ byte_form word
fields_form (write job word value) = byte_form job ++ (byte_form word ++ byte_form value)
fields_form (seal job) = byte_form job
fields_form (put job) = byte_form job
fields_form (quit job) = byte_form job
fields_form (look job) = byte_form job
fields_form (remark bytes) = byte_form (length bytes) ++ bytes

-- The byte form of an item: its code, then its numbers, or a remark's length and bytes.
unfoldable pub item_form : Said → List ℕ
item_form it = item_code (kind_of it) ∷ fields_form it

-- An item that a tape can hold: numbers of 32 bits, and remarks of 1 to 80 printable bytes.
abbrev pub SoundItem : Said → Type 0
SoundItem (start job) = IsU32 job
SoundItem (read job word) = IsU32 job × IsU32 word
SoundItem (write job word value) = IsU32 job × IsU32 word × IsU32 value
SoundItem (seal job) = IsU32 job
SoundItem (put job) = IsU32 job
SoundItem (quit job) = IsU32 job
SoundItem (look job) = IsU32 job
SoundItem (remark bytes) = (remark_length (length bytes) ≡ true) × (printable_front bytes ≡ length bytes)

-- Items that a tape can hold.
abbrev pub SoundItems : List Said → Type 0
SoundItems [] = Unit {0}
SoundItems (it ∷ items) = SoundItem it × SoundItems items

-- The byte form of a heading: its five numbers.
unfoldable pub heading_form : Heading → List ℕ
heading_form h = byte_form (manager_number h.manager) ++ (byte_form (store_number h.store) ++ (byte_form h.words ++ (byte_form h.commit ++ byte_form h.rank)))

-- A heading that a tape can hold.
abbrev pub SoundHeading : Heading → Type 0
SoundHeading h = (fits_store h.store h.words ≡ true) × IsU32 h.commit × IsU32 h.rank

-- A heading and items, written down.
abbrev pub written : Heading → List Said → List ℕ
written h items = heading_form h ++ flat_map item_form items
