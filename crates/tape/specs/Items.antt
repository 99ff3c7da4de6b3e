-- What the items of a tape say. An item begins with a code byte; what comes behind it depends on its kind.
use Rattle.std.specs.Prelude.{ℕ, ◌+◌, Bool, cond, ◌&&◌, List, [], ◌∷◌, length, take, Some, None, Ok, Err, Option, Result, nat_le, nat_lt}
use Rattle.std.specs.List.{prefix_len}
use Rattle.tape.specs.declared.fault.ItemFault.{ItemFault}
use Rattle.tape.specs.declared.fault.ItemFault.TheVariants.{Number, Cut, Code, Length, Byte}
use Rattle.tape.specs.declared.kind.ItemKind.{ItemKind}
use Rattle.tape.specs.declared.kind.ItemKind.TheVariants as kind
use Rattle.tape.specs.declared.item.Item.{Item}
use Rattle.tape.specs.declared.item.Item.TheVariants as item
use Rattle.tape.specs.Kinds.{item_kind_of}
use Rattle.tape.specs.Spots.{Spot, past, field}

-- What an item says: the call with its numbers, or the bytes of a remark.
pub data Said : Type 0 where
  start : (job : ℕ) → Said
  read : (job word : ℕ) → Said
  write : (job word value : ℕ) → Said
  seal : (job : ℕ) → Said
  put : (job : ℕ) → Said
  quit : (job : ℕ) → Said
  look : (job : ℕ) → Said
  remark : (bytes : List ℕ) → Said

-- What an item of the code says.
abbrev pub said : Item → Said
said (item.Start job) = start job
said (item.Read job word) = read job word
said (item.Write job word value) = write job word value
said (item.Seal job) = seal job
said (item.Put job) = put job
said (item.Quit job) = quit job
said (item.Look job) = look job
said (item.Remark bytes) = remark bytes.now

-- What an item says that a reader has read, with the spot at which it stands then.
abbrev pub told_item : Result Item ItemFault → Spot → Result (Said × Spot) ItemFault
told_item (Ok it) after = Ok (said it, after)
told_item (Err fault) after = Err fault

-- The least byte that may stand in a remark: the space of ASCII.
abbrev pub space : ℕ
space = 32

-- The greatest byte that may stand in a remark: the tilde of ASCII.
abbrev pub tilde : ℕ
tilde = 126

-- A byte that may stand in a remark.
abbrev pub printable : ℕ → Bool
printable byte = nat_le space byte && nat_le byte tilde

-- How many bytes at the front of a list are printable.
abbrev pub printable_front : List ℕ → ℕ
printable_front bytes = prefix_len printable bytes

-- The most bytes that a remark has.
abbrev pub most_remark : ℕ
most_remark = 80

-- A length that a remark may have: it is never empty.
abbrev pub remark_length : ℕ → Bool
remark_length count = nat_le 1 count && nat_le count most_remark

-- The remark of `count` bytes at a spot, its length at `place`: the length is judged first, then whether all the bytes are there, then the bytes.
abbrev pub remark_of : (place count : ℕ) → Spot → Result (Said × Spot) ItemFault
remark_of place count here =
    cond (remark_length count)
    (cond (nat_lt (length here.bytes) count) (Err (Cut (here.place + length here.bytes)))
    (cond (nat_lt (printable_front (take count here.bytes)) count) (Err (Byte (here.place + printable_front (take count here.bytes))))
    (Ok (remark (take count here.bytes), past count here))))
    (Err (Length place))

-- The remark whose length stands at a spot, and the spot behind it.
unfoldable pub remark_at : Spot → Result (Said × Spot) ItemFault
remark_at here = field Number here (λ count after. remark_of here.place count after)

-- The item of a kind whose fields begin at a spot, and the spot behind it.
abbrev pub fields_at : ItemKind → Spot → Result (Said × Spot) ItemFault
fields_at kind.Start here = field Number here (λ job s. Ok (start job, s))
fields_at kind.Read here = field Number here (λ job s. field Number s (λ word s. Ok (read job word, s)))
fields_at kind.Write here = field Number here (λ job s. field Number s (λ word s. field Number s (λ value s. Ok (write job word value, s))))
fields_at kind.Seal here = field Number here (λ job s. Ok (seal job, s))
fields_at kind.Put here = field Number here (λ job s. Ok (put job, s))
fields_at kind.Quit here = field Number here (λ job s. Ok (quit job, s))
fields_at kind.Look here = field Number here (λ job s. Ok (look job, s))
fields_at kind.Remark here = remark_at here

-- The item behind a code byte, unless its code is unknown; that is told at the code's place.
abbrev pub coded : ℕ → Option ItemKind → Spot → Result (Said × Spot) ItemFault
coded place (Some kind) fields = fields_at kind fields
coded place None fields = Err (Code place)

-- The item that some bytes begin with, the first of them at `place`.
abbrev pub item_from : ℕ → List ℕ → Result (Said × Spot) ItemFault
item_from place [] = Err (Cut place)
item_from place (code ∷ rest) = coded place (item_kind_of code) (record { place = place + 1; bytes = rest })

-- The item at a spot, and the spot behind it.
unfoldable pub item_at : Spot → Result (Said × Spot) ItemFault
item_at here = item_from here.place here.bytes
