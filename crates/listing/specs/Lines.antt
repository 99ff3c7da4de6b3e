-- The lines that are listed of a tape, as bytes.
use Rattle.std.specs.Prelude.{◌≡◌, ℕ, ◌+◌, List, [], ◌∷◌, ◌++◌, length, All, Some, None, codes, decimal, Option}
use Rattle.std.proofs.Math.Utf8.{encodes}
use Rattle.tape.specs.declared.fault.ProgramFault.{ProgramFault}
use Rattle.tape.specs.declared.heading.Heading.{Heading}
use Rattle.tape.specs.declared.kind.ManagerKind.{ManagerKind}
use Rattle.tape.specs.declared.kind.ManagerKind.TheVariants as manager
use Rattle.tape.specs.declared.kind.StoreKind.{StoreKind}
use Rattle.tape.specs.declared.kind.StoreKind.TheVariants as store
use Rattle.tape_number.specs.Numbers.{Bytes}
use Rattle.book.specs.Refusals.{refusal_number}
use Rattle.tape.specs.Faults.{program_refusal, program_place}
use Rattle.tape.specs.Items.{Said, start, read, write, seal, put, quit, look, remark}
use Rattle.tape.specs.Tapes.{Reading, tape_says, faulty_item}

-- What ends a line: a line feed.
abbrev pub line_end : List ℕ
line_end = 10 ∷ []

-- How each manager is called.
abbrev pub manager_name : ManagerKind → List ℕ
manager_name manager.Timid = codes "Timid"
manager_name manager.TwoPhase = codes "two-phase"
manager_name manager.Greedy = codes "Greedy"

-- How each store is called.
abbrev pub store_name : StoreKind → List ℕ
store_name store.Number = codes "number"
store_name store.Byte = codes "byte"
store_name store.Window = codes "window"

-- The heading in words.
abbrev pub heading_text : Heading → List ℕ
heading_text h =
    codes "manager " ++ (manager_name h.manager ++ (codes ", store " ++ (store_name h.store
    ++ (codes ", words " ++ (decimal h.words ++ (codes ", commit count " ++ (decimal h.commit ++ (codes ", next rank " ++ decimal h.rank))))))))

-- A remark as text, a character for each byte.
abbrev pub remark_text : List ℕ → List ℕ
remark_text bytes = encodes bytes

-- What an item says: the call's name and its numbers, or the remark.
abbrev pub item_text : Said → List ℕ
item_text (start job) = codes "start " ++ decimal job
item_text (read job word) = codes "read " ++ (decimal job ++ (codes " " ++ decimal word))
item_text (write job word value) = codes "write " ++ (decimal job ++ (codes " " ++ (decimal word ++ (codes " " ++ decimal value))))
item_text (seal job) = codes "seal " ++ decimal job
item_text (put job) = codes "put " ++ decimal job
item_text (quit job) = codes "quit " ++ decimal job
item_text (look job) = codes "look " ++ decimal job
item_text (remark bytes) = remark_text bytes

-- An item's line.
abbrev pub item_line : (number : ℕ) → Said → List ℕ
item_line number it = ((decimal number ++ codes " ") ++ item_text it) ++ line_end

-- The lines of some items, numbered on from `number`.
abbrev pub item_lines : (number : ℕ) → List Said → List ℕ
item_lines number [] = []
item_lines number (it ∷ items) = item_line number it ++ item_lines (number + 1) items

-- How a tape ends: with so many items, or with a fault.
abbrev pub ending : Option ProgramFault → Reading → List ℕ
ending None r = codes "end " ++ (decimal (length r.items) ++ line_end)
ending (Some fault) r =
    codes "fault " ++ (decimal (refusal_number (program_refusal fault)) ++ (codes " " ++ (decimal (program_place fault) ++ (codes " " ++ (decimal (faulty_item r) ++ line_end)))))

-- The last line of a listing.
abbrev pub last_line : Reading → List ℕ
last_line r = ending r.fault r

-- The first line of a listing, where there is a heading.
abbrev pub first_line : Option Heading → List ℕ
first_line None = []
first_line (Some h) = codes "heading: " ++ (heading_text h ++ line_end)

-- The listing of a tape, as far as it could be read.
abbrev pub listing_text : Reading → List ℕ
listing_text r = (first_line r.heading ++ item_lines 1 r.items) ++ last_line r

-- An item whose text, if it is a remark, is the remark's very bytes.
abbrev pub Stands : Said → Type 0
Stands (start job) = Unit {0}
Stands (read job word) = Unit {0}
Stands (write job word value) = Unit {0}
Stands (seal job) = Unit {0}
Stands (put job) = Unit {0}
Stands (quit job) = Unit {0}
Stands (look job) = Unit {0}
Stands (remark bytes) = item_text (remark bytes) ≡ bytes

-- Every remark that is read of a tape is listed as its very bytes.
abbrev pub RemarksStand : Type 0
RemarksStand = (tape : List ℕ) → Bytes tape → All Stands (tape_says tape).items
