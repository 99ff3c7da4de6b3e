-- Tape numbers: how a number is written as bytes, and what bytes say of a number.
use Rattle.std.specs.Prelude.{◌≡◌, ℕ, zero, suc, ◌+◌, ◌*◌, ◌/◌, ◌%◌, ◌^◌, ◌<◌, Bool, cond, ◌&&◌, List, [], ◌∷◌, ◌++◌, length, drop, Ok, Err, Result, ◌==◌, nat_lt, slice_index}
use Rattle.tape_number.specs.declared.fault.NumberFault.{NumberFault}
use Rattle.tape_number.specs.declared.fault.NumberFault.TheVariants.{Cut, Form}

-- How many values a group of seven bits has; a byte that is not the last of its number is this much above its group.
abbrev pub group_size : ℕ
group_size = 128

-- The last group that a number can have, counted from 0.
abbrev pub last_group : ℕ
last_group = 4

-- The greatest value of the last group: 28 bits lie below it, so four are left.
abbrev pub last_top : ℕ
last_top = 15

-- A number of 32 bits.
abbrev pub IsU32 : ℕ → Type 0
IsU32 number = number < 2 ^ 32

-- The bytes of a number in at most `groups` groups of seven bits, lowest first.
abbrev pub form_in : (groups number : ℕ) → List ℕ
form_in zero number = []
form_in (suc groups) number =
    cond (nat_lt number group_size) (number ∷ []) ((group_size + number % group_size) ∷ form_in groups (number / group_size))

-- The byte form of a 32-bit number; it has no more groups than this.
unfoldable pub byte_form : ℕ → List ℕ
byte_form number = form_in (suc last_group) number

-- Read as group i, a byte would take the number over 32 bits.
abbrev pub over_top : (i byte : ℕ) → Bool
over_top i byte = i == last_group && nat_lt last_top byte

-- A last byte of 0 after others adds nothing, so the form is not the shortest.
abbrev pub padded : (i byte : ℕ) → Bool
padded i byte = nat_lt 0 i && byte == 0

-- The lowest group, put below what the groups after it say.
abbrev pub below : ℕ → Result (ℕ × ℕ) NumberFault → Result (ℕ × ℕ) NumberFault
below low (Ok x) = Ok (low + group_size * x.0, x.1)
below low (Err fault) = Err fault

-- What the bytes say from group i on: the number that these groups make, and how many bytes the whole number takes; or the fault, at its place counted from the number's first byte.
abbrev pub read_groups : ℕ → List ℕ → Result (ℕ × ℕ) NumberFault
read_groups i [] = Err (Cut i)
read_groups i (byte ∷ bytes) =
    cond (over_top i byte) (Err (Form 0))
    (cond (nat_lt byte group_size) (cond (padded i byte) (Err (Form 0)) (Ok (byte, i + 1)))
    (below (byte % group_size) (read_groups (i + 1) bytes)))

-- The number at the front of some bytes.
unfoldable pub read_number : List ℕ → Result (ℕ × ℕ) NumberFault
read_number bytes = read_groups 0 bytes

-- The place that a number's fault names.
abbrev pub number_place : NumberFault → ℕ
number_place (Cut place) = place
number_place (Form place) = place

-- Each of these numbers is a byte.
abbrev pub Bytes : List ℕ → Type 0
Bytes bytes = (k : ℕ) → slice_index bytes k < 256

-- Every 32-bit number has exactly one byte form.
pub record OneForm : Type 0 where
  -- The form, followed by anything, reads as the number, and leaves exactly what follows.
  pub reads_back : (number : ℕ) (rest : List ℕ) → IsU32 number
      → (read_number (byte_form number ++ rest) ≡ Ok (number, length (byte_form number))) × (drop (length (byte_form number)) (byte_form number ++ rest) ≡ rest)
  -- The form is made of bytes.
  pub is_bytes : (number : ℕ) → IsU32 number → Bytes (byte_form number)
  -- Whatever bytes read as a number begin with that number's form; the bytes behind it are those that are not taken.
  pub begins_with_form : (bytes : List ℕ) (number taken : ℕ) → Bytes bytes → read_number bytes ≡ Ok (number, taken)
      → IsU32 number × (taken ≡ length (byte_form number)) × (bytes ≡ byte_form number ++ drop taken bytes)
  -- So bytes that are taken whole as a number are the number's form: there is no other.
  pub only_form : (bytes : List ℕ) (number : ℕ) → Bytes bytes → read_number bytes ≡ Ok (number, length bytes) → bytes ≡ byte_form number
  -- What is at fault by its form stays so, whatever follows.
  pub bad_stays : (bytes more : List ℕ) (place : ℕ) → read_number bytes ≡ Err (Form place) → read_number (bytes ++ more) ≡ Err (Form place)
  -- What is cut is the front of some number's form, which lacks at least a byte.
  pub cut_front : (bytes : List ℕ) (place : ℕ) → Bytes bytes → read_number bytes ≡ Err (Cut place)
      → (place ≡ length bytes) × ((number next : ℕ) × (more : List ℕ) × IsU32 number × (bytes ++ (next ∷ more) ≡ byte_form number))
