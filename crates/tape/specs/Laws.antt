-- What holds of tapes and their readings.
use Rattle.std.specs.Prelude.{◌≡◌, ℕ, ◌+◌, ◌≤◌, List, [], length, take, Some, None}
use Rattle.tape.specs.declared.fault.ProgramFault.{ProgramFault}
use Rattle.tape.specs.declared.heading.Heading.{Heading}
use Rattle.book.specs.declared.Refusal.TheVariants.{CutShort}
use Rattle.tape.specs.Faults.{most_bytes, program_refusal, program_place}
use Rattle.tape.specs.Items.{Said}
use Rattle.tape_number.specs.Numbers.{Bytes}
use Rattle.tape.specs.Tapes.{Reading, tape_says}
use Rattle.tape.specs.Written.{written, SoundHeading, SoundItems}

-- A tape read to its end.
abbrev pub whole : Heading → List Said → Reading
whole h items = record { heading = Some h; items = items; fault = None }

-- A tape has one reading and one form.
pub record OneTape : Type 0 where
  -- A heading and items that a tape can hold, written down within a tape's length, read back as exactly them, with no fault.
  pub reads_back : (h : Heading) (items : List Said) → SoundHeading h → SoundItems items → length (written h items) ≤ most_bytes → tape_says (written h items) ≡ whole h items
  -- What is written down is bytes.
  pub is_bytes : (h : Heading) (items : List Said) → SoundHeading h → SoundItems items → Bytes (written h items)
  -- Every tape that reads with no fault is the written form of what it reads as.
  pub only_form : (tape : List ℕ) (h : Heading) (items : List Said) → Bytes tape → tape_says tape ≡ whole h items → (tape ≡ written h items) × SoundHeading h × (length tape ≤ most_bytes)
  -- Items that are read, before a fault too, are such as a tape can hold.
  pub sound_items : (tape : List ℕ) → Bytes tape → SoundItems (tape_says tape).items
  -- A fault lies on the tape, or right behind it; what is cut short is told at the tape's length.
  pub fault_inside : (tape : List ℕ) (fault : ProgramFault) → Bytes tape → (tape_says tape).fault ≡ Some fault
      → (program_place fault ≤ length tape) × (program_refusal fault ≡ CutShort → program_place fault ≡ length tape)
  -- Without a heading nothing is read, and there is a fault.
  pub no_heading : (tape : List ℕ) → Bytes tape → (tape_says tape).heading ≡ None → ((tape_says tape).items ≡ []) × ((fault : ProgramFault) × ((tape_says tape).fault ≡ Some fault))
  -- The heading and the items before a fault are those of the same tape cut before it: that is their written form.
  pub before_fault : (tape : List ℕ) (h : Heading) (fault : ProgramFault) → Bytes tape → (tape_says tape).heading ≡ Some h → (tape_says tape).fault ≡ Some fault
      → let front = written h (tape_says tape).items in
      (length front ≤ program_place fault) × (take (length front) tape ≡ front) × (tape_says front ≡ whole h (tape_says tape).items)
  -- One byte more than a tape may have is enough to judge it.
  pub enough : (tape : List ℕ) → tape_says (take (most_bytes + 1) tape) ≡ tape_says tape
