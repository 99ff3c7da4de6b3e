-- Figures by which the definitions of tape numbers can be judged by eye.
use Rattle.std.specs.Prelude.{◌≡◌, ℕ, [], ◌∷◌, Some, None, Ok, Err, Option, Result}
use Rattle.tape_number.specs.declared.fault.NumberFault.{NumberFault}
use Rattle.book.specs.Refusals.{refusal_number}
use Rattle.tape.specs.Faults.{number_refusal}
use Rattle.tape_number.specs.Numbers.{byte_form, read_number}

-- The number of the refusal that some bytes meet where a number is read.
abbrev pub refused : Result (ℕ × ℕ) NumberFault → Option ℕ
refused (Ok x) = None
refused (Err fault) = Some (refusal_number (number_refusal fault))

-- The greatest form of one byte, the least of two, the greatest of all, and one that is not the shortest.
pub record NumberFigures : Type 0 where
  pub one_byte : byte_form 127 ≡ 0x7F ∷ []
  pub two_bytes : byte_form 128 ≡ 0x80 ∷ 0x01 ∷ []
  pub greatest : byte_form 4294967295 ≡ 0xFF ∷ 0xFF ∷ 0xFF ∷ 0xFF ∷ 0x0F ∷ []
  pub not_shortest : refused (read_number (0x80 ∷ 0x00 ∷ [])) ≡ Some 10
