-- Under which number each refusal is told.
use Rattle.std.specs.Prelude.{ℕ}
use Rattle.book.specs.declared.Refusal.{Refusal}
use Rattle.book.specs.declared.Refusal.TheVariants.{BeyondBook, BadLength, BadWindow, CutShort, BadNumber, Unknown, TooLong, BadRemark}

-- The number of each refusal.
abbrev pub refusal_number : Refusal → ℕ
refusal_number BeyondBook = 2
refusal_number BadLength = 7
refusal_number BadWindow = 8
refusal_number CutShort = 9
refusal_number BadNumber = 10
refusal_number Unknown = 11
refusal_number TooLong = 12
refusal_number BadRemark = 13
