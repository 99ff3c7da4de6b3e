-- What an opening answers.
use Rattle.std.specs.Prelude.{◌≡◌, Bool, true, false, Ok, Err, Result}
use Rattle.book.specs.declared.Refusal.{Refusal}
use Rattle.store.specs.declared.opening.Unopened.{Unopened}

-- A store that stands on what was given, where it may be opened; else the refusal, and what was given handed back.
abbrev pub Opening : {S G : Type 0} → Bool → (S → Type 0) → Refusal → G → Result S (Unopened G) → Type 0
Opening fits IsOn refusal given (Ok store) = (fits ≡ true) × IsOn store
Opening fits IsOn refusal given (Err unopened) = (fits ≡ false) × (unopened ≡ record { refusal = refusal; back = given })
