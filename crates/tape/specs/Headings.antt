-- What a tape's heading says: manager, store, words, first commit count, first rank number, judged one after the other.
use Rattle.std.specs.Prelude.{ℕ, Bool, cond, ◌&&◌, Some, None, Ok, Err, Option, Result, nat_le}
use Rattle.tape.specs.declared.fault.HeadingFault.{HeadingFault}
use Rattle.tape.specs.declared.fault.HeadingFault.TheVariants.{Number, Kind, Words}
use Rattle.tape.specs.declared.kind.StoreKind.{StoreKind}
use Rattle.tape.specs.declared.heading.Heading.{Heading}
use Rattle.tape.specs.Kinds.{manager_of, store_of, most_words}
use Rattle.tape.specs.Spots.{Spot, and_then, field}

-- A kind, unless its number is unknown; that is told at the number's place.
abbrev pub known : {K : Type 0} → ℕ → Spot → Option K → Result (K × Spot) HeadingFault
known place after (Some kind) = Ok (kind, after)
known place after None = Err (Kind place)

-- The kind whose number stands at a spot.
abbrev pub kind_at : {K : Type 0} → (ℕ → Option K) → Spot → Result (K × Spot) HeadingFault
kind_at kind_of here = field Number here (λ number after. known here.place after (kind_of number))

-- A book in a store has from 1 word up to the store's most.
abbrev pub fits_store : StoreKind → ℕ → Bool
fits_store store words = nat_le 1 words && nat_le words (most_words store)

-- The number of words at a spot, for a book in a store.
abbrev pub words_at : StoreKind → Spot → Result (ℕ × Spot) HeadingFault
words_at store here = field Number here (λ words after. cond (fits_store store words) (Ok (words, after)) (Err (Words here.place)))

-- The heading at a spot, and the spot behind it.
abbrev pub heading_at : Spot → Result (Heading × Spot) HeadingFault
heading_at here =
    and_then (kind_at manager_of here) (λ manager s.
    and_then (kind_at store_of s) (λ store s.
    and_then (words_at store s) (λ words s.
    field Number s (λ commit s.
    field Number s (λ rank s.
    Ok (record { manager = manager; store = store; words = words; commit = commit; rank = rank }, s))))))
