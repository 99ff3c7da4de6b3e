-- The kinds that a tape names, and the number of each.
use Rattle.std.specs.Prelude.{◌≡◌, ℕ, ◌-◌, cond, List, [], ◌∷◌, Some, None, Ok, Err, Option, Result, ◌==◌}
use Rattle.book.specs.Lengths.{most_words as book_words}
use Rattle.tape.specs.declared.kind.UnknownKind.{UnknownKind}
use Rattle.tape.specs.declared.kind.ManagerKind.{ManagerKind}
use Rattle.tape.specs.declared.kind.ManagerKind.TheVariants as manager
use Rattle.tape.specs.declared.kind.StoreKind.{StoreKind}
use Rattle.tape.specs.declared.kind.StoreKind.TheVariants as store
use Rattle.tape.specs.declared.kind.ItemKind.{ItemKind}
use Rattle.tape.specs.declared.kind.ItemKind.TheVariants as item

-- The first of some kinds whose number is n.
abbrev pub with_number : {K : Type 0} → (number : K → ℕ) → List K → ℕ → Option K
with_number number [] n = None
with_number number (kind ∷ kinds) n = cond (n == number kind) (Some kind) (with_number number kinds n)

-- What naming a kind by its number gives: the kind, or that there is none.
abbrev pub named : {K : Type 0} → Option K → Result K UnknownKind
named (Some kind) = Ok kind
named None = Err (record {})

-- A conversion gives the kind that a number names, and nothing where it names none.
abbrev pub Converts : {K : Type 0} → (gives : ℕ → Result K UnknownKind → Type 0) → (kind_of : ℕ → Option K) → Type 0
Converts {K} gives kind_of = (number : ℕ) (kind : Result K UnknownKind) → gives number kind → kind ≡ named (kind_of number)

-- The number of each contention manager.
abbrev pub manager_number : ManagerKind → ℕ
manager_number manager.Timid = 0
manager_number manager.TwoPhase = 1
manager_number manager.Greedy = 2

-- All contention managers.
abbrev pub managers : List ManagerKind
managers = manager.Timid ∷ manager.TwoPhase ∷ manager.Greedy ∷ []

-- The manager that a number names.
abbrev pub manager_of : ℕ → Option ManagerKind
manager_of n = with_number manager_number managers n

-- The number of each store.
abbrev pub store_number : StoreKind → ℕ
store_number store.Number = 0
store_number store.Byte = 1
store_number store.Window = 2

-- All stores.
abbrev pub stores : List StoreKind
stores = store.Number ∷ store.Byte ∷ store.Window ∷ []

-- The store that a number names.
abbrev pub store_of : ℕ → Option StoreKind
store_of n = with_number store_number stores n

-- The word of the byte store below it at which a window begins.
abbrev pub window_start : ℕ
window_start = 16

-- The most words that a book has in each store: a window is as much shorter as it begins later.
abbrev pub most_words : StoreKind → ℕ
most_words store.Number = book_words
most_words store.Byte = book_words
most_words store.Window = book_words - window_start

-- The code byte with which each kind of item begins.
abbrev pub item_code : ItemKind → ℕ
item_code item.Start = 1
item_code item.Read = 2
item_code item.Write = 3
item_code item.Seal = 4
item_code item.Put = 5
item_code item.Quit = 6
item_code item.Look = 7
item_code item.Remark = 8

-- All kinds of items.
abbrev pub item_kinds : List ItemKind
item_kinds = item.Start ∷ item.Read ∷ item.Write ∷ item.Seal ∷ item.Put ∷ item.Quit ∷ item.Look ∷ item.Remark ∷ []

-- The kind of item that a code begins.
abbrev pub item_kind_of : ℕ → Option ItemKind
item_kind_of n = with_number item_code item_kinds n
