-- Behind what is read there are no more bytes than before.
use Rattle.std.proofs.Common.{◌≡◌, ℕ, ◌+◌, ◌<◌, ◌≤◌, Bool, true, false, cond, List, [], ◌∷◌, length, take, Some, None, Ok, Err, Option, Result, subst, arith, length-drop, MatchResult}
use Rattle.tape_number.specs.declared.fault.NumberFault.{NumberFault}
use Rattle.tape_number.specs.Numbers.{read_number}
use Rattle.tape.specs.declared.fault.ItemFault.{ItemFault}
use Rattle.tape.specs.declared.fault.ItemFault.TheVariants as in_item
use Rattle.tape.specs.declared.fault.HeadingFault.TheVariants as in_heading
use Rattle.tape.specs.declared.kind.ItemKind.{ItemKind}
use Rattle.tape.specs.declared.kind.ItemKind.TheVariants as kind
use Rattle.tape.specs.declared.kind.StoreKind.{StoreKind}
use Rattle.tape.specs.Headings.{known, fits_store, kind_at, words_at, heading_at}
use Rattle.tape.specs.Items.{Said, remark, printable_front, remark_of, remark_at, fields_at, coded, item_from, item_at}
use Rattle.tape.specs.Kinds.{item_kind_of, manager_of, store_of}
use Rattle.tape.specs.Spots.{Spot, past, and_then, wrapped, number_from, number_at, field}

-- At most `most` bytes are left behind what was read.
abbrev pub Left : {X E : Type 0} → ℕ → Result (X × Spot) E → Type 0
Left most r = MatchResult r (λ x. length x.1.bytes ≤ most) (λ _. Unit {0})

then_left : {X Y E : Type 0} (most : ℕ) (r : Result (X × Spot) E) (next : X → Spot → Result (Y × Spot) E) → Left most r → ((x : X) (s : Spot) → length s.bytes ≤ most → Left most (next x s)) → Left most (and_then r next)
then_left most (Ok x) next h f = f x.0 x.1 h
then_left most (Err fault) next h f = tt

wrapped_left : {X E F : Type 0} (most : ℕ) (wrap : E → F) (r : Result (X × Spot) E) → Left most r → Left most (wrapped wrap r)
wrapped_left most wrap (Ok x) h = h
wrapped_left most wrap (Err fault) h = tt

from_left : (most : ℕ) (here : Spot) (r : Result (ℕ × ℕ) NumberFault) → length here.bytes ≤ most → Left most (number_from here r)
from_left most here (Ok x) h = let l = length-drop x.1 here.bytes in omega arith
from_left most here (Err fault) h = tt

number_left : (most : ℕ) (here : Spot) → length here.bytes ≤ most → Left most (number_at here)
unfolding number_at
number_left most here h = from_left most here (read_number here.bytes) h

field_left : {X E : Type 0} (most : ℕ) (wrap : NumberFault → E) (here : Spot) (next : ℕ → Spot → Result (X × Spot) E) → length here.bytes ≤ most → ((n : ℕ) (s : Spot) → length s.bytes ≤ most → Left most (next n s)) → Left most (field wrap here next)
field_left most wrap here next h f = then_left most _ next (wrapped_left most wrap (number_at here) (number_left most here h)) f

known_left : {K : Type 0} (most place : ℕ) (after : Spot) (k : Option K) → length after.bytes ≤ most → Left most (known place after k)
known_left most place after (Some k) h = h
known_left most place after None h = tt

kind_left : {K : Type 0} (most : ℕ) (kind_of : ℕ → Option K) (here : Spot) → length here.bytes ≤ most → Left most (kind_at kind_of here)
kind_left most kind_of here h = field_left most in_heading.Number here _ h (λ n s l. known_left most here.place s (kind_of n) l)

fit_left : (most place n : ℕ) (s : Spot) (fit : Bool) → length s.bytes ≤ most → Left most (cond fit (Ok (n, s)) (Err (in_heading.Words place)))
fit_left most place n s true l = l
fit_left most place n s false l = tt

words_left : (most : ℕ) (store : StoreKind) (here : Spot) → length here.bytes ≤ most → Left most (words_at store here)
words_left most store here h = field_left most in_heading.Number here _ h (λ n s l. fit_left most here.place n s (fits_store store n) l)

pub heading_left : (here : Spot) → Left (length here.bytes) (heading_at here)
heading_left here =
    let most = length here.bytes in
    then_left most _ _ (kind_left most manager_of here (omega arith)) (λ manager s h.
    then_left most _ _ (kind_left most store_of s h) (λ store s h.
    then_left most _ _ (words_left most store s h) (λ words s h.
    field_left most in_heading.Number s _ h (λ commit s h.
    field_left most in_heading.Number s _ h (λ rank s h. h)))))

judged_left : (most place count : ℕ) (here : Spot) (good short bad : Bool) → length here.bytes ≤ most
    → Left most
    (cond good
    (cond short (Err (in_item.Cut (here.place + length here.bytes)))
    (cond bad (Err (in_item.Byte (here.place + printable_front (take count here.bytes))))
    (Ok (remark (take count here.bytes), past count here))))
    (Err (in_item.Length place)))
judged_left most place count here false short bad h = tt
judged_left most place count here true true bad h = tt
judged_left most place count here true false true h = tt
judged_left most place count here true false false h = let l = length-drop count here.bytes in omega arith

remark_left : (most place count : ℕ) (here : Spot) → length here.bytes ≤ most → Left most (remark_of place count here)
remark_left most place count here h = judged_left most place count here _ _ _ h

one_left : {X : Type 0} (most : ℕ) (here : Spot) (made : ℕ → X) → length here.bytes ≤ most → Left most (field in_item.Number here (λ n s. Ok (made n, s)))
one_left most here made h = field_left most in_item.Number here _ h (λ n s l. l)

fields_left : (most : ℕ) (k : ItemKind) (here : Spot) → length here.bytes ≤ most → Left most (fields_at k here)
unfolding remark_at
fields_left most kind.Start here h = one_left most here _ h
fields_left most kind.Read here h = field_left most in_item.Number here _ h (λ job s l. one_left most s _ l)
fields_left most kind.Write here h = field_left most in_item.Number here _ h (λ job s l. field_left most in_item.Number s _ l (λ word s l. one_left most s _ l))
fields_left most kind.Seal here h = one_left most here _ h
fields_left most kind.Put here h = one_left most here _ h
fields_left most kind.Quit here h = one_left most here _ h
fields_left most kind.Look here h = one_left most here _ h
fields_left most kind.Remark here h = field_left most in_item.Number here _ h (λ count s l. remark_left most here.place count s l)

coded_left : (place : ℕ) (k : Option ItemKind) (fields : Spot) → Left (length fields.bytes) (coded place k fields)
coded_left place (Some k) fields = fields_left (length fields.bytes) k fields (omega arith)
coded_left place None fields = tt

fewer_by : (most : ℕ) (r : Result (Said × Spot) ItemFault) (it : Said) (after : Spot) → Left most r → r ≡ Ok (it, after) → length after.bytes ≤ most
fewer_by most r it after h e = subst (Left most) e h

from_fewer : (place : ℕ) (bytes : List ℕ) (it : Said) (after : Spot) → item_from place bytes ≡ Ok (it, after) → length after.bytes < length bytes
from_fewer place [] it after e = let z : ◌≡◌ {A = ℕ} 0 1 = cc in absurd (omega arith)
from_fewer place (code ∷ rest) it after e =
    let l = fewer_by (length rest) _ it after (coded_left place (item_kind_of code) (record { place = place + 1; bytes = rest })) e in
    omega arith

-- An item takes at least a byte.
pub item_fewer : (here : Spot) (it : Said) (after : Spot) → item_at here ≡ Ok (it, after) → length after.bytes < length here.bytes
unfolding item_at
item_fewer here it after e = from_fewer here.place here.bytes it after e
