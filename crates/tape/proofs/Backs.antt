-- What is written down is read back.
use Rattle.std.proofs.Common.{◌≡◌, ℕ, ◌+◌, ◌≤◌, true, cond, List, ◌++◌, length, Some, Ok, Err, Option, Result, refl, ap, ◌∙◌, append_assoc, arith, lit<, length-append}
use Rattle.std.proofs.lemmas.List.{drop_at, take_at}
use Rattle.std.proofs.lemmas.Bool.{le-ltb, cond-true}
use Rattle.std.proofs.lemmas.Bool.Decides.{nat_tests}
use Rattle.tape_number.specs.declared.fault.NumberFault.{NumberFault}
use Rattle.tape.specs.declared.fault.HeadingFault.TheVariants as in_heading
use Rattle.tape.specs.declared.fault.ItemFault.TheVariants as in_item
use Rattle.tape.specs.declared.heading.Heading.{Heading}
use Rattle.tape.specs.declared.kind.ItemKind.{ItemKind}
use Rattle.tape.specs.declared.kind.ItemKind.TheVariants as item
use Rattle.tape.specs.declared.kind.ManagerKind.{ManagerKind}
use Rattle.tape.specs.declared.kind.ManagerKind.TheVariants as manager
use Rattle.tape.specs.declared.kind.StoreKind.{StoreKind}
use Rattle.tape.specs.declared.kind.StoreKind.TheVariants as store
use Rattle.tape.specs.Headings.{known, kind_at, fits_store, words_at, heading_at}
use Rattle.tape.specs.Items.{Said, start, read, write, seal, put, quit, look, remark, remark_of, remark_at, remark_length, printable_front, fields_at, coded, item_at}
use Rattle.tape.specs.Kinds.{item_code, item_kind_of, manager_number, manager_of, store_number, store_of}
use Rattle.tape_number.specs.Numbers.{byte_form, IsU32}
use Rattle.tape.specs.Spots.{Spot, number_at, number_from, wrapped, and_then, field}
use Rattle.tape.specs.Written.{kind_of, fields_form, item_form, SoundItem, heading_form, SoundHeading}
use Rattle.tape_number.proofs.Forms.{reads_back}

abbrev pub at : ℕ → List ℕ → Spot
at place bytes = record { place = place; bytes = bytes }

number_back : (p n : ℕ) (rest : List ℕ) → IsU32 n → number_at (at p (byte_form n ++ rest)) ≡ Ok (n, at (p + length (byte_form n)) rest)
unfolding number_at
number_back p n rest w =
    ap (number_from (at p (byte_form n ++ rest))) (reads_back n rest w)
    ∙ ap (λ bs. Ok (n, at (p + length (byte_form n)) bs)) (drop_at (byte_form n) rest (length (byte_form n)) refl)

field_back : {X E : Type 0} (wrap : NumberFault → E) (next : ℕ → Spot → Result X E) (p n : ℕ) (rest : List ℕ) → IsU32 n
    → field wrap (at p (byte_form n ++ rest)) next ≡ next n (at (p + length (byte_form n)) rest)
field_back wrap next p n rest w = ap (λ r. and_then (wrapped wrap r) next) (number_back p n rest w)

-- The same answer, where the place is the same number in another form.
placed : {X E : Type 0} (x : X) (p q : ℕ) (rest : List ℕ) → p ≡ q → ◌≡◌ {A = Result (X × Spot) E} (Ok (x, at p rest)) (Ok (x, at q rest))
placed x p q rest e = ap (λ n. Ok (x, at n rest)) e

pub short : (n : ℕ) → remark_length n ≡ true → IsU32 n
short n e = grind (arith, nat_tests)

remark_back : (place p : ℕ) (bytes rest : List ℕ) → SoundItem (remark bytes) → remark_of place (length bytes) (at p (bytes ++ rest)) ≡ Ok (remark bytes, at (p + length bytes) rest)
remark_back place p bytes rest s =
    let n = length bytes in
    let le : n ≤ length (bytes ++ rest) = simp length-append (omega arith) in
    let fr : n ≤ printable_front bytes = omega (arith, s.1) in
    rw (s.0, le-ltb (length (bytes ++ rest)) n le, take_at bytes rest n refl, le-ltb (printable_front bytes) n fr, drop_at bytes rest n refl)

fields_back : (it : Said) (p : ℕ) (rest : List ℕ) → SoundItem it → fields_at (kind_of it) (at p (fields_form it ++ rest)) ≡ Ok (it, at (p + length (fields_form it)) rest)
unfolding remark_at
fields_back (start job) p rest w = field_back in_item.Number _ p job rest w
fields_back (read job word) p rest w =
    let l = length-append (byte_form job) (byte_form word) in
    rw (append_assoc (byte_form job) (byte_form word) rest)
    (field_back in_item.Number _ p job (byte_form word ++ rest) w.0
    ∙ field_back in_item.Number _ (p + length (byte_form job)) word rest w.1
    ∙ placed (read job word) _ _ rest (omega arith))
fields_back (write job word value) p rest w =
    let l = length-append (byte_form job) (byte_form word ++ byte_form value) in
    let m = length-append (byte_form word) (byte_form value) in
    rw (append_assoc (byte_form job) (byte_form word ++ byte_form value) rest, append_assoc (byte_form word) (byte_form value) rest)
    (field_back in_item.Number _ p job (byte_form word ++ (byte_form value ++ rest)) w.0
    ∙ field_back in_item.Number _ (p + length (byte_form job)) word (byte_form value ++ rest) w.1
    ∙ field_back in_item.Number _ ((p + length (byte_form job)) + length (byte_form word)) value rest w.2
    ∙ placed (write job word value) _ _ rest (omega arith))
fields_back (seal job) p rest w = field_back in_item.Number _ p job rest w
fields_back (put job) p rest w = field_back in_item.Number _ p job rest w
fields_back (quit job) p rest w = field_back in_item.Number _ p job rest w
fields_back (look job) p rest w = field_back in_item.Number _ p job rest w
fields_back (remark bytes) p rest w =
    let n = length bytes in
    let l = length-append (byte_form n) bytes in
    rw (append_assoc (byte_form n) bytes rest)
    (field_back in_item.Number (λ count after. remark_of p count after) p n (bytes ++ rest) (short n w.0)
    ∙ remark_back p (p + length (byte_form n)) bytes rest w
    ∙ placed (remark bytes) _ _ rest (omega arith))

code_known : (k : ItemKind) → item_kind_of (item_code k) ≡ Some k
code_known item.Start = refl
code_known item.Read = refl
code_known item.Write = refl
code_known item.Seal = refl
code_known item.Put = refl
code_known item.Quit = refl
code_known item.Look = refl
code_known item.Remark = refl

pub item_back : (it : Said) (p : ℕ) (rest : List ℕ) → SoundItem it → item_at (at p (item_form it ++ rest)) ≡ Ok (it, at (p + length (item_form it)) rest)
unfolding item_at item_form
item_back it p rest w =
    ap (λ o. coded p o (at (p + 1) (fields_form it ++ rest))) (code_known (kind_of it))
    ∙ fields_back it (p + 1) rest w
    ∙ placed it _ _ rest (omega arith)

-- A kind's number names the kind, and is a word.
pub manager_known : (m : ManagerKind) → (manager_of (manager_number m) ≡ Some m) × IsU32 (manager_number m)
manager_known manager.Timid = (refl, lit< tt)
manager_known manager.TwoPhase = (refl, lit< tt)
manager_known manager.Greedy = (refl, lit< tt)

pub store_known : (s : StoreKind) → (store_of (store_number s) ≡ Some s) × IsU32 (store_number s)
store_known store.Number = (refl, lit< tt)
store_known store.Byte = (refl, lit< tt)
store_known store.Window = (refl, lit< tt)

kind_back : {K : Type 0} (number : K → ℕ) (of : ℕ → Option K) (k : K) → (of (number k) ≡ Some k) × IsU32 (number k) → (p : ℕ) (rest : List ℕ)
    → kind_at of (at p (byte_form (number k) ++ rest)) ≡ Ok (k, at (p + length (byte_form (number k))) rest)
kind_back number of k e p rest =
    field_back in_heading.Number (λ n after. known p after (of n)) p (number k) rest e.1
    ∙ ap (known p (at (p + length (byte_form (number k))) rest)) e.0

pub fit_word : (s : StoreKind) (n : ℕ) → fits_store s n ≡ true → IsU32 n
fit_word store.Number n e = grind (arith, nat_tests)
fit_word store.Byte n e = grind (arith, nat_tests)
fit_word store.Window n e = grind (arith, nat_tests)

words_back : (s : StoreKind) (n p : ℕ) (rest : List ℕ) → fits_store s n ≡ true → words_at s (at p (byte_form n ++ rest)) ≡ Ok (n, at (p + length (byte_form n)) rest)
words_back s n p rest e =
    field_back in_heading.Number (λ words after. cond (fits_store s words) (Ok (words, after)) (Err (in_heading.Words p))) p n rest (fit_word s n e) ∙ cond-true _ _ _ e

then_back : {X Y E : Type 0} (next : X → Spot → Result Y E) (r : Result (X × Spot) E) (x : X) (after : Spot) → r ≡ Ok (x, after) → and_then r next ≡ next x after
then_back next r x after e = ap (λ q. and_then q next) e

pub heading_back : (h : Heading) (p : ℕ) (rest : List ℕ) → SoundHeading h → heading_at (at p (heading_form h ++ rest)) ≡ Ok (h, at (p + length (heading_form h)) rest)
unfolding heading_form
heading_back h p rest w =
    let a = byte_form (manager_number h.manager) in
    let b = byte_form (store_number h.store) in
    let c = byte_form h.words in
    let d = byte_form h.commit in
    let e = byte_form h.rank in
    let regroup : (a ++ (b ++ (c ++ (d ++ e)))) ++ rest ≡ a ++ (b ++ (c ++ (d ++ (e ++ rest)))) = simp append_assoc in
    let l₁ = length-append a (b ++ (c ++ (d ++ e))) in
    let l₂ = length-append b (c ++ (d ++ e)) in
    let l₃ = length-append c (d ++ e) in
    let l₄ = length-append d e in
    ap (λ bs. heading_at (at p bs)) regroup
    ∙ then_back _ _ h.manager (at (p + length a) (b ++ (c ++ (d ++ (e ++ rest))))) (kind_back manager_number manager_of h.manager (manager_known h.manager) p (b ++ (c ++ (d ++ (e ++ rest)))))
    ∙ then_back _ _ h.store (at ((p + length a) + length b) (c ++ (d ++ (e ++ rest)))) (kind_back store_number store_of h.store (store_known h.store) (p + length a) (c ++ (d ++ (e ++ rest))))
    ∙ then_back _ _ h.words (at (((p + length a) + length b) + length c) (d ++ (e ++ rest))) (words_back h.store h.words ((p + length a) + length b) (d ++ (e ++ rest)) w.0)
    ∙ field_back in_heading.Number _ (((p + length a) + length b) + length c) h.commit (e ++ rest) w.1
    ∙ field_back in_heading.Number _ ((((p + length a) + length b) + length c) + length d) h.rank rest w.2
    ∙ placed h _ _ rest (omega arith)
