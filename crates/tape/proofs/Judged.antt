-- What is known of an answer at a spot: what was read is the front of the bytes there, and a fault lies among them or right behind them.
use Rattle.std.proofs.Common.{◌≡◌, ℕ, ◌+◌, ◌<◌, ◌≤◌, Bool, true, false, List, [], ◌++◌, length, get_or, Ok, Err, Result, sym, refl, ap, ◌∙◌, subst, append_assoc, arith, length-append}
use Rattle.std.proofs.lemmas.List.{get_or-append-add}
use Rattle.tape_number.specs.declared.fault.NumberFault.{NumberFault}
use Rattle.tape_number.specs.declared.fault.NumberFault.TheVariants.{Cut, Form}
use Rattle.tape.specs.Faults.{shifted}
use Rattle.tape_number.specs.Numbers.{Bytes, byte_form, read_number, IsU32}
use Rattle.tape.specs.Spots.{Spot, number_at, number_from, wrapped, and_then, field}
use Rattle.tape_number.proofs.Forms.{begins_with_form, number_inside, cut_front}

-- What a fault tells: its place, and whether it is that of a tape cut short.
abbrev pub Found : Type 0
Found = ℕ × Bool

abbrev pub number_found : NumberFault → Found
number_found (Cut place) = (place, true)
number_found (Form place) = (place, false)

-- A fault among the bytes from a spot on, or right behind them; what is cut short is told at their end.
pub record Inside (here : Spot) (found : Found) : Type 0 where
  pub low : here.place ≤ found.0
  pub high : found.0 ≤ here.place + length here.bytes
  pub end : found.1 ≡ true → found.0 ≡ here.place + length here.bytes

-- The bytes `form` stand between two spots.
pub record Took (here : Spot) (form : List ℕ) (after : Spot) : Type 0 where
  pub split : here.bytes ≡ form ++ after.bytes
  pub moved : after.place ≡ here.place + length form

-- An answer at a spot: R holds of what was read and the bytes that it took; a fault lies behind the spot `from`.
abbrev pub Judged : {X E : Type 0} → (X → List ℕ → Type 0) → (E → Found) → (from here : Spot) → Result (X × Spot) E → Type 0
Judged R found from here (Ok x) = (form : List ℕ) × R x.0 form × Took here form x.1
Judged R found from here (Err fault) = Inside from (found fault)

pub bytes_behind : (form rest : List ℕ) → Bytes (form ++ rest) → Bytes rest
bytes_behind form rest h k = subst (λ n. n < 256) (get_or-append-add form rest k 0) (h (length form + k))

pub took_bytes : {here after : Spot} {form : List ℕ} → Took here form after → Bytes here.bytes → Bytes after.bytes
took_bytes {here} {after} {form} t h = bytes_behind form after.bytes (λ k. subst (λ (bs : List ℕ). get_or bs k 0 < 256) t.split (h k))

-- A fault behind some bytes that were taken.
pub inside_behind : {here after : Spot} {form : List ℕ} (found : Found) → Took here form after → Inside after found → Inside here found
inside_behind {here} {after} {form} found t i =
    let l : length here.bytes ≡ length form + length after.bytes = ap length t.split ∙ length-append form after.bytes in
    let e = t.moved in
    let a = i.low in
    let b = i.high in
    record { low = omega arith; high = omega arith; end = λ z. let q = i.end z in omega arith }

-- Some bytes, then others.
pub took_both : {here mid after : Spot} {first second : List ℕ} → Took here first mid → Took mid second after → Took here (first ++ second) after
took_both {here} {mid} {after} {first} {second} t u =
    let e = t.moved in
    let f = u.moved in
    let l : length (first ++ second) ≡ length first + length second = length-append first second in
    record { split = t.split ∙ ap (λ bs. first ++ bs) u.split ∙ sym (append_assoc first second after.bytes); moved = omega arith }

-- A number that was read, and the bytes that it took.
abbrev pub NumberRead : ℕ → List ℕ → Type 0
NumberRead n form = IsU32 n × (form ≡ byte_form n)

pub apart : {P : Type 0} → false ≡ true → P
apart z = let y : ◌≡◌ {A = ℕ} 0 1 = cc in absurd (omega arith)

shifted_inside : (here : Spot) (fault : NumberFault) → Bytes here.bytes → read_number here.bytes ≡ Err fault → Inside here (number_found (shifted here.place fault))
shifted_inside here (Cut place) f e =
    let c = (cut_front here.bytes place f e).0 in
    record { low = omega arith; high = omega arith; end = λ z. omega arith }
shifted_inside here (Form place) f e =
    let h = number_inside here.bytes (Form place) e in
    record { low = omega arith; high = omega arith; end = apart }

number_by : (here : Spot) → Bytes here.bytes → (r : Result (ℕ × ℕ) NumberFault) → read_number here.bytes ≡ r → Judged NumberRead number_found here here (number_from here r)
number_by here f (Ok x) e =
    let o = begins_with_form here.bytes x.0 x.1 f e in
    (byte_form x.0, (o.0, refl), record { split = o.2; moved = ap (λ k. here.place + k) o.1 })
number_by here f (Err fault) e = shifted_inside here fault f e

pub number_judged : (here : Spot) → Bytes here.bytes → Judged NumberRead number_found here here (number_at here)
unfolding number_at
number_judged here f = number_by here f (read_number here.bytes) refl

-- What is judged behind some bytes, seen from the spot before them.
pub seen_from : {X E : Type 0} {here after : Spot} {form : List ℕ} (R : X → List ℕ → Type 0) (found : E → Found) (r : Result (X × Spot) E)
    → Took here form after → Judged R found after after r → Judged R found here after r
seen_from R found (Ok x) t j = j
seen_from R found (Err fault) t j = inside_behind (found fault) t j

pub behind : {X E : Type 0} {here after : Spot} {form : List ℕ} (R : X → List ℕ → Type 0) (found : E → Found) (r : Result (X × Spot) E)
    → Took here form after → Judged (λ x more. R x (form ++ more)) found here after r → Judged R found here here r
behind {form = form} R found (Ok x) t j = (form ++ j.0, j.1, took_both t j.2)
behind R found (Err fault) t j = j

-- One part after another.
pub then_judged : {X Y E : Type 0} (S : X → List ℕ → Type 0) (R : Y → List ℕ → Type 0) (found : E → Found) (here : Spot) (r : Result (X × Spot) E) (next : X → Spot → Result (Y × Spot) E)
    → Bytes here.bytes → Judged S found here here r
    → ((x : X) (after : Spot) (form : List ℕ) → S x form → Bytes after.bytes → Took here form after → Judged (λ y more. R y (form ++ more)) found here after (next x after))
    → Judged R found here here (and_then r next)
then_judged S R found here (Ok x) next f j n = behind R found (next x.0 x.1) j.2 (n x.0 x.1 j.0 j.1 (took_bytes j.2 f) j.2)
then_judged S R found here (Err fault) next f j n = j

wrapped_judged : {E : Type 0} (found : E → Found) (wrap : NumberFault → E) → ((fault : NumberFault) → found (wrap fault) ≡ number_found fault) → (here : Spot) (r : Result (ℕ × Spot) NumberFault)
    → Judged NumberRead number_found here here r → Judged NumberRead found here here (wrapped wrap r)
wrapped_judged found wrap w here (Ok x) j = j
wrapped_judged found wrap w here (Err fault) j = subst (λ p. Inside here p) (sym (w fault)) j

-- A number, then the rest of the part.
pub field_judged : {X E : Type 0} (R : X → List ℕ → Type 0) (found : E → Found) (wrap : NumberFault → E) → ((fault : NumberFault) → found (wrap fault) ≡ number_found fault)
    → (here : Spot) (next : ℕ → Spot → Result (X × Spot) E) → Bytes here.bytes
    → ((n : ℕ) (after : Spot) → IsU32 n → Bytes after.bytes → Took here (byte_form n) after → Judged (λ x more. R x (byte_form n ++ more)) found here after (next n after))
    → Judged R found here here (field wrap here next)
field_judged R found wrap w here next f k =
    then_judged NumberRead R found here (wrapped wrap (number_at here)) next f (wrapped_judged found wrap w here (number_at here) (number_judged here f))
    (λ n after form s g t.
    let u : Took here (byte_form n) after = subst (λ bs. Took here bs after) s.1 t in
    subst (λ bs. Judged (λ x more. R x (bs ++ more)) found here after (next n after)) (sym s.1) (k n after s.0 g u))

-- Nothing more.
pub done_judged : {X E : Type 0} (R : X → List ℕ → Type 0) (found : E → Found) (from here : Spot) (x : X) → R x [] → Judged {E = E} R found from here (Ok (x, here))
done_judged R found from here x r = ([], r, record { split = refl; moved = omega arith })

-- Something else of what was read.
pub judged_map : {X E : Type 0} (R S : X → List ℕ → Type 0) (found : E → Found) (from here : Spot) (r : Result (X × Spot) E) → ((x : X) (form : List ℕ) → R x form → S x form) → Judged R found from here r → Judged S found from here r
judged_map R S found from here (Ok x) f j = (j.0, f x.0 j.0 j.1, j.2)
judged_map R S found from here (Err fault) f j = j
