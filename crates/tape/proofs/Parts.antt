-- The parts of a tape: what is read of a heading and of an item is the front of the bytes there.
use Rattle.std.proofs.Common.{◌≡◌, ℕ, suc, ◌+◌, ◌≤◌, Bool, true, false, cond, eqb, ltb, List, [], ◌∷◌, ◌++◌, length, take, Some, None, Ok, Err, Option, sym, refl, ap, ◌∙◌, ap₂, append-nil, arith, length-take}
use Rattle.std.proofs.lemmas.List.{take-append-drop, length-take-le}
use Rattle.std.proofs.lemmas.Bool.{ltb-false, eqb-true}
use Rattle.std.proofs.lemmas.List.Sums.{prefix_len-le-length}
use Rattle.tape_number.specs.declared.fault.NumberFault.{NumberFault}
use Rattle.tape.specs.declared.fault.HeadingFault.{HeadingFault}
use Rattle.tape.specs.declared.fault.HeadingFault.TheVariants as in_heading
use Rattle.tape.specs.declared.fault.ItemFault.{ItemFault}
use Rattle.tape.specs.declared.fault.ItemFault.TheVariants as in_item
use Rattle.tape.specs.declared.heading.Heading.{Heading}
use Rattle.tape.specs.declared.kind.ItemKind.{ItemKind}
use Rattle.tape.specs.declared.kind.ItemKind.TheVariants as kind
use Rattle.tape.specs.declared.kind.StoreKind.{StoreKind}
use Rattle.tape.specs.Headings.{known, kind_at, fits_store, words_at, heading_at}
use Rattle.tape.specs.Items.{Said, start, read, write, seal, put, quit, look, remark, printable, printable_front, remark_length, remark_at, fields_at, coded, item_from, item_at}
use Rattle.tape.specs.Kinds.{with_number, item_code, item_kinds, item_kind_of, manager_number, managers, manager_of, store_number, stores, store_of}
use Rattle.tape_number.specs.Numbers.{Bytes, byte_form, IsU32}
use Rattle.tape.specs.Spots.{Spot, past, field}
use Rattle.tape.specs.Written.{kind_of, fields_form, item_form, SoundItem, heading_form, SoundHeading}
use Rattle.tape.proofs.Judged.{Found, number_found, apart, Inside, inside_behind, Took, Judged, judged_map, seen_from, behind, field_judged, then_judged, done_judged}

-- An item of a kind that was read, and the bytes of its fields.
abbrev FieldsRead : ItemKind → Said → List ℕ → Type 0
FieldsRead k it form = SoundItem it × (kind_of it ≡ k) × (form ≡ fields_form it)

-- What an item's and a heading's fault tells.
abbrev pub item_found : ItemFault → Found
item_found (in_item.Number fault) = number_found fault
item_found (in_item.Cut place) = (place, true)
item_found (in_item.Code place) = (place, false)
item_found (in_item.Length place) = (place, false)
item_found (in_item.Byte place) = (place, false)

abbrev pub heading_found : HeadingFault → Found
heading_found (in_heading.Number fault) = number_found fault
heading_found (in_heading.Kind place) = (place, false)
heading_found (in_heading.Words place) = (place, false)

here_inside : (here : Spot) → Inside here (here.place, false)
here_inside here = record { low = omega arith; high = omega arith; end = apart }

number_in_item : (fault : NumberFault) → item_found (in_item.Number fault) ≡ number_found fault
number_in_item fault = refl

-- An item of one number.
one : (k : ItemKind) (make : ℕ → Said) → ((n : ℕ) → IsU32 n → (SoundItem (make n) × (kind_of (make n) ≡ k) × (fields_form (make n) ≡ byte_form n)))
    → (here : Spot) → Bytes here.bytes → Judged (FieldsRead k) item_found here here (field in_item.Number here (λ n s. Ok (make n, s)))
one k make g here f =
    field_judged (FieldsRead k) item_found in_item.Number number_in_item here _ f
    (λ n after w b t. done_judged (λ x more. FieldsRead k x (byte_form n ++ more)) item_found here after (make n)
    (let h = g n w in (h.0, h.1, append-nil (byte_form n) ∙ sym h.2)))

read_judged : (here : Spot) → Bytes here.bytes → Judged (FieldsRead kind.Read) item_found here here (fields_at kind.Read here)
read_judged here f =
    field_judged (FieldsRead kind.Read) item_found in_item.Number number_in_item here _ f
    (λ j s w g t. seen_from (λ x more. FieldsRead kind.Read x (byte_form j ++ more)) item_found _ t
    (field_judged (λ x more. FieldsRead kind.Read x (byte_form j ++ more)) item_found in_item.Number number_in_item s _ g
    (λ a after v h u. done_judged (λ x more. FieldsRead kind.Read x (byte_form j ++ (byte_form a ++ more))) item_found s after (read j a)
    ((w, v), refl, ap (λ bs. byte_form j ++ bs) (append-nil (byte_form a))))))

write_judged : (here : Spot) → Bytes here.bytes → Judged (FieldsRead kind.Write) item_found here here (fields_at kind.Write here)
write_judged here f =
    field_judged (FieldsRead kind.Write) item_found in_item.Number number_in_item here _ f
    (λ j s w g t. seen_from (λ x more. FieldsRead kind.Write x (byte_form j ++ more)) item_found _ t
    (field_judged (λ x more. FieldsRead kind.Write x (byte_form j ++ more)) item_found in_item.Number number_in_item s _ g
    (λ a s' v h u. seen_from (λ x more. FieldsRead kind.Write x (byte_form j ++ (byte_form a ++ more))) item_found _ u
    (field_judged (λ x more. FieldsRead kind.Write x (byte_form j ++ (byte_form a ++ more))) item_found in_item.Number number_in_item s' _ h
    (λ y after z i o. done_judged (λ x more. FieldsRead kind.Write x (byte_form j ++ (byte_form a ++ (byte_form y ++ more)))) item_found s' after (write j a y)
    ((w, v, z), refl, ap (λ bs. byte_form j ++ (byte_form a ++ bs)) (append-nil (byte_form y))))))))

-- A fault some bytes behind a spot that stands behind the spot `from`.
within : {from here : Spot} {form : List ℕ} (n : ℕ) (cut : Bool) → Took from form here → n ≤ length here.bytes → (cut ≡ true → n ≡ length here.bytes) → Inside from (here.place + n, cut)
within n cut t h c = inside_behind _ t (record { low = omega arith; high = omega arith; end = λ z. let e = c z in omega arith })

-- What follows a remark's length.
remark_by : {from : Spot} {form : List ℕ} (count : ℕ) (here : Spot) → Took from form here → form ≡ byte_form count → (good short bad : Bool)
    → remark_length count ≡ good → ltb (length here.bytes) count ≡ short → ltb (printable_front (take count here.bytes)) count ≡ bad
    → Judged (λ x more. FieldsRead kind.Remark x (form ++ more)) item_found from here
    (cond good
    (cond short (Err (in_item.Cut (here.place + length here.bytes)))
    (cond bad (Err (in_item.Byte (here.place + printable_front (take count here.bytes))))
    (Ok (remark (take count here.bytes), past count here))))
    (Err (in_item.Length from.place)))
remark_by {from} count here t e false short bad a b c = here_inside from
remark_by count here t e true true bad a b c = within (length here.bytes) true t (omega arith) (λ z. refl)
remark_by count here t e true false true a b c =
    let l = prefix_len-le-length printable (take count here.bytes) in
    within (printable_front (take count here.bytes)) false t (omega (arith, length-take count here.bytes)) apart
remark_by {from} {form} count here t e true false false a b c =
    let bytes = take count here.bytes in
    let n : length bytes ≡ count = length-take-le count here.bytes (ltb-false _ _ b) in
    let lo = ltb-false _ _ c in
    let hi = prefix_len-le-length printable bytes in (
      bytes,
      ((rw n a, omega arith), refl, ap (λ bs. bs ++ bytes) (e ∙ ap byte_form (sym n))),
      record { split = sym (take-append-drop count here.bytes); moved = ap (λ k. here.place + k) (sym n) },
    )

remark_judged : (here : Spot) → Bytes here.bytes → Judged (FieldsRead kind.Remark) item_found here here (remark_at here)
unfolding remark_at
remark_judged here f =
    field_judged (FieldsRead kind.Remark) item_found in_item.Number number_in_item here _ f
    (λ count after w g t. remark_by count after t refl _ _ _ refl refl refl)

fields_judged : (k : ItemKind) (here : Spot) → Bytes here.bytes → Judged (FieldsRead k) item_found here here (fields_at k here)
fields_judged kind.Start = one kind.Start start (λ n w. (w, refl, refl))
fields_judged kind.Read = read_judged
fields_judged kind.Write = write_judged
fields_judged kind.Seal = one kind.Seal seal (λ n w. (w, refl, refl))
fields_judged kind.Put = one kind.Put put (λ n w. (w, refl, refl))
fields_judged kind.Quit = one kind.Quit quit (λ n w. (w, refl, refl))
fields_judged kind.Look = one kind.Look look (λ n w. (w, refl, refl))
fields_judged kind.Remark = remark_judged

-- An item that was read, and the bytes that it took.
abbrev pub ItemRead : Said → List ℕ → Type 0
ItemRead it form = SoundItem it × (form ≡ item_form it)

-- A kind that a number names has that number.
named_step : {K : Type 0} (number : K → ℕ) (kind k : K) (n : ℕ) (t : Bool) (later : Option K) → eqb n (number kind) ≡ t → (later ≡ Some k → number k ≡ n) → cond t (Some kind) later ≡ Some k → number k ≡ n
named_step number kind k n true later e f h = let z : kind ≡ k = cc in ap number (sym z) ∙ sym (eqb-true _ _ e)
named_step number kind k n false later e f h = f h

pub named : {K : Type 0} (number : K → ℕ) (kinds : List K) (n : ℕ) (k : K) → with_number number kinds n ≡ Some k → number k ≡ n
named number [] n k h = let z : ◌≡◌ {A = ℕ} 0 1 = cc in absurd (omega arith)
named number (kind ∷ kinds) n k h = named_step number kind k n (eqb n (number kind)) (with_number number kinds n) refl (named number kinds n k) h

-- A code, then the fields.
coded_judged : (here : Spot) (code : ℕ) (rest : List ℕ) → here.bytes ≡ code ∷ rest → Bytes rest → (o : Option ItemKind) → item_kind_of code ≡ o
    → Judged ItemRead item_found here here (coded here.place o (record { place = here.place + 1; bytes = rest }))
unfolding item_form
coded_judged here code rest e f None h = here_inside here
coded_judged here code rest e f (Some k) h =
    let c : item_code k ≡ code = named item_code item_kinds code k h in
    let fields : Spot = record { place = here.place + 1; bytes = rest } in
    let t : Took here (code ∷ []) fields = record { split = e; moved = refl } in
    behind ItemRead item_found (fields_at k fields) t
    (seen_from (λ x more. ItemRead x (code ∷ more)) item_found (fields_at k fields) t
    (judged_map (FieldsRead k) (λ x more. ItemRead x (code ∷ more)) item_found fields fields (fields_at k fields)
    (λ x more r. (r.0, ap₂ (λ a b. a ∷ b) (sym c ∙ sym (ap item_code r.1)) r.2))
    (fields_judged k fields f)))

item_from_judged : (here : Spot) (bytes : List ℕ) → here.bytes ≡ bytes → Bytes bytes → Judged ItemRead item_found here here (item_from here.place bytes)
item_from_judged here [] e f = let l = ap length e in record { low = omega arith; high = omega arith; end = λ z. omega arith }
item_from_judged here (code ∷ rest) e f = coded_judged here code rest e (λ k. f (suc k)) (item_kind_of code) refl

pub item_judged : (here : Spot) → Bytes here.bytes → Judged ItemRead item_found here here (item_at here)
unfolding item_at
item_judged here f = item_from_judged here here.bytes refl f

number_in_heading : (fault : NumberFault) → heading_found (in_heading.Number fault) ≡ number_found fault
number_in_heading fault = refl

-- A kind that was read, and the bytes of its number.
abbrev KindRead : {K : Type 0} → (K → ℕ) → K → List ℕ → Type 0
KindRead number k form = form ≡ byte_form (number k)

known_judged : {K : Type 0} (number : K → ℕ) (n : ℕ) (from after : Spot) (o : Option K) → ((k : K) → o ≡ Some k → number k ≡ n)
    → Judged (λ k more. KindRead number k (byte_form n ++ more)) heading_found from after (known from.place after o)
known_judged number n from after None f = here_inside from
known_judged number n from after (Some k) f =
    done_judged (λ k more. KindRead number k (byte_form n ++ more)) heading_found from after k (append-nil (byte_form n) ∙ ap byte_form (sym (f k refl)))

kind_judged : {K : Type 0} (number : K → ℕ) (kinds : List K) (here : Spot) → Bytes here.bytes → Judged (KindRead number) heading_found here here (kind_at (with_number number kinds) here)
kind_judged number kinds here f =
    field_judged (KindRead number) heading_found in_heading.Number number_in_heading here _ f
    (λ n after w g t. known_judged number n here after (with_number number kinds n) (named number kinds n))

-- A number of words that was read, and its bytes.
abbrev WordsRead : StoreKind → ℕ → List ℕ → Type 0
WordsRead store words form = (fits_store store words ≡ true) × (form ≡ byte_form words)

fit_judged : (store : StoreKind) (n : ℕ) (from after : Spot) (t : Bool) → fits_store store n ≡ t
    → Judged (λ w more. WordsRead store w (byte_form n ++ more)) heading_found from after (cond t (Ok (n, after)) (Err (in_heading.Words from.place)))
fit_judged store n from after true e = done_judged (λ w more. WordsRead store w (byte_form n ++ more)) heading_found from after n (e, append-nil (byte_form n))
fit_judged store n from after false e = here_inside from

words_judged : (store : StoreKind) (here : Spot) → Bytes here.bytes → Judged (WordsRead store) heading_found here here (words_at store here)
words_judged store here f =
    field_judged (WordsRead store) heading_found in_heading.Number number_in_heading here _ f
    (λ n after w g t. fit_judged store n here after (fits_store store n) refl)

-- A heading that was read, and the bytes that it took.
abbrev pub HeadingRead : Heading → List ℕ → Type 0
HeadingRead h form = SoundHeading h × (form ≡ heading_form h)

heading_judged_form : (h : Heading) (m s w : List ℕ) → KindRead manager_number h.manager m → KindRead store_number h.store s → w ≡ byte_form h.words
    → m ++ (s ++ (w ++ (byte_form h.commit ++ (byte_form h.rank ++ [])))) ≡ heading_form h
unfolding heading_form
heading_judged_form h m s w em es ew = rw (em, es, ew, append-nil (byte_form h.rank))

pub heading_judged : (here : Spot) → Bytes here.bytes → Judged HeadingRead heading_found here here (heading_at here)
heading_judged here f =
    then_judged (KindRead manager_number) HeadingRead heading_found here (kind_at manager_of here) _ f (kind_judged manager_number managers here f)
    (λ m s₁ fm em g₁ t₁. seen_from (λ h more. HeadingRead h (fm ++ more)) heading_found _ t₁
    (then_judged (KindRead store_number) (λ h more. HeadingRead h (fm ++ more)) heading_found s₁ (kind_at store_of s₁) _ g₁ (kind_judged store_number stores s₁ g₁)
    (λ s s₂ fs es g₂ t₂. seen_from (λ h more. HeadingRead h (fm ++ (fs ++ more))) heading_found _ t₂
    (then_judged (WordsRead s) (λ h more. HeadingRead h (fm ++ (fs ++ more))) heading_found s₂ (words_at s s₂) _ g₂ (words_judged s s₂ g₂)
    (λ w s₃ fw ew g₃ t₃. seen_from (λ h more. HeadingRead h (fm ++ (fs ++ (fw ++ more)))) heading_found _ t₃
    (field_judged (λ h more. HeadingRead h (fm ++ (fs ++ (fw ++ more)))) heading_found in_heading.Number number_in_heading s₃ _ g₃
    (λ c s₄ lc g₄ t₄. seen_from (λ h more. HeadingRead h (fm ++ (fs ++ (fw ++ (byte_form c ++ more))))) heading_found _ t₄
    (field_judged (λ h more. HeadingRead h (fm ++ (fs ++ (fw ++ (byte_form c ++ more))))) heading_found in_heading.Number number_in_heading s₄ _ g₄
    (λ r s₅ lr g₅ t₅.
    let h : Heading = record { manager = m; store = s; words = w; commit = c; rank = r } in
    done_judged (λ h more. HeadingRead h (fm ++ (fs ++ (fw ++ (byte_form c ++ (byte_form r ++ more)))))) heading_found s₄ s₅ h
    ((ew.0, lc, lr), heading_judged_form h fm fs fw em es ew.1))))))))))
