-- A tape has one reading and one form.
use Rattle.std.proofs.Common.{◌≡◌, ℕ, ◌+◌, ◌<◌, ◌≤◌, true, List, [], ◌++◌, length, take, Some, None, Ok, Err, Option, Result, sym, refl, ap, ◌∙◌, subst, ap₂, ⊎_elim, append-nil, arith, length-append, MatchOption}
use Rattle.std.proofs.lemmas.List.{nil_from_length, take_at, take_all, length-take-le}
use Rattle.std.proofs.lemmas.Bool.{lt-ltb, le-ltb, cases_lt, cond-true, cond-false}
use Rattle.std.specs.List.{flat_map}
use Rattle.tape_number.specs.declared.fault.NumberFault.{NumberFault}
use Rattle.tape_number.specs.declared.fault.NumberFault.TheVariants as in_number
use Rattle.tape.specs.declared.fault.HeadingFault.{HeadingFault}
use Rattle.tape.specs.declared.fault.HeadingFault.TheVariants as in_heading
use Rattle.tape.specs.declared.fault.ItemFault.{ItemFault}
use Rattle.tape.specs.declared.fault.ItemFault.TheVariants as in_item
use Rattle.tape.specs.declared.fault.ProgramFault.{ProgramFault}
use Rattle.tape.specs.declared.fault.ProgramFault.TheVariants as program
use Rattle.tape.specs.declared.heading.Heading.{Heading}
use Rattle.book.specs.declared.Refusal.TheVariants.{CutShort}
use Rattle.tape.specs.Faults.{most_bytes, number_refusal, item_refusal, item_place, heading_refusal, heading_place, program_refusal, program_place}
use Rattle.tape.specs.Headings.{heading_at}
use Rattle.tape.specs.Items.{Said}
use Rattle.tape.specs.Laws.{whole, OneTape}
use Rattle.tape_number.specs.Numbers.{Bytes, number_place}
use Rattle.tape.specs.Spots.{Spot}
use Rattle.tape.specs.Tapes.{ItemsRead, items_at, Reading, unread, in_program, after_heading, tape_says}
use Rattle.tape.specs.Written.{heading_form, item_form, SoundHeading, SoundItems, written}
use Rattle.tape.proofs.Backs.{at, heading_back}
use Rattle.tape.proofs.Bytes.{written_bytes}
use Rattle.tape.proofs.Judged.{number_found, Inside, Took, took_bytes, took_both, Judged}
use Rattle.tape.proofs.Parts.{item_found, heading_found, HeadingRead, heading_judged}
use Rattle.tape.proofs.Readings.{ItemsJudged, items_judged, items_back}

never : {P : Type 0} → ◌≡◌ {A = ℕ} 0 1 → P
never z = absurd (omega arith)

reads_back : (h : Heading) (items : List Said) → SoundHeading h → SoundItems items → length (written h items) ≤ most_bytes → tape_says (written h items) ≡ whole h items
unfolding tape_says
reads_back h items sh si le =
    let rest = flat_map item_form items in
    cond-false _ _ _ (le-ltb most_bytes (length (written h items)) le)
    ∙ ap after_heading (heading_back h 0 rest sh)
    ∙ ap (λ (r : ItemsRead). record { heading = Some h; items = r.items; fault = in_program r.fault }) (items_back items (0 + length (heading_form h)) si)

-- How far a tape can be read.
data Way (tape : List ℕ) : Type 0 where
  too_long : most_bytes < length tape → tape_says tape ≡ unread program.TooLong → Way tape
  no_heading : (fault : HeadingFault) → Inside (at 0 tape) (heading_found fault) → tape_says tape ≡ unread (program.Heading fault) → Way tape
  headed : (h : Heading) (r : ItemsRead) (here : Spot) → length tape ≤ most_bytes → SoundHeading h → Took (at 0 tape) (heading_form h) here → ItemsJudged here r
      → tape_says tape ≡ record { heading = Some h; items = r.items; fault = in_program r.fault } → Way tape

way_by : (tape : List ℕ) → Bytes tape → length tape ≤ most_bytes → (r : Result (Heading × Spot) HeadingFault) → Judged HeadingRead heading_found (at 0 tape) (at 0 tape) r → tape_says tape ≡ after_heading r → Way tape
way_by tape f le (Ok x) j e =
    let t : Took (at 0 tape) (heading_form x.0) x.1 = subst (λ bs. Took (at 0 tape) bs x.1) j.1.1 j.2 in
    headed x.0 (items_at x.1) x.1 le j.1.0 t (items_judged x.1 (took_bytes t f)) e
way_by tape f le (Err fault) j e = no_heading fault j e

way : (tape : List ℕ) → Bytes tape → Way tape
unfolding tape_says
way tape f =
    ⊎_elim
    (λ h. too_long h (cond-true _ _ _ (lt-ltb most_bytes (length tape) h)))
    (λ h. way_by tape f h (heading_at (at 0 tape)) (heading_judged (at 0 tape) f) (cond-false _ _ _ (le-ltb most_bytes (length tape) h)))
    (cases_lt most_bytes (length tape))

-- The heading's and the items' forms stand at the front of the tape.
front : (tape : List ℕ) (h : Heading) (items : List Said) (here rest : Spot) → Took (at 0 tape) (heading_form h) here → Took here (flat_map item_form items) rest
    → (tape ≡ written h items ++ rest.bytes) × (rest.place ≡ length (written h items))
front tape h items here rest t u = let v = took_both t u in (v.split, let e = v.moved in omega arith)

no_fault : (o : Option ItemFault) → in_program o ≡ None → o ≡ None
no_fault None e = refl
no_fault (Some f) e = let z : ◌≡◌ {A = ℕ} 0 1 = cc in absurd (omega arith)

one_fault : (o : Option ItemFault) (fault : ProgramFault) → in_program o ≡ Some fault → (f : ItemFault) × (o ≡ Some f) × (fault ≡ program.Item f)
one_fault None fault e = let z : ◌≡◌ {A = ℕ} 0 1 = cc in absurd (omega arith)
one_fault (Some f) fault e = (f, refl, cc)

-- Two readings that are equal have equal parts.
headings : (a b : Reading) → a ≡ b → a.heading ≡ b.heading
headings a b e = ap (λ (r : Reading). r.heading) e

faults : (a b : Reading) → a ≡ b → a.fault ≡ b.fault
faults a b e = ap (λ (r : Reading). r.fault) e

only_by : (tape : List ℕ) (h : Heading) (items : List Said) → tape_says tape ≡ whole h items → Way tape → (tape ≡ written h items) × SoundHeading h × (length tape ≤ most_bytes)
only_by tape h items e (too_long g w) = let z = headings _ _ (sym w ∙ e) in never (cc)
only_by tape h items e (no_heading fault g w) = let z = headings _ _ (sym w ∙ e) in never (cc)
only_by tape h items e (headed h' r here le s t j w) =
    let q = sym w ∙ e in
    let eh : h' ≡ h = let z = headings _ _ q in cc in
    let ei : r.items ≡ items = ap (λ (x : Reading). x.items) q in
    let nf : r.fault ≡ None = no_fault r.fault (faults _ _ q) in
    let rest = j.1.0 in
    let fr = front tape h' r.items here rest t j.1.1 in
    let nil : rest.bytes ≡ [] = nil_from_length rest.bytes (subst (λ o. MatchOption o (length rest.bytes ≡ 0) (λ fault. Inside rest (item_found fault))) nf j.1.2) in
    (fr.0 ∙ ap₂ (λ (a : List ℕ) b. a ++ b) (ap₂ written eh ei) nil ∙ append-nil (written h items), subst SoundHeading eh s, le)

sound_by : (tape : List ℕ) → Way tape → SoundItems (tape_says tape).items
sound_by tape (too_long g w) = subst (λ (x : Reading). SoundItems x.items) (sym w) tt
sound_by tape (no_heading f g w) = subst (λ (x : Reading). SoundItems x.items) (sym w) tt
sound_by tape (headed h r here le s t j w) = subst (λ (x : Reading). SoundItems x.items) (sym w) j.0

-- What a fault tells of its place, in the words of the refusals.
number_told : (f : NumberFault) → ((number_found f).0 ≡ number_place f) × (number_refusal f ≡ CutShort → (number_found f).1 ≡ true)
number_told (in_number.Cut place) = (refl, λ e. refl)
number_told (in_number.Form place) = (refl, λ e. never (cc))

item_told : (f : ItemFault) → ((item_found f).0 ≡ item_place f) × (item_refusal f ≡ CutShort → (item_found f).1 ≡ true)
item_told (in_item.Number f) = number_told f
item_told (in_item.Cut place) = (refl, λ e. refl)
item_told (in_item.Code place) = (refl, λ e. never (cc))
item_told (in_item.Length place) = (refl, λ e. never (cc))
item_told (in_item.Byte place) = (refl, λ e. never (cc))

heading_told : (f : HeadingFault) → ((heading_found f).0 ≡ heading_place f) × (heading_refusal f ≡ CutShort → (heading_found f).1 ≡ true)
heading_told (in_heading.Number f) = number_told f
heading_told (in_heading.Kind place) = (refl, λ e. never (cc))
heading_told (in_heading.Words place) = (refl, λ e. never (cc))

-- Where a fault of a tape can lie.
abbrev Told : List ℕ → ProgramFault → Type 0
Told tape fault = (program_place fault ≤ length tape) × (program_refusal fault ≡ CutShort → program_place fault ≡ length tape)

-- An item's fault lies behind the forms of the heading and the items before it, and not past the tape.
behind_front : (tape : List ℕ) (h : Heading) (r : ItemsRead) (here : Spot) (fault : ProgramFault) → Took (at 0 tape) (heading_form h) here → ItemsJudged here r → in_program r.fault ≡ Some fault
    → (rest : List ℕ) × (tape ≡ written h r.items ++ rest) × (length (written h r.items) ≤ program_place fault) × Told tape fault
behind_front tape h r here fault t j e =
    let o = one_fault r.fault fault e in
    let f = o.0 in
    let rest = j.1.0 in
    let i = subst (λ q. MatchOption q (length rest.bytes ≡ 0) (λ f. Inside rest (item_found f))) o.1 j.1.2 in
    let fr = front tape h r.items here rest t j.1.1 in
    let l : length tape ≡ length (written h r.items) + length rest.bytes = ap length fr.0 ∙ length-append (written h r.items) rest.bytes in
    let p = fr.1 in
    let q = (item_told f).0 in
    let lo = i.low in
    let hi = i.high in (
      rest.bytes,
      fr.0,
      subst (λ (x : ProgramFault). length (written h r.items) ≤ program_place x) (sym o.2) (omega arith),
      subst (Told tape) (sym o.2) (omega arith, λ c. let z = i.end ((item_told f).1 c) in omega arith),
    )

told_by : (tape : List ℕ) (fault : ProgramFault) → (tape_says tape).fault ≡ Some fault → Way tape → Told tape fault
told_by tape fault e (too_long g w) =
    let z : program.TooLong ≡ fault = let y = sym (faults _ _ w) ∙ e in cc in
    subst (Told tape) z (omega arith, λ c. never (cc))
told_by tape fault e (no_heading f g w) =
    let z : program.Heading f ≡ fault = let y = sym (faults _ _ w) ∙ e in cc in
    let q = (heading_told f).0 in
    let hi = g.high in
    subst (Told tape) z (omega arith, λ c. let y = g.end ((heading_told f).1 c) in omega arith)
told_by tape fault e (headed h r here le s t j w) = (behind_front tape h r here fault t j (sym (faults _ _ w) ∙ e)).3

none_by : (tape : List ℕ) → (tape_says tape).heading ≡ None → Way tape → ((tape_says tape).items ≡ []) × ((fault : ProgramFault) × ((tape_says tape).fault ≡ Some fault))
none_by tape e (too_long g w) = (ap (λ (x : Reading). x.items) w, (program.TooLong, faults _ _ w))
none_by tape e (no_heading f g w) = (ap (λ (x : Reading). x.items) w, (program.Heading f, faults _ _ w))
none_by tape e (headed h r here le s t j w) = let z = sym (headings _ _ w) ∙ e in never (cc)

before_by : (tape : List ℕ) (h : Heading) (fault : ProgramFault) → (tape_says tape).heading ≡ Some h → (tape_says tape).fault ≡ Some fault → Way tape
    → let form = written h (tape_says tape).items in
    (length form ≤ program_place fault) × (take (length form) tape ≡ form) × (tape_says form ≡ whole h (tape_says tape).items)
before_by tape h fault eh ef (too_long g w) = let z = sym (headings _ _ w) ∙ eh in never (cc)
before_by tape h fault eh ef (no_heading f g w) = let z = sym (headings _ _ w) ∙ eh in never (cc)
before_by tape h fault eh ef (headed h' r here le s t j w) =
    let hh : h' ≡ h = let z = sym (headings _ _ w) ∙ eh in cc in
    let b = behind_front tape h' r here fault t j (sym (faults _ _ w) ∙ ef) in
    let form = written h' r.items in
    let l : length tape ≡ length form + length b.0 = ap length b.1 ∙ length-append form b.0 in
    let P : Heading → List Said → Type 0 =
    λ x items. (length (written x items) ≤ program_place fault) × (take (length (written x items)) tape ≡ written x items) × (tape_says (written x items) ≡ whole x items) in
    let here-holds : P h' r.items = (b.2, ap (take (length form)) b.1 ∙ take_at form b.0 (length form) refl, reads_back h' r.items s j.0 (omega arith)) in
    subst (λ (items : List Said). P h items) (sym (ap (λ (x : Reading). x.items) w)) (subst (λ (x : Heading). P x r.items) hh here-holds)

enough : (tape : List ℕ) → tape_says (take (most_bytes + 1) tape) ≡ tape_says tape
unfolding tape_says
enough tape =
    ⊎_elim
    (λ h.
    let n : length (take (most_bytes + 1) tape) ≡ most_bytes + 1 = length-take-le (most_bytes + 1) tape (omega arith) in
    cond-true _ _ _ (lt-ltb most_bytes (length (take (most_bytes + 1) tape)) (omega arith)) ∙ sym (cond-true _ _ _ (lt-ltb most_bytes (length tape) h)))
    (λ h. ap tape_says (take_all (most_bytes + 1) tape (omega arith)))
    (cases_lt most_bytes (length tape))

pub one_tape : OneTape
one_tape = record {
  reads_back = reads_back;
  is_bytes = written_bytes;
  only_form = λ tape h items f e. only_by tape h items e (way tape f);
  sound_items = λ tape f. sound_by tape (way tape f);
  fault_inside = λ tape fault f e. told_by tape fault e (way tape f);
  no_heading = λ tape f e. none_by tape e (way tape f);
  before_fault = λ tape h fault f eh ef. before_by tape h fault eh ef (way tape f);
  enough = enough;
}
