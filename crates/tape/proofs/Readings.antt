-- The items from a spot on: one more, a fault, the end; and what they say of the bytes there.
use Rattle.std.proofs.Common.{◌≡◌, ℕ, zero, suc, ◌+◌, ◌<◌, ◌≤◌, cond, eqb, List, [], ◌∷◌, ◌++◌, length, None, Ok, Err, Result, sym, refl, ap, ◌∙◌, subst, ⊎_elim, arith, length-append, MatchOption}
use Rattle.std.proofs.lemmas.Bool.{eq-eqb, ne_eqb, cond-true, cond-false, cases_eq}
use Rattle.std.specs.List.{flat_map}
use Rattle.tape.specs.declared.fault.ItemFault.{ItemFault}
use Rattle.tape.specs.Items.{Said, item_at}
use Rattle.tape_number.specs.Numbers.{Bytes}
use Rattle.tape.specs.Spots.{Spot}
use Rattle.tape.specs.Tapes.{ItemsRead, at_end, after_item, items_within, items_at}
use Rattle.tape.specs.Written.{item_form, SoundItems}
use Rattle.tape.proofs.Backs.{at, item_back}
use Rattle.tape.proofs.Judged.{Inside, Took, took_bytes, took_both, Judged}
use Rattle.tape.proofs.Shrinks.{item_fewer}
use Rattle.tape.proofs.Parts.{item_found, ItemRead, item_judged}

pub some_form : (it : Said) → 0 < length (item_form it)
unfolding item_form
some_form it = omega arith

-- At least a byte is taken, so fewer are left.
pub took_fewer : {here after : Spot} {form : List ℕ} → Took here form after → length here.bytes ≡ length form + length after.bytes
took_fewer {after = after} {form = form} t = ap length t.split ∙ length-append form after.bytes

-- The bound on the number of items does not matter, where it is not below the number of bytes.
same_by : (F G : Spot → ItemsRead) (r : Result (Said × Spot) ItemFault) → ((it : Said) (after : Spot) → r ≡ Ok (it, after) → F after ≡ G after) → after_item F r ≡ after_item G r
same_by F G (Ok x) f = ap (λ (q : ItemsRead). record { items = x.0 ∷ q.items; fault = q.fault }) (f x.0 x.1 refl)
same_by F G (Err fault) f = refl

same_items : (m n : ℕ) (here : Spot) → length here.bytes ≤ m → length here.bytes ≤ n → items_within m here ≡ items_within n here
same_items zero zero here h g = refl
same_items zero (suc n) here h g = sym (cond-true _ _ _ (eq-eqb (length here.bytes) 0 (omega arith)))
same_items (suc m) zero here h g = cond-true _ _ _ (eq-eqb (length here.bytes) 0 (omega arith))
same_items (suc m) (suc n) here h g =
    ap (cond (eqb (length here.bytes) 0) at_end)
    (same_by (items_within m) (items_within n) (item_at here) (λ it after e.
    let w = item_fewer here it after e in
    same_items m n after (omega arith) (omega arith)))

pub items_none : (here : Spot) → length here.bytes ≡ 0 → items_at here ≡ at_end
unfolding items_at
items_none here e = rw e

-- An item more, or its fault.
pub items_more : (here : Spot) → 0 < length here.bytes → items_at here ≡ after_item items_at (item_at here)
unfolding items_at
items_more here h =
    let l = length here.bytes in
    same_items l (suc l) here (omega arith) (omega arith)
    ∙ cond-false _ _ _ (ne_eqb l 0 (λ z. omega arith))
    ∙ same_by (items_within l) items_at (item_at here) (λ it after e.
    let w = item_fewer here it after e in
    same_items l (length after.bytes) after (omega arith) (omega arith))

-- What some items and a fault say of the bytes at a spot: the items' forms stand there, and behind them nothing, or what is at fault.
abbrev pub ItemsJudged : Spot → ItemsRead → Type 0
ItemsJudged here r =
    SoundItems r.items
    × ((rest : Spot) × Took here (flat_map item_form r.items) rest × MatchOption r.fault (length rest.bytes ≡ 0) (λ fault. Inside rest (item_found fault)))

end_judged : (here : Spot) → length here.bytes ≡ 0 → ItemsJudged here at_end
end_judged here e = (tt, (here, record { split = refl; moved = omega arith }, e))

after_judged : (F : Spot → ItemsRead) (here : Spot) → Bytes here.bytes → (r : Result (Said × Spot) ItemFault) → Judged ItemRead item_found here here r
    → ((it : Said) (after : Spot) → Took here (item_form it) after → ItemsJudged after (F after)) → ItemsJudged here (after_item F r)
after_judged F here f (Ok x) j k =
    let t : Took here (item_form x.0) x.1 = subst (λ bs. Took here bs x.1) j.1.1 j.2 in
    let m = k x.0 x.1 t in
    ((j.1.0, m.0), (m.1.0, took_both t m.1.1, m.1.2))
after_judged F here f (Err fault) j k = (tt, (here, record { split = refl; moved = omega arith }, j))

within_judged : (n : ℕ) (here : Spot) → Bytes here.bytes → length here.bytes ≤ n → ItemsJudged here (items_within n here)
within_judged zero here f h = end_judged here (omega arith)
within_judged (suc n) here f h =
    ⊎_elim
    (λ e. subst (λ (r : ItemsRead). ItemsJudged here r) (sym (cond-true _ _ _ (eq-eqb _ _ e))) (end_judged here e))
    (λ ne. subst (λ (r : ItemsRead). ItemsJudged here r) (sym (cond-false _ _ _ (ne_eqb _ _ ne)))
    (after_judged (items_within n) here f (item_at here) (item_judged here f)
    (λ it after t.
    let l = took_fewer t in
    let p = some_form it in
    within_judged n after (took_bytes t f) (omega arith))))
    (cases_eq (length here.bytes) 0)

pub items_judged : (here : Spot) → Bytes here.bytes → ItemsJudged here (items_at here)
unfolding items_at
items_judged here f = within_judged (length here.bytes) here f (omega arith)

-- Items that are written down are read back.
within_back : (n : ℕ) (items : List Said) (p : ℕ) → SoundItems items → length (flat_map item_form items) ≤ n → items_within n (at p (flat_map item_form items)) ≡ record { items = items; fault = None }
within_back zero [] p s h = refl
within_back (suc n) [] p s h = refl
within_back zero (it ∷ items) p s h = absurd (let l = length-append (item_form it) (flat_map item_form items) in let q = some_form it in omega arith)
within_back (suc n) (it ∷ items) p s h =
    let rest = flat_map item_form items in
    let l = length-append (item_form it) rest in
    let q = some_form it in
    cond-false _ _ _ (ne_eqb (length (item_form it ++ rest)) 0 (λ z. omega arith))
    ∙ ap (after_item (items_within n)) (item_back it p rest s.0)
    ∙ ap (λ (r : ItemsRead). record { items = it ∷ r.items; fault = r.fault }) (within_back n items (p + length (item_form it)) s.1 (omega arith))

pub items_back : (items : List Said) (p : ℕ) → SoundItems items → items_at (at p (flat_map item_form items)) ≡ record { items = items; fault = None }
unfolding items_at
items_back items p s = within_back _ items p s (omega arith)
