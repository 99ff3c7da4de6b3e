-- The byte form of a number is read back as that number, and nothing else is.
use Rattle.std.proofs.Common.{◌≡◌, ℕ, zero, suc, ◌+◌, ◌*◌, ◌/◌, ◌%◌, ◌^◌, ◌<◌, ◌≤◌, Bool, true, false, cond, List, [], ◌∷◌, ◌++◌, length, get_or, drop, Ok, Err, Result, sym, refl, ap, ◌∙◌, subst, ap₂, ⊎_elim, append-nil, arith, lit<}
use Rattle.std.proofs.lemmas.List.{drop_all, drop_at}
use Rattle.std.proofs.lemmas.Bool.{lt-ltb, le-ltb, cases_lt, cases_Bool}
use Rattle.tape_number.specs.declared.fault.NumberFault.{NumberFault}
use Rattle.tape_number.specs.declared.fault.NumberFault.TheVariants.{Cut, Form}
use Rattle.tape_number.specs.Numbers.{form_in, byte_form, over_top, padded, below, read_groups, read_number, number_place, Bytes, OneForm}
use Rattle.tape_number.proofs.Groups.{below_err, fits_top, not_padded, low_top, not_zero, read_high, read_padded, read_last, read_more}

abbrev Said : Type 0
Said = Result (ℕ × ℕ) NumberFault

-- One past the largest number of l + 1 groups, the last one of at most four bits.
abbrev pub limit : ℕ → ℕ
limit zero = 16
limit (suc l) = 128 * limit l

pub one_byte : (k n : ℕ) → n < 128 → form_in (suc k) n ≡ n ∷ []
one_byte k n h = rw (lt-ltb n 128 h)

pub more_bytes : (k n : ℕ) → 128 ≤ n → form_in (suc k) n ≡ (128 + n % 128) ∷ form_in k (n / 128)
more_bytes k n h = rw (le-ltb n 128 h)

-- The form of n in at most l + 1 groups, of which the first is group i of the whole.
back : (l i n : ℕ) (rest : List ℕ) → l + i ≡ 4 → n < limit l → (0 < i → 0 < n)
    → read_groups i (form_in (suc l) n ++ rest) ≡ Ok (n, i + length (form_in (suc l) n))
back zero i n rest e h g =
    let s : n < 128 = omega arith in
    rw (one_byte 0 n s) (read_last i n rest (fits_top i n (λ q. omega arith)) s (not_padded i n (λ p z. let y = g p in omega arith)))
back (suc l) i n rest e h g =
    ⊎_elim
    (λ s. rw (one_byte (suc l) n s) (read_last i n rest (fits_top i n (λ q. absurd (omega arith))) s (not_padded i n (λ p z. let y = g p in omega arith))))
    (λ s.
    let far : i ≡ 4 → 128 + n % 128 ≤ 15 = λ q. absurd (omega arith) in
    let b : 128 ≤ 128 + n % 128 = omega arith in
    let d : (128 + n % 128) % 128 ≡ n % 128 = omega arith in
    let v : n % 128 + 128 * (n / 128) ≡ n = omega arith in
    let more = form_in (suc l) (n / 128) in
    let ih : read_groups (i + 1) (more ++ rest) ≡ Ok (n / 128, (i + 1) + length more) = back l (i + 1) (n / 128) rest (omega arith) (omega arith) (λ p. omega arith) in
    let k : (i + 1) + length more ≡ i + suc (length more) = omega arith in
    rw (more_bytes (suc l) n s)
    (read_more i (128 + n % 128) (more ++ rest) (fits_top i _ far) b
    ∙ ap₂ below d ih ∙ ap₂ (λ x y. Ok (x, y)) v k))
    (cases_lt n 128)

pub reads_back : (n : ℕ) (rest : List ℕ) → n < 2 ^ 32 → read_number (byte_form n ++ rest) ≡ Ok (n, length (byte_form n))
unfolding byte_form read_number
reads_back n rest h =
    let e : 0 + length (form_in 5 n) ≡ length (form_in 5 n) = omega arith in
    back 4 0 n rest refl h (λ p. absurd (omega arith)) ∙ ap (λ k. Ok (n, k)) e

bad_step : (t q s : Bool) (b i d p : ℕ) (r r' : Said) → (r ≡ Err (Form p) → r' ≡ Err (Form p))
    → cond t (Err (Form 0)) (cond q (cond s (Err (Form 0)) (Ok (b, i))) (below d r)) ≡ Err (Form p)
    → cond t (Err (Form 0)) (cond q (cond s (Err (Form 0)) (Ok (b, i))) (below d r')) ≡ Err (Form p)
bad_step true q s b i d p r r' f e = e
bad_step false true s b i d p r r' f e = e
bad_step false false s b i d p r r' f e = ap (below d) (f (below_err d r (Form p) e))

bad_more : (i : ℕ) (bytes more : List ℕ) (p : ℕ) → read_groups i bytes ≡ Err (Form p) → read_groups i (bytes ++ more) ≡ Err (Form p)
bad_more i [] more p e = let z : ◌≡◌ {A = ℕ} 0 1 = cc in absurd (omega arith)
bad_more i (b ∷ bytes) more p e = bad_step (over_top i b) _ (padded i b) b (i + 1) (b % 128) p _ _ (bad_more (i + 1) bytes more p) e

limit_big : (l : ℕ) → 16 ≤ limit l
limit_big zero = omega arith
limit_big (suc l) = let h = limit_big l in omega arith

-- The ways in which the first of some bytes is read as group i.
data Way : ℕ → ℕ → List ℕ → Type 0 where
  high : {i b : ℕ} {bytes : List ℕ} → read_groups i (b ∷ bytes) ≡ Err (Form 0) → Way i b bytes
  last : {i b : ℕ} {bytes : List ℕ} → b < 128 → (i ≡ 4 → b ≤ 15) → (0 < i → 0 < b) → read_groups i (b ∷ bytes) ≡ Ok (b, i + 1) → Way i b bytes
  more : {i b : ℕ} {bytes : List ℕ} → 128 ≤ b → (i ≡ 4 → ⊥) → read_groups i (b ∷ bytes) ≡ below (b % 128) (read_groups (i + 1) bytes) → Way i b bytes

way : (i b : ℕ) (bytes : List ℕ) → Way i b bytes
way i b bytes =
    ⊎_elim
    (λ t. high (read_high i b bytes t))
    (λ t.
    let low = low_top i b t in
    ⊎_elim
    (λ s.
    ⊎_elim
    (λ p. high (read_padded i b bytes t s p))
    (λ p. last s low (not_zero i b p) (read_last i b bytes t s p))
    (cases_Bool (padded i b)))
    (λ s. more s (λ q. let l = low q in omega arith) (read_more i b bytes t s))
    (cases_lt b 128))
    (cases_Bool (over_top i b))

below_ok : (d n c : ℕ) (r : Said) → below d r ≡ Ok (n, c) → (v : ℕ) × (r ≡ Ok (v, c)) × (n ≡ d + 128 * v)
below_ok d n c (Ok x) e =
    let p : ◌≡◌ {A = ℕ × ℕ} (d + 128 * x.0, x.1) (n, c) = cc in
    (x.0, ap (λ k. Ok (x.0, k)) (ap (λ (y : ℕ × ℕ). y.1) p), sym (ap (λ (y : ℕ × ℕ). y.0) p))
below_ok d n c (Err fault) e = let z : ◌≡◌ {A = ℕ} 0 1 = cc in absurd (omega arith)

-- Some bytes, read as n from group i on, c of them all told: they begin with the form of n.
abbrev Begins : (i l : ℕ) → List ℕ → (n c : ℕ) → Type 0
Begins i l bytes n c = (n < limit l) × (0 < i → 0 < n) × ((k : ℕ) × (c ≡ i + k) × (k ≡ length (form_in (suc l) n)) × (bytes ≡ form_in (suc l) n ++ drop k bytes))

-- The last byte.
ends : (i l b : ℕ) (bytes : List ℕ) (n c : ℕ) → b < limit l → b < 128 → (0 < i → 0 < b) → ◌≡◌ {A = Said} (Ok (b, i + 1)) (Ok (n, c)) → Begins i l (b ∷ bytes) n c
ends i l b bytes n c h s z r =
    let p : ◌≡◌ {A = ℕ × ℕ} (b, i + 1) (n, c) = cc in
    let en : b ≡ n = ap (λ (y : ℕ × ℕ). y.0) p in
    let ec : i + 1 ≡ c = ap (λ (y : ℕ × ℕ). y.1) p in
    let one : form_in (suc l) n ≡ n ∷ [] = one_byte l n (omega arith) in
    (omega arith, (λ p. let q = z p in omega arith), (1, sym ec, rw one, rw (one, en)))

-- A byte before others.
goes_on : (i l b : ℕ) (bytes : List ℕ) (n c v : ℕ) → 128 ≤ b → b < 256 → n ≡ b % 128 + 128 * v → Begins (i + 1) l bytes v c → Begins i (suc l) (b ∷ bytes) n c
goes_on i l b bytes n c v s t en f =
    let p : 0 < v = f.1 (omega arith) in
    let h : v < limit l = f.0 in
    let q : n / 128 ≡ v = omega arith in
    let m : 128 + n % 128 ≡ b = omega arith in
    let k = f.2.0 in
    let ec : c ≡ (i + 1) + k = f.2.1 in
    let more : form_in (suc (suc l)) n ≡ b ∷ form_in (suc l) v = more_bytes (suc l) n (omega arith) ∙ ap₂ (λ x y. x ∷ form_in (suc l) y) m q in
    (omega arith, (λ z. omega arith), (suc k, omega arith, rw more (ap suc f.2.2), rw more (ap (λ x. b ∷ x) f.2.3)))

under_limit : (l i b : ℕ) → l + i ≡ 4 → b < 128 → (i ≡ 4 → b ≤ 15) → b < limit l
under_limit zero i b e h low = let q = low (omega arith) in omega arith
under_limit (suc l) i b e h low = let big = limit_big l in omega arith

-- One byte, where the bytes after it are known to begin with the form of what they read as.
only_by : (l i b : ℕ) (bytes : List ℕ) (n c : ℕ) → l + i ≡ 4 → b < 256 → ((l' v : ℕ) → l' + (i + 1) ≡ 4 → read_groups (i + 1) bytes ≡ Ok (v, c) → Begins (i + 1) l' bytes v c)
    → read_groups i (b ∷ bytes) ≡ Ok (n, c) → Way i b bytes → Begins i l (b ∷ bytes) n c
only_by l i b bytes n c e t ih r (high w) = let z : ◌≡◌ {A = ℕ} 0 1 = cc in absurd (omega arith)
only_by l i b bytes n c e t ih r (last s low z w) = ends i l b bytes n c (under_limit l i b e s low) s z (sym w ∙ r)
only_by zero i b bytes n c e t ih r (more s far w) = absurd (far (omega arith))
only_by (suc l) i b bytes n c e t ih r (more s far w) =
    let o = below_ok (b % 128) n c (read_groups (i + 1) bytes) (sym w ∙ r) in
    goes_on i l b bytes n c o.0 s t o.2 (ih l o.0 (omega arith) o.1)

only : (l i : ℕ) (bytes : List ℕ) (n c : ℕ) → l + i ≡ 4 → Bytes bytes → read_groups i bytes ≡ Ok (n, c) → Begins i l bytes n c
only l i [] n c e f r = let z : ◌≡◌ {A = ℕ} 0 1 = cc in absurd (omega arith)
only l i (b ∷ bytes) n c e f r = only_by l i b bytes n c e (f 0) (λ l' v e' r'. only l' (i + 1) bytes v c e' (λ k. f (suc k)) r') r (way i b bytes)

pub begins_with_form : (bytes : List ℕ) (n c : ℕ) → Bytes bytes → read_number bytes ≡ Ok (n, c) → (n < 2 ^ 32) × (c ≡ length (byte_form n)) × (bytes ≡ byte_form n ++ drop c bytes)
unfolding byte_form read_number
begins_with_form bytes n c f r =
    let h = only 4 0 bytes n c refl f r in
    let k : h.2.0 ≡ c = omega (arith, h.2.1) in
    (h.0, sym k ∙ h.2.2, h.2.3 ∙ ap (λ j. form_in 5 n ++ drop j bytes) k)

-- Some bytes, cut from group i on at place p: the front of the form of a number above 0.
abbrev Front : (i l p : ℕ) → List ℕ → Type 0
Front i l p bytes = (p ≡ i + length bytes) × ((n next : ℕ) × (more : List ℕ) × (n < limit l) × (0 < n) × (bytes ++ (next ∷ more) ≡ form_in (suc l) n))

cut_more : (i l b p : ℕ) (bytes : List ℕ) → 128 ≤ b → b < 256 → Front (i + 1) l p bytes → Front i (suc l) p (b ∷ bytes)
cut_more i l b p bytes h t f =
    let v = f.1.0 in
    let lv : v < limit l = f.1.3 in
    let pv : 0 < v = f.1.4 in
    let ep : p ≡ (i + 1) + length bytes = f.0 in
    let n = b % 128 + 128 * v in
    let q : n / 128 ≡ v = omega arith in
    let m : 128 + n % 128 ≡ b = omega arith in
    let e : form_in (suc (suc l)) n ≡ b ∷ form_in (suc l) v = more_bytes (suc l) n (omega arith) ∙ ap₂ (λ x y. x ∷ form_in (suc l) y) m q in
    (omega arith, (n, f.1.1, f.1.2, omega arith, omega arith, ap (λ xs. b ∷ xs) f.1.5 ∙ sym e))

cut_by : (l i b : ℕ) (bytes : List ℕ) (p : ℕ) → l + i ≡ 4 → b < 256 → ((l' : ℕ) → l' + (i + 1) ≡ 4 → read_groups (i + 1) bytes ≡ Err (Cut p) → Front (i + 1) l' p bytes)
    → read_groups i (b ∷ bytes) ≡ Err (Cut p) → Way i b bytes → Front i l p (b ∷ bytes)
cut_by l i b bytes p e t ih r (high w) = let z : ◌≡◌ {A = ℕ} 0 1 = cc in absurd (omega arith)
cut_by l i b bytes p e t ih r (last s low z w) = let y : ◌≡◌ {A = ℕ} 0 1 = cc in absurd (omega arith)
cut_by zero i b bytes p e t ih r (more s far w) = absurd (far (omega arith))
cut_by (suc l) i b bytes p e t ih r (more s far w) =
    cut_more i l b p bytes s t (ih l (omega arith) (below_err (b % 128) (read_groups (i + 1) bytes) (Cut p) (sym w ∙ r)))

cut : (l i : ℕ) (bytes : List ℕ) (p : ℕ) → l + i ≡ 4 → Bytes bytes → read_groups i bytes ≡ Err (Cut p) → Front i l p bytes
cut l i [] p e f r =
    let big = limit_big l in
    let ep : i ≡ p = cc in
    (omega arith, (1, 1, [], omega arith, lit< tt, refl))
cut l i (b ∷ bytes) p e f r = cut_by l i b bytes p e (f 0) (λ l' e' r'. cut l' (i + 1) bytes p e' (λ k. f (suc k)) r') r (way i b bytes)

pub cut_front : (bytes : List ℕ) (p : ℕ) → Bytes bytes → read_number bytes ≡ Err (Cut p) → (p ≡ length bytes) × ((n next : ℕ) × (more : List ℕ) × (n < 2 ^ 32) × (bytes ++ (next ∷ more) ≡ byte_form n))
unfolding byte_form read_number
cut_front bytes p f r =
    let h = cut 4 0 bytes p refl f r in
    (omega (arith, h.0), (h.1.0, h.1.1, h.1.2, h.1.3, h.1.5))

pub bad_stays : (bytes rest : List ℕ) (p : ℕ) → read_number bytes ≡ Err (Form p) → read_number (bytes ++ rest) ≡ Err (Form p)
unfolding read_number
bad_stays bytes rest p e = bad_more 0 bytes rest p e

-- A fault lies among the bytes, or right behind them.
step_place : (t q s : Bool) (b i d n : ℕ) (r : Result (ℕ × ℕ) NumberFault) (fault : NumberFault) → (r ≡ Err fault → number_place fault ≤ n)
    → cond t (Err (Form 0)) (cond q (cond s (Err (Form 0)) (Ok (b, i))) (below d r)) ≡ Err fault → number_place fault ≤ n
step_place true q s b i d n r fault f e = let z : Form 0 ≡ fault = cc in subst (λ (x : NumberFault). number_place x ≤ n) z (omega arith)
step_place false true true b i d n r fault f e = let z : Form 0 ≡ fault = cc in subst (λ (x : NumberFault). number_place x ≤ n) z (omega arith)
step_place false true false b i d n r fault f e = let z : ◌≡◌ {A = ℕ} 0 1 = cc in absurd (omega arith)
step_place false false s b i d n r fault f e = f (below_err d r fault e)

groups_place : (i : ℕ) (bytes : List ℕ) (fault : NumberFault) → read_groups i bytes ≡ Err fault → number_place fault ≤ i + length bytes
groups_place i [] fault e = let z : Cut i ≡ fault = cc in subst (λ (x : NumberFault). number_place x ≤ i + 0) z (omega arith)
groups_place i (b ∷ bytes) fault e =
    step_place (over_top i b) _ (padded i b) b (i + 1) _ (i + suc (length bytes)) (read_groups (i + 1) bytes) fault
    (λ h. let g = groups_place (i + 1) bytes fault h in omega arith) e

pub number_inside : (bytes : List ℕ) (fault : NumberFault) → read_number bytes ≡ Err fault → number_place fault ≤ length bytes
unfolding read_number
number_inside bytes fault e = let h = groups_place 0 bytes fault e in omega arith

one_small : (n i : ℕ) → n < 256 → get_or (n ∷ []) i 0 < 256
one_small n zero h = h
one_small n (suc i) h = lit< tt

form_more : (k n i : ℕ) → ((i : ℕ) → get_or (form_in k (n / 128)) i 0 < 256) → get_or ((128 + n % 128) ∷ form_in k (n / 128)) i 0 < 256
form_more k n zero f = omega arith
form_more k n (suc i) f = f i

form_bytes : (k n : ℕ) → n < limit k → (i : ℕ) → get_or (form_in (suc k) n) i 0 < 256
form_bytes zero n h i =
    let s : n < 128 = omega arith in
    subst (λ (bs : List ℕ). get_or bs i 0 < 256) (sym (one_byte 0 n s)) (one_small n i (omega arith))
form_bytes (suc k) n h i =
    ⊎_elim
    (λ s. subst (λ (bs : List ℕ). get_or bs i 0 < 256) (sym (one_byte (suc k) n s)) (one_small n i (omega arith)))
    (λ s. subst (λ (bs : List ℕ). get_or bs i 0 < 256) (sym (more_bytes (suc k) n s)) (form_more (suc k) n i (form_bytes k (n / 128) (omega arith))))
    (cases_lt n 128)

pub is_bytes : (n : ℕ) → n < 2 ^ 32 → Bytes (byte_form n)
unfolding byte_form
is_bytes n h = form_bytes 4 n h

only_form : (bytes : List ℕ) (n : ℕ) → Bytes bytes → read_number bytes ≡ Ok (n, length bytes) → bytes ≡ byte_form n
only_form bytes n f r =
    (begins_with_form bytes n (length bytes) f r).2 ∙ ap (λ (bs : List ℕ). byte_form n ++ bs) (drop_all (length bytes) bytes (omega arith)) ∙ append-nil (byte_form n)

pub one_form : OneForm
one_form = record {
  reads_back = λ n rest h. (reads_back n rest h, drop_at (byte_form n) rest (length (byte_form n)) refl);
  is_bytes = is_bytes;
  begins_with_form = begins_with_form;
  only_form = only_form;
  bad_stays = bad_stays;
  cut_front = cut_front;
}
