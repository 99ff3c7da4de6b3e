-- One byte of a number: the four ways in which it is read, and what a reading adds to the groups before it.
use Rattle.std.proofs.lemmas.List.{at_drop_more, at_drop_all}
use Rattle.std.proofs.Common.{◌≡◌, ℕ, zero, suc, ◌+◌, ◌*◌, ◌%◌, ◌^◌, ◌<◌, ◌≤◌, true, false, List, ◌∷◌, Ok, Err, Result, ⊎_elim, arith}
use Rattle.std.proofs.lemmas.Bool.{ne_eqb, lt-ltb, le-ltb, cases_eq, cases_lt, and_right, and_left}
use Rattle.std.proofs.lemmas.Bool.Decides.{nat_tests}
use Rattle.tape_number.specs.declared.fault.NumberFault.{NumberFault}
use Rattle.tape_number.specs.declared.fault.NumberFault.TheVariants.{Form}
use Rattle.tape_number.specs.Numbers.{over_top, padded, below, read_groups}

pub fits_top : (i byte : ℕ) → (i ≡ 4 → byte ≤ 15) → over_top i byte ≡ false
fits_top i byte low = ⊎_elim (λ e. and_right _ _ (le-ltb 15 byte (low e))) (λ ne. and_left _ _ (ne_eqb i 4 ne)) (cases_eq i 4)

pub not_padded : (i byte : ℕ) → (0 < i → byte ≡ 0 → ⊥) → padded i byte ≡ false
not_padded i byte f = ⊎_elim (λ h. and_right _ _ (ne_eqb byte 0 (f h))) (λ h. and_left _ _ (le-ltb 0 i h)) (cases_lt 0 i)

pub low_top : (i b : ℕ) → over_top i b ≡ false → i ≡ 4 → b ≤ 15
low_top i b e q = grind (arith, nat_tests)

pub not_zero : (i b : ℕ) → padded i b ≡ false → 0 < i → 0 < b
not_zero i b e h = grind (arith, nat_tests)

pub read_high : (i byte : ℕ) (bytes : List ℕ) → over_top i byte ≡ true → read_groups i (byte ∷ bytes) ≡ Err (Form 0)
read_high i byte bytes top = rw top

pub read_padded : (i byte : ℕ) (bytes : List ℕ) → over_top i byte ≡ false → byte < 128 → padded i byte ≡ true → read_groups i (byte ∷ bytes) ≡ Err (Form 0)
read_padded i byte bytes top last pad = rw (top, lt-ltb byte 128 last, pad)

pub read_last : (i byte : ℕ) (bytes : List ℕ) → over_top i byte ≡ false → byte < 128 → padded i byte ≡ false → read_groups i (byte ∷ bytes) ≡ Ok (byte, i + 1)
read_last i byte bytes top last pad = rw (top, lt-ltb byte 128 last, pad)

pub read_more : (i byte : ℕ) (bytes : List ℕ) → over_top i byte ≡ false → 128 ≤ byte → read_groups i (byte ∷ bytes) ≡ below (byte % 128) (read_groups (i + 1) bytes)
read_more i byte bytes top high = rw (top, le-ltb byte 128 high)

-- What the later groups say, put above `sum`, which the groups before them made; `weight` is the weight of the first of them.
abbrev pub above : (weight sum : ℕ) → Result (ℕ × ℕ) NumberFault → Result (ℕ × ℕ) NumberFault
above weight sum (Ok x) = Ok (sum + x.0 * weight, x.1)
above weight sum (Err fault) = Err fault

-- A group fits above what is there: below the fifth, or a fifth of at most 15.
pub fits_group : (i w a d : ℕ) → i ≤ 4 → w ≡ 128 ^ i → a < w → d < 128 → (i ≡ 4 → d ≤ 15) → (d * w < 2 ^ 32) × (a + d * w < 2 ^ 32) × (a + d * w < w * 128)
fits_group zero w a d h e l m n = rw e (omega arith, omega arith, omega arith)
fits_group (suc zero) w a d h e l m n = rw e (omega arith, omega arith, omega arith)
fits_group (suc (suc zero)) w a d h e l m n = rw e (omega arith, omega arith, omega arith)
fits_group (suc (suc (suc zero))) w a d h e l m n = rw e (omega arith, omega arith, omega arith)
fits_group (suc (suc (suc (suc zero)))) w a d h e l m n = rw e (omega arith, omega arith, omega arith)
fits_group (suc (suc (suc (suc (suc i))))) w a d h e l m n = absurd (omega arith)

-- A fault of the later groups is the fault of all.
pub below_err : (d : ℕ) (r : Result (ℕ × ℕ) NumberFault) (fault : NumberFault) → below d r ≡ Err fault → r ≡ Err fault
below_err d (Ok x) fault e = let z : ◌≡◌ {A = ℕ} 0 1 = cc in absurd (omega arith)
below_err d (Err f) fault e = e

-- What reading a number byte by byte is proved with.
pub ruleset groups = (read_high, read_padded, read_last, low_top, fits_group, at_drop_more, at_drop_all)
