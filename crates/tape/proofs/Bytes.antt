-- What is written down is bytes.
use Rattle.std.proofs.Common.{◌≡◌, ℕ, zero, suc, ◌<◌, List, [], ◌∷◌, ◌++◌, length, get_or, sym, subst, ⊎_elim, arith, lit<}
use Rattle.std.proofs.lemmas.List.{get_or_past}
use Rattle.std.proofs.lemmas.List.Sums.{prefix_len_passes}
use Rattle.std.proofs.lemmas.Bool.{cases_lt}
use Rattle.std.proofs.lemmas.Bool.Decides.{nat_tests}
use Rattle.std.specs.List.{flat_map}
use Rattle.tape.specs.declared.heading.Heading.{Heading}
use Rattle.tape.specs.declared.kind.ItemKind.{ItemKind}
use Rattle.tape.specs.declared.kind.ItemKind.TheVariants as item
use Rattle.tape.specs.Items.{Said, start, read, write, seal, put, quit, look, remark, printable, printable_front}
use Rattle.tape.specs.Kinds.{item_code}
use Rattle.tape_number.specs.Numbers.{Bytes}
use Rattle.tape.specs.Written.{kind_of, fields_form, item_form, SoundItem, SoundItems, heading_form, SoundHeading, written}
use Rattle.tape_number.proofs.Forms.{is_bytes}
use Rattle.tape.proofs.Backs.{manager_known, store_known, fit_word, short}

both : (a b : List ℕ) → Bytes a → Bytes b → Bytes (a ++ b)
both [] b f g k = g k
both (x ∷ a) b f g zero = f 0
both (x ∷ a) b f g (suc k) = both a b (λ i. f (suc i)) g k

first : (x : ℕ) (xs : List ℕ) → x < 256 → Bytes xs → Bytes (x ∷ xs)
first x xs h f zero = h
first x xs h f (suc k) = f k

code_byte : (k : ItemKind) → item_code k < 256
code_byte item.Start = lit< tt
code_byte item.Read = lit< tt
code_byte item.Write = lit< tt
code_byte item.Seal = lit< tt
code_byte item.Put = lit< tt
code_byte item.Quit = lit< tt
code_byte item.Look = lit< tt
code_byte item.Remark = lit< tt

-- The bytes of a remark are ASCII.
pub remark_ascii : (bytes : List ℕ) → printable_front bytes ≡ length bytes → (k : ℕ) → get_or bytes k 0 < 128
remark_ascii bytes e k =
    ⊎_elim
    (λ h. let p = prefix_len_passes printable bytes k 0 (omega arith) in grind (arith, nat_tests))
    (λ h. subst (λ x. x < 128) (sym (get_or_past bytes k 0 h)) (lit< tt))
    (cases_lt k (length bytes))

remark_bytes : (bytes : List ℕ) → printable_front bytes ≡ length bytes → Bytes bytes
remark_bytes bytes e k = let h = remark_ascii bytes e k in omega arith

fields_bytes : (it : Said) → SoundItem it → Bytes (fields_form it)
fields_bytes (start job) s = is_bytes job s
fields_bytes (read job word) s = both _ _ (is_bytes job s.0) (is_bytes word s.1)
fields_bytes (write job word value) s = both _ _ (is_bytes job s.0) (both _ _ (is_bytes word s.1) (is_bytes value s.2))
fields_bytes (seal job) s = is_bytes job s
fields_bytes (put job) s = is_bytes job s
fields_bytes (quit job) s = is_bytes job s
fields_bytes (look job) s = is_bytes job s
fields_bytes (remark bytes) s = both _ _ (is_bytes (length bytes) (short (length bytes) s.0)) (remark_bytes bytes s.1)

item_bytes : (it : Said) → SoundItem it → Bytes (item_form it)
unfolding item_form
item_bytes it s = first (item_code (kind_of it)) (fields_form it) (code_byte (kind_of it)) (fields_bytes it s)

items_bytes : (items : List Said) → SoundItems items → Bytes (flat_map item_form items)
items_bytes [] s = λ k. lit< tt
items_bytes (it ∷ items) s = both (item_form it) (flat_map item_form items) (item_bytes it s.0) (items_bytes items s.1)

heading_bytes : (h : Heading) → SoundHeading h → Bytes (heading_form h)
unfolding heading_form
heading_bytes h s =
    both _ _ (is_bytes _ (manager_known h.manager).1)
    (both _ _ (is_bytes _ (store_known h.store).1)
    (both _ _ (is_bytes _ (fit_word h.store h.words s.0)) (both _ _ (is_bytes _ s.1) (is_bytes _ s.2))))

pub written_bytes : (h : Heading) (items : List Said) → SoundHeading h → SoundItems items → Bytes (written h items)
written_bytes h items sh si = both (heading_form h) (flat_map item_form items) (heading_bytes h sh) (items_bytes items si)
