-- A blank tape, filled from bytes.
use Rattle.std.proofs.Common.{◌≡◌, ℕ, true, false, ltb, List, [], map, length, vec_items, Option, Result, sym, ap, ◌∙◌, ap₂}
use Rattle.std.proofs.lemmas.Bool.{cond-true, cond-false}
use Rattle.tape.specs.declared.fault.HeadingFault.{HeadingFault}
use Rattle.tape.specs.declared.fault.ProgramFault.{ProgramFault}
use Rattle.tape.specs.declared.fault.ProgramFault.TheVariants as program
use Rattle.tape.specs.declared.heading.Heading.{Heading}
use Rattle.tape.specs.declared.item.Item.{Item}
use Rattle.tape.specs.declared.reading.Tape.{Tape}
use Rattle.tape.specs.Faults.{most_bytes}
use Rattle.tape.specs.Headings.{heading_at}
use Rattle.tape.specs.Items.{Said, said}
use Rattle.tape.specs.Spots.{Spot}
use Rattle.tape.specs.Tapes.{unread, after_heading, tape_says, stopped}
use Rattle.tape.proofs.Backs.{at}
use Rattle.std.proofs.lemmas.Result.{err_from_is_err_and}
use Rattle.tape.proofs.Shrinks.{heading_left}

-- What a tape reads as, by its parts.
pub parts_of : (tape : Tape) (h : Option Heading) (items : List Said) (was fault : Option ProgramFault) → tape.heading ≡ h → map said (vec_items tape.items) ≡ items → was ≡ fault
    → stopped tape was ≡ record { heading = h; items = items; fault = fault }
parts_of tape h items was fault eh ei ef =
    ap (λ x. record { heading = x; items = map said (vec_items tape.items); fault = was }) eh
    ∙ ap₂ (λ x y. record { heading = h; items = x; fault = y }) ei ef

pub says_long : (tape : List ℕ) → ltb most_bytes (length tape) ≡ true → tape_says tape ≡ unread program.TooLong
unfolding tape_says
says_long tape h = cond-true _ _ _ h

pub says_headed : (tape : List ℕ) (r : Result (Heading × Spot) HeadingFault) → ltb most_bytes (length tape) ≡ false → r ≡ heading_at (at 0 tape) → tape_says tape ≡ after_heading r
unfolding tape_says
says_headed tape r h e = cond-false _ _ _ h ∙ ap after_heading (sym e)

pub blank_items : (items : List Item) → items ≡ [] → map said items ≡ []
blank_items items e = ap (map said) e

-- What filling a tape is proved with.
pub ruleset fills = (parts_of, says_long, says_headed, blank_items, err_from_is_err_and, heading_left)
