-- Every remark that is read of a tape is listed as its very bytes.
use Rattle.std.proofs.Common.{List, [], ◌∷◌, All}
use Rattle.std.proofs.lemmas.List.Elements.{All-nil, All-cons}
use Rattle.std.proofs.lemmas.Str.{encodes-IsAscii}
use Rattle.tape.specs.Items.{Said, start, read, write, seal, put, quit, look, remark}
use Rattle.tape.specs.Written.{SoundItem, SoundItems}
use Rattle.tape.proofs.Bytes.{remark_ascii}
use Rattle.tape.proofs.Wholes.{one_tape}
use Rattle.listing.specs.Lines.{Stands, RemarksStand}

-- A sound item stands.
stands : (it : Said) → SoundItem it → Stands it
stands (start job) s = tt
stands (read job word) s = tt
stands (write job word value) s = tt
stands (seal job) s = tt
stands (put job) s = tt
stands (quit job) s = tt
stands (look job) s = tt
stands (remark bytes) s = encodes-IsAscii bytes (remark_ascii bytes s.1)

-- So do sound items.
all_stand : (items : List Said) → SoundItems items → All Stands items
all_stand [] s = All-nil Stands
all_stand (it ∷ items) s = All-cons Stands it items (stands it s.0) (all_stand items s.1)

pub remarks_stand : RemarksStand
remarks_stand tape f = all_stand _ (one_tape.sound_items tape f)
