-- What the output does is the step of the writer: an operation whose bytes were appended is written, and what it changes besides is
-- noted.
use Rattle.std.proofs.Common.{◌≡◌, Result, Ok, Err, ap, ◌∙◌, arith}
use Rattle.ntx_num.specs.declared.answer.Fail.{Fail}
use Rattle.ntx_num.specs.declared.answer.Fail.TheVariants.{NoMemory, Is}
use Rattle.ntx_num.specs.Answer.{Steps}
use Rattle.ntx_dvi.specs.declared.full.DviFull.{DviFull}
use Rattle.ntx_dvi.specs.Operation.{Operation}
use Rattle.ntx_dvi.specs.Progress.{Progress, apart_from_place}
use Rattle.ntx_dvi.specs.Bytes.{operation_bytes}
use Rattle.ntx_dvi.specs.Output.{Room, append_step}
use Rattle.ntx_dvi.specs.Writer.{Writer, step}

-- the output of a writer
abbrev pub room_of : Writer → Room
room_of w = record { limit = w.limit; place = w.progress.place; waiting = w.waiting }

-- the writer with this output, whose progress is this one apart from the place
abbrev pub with_room : Progress → Room → Writer
with_room p room = record { limit = room.limit; progress = record p { place = room.place }; waiting = room.waiting }

-- an operation was written
pub step-appended : (operation : Operation) (w : Writer) (new : Room) (unit : Unit {0}) → append_step (operation_bytes w.progress operation) (room_of w) ≡ Ok (unit, new) → step operation w ≡ Ok (tt, with_room (apart_from_place w.progress operation) new)
unfolding step
step-appended operation w new unit h = grind arith

-- an operation was refused, or memory ran out
pub Steps-refused : (e : Fail DviFull) (operation : Operation) (w : Writer) (new : Room) → Steps (Err e) (room_of w) new (append_step (operation_bytes w.progress operation) (room_of w)) → Steps (Err e) w (with_room w.progress new) (step operation w)
unfolding step
Steps-refused (Is e) operation w new h = grind arith
Steps-refused NoMemory operation w new h = grind arith

-- an operation that changes no more than the file's length and bytes
pub Steps-appended : (r : Result (Unit {0}) (Fail DviFull)) (operation : Operation) (w : Writer) (new : Room) → apart_from_place w.progress operation ≡ w.progress → Steps r (room_of w) new (append_step (operation_bytes w.progress operation) (room_of w)) → Steps r w (with_room w.progress new) (step operation w)
Steps-appended (Ok a) operation w new same h =
    step-appended operation w new a h ∙ ap (λ (p : Progress). Ok (tt, with_room p new)) same
Steps-appended (Err e) operation w new same h = Steps-refused e operation w new h
