-- Laws of refusals and answers: their numbers tell them apart.
use Rattle.std.specs.Prelude.{ℕ, Result, Ok, Err, cond, eqb, ◌≡◌, ◌<◌, refl}
use Rattle.std.proofs.Common.{arith, sym, ap, ◌∙◌}
use Rattle.refusal.specs.declared.Refusal.{Refusal}
use Rattle.refusal.specs.declared.Refusal.TheVariants.{TextTooLong, NotARecord, WrongSum, UnknownType, WrongLengthOrAddress, OddData, NoSuchWord, WordTooLarge, GivenBefore, NoEndRecord, AfterEndRecord, BufferLength, DeviceRecord, Sheet, Table, UnknownId, PartTooLarge, WrongName, WrongSheetSum}
use Rattle.refusal.specs.declared.Refusal.TheVariants.{Image, Reading, WrongBoard, ProtectedBoard, ConfigurationRises, NoRoom, UnknownCode, BadPayload, Cells, BulkEraseOutOfReach, BrokenStream, NoRoomForWord}
use Rattle.refusal.specs.Refusal.{number_of, number_in, value_in}

-- the refusal of a number, where some refusal has it
refusal_of : ℕ → Refusal
refusal_of n =
    cond (eqb n 1) TextTooLong (
    cond (eqb n 2) NotARecord (
    cond (eqb n 3) WrongSum (
    cond (eqb n 4) UnknownType (
    cond (eqb n 5) WrongLengthOrAddress (
    cond (eqb n 6) OddData (
    cond (eqb n 7) NoSuchWord (
    cond (eqb n 8) WordTooLarge (
    cond (eqb n 9) GivenBefore (
    cond (eqb n 10) NoEndRecord (
    cond (eqb n 11) AfterEndRecord (
    cond (eqb n 12) BufferLength (
    cond (eqb n 13) DeviceRecord (
    cond (eqb n 14) Sheet (
    cond (eqb n 15) Table (
    cond (eqb n 16) UnknownId (
    cond (eqb n 17) PartTooLarge (
    cond (eqb n 18) WrongName (
    cond (eqb n 19) WrongSheetSum (
    cond (eqb n 20) Image (
    cond (eqb n 21) Reading (
    cond (eqb n 22) WrongBoard (
    cond (eqb n 23) ProtectedBoard (
    cond (eqb n 24) ConfigurationRises (
    cond (eqb n 26) NoRoom (
    cond (eqb n 30) UnknownCode (
    cond (eqb n 31) BadPayload (
    cond (eqb n 32) Cells (
    cond (eqb n 33) BulkEraseOutOfReach (
    cond (eqb n 34) BrokenStream (
    NoRoomForWord))))))))))))))))))))))))))))))

back : (e : Refusal) → refusal_of (number_of e) ≡ e
unfolding refusal_of
back TextTooLong = refl
back NotARecord = refl
back WrongSum = refl
back UnknownType = refl
back WrongLengthOrAddress = refl
back OddData = refl
back NoSuchWord = refl
back WordTooLarge = refl
back GivenBefore = refl
back NoEndRecord = refl
back AfterEndRecord = refl
back BufferLength = refl
back DeviceRecord = refl
back Sheet = refl
back Table = refl
back UnknownId = refl
back PartTooLarge = refl
back WrongName = refl
back WrongSheetSum = refl
back Image = refl
back Reading = refl
back WrongBoard = refl
back ProtectedBoard = refl
back ConfigurationRises = refl
back NoRoom = refl
back UnknownCode = refl
back BadPayload = refl
back Cells = refl
back BulkEraseOutOfReach = refl
back BrokenStream = refl
back NoRoomForWord = refl

-- two refusals of one number are one
pub number_of_unique : (a b : Refusal) → number_of a ≡ number_of b → a ≡ b
number_of_unique a b e = sym (back a) ∙ ap refusal_of e ∙ back b

-- no refusal has number 0
pub number_of_positive : (e : Refusal) → 0 < number_of e
number_of_positive TextTooLong = omega arith
number_of_positive NotARecord = omega arith
number_of_positive WrongSum = omega arith
number_of_positive UnknownType = omega arith
number_of_positive WrongLengthOrAddress = omega arith
number_of_positive OddData = omega arith
number_of_positive NoSuchWord = omega arith
number_of_positive WordTooLarge = omega arith
number_of_positive GivenBefore = omega arith
number_of_positive NoEndRecord = omega arith
number_of_positive AfterEndRecord = omega arith
number_of_positive BufferLength = omega arith
number_of_positive DeviceRecord = omega arith
number_of_positive Sheet = omega arith
number_of_positive Table = omega arith
number_of_positive UnknownId = omega arith
number_of_positive PartTooLarge = omega arith
number_of_positive WrongName = omega arith
number_of_positive WrongSheetSum = omega arith
number_of_positive Image = omega arith
number_of_positive Reading = omega arith
number_of_positive WrongBoard = omega arith
number_of_positive ProtectedBoard = omega arith
number_of_positive ConfigurationRises = omega arith
number_of_positive NoRoom = omega arith
number_of_positive UnknownCode = omega arith
number_of_positive BadPayload = omega arith
number_of_positive Cells = omega arith
number_of_positive BulkEraseOutOfReach = omega arith
number_of_positive BrokenStream = omega arith
number_of_positive NoRoomForWord = omega arith

-- two answers without a value that tell one number are one
pub number_in_unique : {T : Type 0} → ((x y : T) → x ≡ y) → (a b : Result T Refusal) → number_in a ≡ number_in b → a ≡ b
number_in_unique one (Ok x) (Ok y) e = ap Ok (one x y)
number_in_unique one (Ok x) (Err f) e = absurd (omega (arith, number_of_positive f))
number_in_unique one (Err d) (Ok y) e = absurd (omega (arith, number_of_positive d))
number_in_unique one (Err d) (Err f) e = ap Err (number_of_unique d f e)

-- two answers that tell one number and one value are one
pub answer_unique : {T : Type 0} (none : T) (a b : Result T Refusal) → number_in a ≡ number_in b → value_in none a ≡ value_in none b → a ≡ b
answer_unique none (Ok x) (Ok y) e v = ap Ok v
answer_unique none (Ok x) (Err f) e v = absurd (omega (arith, number_of_positive f))
answer_unique none (Err d) (Ok y) e v = absurd (omega (arith, number_of_positive d))
answer_unique none (Err d) (Err f) e v = ap Err (number_of_unique d f e)
