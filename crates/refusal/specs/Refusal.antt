-- The refusals and their numbers ('Refusal numbers'; 17, 18 and 19 are those of #105 and #106).
use Rattle.std.specs.Prelude.{ℕ, Result, Ok, Err}
use Rattle.refusal.specs.declared.Refusal.{Refusal}
use Rattle.refusal.specs.declared.Refusal.TheVariants.{TextTooLong, NotARecord, WrongSum, UnknownType, WrongLengthOrAddress, OddData, NoSuchWord, WordTooLarge, GivenBefore, NoEndRecord, AfterEndRecord, BufferLength, DeviceRecord, Sheet, Table, UnknownId, PartTooLarge, WrongName, WrongSheetSum}
use Rattle.refusal.specs.declared.Refusal.TheVariants.{Image, Reading, WrongBoard, ProtectedBoard, ConfigurationRises, NoRoom, UnknownCode, BadPayload, Cells, BulkEraseOutOfReach, BrokenStream, NoRoomForWord}

-- the number of a refusal
abbrev pub number_of : Refusal → ℕ
number_of TextTooLong = 1
number_of NotARecord = 2
number_of WrongSum = 3
number_of UnknownType = 4
number_of WrongLengthOrAddress = 5
number_of OddData = 6
number_of NoSuchWord = 7
number_of WordTooLarge = 8
number_of GivenBefore = 9
number_of NoEndRecord = 10
number_of AfterEndRecord = 11
number_of BufferLength = 12
number_of DeviceRecord = 13
number_of Sheet = 14
number_of Table = 15
number_of UnknownId = 16
number_of PartTooLarge = 17
number_of WrongName = 18
number_of WrongSheetSum = 19
number_of Image = 20
number_of Reading = 21
number_of WrongBoard = 22
number_of ProtectedBoard = 23
number_of ConfigurationRises = 24
number_of NoRoom = 26
number_of UnknownCode = 30
number_of BadPayload = 31
number_of Cells = 32
number_of BulkEraseOutOfReach = 33
number_of BrokenStream = 34
number_of NoRoomForWord = 35

-- the number that an answer tells: 0, or that of its refusal
abbrev pub number_in : {T : Type 0} → Result T Refusal → ℕ
number_in (Ok _) = 0
number_in (Err e) = number_of e

-- the value that an answer tells: beside a refusal the one that is given for it
abbrev pub value_in : {T : Type 0} → T → Result T Refusal → T
value_in none (Ok v) = v
value_in none (Err _) = none
