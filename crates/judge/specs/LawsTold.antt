-- Laws of a verdict as it is told: no refusal has the number of a verdict, so that two answers told alike are equal.
use Rattle.std.specs.Prelude.{ℕ, ◌<◌, ◌≡◌, Result, Ok, Err}
use Rattle.std.proofs.Common.{refl, arith, sym, ap, lit<}
use Rattle.refusal.specs.declared.Refusal.{Refusal}
use Rattle.refusal.specs.declared.Refusal.TheVariants.{TextTooLong, NotARecord, WrongSum, UnknownType, WrongLengthOrAddress, OddData, NoSuchWord, WordTooLarge, GivenBefore, NoEndRecord, AfterEndRecord, BufferLength, DeviceRecord, Sheet, Table, UnknownId, PartTooLarge, WrongName, WrongSheetSum}
use Rattle.refusal.specs.declared.Refusal.TheVariants.{Image, Reading, WrongBoard, ProtectedBoard, ConfigurationRises, NoRoom, UnknownCode, BadPayload, Cells, BulkEraseOutOfReach, BrokenStream, NoRoomForWord}
use Rattle.refusal.specs.Refusal.{number_of}
use Rattle.refusal.specs.LawsRefusal.{number_of_unique, number_of_positive}
use Rattle.judge.specs.declared.Verdict.{Verdict}
use Rattle.judge.specs.declared.Verdict.TheVariants.{Same, Differs, Protected}
use Rattle.judge.specs.Verify.{verdict_told}

below_40 : (e : Refusal) → number_of e < 40
below_40 TextTooLong = lit< tt
below_40 NotARecord = lit< tt
below_40 WrongSum = lit< tt
below_40 UnknownType = lit< tt
below_40 WrongLengthOrAddress = lit< tt
below_40 OddData = lit< tt
below_40 NoSuchWord = lit< tt
below_40 WordTooLarge = lit< tt
below_40 GivenBefore = lit< tt
below_40 NoEndRecord = lit< tt
below_40 AfterEndRecord = lit< tt
below_40 BufferLength = lit< tt
below_40 DeviceRecord = lit< tt
below_40 Sheet = lit< tt
below_40 Table = lit< tt
below_40 UnknownId = lit< tt
below_40 PartTooLarge = lit< tt
below_40 WrongName = lit< tt
below_40 WrongSheetSum = lit< tt
below_40 Image = lit< tt
below_40 Reading = lit< tt
below_40 WrongBoard = lit< tt
below_40 ProtectedBoard = lit< tt
below_40 ConfigurationRises = lit< tt
below_40 NoRoom = lit< tt
below_40 UnknownCode = lit< tt
below_40 BadPayload = lit< tt
below_40 Cells = lit< tt
below_40 BulkEraseOutOfReach = lit< tt
below_40 BrokenStream = lit< tt
below_40 NoRoomForWord = lit< tt

-- a refusal is not told as a verdict
no_verdict : (e : Refusal) (v : Verdict) → verdict_told (Err e) ≡ verdict_told (Ok v) → ⊥
no_verdict e Same p = let n : 0 < number_of e = number_of_positive e in let z : number_of e ≡ 0 = ap (λ x. x.number) p in omega arith
no_verdict e (Differs a k) p = let n : number_of e < 40 = below_40 e in let z : number_of e ≡ 40 = ap (λ x. x.number) p in omega arith
no_verdict e Protected p = let n : number_of e < 40 = below_40 e in let z : number_of e ≡ 41 = ap (λ x. x.number) p in omega arith

-- two answers that are told alike are equal
pub verdict_unique : (a b : Result Verdict Refusal) → verdict_told a ≡ verdict_told b → a ≡ b
verdict_unique (Err e) (Err f) p = ap Err (number_of_unique e f (ap (λ x. x.number) p))
verdict_unique (Err e) (Ok v) p = absurd (no_verdict e v p)
verdict_unique (Ok v) (Err e) p = absurd (no_verdict e v (sym p))
verdict_unique (Ok Same) (Ok Same) p = refl
verdict_unique (Ok Same) (Ok (Differs a k)) p = let z : ◌≡◌ {A = ℕ} 0 40 = ap (λ x. x.number) p in absurd (omega (arith, z))
verdict_unique (Ok Same) (Ok Protected) p = let z : ◌≡◌ {A = ℕ} 0 41 = ap (λ x. x.number) p in absurd (omega (arith, z))
verdict_unique (Ok (Differs a k)) (Ok Same) p = let z : ◌≡◌ {A = ℕ} 40 0 = ap (λ x. x.number) p in absurd (omega (arith, z))
verdict_unique (Ok (Differs a k)) (Ok (Differs b l)) p = λ i. Ok (Differs (p i).address (p i).count)
verdict_unique (Ok (Differs a k)) (Ok Protected) p = let z : ◌≡◌ {A = ℕ} 40 41 = ap (λ x. x.number) p in absurd (omega (arith, z))
verdict_unique (Ok Protected) (Ok Same) p = let z : ◌≡◌ {A = ℕ} 41 0 = ap (λ x. x.number) p in absurd (omega (arith, z))
verdict_unique (Ok Protected) (Ok (Differs b l)) p = let z : ◌≡◌ {A = ℕ} 41 40 = ap (λ x. x.number) p in absurd (omega (arith, z))
verdict_unique (Ok Protected) (Ok Protected) p = refl
