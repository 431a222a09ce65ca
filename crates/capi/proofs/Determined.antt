-- For each call: two results that its promise allows are equal, the number and the later content of every place that was lent.
use mathlib.Core.Path.{◌≡◌, ap}
use Rattle.words.specs.LawsPromise.{determined}
use Rattle.capi.proofs.boards.tickmallet_checksum.Reads as checksum
use Rattle.capi.proofs.boards.tickmallet_verify.Reads as verify
use Rattle.capi.proofs.boards.tickmallet_read_id.Reads as read_id
use Rattle.capi.proofs.boards.tickmallet_read_sheet.Reads as read_sheet
use Rattle.capi.proofs.boards.tickmallet_write_sheet.Reads as write_sheet
use Rattle.capi.proofs.boards.tickmallet_write_new_sheet.Reads as write_new_sheet
use Rattle.capi.proofs.moved.tickmallet_to_new.Reads as to_new
use Rattle.capi.proofs.moved.tickmallet_to_old.Reads as to_old
use Rattle.capi.proofs.hex.tickmallet_read_hex.Reads as read_hex
use Rattle.capi.proofs.hex.tickmallet_write_hex.Reads as write_hex
use Rattle.capi.proofs.model.tickmallet_run.Reads as run
use Rattle.capi.proofs.record.tickmallet_find_device.Reads as find_device
use Rattle.capi.proofs.streams.tickmallet_update.Reads as update
use Rattle.capi.proofs.streams.tickmallet_fresh.Reads as fresh
use Rattle.capi.proofs.streams.tickmallet_read_back.Reads as read_back

-- the sum is the third parameter
pub checksum_determined : (κs : _) (a : _) (r s : _) (x y : _) → checksum.Post κs a r x → checksum.Post κs a s y → (r ≡ s) × (x.1.1.0.now ≡ y.1.1.0.now)
checksum_determined κs a r s x y p q = let e = determined p q in (ap (λ v. v.number) e, ap (λ v. v.sum) e)

-- the address is the fourth parameter, the count the fifth
pub verify_determined : (κs : _) (a : _) (r s : _) (x y : _) → verify.Post κs a r x → verify.Post κs a s y
    → (r ≡ s) × (x.1.1.1.0.now ≡ y.1.1.1.0.now) × (x.1.1.1.1.0.now ≡ y.1.1.1.1.0.now)
verify_determined κs a r s x y p q = let e = determined p q in (ap (λ v. v.number) e, ap (λ v. v.address.0) e, ap (λ v. v.count) e)

-- the ID is the second parameter
pub read_id_determined : (κs : _) (a : _) (r s : _) (x y : _) → read_id.Post κs a r x → read_id.Post κs a s y → (r ≡ s) × (x.1.0.now ≡ y.1.0.now)
read_id_determined κs a r s x y p q = let e = determined p q in (ap (λ v. v.number) e, ap (λ v. v.id) e)

-- the buffer is the third parameter
pub read_sheet_determined : (κs : _) (a : _) (r s : _) (x y : _) → read_sheet.Post κs a r x → read_sheet.Post κs a s y → (r ≡ s) × (x.1.1.1.0.now ≡ y.1.1.1.0.now)
read_sheet_determined κs a r s x y p q = (determined p.0 q.0, determined p.1 q.1)

-- the text is the third parameter, its length the fourth
pub write_sheet_determined : (κs : _) (a : _) (r s : _) (x y : _) → write_sheet.Post κs a r x → write_sheet.Post κs a s y
    → (r ≡ s) × (x.1.1.0.now ≡ y.1.1.0.now) × (x.1.1.1.0.now ≡ y.1.1.1.0.now)
write_sheet_determined κs a r s x y p q = let e = determined p.0 q.0 in (ap (λ v. v.number) e, determined p.1 q.1, ap (λ v. v.length) e)

-- the text is the fourth parameter, its length the fifth
pub write_new_sheet_determined : (κs : _) (a : _) (r s : _) (x y : _) → write_new_sheet.Post κs a r x → write_new_sheet.Post κs a s y
    → (r ≡ s) × (x.1.1.1.0.now ≡ y.1.1.1.0.now) × (x.1.1.1.1.0.now ≡ y.1.1.1.1.0.now)
write_new_sheet_determined κs a r s x y p q = let e = determined p.0 q.0 in (ap (λ v. v.number) e, determined p.1 q.1, ap (λ v. v.length) e)

-- the text is the third parameter, its length the fourth
pub to_new_determined : (κs : _) (a : _) (r s : _) (x y : _) → to_new.Post κs a r x → to_new.Post κs a s y
    → (r ≡ s) × (x.1.1.0.now ≡ y.1.1.0.now) × (x.1.1.1.0.now ≡ y.1.1.1.0.now)
to_new_determined κs a r s x y p q = let e = determined p.0 q.0 in (ap (λ v. v.number) e, determined p.1 q.1, ap (λ v. v.length) e)

pub to_old_determined : (κs : _) (a : _) (r s : _) (x y : _) → to_old.Post κs a r x → to_old.Post κs a s y
    → (r ≡ s) × (x.1.1.0.now ≡ y.1.1.0.now) × (x.1.1.1.0.now ≡ y.1.1.1.0.now)
to_old_determined κs a r s x y p q = let e = determined p.0 q.0 in (ap (λ v. v.number) e, determined p.1 q.1, ap (λ v. v.length) e)

-- the image is the third parameter, the line the fourth, the column the fifth
pub read_hex_determined : (κs : _) (a : _) (r s : _) (x y : _) → read_hex.Post κs a r x → read_hex.Post κs a s y
    → (r ≡ s) × (x.1.1.0.now ≡ y.1.1.0.now) × (x.1.1.1.0.now ≡ y.1.1.1.0.now) × (x.1.1.1.1.0.now ≡ y.1.1.1.1.0.now)
read_hex_determined κs a r s x y p q =
    let e = determined p.answer q.answer in
    (ap (λ v. v.number) e, determined p.image_is q.image_is, ap (λ v. v.line) e, ap (λ v. v.column) e)

-- the text is the third parameter, its length the fourth
pub write_hex_determined : (κs : _) (a : _) (r s : _) (x y : _) → write_hex.Post κs a r x → write_hex.Post κs a s y
    → (r ≡ s) × (x.1.1.0.now ≡ y.1.1.0.now) × (x.1.1.1.0.now ≡ y.1.1.1.0.now)
write_hex_determined κs a r s x y p q =
    let e = determined p.answer q.answer in (ap (λ v. v.number) e, determined p.bytes q.bytes, ap (λ v. v.length) e)

-- the cells are the second parameter, the words the fifth, then the steps and the count of words read
pub run_determined : (κs : _) (a : _) (r s : _) (x y : _) → run.Post κs a r x → run.Post κs a s y
    → (r ≡ s) × (x.1.0.now ≡ y.1.0.now) × (x.1.1.1.1.0.now ≡ y.1.1.1.1.0.now)
    × (x.1.1.1.1.1.0.now ≡ y.1.1.1.1.1.0.now) × (x.1.1.1.1.1.1.0.now ≡ y.1.1.1.1.1.1.0.now)
run_determined κs a r s x y p q =
    let e = determined p.answers q.answers in
    (ap (λ v. v.number) e, determined p.cells_left q.cells_left, determined p.words_read q.words_read, ap (λ v. v.steps) e, ap (λ v. v.words) e)

-- the record is the third parameter, then the name's place and length
pub find_device_determined : (κs : _) (a : _) (r s : _) (x y : _) → find_device.Post κs a r x → find_device.Post κs a s y
    → (r ≡ s) × (x.1.1.0.now ≡ y.1.1.0.now) × (x.1.1.1.0.now ≡ y.1.1.1.0.now) × (x.1.1.1.1.0.now ≡ y.1.1.1.1.0.now)
find_device_determined κs a r s x y p q =
    (determined p.answers q.answers, determined p.device q.device, determined p.name_at_lem q.name_at_lem, determined p.name_len_lem q.name_len_lem)

-- the stream is the fourth parameter, its steps the fifth
pub update_determined : (κs : _) (a : _) (r s : _) (x y : _) → update.Post κs a r x → update.Post κs a s y
    → (r ≡ s) × (x.1.1.1.0.now ≡ y.1.1.1.0.now) × (x.1.1.1.1.0.now ≡ y.1.1.1.1.0.now)
update_determined κs a r s x y p q =
    let e = determined p.answers q.answers in (ap (λ v. v.number) e, determined p.written q.written, ap (λ v. v.steps) e)

-- the stream is the fourth parameter, its steps the fifth
pub fresh_determined : (κs : _) (a : _) (r s : _) (x y : _) → fresh.Post κs a r x → fresh.Post κs a s y
    → (r ≡ s) × (x.1.1.1.0.now ≡ y.1.1.1.0.now) × (x.1.1.1.1.0.now ≡ y.1.1.1.1.0.now)
fresh_determined κs a r s x y p q =
    let e = determined p.answers q.answers in (ap (λ v. v.number) e, determined p.written q.written, ap (λ v. v.steps) e)

-- the stream is the second parameter, its steps the third
pub read_back_determined : (κs : _) (a : _) (r s : _) (x y : _) → read_back.Post κs a r x → read_back.Post κs a s y
    → (r ≡ s) × (x.1.0.now ≡ y.1.0.now) × (x.1.1.0.now ≡ y.1.1.0.now)
read_back_determined κs a r s x y p q =
    let e = determined p.answers q.answers in (ap (λ v. v.number) e, determined p.written q.written, ap (λ v. v.steps) e)
