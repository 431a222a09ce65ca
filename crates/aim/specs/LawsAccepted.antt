-- What it tells that a planner does not refuse.
use Rattle.std.specs.Prelude.{ℕ, ◌+◌, ◌≡◌, refl, Bool, true, false, not, List, get_or}
use Rattle.std.proofs.Common.{arith}
use Rattle.words.specs.Choice.{pick}
use Rattle.words.specs.LawsTests.{not_holds}
use Rattle.device.specs.declared.Device.{Device}
use Rattle.device.specs.Record.{device_ok, fits}
use Rattle.device.specs.Memory.{device_id, image_ok, reading_ok, protected}
use Rattle.aim.specs.Refusal.{config_ok, update_number, fresh_number}

pub record Accepted (d : Device) (image reading : List ℕ) : Type 0 where
  pub device : device_ok d ≡ true
  pub image_sound : image_ok d.words image ≡ true
  pub reading_sound : reading_ok d.words reading ≡ true
  pub unprotected : protected d.words reading ≡ false
  pub config : config_ok d image reading ≡ true

pub accepted : (d : Device) (image reading : List ℕ) → update_number d image reading ≡ 0 → Accepted d image reading
unfolding update_number pick
accepted d image reading e =
    by (device_ok d) refl (image_ok d.words image) refl (reading_ok d.words reading) refl (fits d (get_or reading (d.words + device_id) 0)) (not (protected d.words reading)) refl
    (config_ok d image reading) refl e
  where
    by : (a : Bool) → device_ok d ≡ a → (b : Bool) → image_ok d.words image ≡ b → (c : Bool) → reading_ok d.words reading ≡ c → (o : Bool)
        → (p : Bool) → not (protected d.words reading) ≡ p → (q : Bool) → config_ok d image reading ≡ q
        → pick {A = ℕ} a (pick b (pick c (pick o (pick p (pick q 0 24) 23) 22) 21) 20) 13 ≡ 0 → Accepted d image reading
    by false ea b eb c ec o p ep q eq z = absurd (omega arith)
    by true ea false eb c ec o p ep q eq z = absurd (omega arith)
    by true ea true eb false ec o p ep q eq z = absurd (omega arith)
    by true ea true eb true ec false p ep q eq z = absurd (omega arith)
    by true ea true eb true ec true false ep q eq z = absurd (omega arith)
    by true ea true eb true ec true true ep false eq z = absurd (omega arith)
    by true ea true eb true ec true true ep true eq z =
        record { device = ea; image_sound = eb; reading_sound = ec; unprotected = not_holds (protected d.words reading) ep; config = eq }

pub record AcceptedFresh (d : Device) (image : List ℕ) : Type 0 where
  pub device : device_ok d ≡ true
  pub image_sound : image_ok d.words image ≡ true

pub accepted_fresh : (d : Device) (image : List ℕ) (id_word : ℕ) → fresh_number d image id_word ≡ 0 → AcceptedFresh d image
unfolding fresh_number pick
accepted_fresh d image id_word e = by (device_ok d) refl (image_ok d.words image) refl (fits d id_word) e
  where
    by : (a : Bool) → device_ok d ≡ a → (b : Bool) → image_ok d.words image ≡ b → (o : Bool) → pick {A = ℕ} a (pick b (pick o 0 22) 20) 13 ≡ 0 → AcceptedFresh d image
    by false ea b eb o z = absurd (omega arith)
    by true ea false eb o z = absurd (omega arith)
    by true ea true eb false z = absurd (omega arith)
    by true ea true eb true z = record { device = ea; image_sound = eb }
