-- What an update and a fresh programming are refused with, room apart ('Refusal numbers': 13, 20, 21, 22, 23, 24).
use Rattle.std.specs.Prelude.{ℕ, ◌+◌, Bool, ◌&&◌, not, List, get_or}
use Rattle.words.specs.Choice.{unless}
use Rattle.device.specs.declared.Device.{Device}
use Rattle.device.specs.Record.{device_ok, fits}
use Rattle.device.specs.Memory.{device_id, image_ok, reading_ok, protected}
use Rattle.aim.specs.Wanted.{wanted, only_clears}

-- both configuration words, since nothing erases them in an update
unfoldable pub config_ok : Device → (image reading : List ℕ) → Bool
config_ok d image reading =
    only_clears (wanted d image reading (d.words + 7)) (get_or reading (d.words + 7) 0)
    && only_clears (wanted d image reading (d.words + 8)) (get_or reading (d.words + 8) 0)

unfoldable pub update_number : Device → (image reading : List ℕ) → ℕ
update_number d image reading =
    unless (device_ok d) 13
    (unless (image_ok d.words image) 20
    (unless (reading_ok d.words reading) 21
    (unless (fits d (get_or reading (d.words + device_id) 0)) 22
    (unless (not (protected d.words reading)) 23
    (unless (config_ok d image reading) 24
    0)))))

unfoldable pub fresh_number : Device → (image : List ℕ) → (id_word : ℕ) → ℕ
fresh_number d image id_word =
    unless (device_ok d) 13
    (unless (image_ok d.words image) 20
    (unless (fits d id_word) 22
    0))
