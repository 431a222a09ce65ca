-- The round trip the other way: what a text gives is what the text written of it gives.
use Rattle.std.specs.Prelude.{ℕ, ◌+◌, ◌≡◌, List, length}
use Rattle.device.specs.declared.Device.{Device}
use Rattle.device.specs.Memory.{reading_tail}
use Rattle.hexread.specs.Reader.{text_read}
use Rattle.hexwrite.specs.Writer.{hex_text}
use Rattle.hexread.specs.LawsImage.{read_image_ok}
use Rattle.hexround.specs.LawsRoundTrip.{read_again}

-- a text that is read without refusal gives an image whose text reads to that image
pub read_written_read : (d : Device) (text buffer other : List ℕ) → (text_read d text buffer).number ≡ 0 → length other ≡ d.words + reading_tail
    → text_read d (hex_text d.words (text_read d text buffer).image) other ≡ record { number = 0; line = 0; column = 0; image = (text_read d text buffer).image }
read_written_read d text buffer other e long = read_again d text buffer other e (read_image_ok d text buffer e) long
