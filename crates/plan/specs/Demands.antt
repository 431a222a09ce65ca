-- What demands 2 and 3 and a read-back are to leave, as what is to be proved of a stream's bytes on the target model.
use Rattle.std.specs.Prelude.{ℕ, ◌+◌, ◌&&◌, List, ltb, length, get_or}
use Rattle.words.specs.Choice.{pick}
use Rattle.words.specs.Lists.{build}
use Rattle.device.specs.declared.Device.{Device}
use Rattle.device.specs.Memory.{reading_tail, programmable, protected}
use Rattle.aim.specs.Wanted.{wanted}

-- the cells that a stream is to leave: what can be programmed is as wanted, every other word is the first cells'
unfoldable pub programmed : Device → (image reading first : List ℕ) → List ℕ
programmed d image reading first = build (length first) (λ i. pick (programmable d.words i) (wanted d image reading i) (get_or first i 0))

-- what a read-back answers of the cells: the reading, with program words 0 while protected
unfoldable pub reading_of : Device → (cells : List ℕ) → List ℕ
reading_of d cells = build (d.words + reading_tail) (λ i. pick (ltb i d.words && protected d.words cells) 0 (get_or cells i 0))
