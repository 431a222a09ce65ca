-- The numbers of a chip that the model goes by, and this family's, made of its device record.
use Rattle.std.specs.Prelude.{ℕ, Bool, true, false, ◌||◌, ltb}
use Rattle.std.specs.Int.Bits.{bit_and}
use Rattle.words.specs.Word.{under_mask}
use Rattle.words.specs.Address.{config_base, entry_of}
use Rattle.device.specs.declared.Device.{Device}
use Rattle.device.specs.Memory

pub record Chip : Type 0 where
  -- program words; the words that Row Erase covers; the words that one write covers, and how many such sets a row has; the latches that are carried along
  pub words : ℕ
  pub row : ℕ
  pub group : ℕ
  pub sets : ℕ
  pub places : ℕ
  -- where configuration space begins, how many of its words a reading and the cells have, and the cell that an address has
  pub base : ℕ
  pub reading_tail : ℕ
  pub cells_tail : ℕ
  pub cell : ℕ → ℕ
  -- which of the cells past the program words, counted from 0: the word and the bit of CP, how many user IDs come first, the configuration words, what a write changes
  pub cp_word : ℕ
  pub cp_bit : ℕ
  pub ids : ℕ
  pub is_config : ℕ → Bool
  pub is_writable : ℕ → Bool
  -- Row Erase in configuration space covers the user IDs; Reset Address puts the latches back
  pub row_erases_ids : Bool
  pub reset_blanks : Bool
  -- what a write makes of a cell's word and its latch
  pub burn : (cell word latch : ℕ) → ℕ

-- PIC16(L)F145X: one latch set a row, configuration space from 8000h, where user IDs and configuration words can be written
abbrev pub chip_of : Device → Chip
chip_of d =
    record {
      words = d.words;
      row = d.row;
      group = d.row;
      sets = 1;
      places = 32;
      base = config_base;
      reading_tail = Memory.reading_tail;
      cells_tail = Memory.cells_tail;
      cell = λ a. entry_of config_base d.words Memory.cells_tail a;
      cp_word = Memory.cp_word;
      cp_bit = Memory.cp_bit;
      ids = Memory.ids;
      is_config = Memory.is_config;
      is_writable = λ k. ltb k Memory.ids || Memory.is_config k;
      row_erases_ids = true;
      reset_blanks = false;
      burn = λ cell word latch. under_mask (Memory.mask_at d cell) (bit_and word latch) word;
    }
