-- With Bulk Erase fewer Row Erases can do, so that `fewest_erases` has to leave it out: a fresh programming against an update, computed on TINY.
use Rattle.std.specs.Prelude.{ℕ, ◌≡◌, refl, true, ◌&&◌, List, [], eqb, set}
use Rattle.words.specs.Choice.{pick}
use Rattle.words.specs.Word.{is_word, bit, without, spare, under_mask, words_of}
use Rattle.words.specs.Lists.{build, in_range, every}
use Rattle.words.specs.Address.{entry_of, successor}
use Rattle.device.specs.Record.{row_ok, words_up_to, device_up_to, device_ok}
use Rattle.device.specs.Memory.{is_config, programmable, mask_at, zero_bit}
use Rattle.aim.specs.Wanted.{known, wanted, some, differs, only_clears, rises, row_differs, row_rises, id_differs, id_rises, config_writes}
use Rattle.plan.specs.Steps.{walk, loads, set_steps, erasing, row_steps, rows_from, word_steps, writes_from, config_steps, body_of, task_of, update_task, update_steps, fresh_task, fresh_steps}
use Rattle.plan.specs.Demands.{programmed}
use Rattle.target.specs.Effects.{blank, locked, edit, in_program, id_cell, config_cell, at_erase, row_erased, bulk_erased, begin_written, latch_of, burnt}
use Rattle.target.specs.Step.{load_ok, load, plain, decoded, effect, step_effect, sound_cells, unread}
use Rattle.target.specs.Model.{code_at, payload_at, onward, turn, after, started, run_of}
use Rattle.target.specs.Run.{entered, run_refusal, ran}
use Rattle.target.specs.Stream.{code_of, payload_of, step_bytes, bytes_of}
use Rattle.fewest.specs.Erases.{is_row_erase, orders_of}
use Rattle.worked.specs.Cases.{tiny, blank_tiny, no_image, same}
use Rattle.worked.specs.Errors.{board_cells}

-- word 0003h is given with a bit that the board has not there
abbrev rising_image : List ℕ
rising_image = set no_image 3 0x1234

abbrev rising_board : List ℕ
rising_board = set blank_tiny 3 0x1200

-- the fresh programming leaves what the update is to leave
pub bulk_leaves : same (ran tiny (bytes_of (fresh_steps tiny rising_image)) 100 (board_cells rising_board) []).target.cells (programmed tiny rising_image rising_board (board_cells rising_board)) ≡ true
unfolding same pick without spare under_mask mask_at is_word bit words_of every build in_range entry_of successor row_ok words_up_to device_up_to device_ok is_config programmable
    zero_bit blank locked edit in_program id_cell config_cell at_erase row_erased bulk_erased begin_written latch_of burnt entered load_ok load plain decoded
    effect step_effect sound_cells unread code_at payload_at onward turn after started run_of run_refusal ran code_of payload_of step_bytes bytes_of known
    wanted differs some row_differs id_differs config_writes walk loads set_steps erasing row_steps rows_from word_steps writes_from config_steps task_of
    body_of fresh_task fresh_steps programmed
bulk_leaves = refl

-- without a Row Erase, where the update has one
pub bulk_fewer : (eqb (orders_of is_row_erase (fresh_steps tiny rising_image)) 0 && eqb (orders_of is_row_erase (update_steps tiny rising_image rising_board)) 1) ≡ true
unfolding is_row_erase orders_of pick without spare under_mask mask_at is_config in_range known wanted differs only_clears rises some row_differs row_rises id_differs id_rises
    config_writes walk loads set_steps erasing row_steps rows_from word_steps writes_from config_steps task_of body_of update_task update_steps fresh_task fresh_steps
bulk_fewer = refl
