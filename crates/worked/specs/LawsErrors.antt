-- Each of the paper's 'Errors that look right' breaks a demand: computed counterexamples, on TINY.
use Prim.Native.Nat.{ℕ, ◌≤◌}
use Rattle.std.proofs.Common.{arith, sym, ap, ◌∙◌}
use Rattle.std.specs.Prelude.{◌≡◌, refl, false, []}
use lib.ListN.{get_or}
use Rattle.words.specs.Choice.{pick}
use Rattle.words.specs.Word.{is_word, bit, without, spare, under_mask, words_of}
use Rattle.words.specs.Lists.{build, in_range, every}
use Rattle.words.specs.Address.{entry_of, successor}
use Rattle.device.specs.Record.{row_ok, words_up_to, device_up_to, device_ok}
use Rattle.device.specs.Memory.{is_config, programmable, mask_at, zero_bit}
use Rattle.aim.specs.Wanted.{known, wanted, some, differs, only_clears, rises, row_differs, row_rises, id_differs, id_rises, config_writes}
use Rattle.plan.specs.Steps.{walk, loads, set_steps, erasing, row_steps, rows_from, word_steps, writes_from, config_steps, task_of, update_task}
use Rattle.plan.specs.Demands.{programmed}
use Rattle.target.specs.Effects.{blank, locked, edit, in_program, id_cell, config_cell, at_erase, row_erased, bulk_erased, begin_written, latch_of, burnt}
use Rattle.target.specs.Step.{load_ok, load, plain, decoded, effect, step_effect, sound_cells, unread}
use Rattle.target.specs.Model.{code_at, payload_at, onward, turn, after, started, run_of}
use Rattle.target.specs.Run.{entered, run_refusal, model_of, ran}
use Rattle.target.specs.Cut.{Recovers}
use Rattle.target.specs.Cut
use Rattle.target.specs.Stream.{code_of, payload_of, step_bytes, bytes_of}
use Rattle.worked.specs.Cases.{tiny, blank_tiny, same, loads_from}
use Rattle.worked.specs.Errors.{board_cells, rows_of, config_of, blank_where_silent, silent_image, silent_board, config_first, protecting_image, across_two, first_row_written}

-- ---- 3FFFh where the file is silent: the word that the board had is lost

silent_leaves : get_or (ran tiny (bytes_of (blank_where_silent tiny silent_image silent_board)) 100 (board_cells silent_board) []).target.cells 2 0 ≡ 0x3fff
unfolding blank_where_silent pick without spare under_mask mask_at is_word bit words_of every build in_range entry_of successor row_ok words_up_to device_up_to device_ok
    is_config zero_bit blank locked edit in_program id_cell config_cell at_erase row_erased bulk_erased begin_written latch_of burnt entered load_ok load plain
    decoded effect step_effect sound_cells unread code_at payload_at onward turn after started run_of run_refusal ran code_of payload_of step_bytes bytes_of
    known wanted differs only_clears rises some row_differs row_rises id_differs id_rises config_writes walk loads set_steps erasing row_steps rows_from word_steps writes_from config_steps task_of
    update_task rows_of config_of
silent_leaves = refl

silent_wanted : get_or (programmed tiny silent_image silent_board (board_cells silent_board)) 2 0 ≡ 0x0123
unfolding programmed programmable is_config pick without spare under_mask mask_at build in_range known wanted
silent_wanted = refl

silent_steps : Prim.Native.Nat.◌/◌ (lib.ListN.length (bytes_of (blank_where_silent tiny silent_image silent_board))) 3 ≤ 100
unfolding blank_where_silent pick without spare under_mask mask_at is_config code_of payload_of step_bytes bytes_of known wanted differs only_clears rises some row_differs row_rises
    id_differs id_rises config_writes walk loads set_steps erasing row_steps rows_from word_steps writes_from config_steps task_of update_task rows_of config_of
silent_steps = omega arith

pub silent_fails : Recovers (model_of tiny) (bytes_of (blank_where_silent tiny silent_image silent_board)) (board_cells silent_board) (programmed tiny silent_image silent_board (board_cells silent_board)) → ⊥
unfolding ran
silent_fails r =
    let left : (ran tiny (bytes_of (blank_where_silent tiny silent_image silent_board)) 100 (board_cells silent_board) []).target.cells ≡ programmed tiny silent_image silent_board (board_cells silent_board) =
    (r.recovers [] (board_cells silent_board) Cut.none 100 silent_steps).2 in
    let both : ◌≡◌ {A = ℕ} 0x3fff 0x0123 = sym silent_leaves ∙ (ap (λ c. get_or c 2 0) left ∙ silent_wanted) in
    omega arith

-- ---- CP before the last row: the row that comes after it is not written, cut or not

config_first_leaves : get_or (ran tiny (bytes_of (config_first tiny protecting_image blank_tiny)) 100 (board_cells blank_tiny) []).target.cells 3 0 ≡ 0x3fff
unfolding config_first pick without spare under_mask mask_at is_word bit words_of every build in_range entry_of successor row_ok words_up_to device_up_to device_ok is_config
    zero_bit blank locked edit in_program id_cell config_cell at_erase row_erased bulk_erased begin_written latch_of burnt entered load_ok load plain decoded
    effect step_effect sound_cells unread code_at payload_at onward turn after started run_of run_refusal ran code_of payload_of step_bytes bytes_of known
    wanted differs only_clears rises some row_differs row_rises id_differs id_rises config_writes walk loads set_steps erasing row_steps rows_from word_steps writes_from config_steps task_of
    update_task rows_of config_of
config_first_leaves = refl

config_first_wanted : get_or (programmed tiny protecting_image blank_tiny (board_cells blank_tiny)) 3 0 ≡ 0x1234
unfolding programmed programmable is_config pick without spare under_mask mask_at build in_range known wanted
config_first_wanted = refl

config_first_steps : Prim.Native.Nat.◌/◌ (lib.ListN.length (bytes_of (config_first tiny protecting_image blank_tiny))) 3 ≤ 100
unfolding config_first pick without spare under_mask mask_at is_config in_range code_of payload_of step_bytes bytes_of known wanted differs only_clears rises some row_differs row_rises
    id_differs id_rises config_writes walk loads set_steps erasing row_steps rows_from word_steps writes_from config_steps task_of update_task rows_of config_of
config_first_steps = omega arith

pub config_first_fails : Recovers (model_of tiny) (bytes_of (config_first tiny protecting_image blank_tiny)) (board_cells blank_tiny) (programmed tiny protecting_image blank_tiny (board_cells blank_tiny)) → ⊥
unfolding ran
config_first_fails r =
    let left : (ran tiny (bytes_of (config_first tiny protecting_image blank_tiny)) 100 (board_cells blank_tiny) []).target.cells ≡ programmed tiny protecting_image blank_tiny (board_cells blank_tiny) =
    (r.recovers [] (board_cells blank_tiny) Cut.none 100 config_first_steps).2 in
    let both : ◌≡◌ {A = ℕ} 0x3fff 0x1234 = sym config_first_leaves ∙ (ap (λ c. get_or c 3 0) left ∙ config_first_wanted) in
    omega arith

-- ---- the row of the first loaded word: the model leaves other cells

pub first_row_not_written : same (ran tiny (bytes_of across_two) 100 (board_cells blank_tiny) []).target.cells first_row_written ≡ false
unfolding same across_two loads_from pick without spare under_mask mask_at is_word bit words_of every build in_range entry_of successor row_ok words_up_to device_up_to device_ok
    is_config zero_bit blank locked edit in_program id_cell config_cell at_erase row_erased bulk_erased begin_written latch_of burnt entered load_ok load plain
    decoded effect step_effect sound_cells unread code_at payload_at onward turn after started run_of run_refusal ran code_of payload_of step_bytes bytes_of
first_row_not_written = refl
