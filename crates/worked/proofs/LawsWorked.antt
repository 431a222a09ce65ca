-- The worked cases hold: one statement over the list of them, each computed.
use Rattle.std.specs.Prelude.{◌≡◌, refl, true}
use Rattle.words.specs.Choice.{pick}
use Rattle.words.specs.Word.{is_word, bit, without, spare, under_mask, words_of}
use Rattle.words.specs.Lists.{build, in_range, every}
use Rattle.numerals.specs.Text.{split, in_front}
use Rattle.numerals.specs.Hex.{within, digit_of, joined, byte_by}
use Rattle.words.specs.Address.{placed, halved, entry_of, successor}
use Rattle.device.specs.Record.{row_ok, words_up_to, device_up_to, device_ok, fits}
use Rattle.device.specs.Memory
use Rattle.lines.specs.Lines.{without_cr, all_without_cr, lines_of}
use Rattle.hexread.specs.Line.{byte_at, count_of, offset_of, type_of, is_record, bytes_to, sum_ok, type_ok, shape_ok, data_ok, line_number}
use Rattle.hexread.specs.Step.{word_of, byte_address, entry_at, entry_of_word, word_number, give_words, record_step, line_refused, line_step}
use Rattle.hexread.specs.Reader.{blank_image, refused_at, read_lines, text_read}
use Rattle.hexread.specs.Reader
use Rattle.judge.specs.Checksum.{sum_to, config_sum, nibbles, checksum_of}
use Rattle.aim.specs.Wanted.{known, wanted, some, differs, only_clears, rises, row_differs, row_rises, id_differs, id_rises, config_writes}
use Rattle.aim.specs.Refusal.{config_ok, update_number}
use Rattle.plan.specs.Steps.{walk, loads, set_steps, erasing, row_steps, rows_from, word_steps, writes_from, config_steps, body_of, task_of, update_task, update_steps}
use Rattle.target.specs.Effects.{blank, locked, edit, in_program, id_cell, config_cell, at_erase, row_erased, bulk_erased, begin_written, latch_of, burnt}
use Rattle.target.specs.Step.{load_ok, load, plain, decoded, effect, step_effect, sound_cells, unread}
use Rattle.target.specs.Model.{code_at, payload_at, onward, turn, after, started, run_of}
use Rattle.target.specs.Run.{entered, run_refusal, ran}
use Rattle.target.specs.Stream.{code_of, payload_of, step_bytes, bytes_of}
use Rattle.worked.specs.Cases.{same, gives, takes, end_alone, word_zero, config_one, protected_sum, blank_sum, one_row, loads_from, across_rows, cases, all_hold}

end_alone_lem : end_alone ≡ true
unfolding end_alone gives same pick is_word every within digit_of joined byte_by split in_front placed halved entry_of in_range row_ok words_up_to device_up_to device_ok bit
    without_cr all_without_cr lines_of byte_at count_of offset_of type_of is_record bytes_to sum_ok type_ok shape_ok data_ok line_number word_of byte_address entry_at
    entry_of_word Memory.is_config Memory.programmable word_number give_words record_step line_refused line_step blank_image refused_at read_lines Reader.begun
    text_read
end_alone_lem = refl

word_zero_lem : word_zero ≡ true
unfolding word_zero gives same pick is_word every within digit_of joined byte_by split in_front placed halved entry_of in_range row_ok words_up_to device_up_to device_ok bit
    without_cr all_without_cr lines_of byte_at count_of offset_of type_of is_record bytes_to sum_ok type_ok shape_ok data_ok line_number word_of byte_address entry_at
    entry_of_word Memory.is_config Memory.programmable word_number give_words record_step line_refused line_step blank_image refused_at read_lines Reader.begun
    text_read
word_zero_lem = refl

config_one_lem : config_one ≡ true
unfolding config_one gives same pick is_word every within digit_of joined byte_by split in_front placed halved entry_of in_range row_ok words_up_to device_up_to device_ok bit
    without_cr all_without_cr lines_of byte_at count_of offset_of type_of is_record bytes_to sum_ok type_ok shape_ok data_ok line_number word_of byte_address entry_at
    entry_of_word Memory.is_config Memory.programmable word_number give_words record_step line_refused line_step blank_image refused_at read_lines Reader.begun
    text_read
config_one_lem = refl

protected_sum_lem : protected_sum ≡ true
unfolding protected_sum pick bit Memory.zero_bit Memory.protected sum_to config_sum nibbles checksum_of
protected_sum_lem = refl

blank_sum_lem : blank_sum ≡ true
unfolding blank_sum pick bit Memory.zero_bit Memory.protected sum_to config_sum nibbles checksum_of
blank_sum_lem = refl

one_row_lem : one_row ≡ true
unfolding one_row takes pick without spare under_mask Memory.mask_at is_word bit every words_of row_ok words_up_to device_up_to device_ok fits Memory.is_config
    Memory.zero_bit Memory.programmable Memory.entry_ok Memory.image_ok Memory.reading_ok Memory.protected only_clears config_ok update_number known wanted
    differs rises some row_differs row_rises id_differs id_rises config_writes in_range walk loads set_steps erasing row_steps rows_from word_steps writes_from config_steps body_of
    task_of update_task update_steps
one_row_lem = refl

across_rows_lem : across_rows ≡ true
unfolding across_rows same loads_from pick without spare under_mask Memory.mask_at is_word bit words_of every build in_range entry_of successor row_ok words_up_to device_up_to
    device_ok Memory.is_config Memory.zero_bit blank locked edit in_program id_cell config_cell at_erase row_erased bulk_erased begin_written latch_of burnt
    entered load_ok load plain decoded effect step_effect sound_cells unread code_at payload_at onward turn after started run_of run_refusal ran code_of
    payload_of step_bytes bytes_of
across_rows_lem = refl

-- every worked case holds
pub worked_cases : all_hold cases ≡ true
unfolding all_hold cases
worked_cases = rw (end_alone_lem, word_zero_lem, config_one_lem, protected_sum_lem, blank_sum_lem, one_row_lem, across_rows_lem)
