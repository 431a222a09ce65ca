-- The entries, and then the end record.
use Rattle.std.proofs.Common.{rules, ◌∙◌}
use native.Mathlib.Omega.{arith}
use Rattle.hexwrite.specs.LawsWritePut.{entries_room, end_room, text_put}
use Rattle.hexwrite.proofs.write.put_text.Goals as goal

pub put_entries-requires : goal.put_entries-requires
put_entries-requires c = rw (c.new-writer.ensures.begins.0, c.new-writer.ensures.begins.1) (omega (arith, entries_room _ _ _ c.requires))

pub put_end-requires : goal.put_end-requires
put_end-requires c = end_room _ _ _ c.requires _ _ c.new-writer.ensures.begins.1 c.new-writer.ensures.begins.0 c.put_entries.ensures

pub returns : goal.returns
returns c = let e = text_put _ _ _ c.requires _ _ c.new-writer.ensures.begins.1 c.new-writer.ensures.begins.0 c.put_entries.ensures _ c.put_end.ensures in
    let s = c.put_end.ensures.same ∙ (c.put_entries.ensures.same ∙ c.new-writer.ensures.same) in
    search (rules, e, s)
