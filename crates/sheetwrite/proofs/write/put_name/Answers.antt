-- The name's places are lent, and it is copied there.
use Rattle.std.proofs.Common.{refl}
use Rattle.sheetwrite.specs.LawsWrite.{name_copied}
use Rattle.sheetwrite.proofs.write.put_name.Goals as goal

pub returns : goal.returns
returns c = name_copied c.args.name.now c.args.out.now _ _ c.requires c.copy_from_slice.ensures.after refl
