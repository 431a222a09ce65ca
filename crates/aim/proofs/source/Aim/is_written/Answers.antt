-- One law for each test.
use native.Mathlib.Omega.{arith}
use mathlib.Core.Path.{◌∙◌}
use Rattle.target.specs.Chip.{chip_of}
use Rattle.device.specs.LawsMemory.{config_below, config_inside, config_past}
use Rattle.aim.specs.LawsAim.{all_written, id_written, never_written, config_written}
use Rattle.aim.proofs.source.Aim.is_written.Goals as goal

pub returns-then-all_ids : goal.returns-then-all_ids
returns-then-all_ids c = c.if-all_ids.true ∙ all_written (chip_of c.args.self.now.device) _ _ _ _ (omega arith) c.if-all_ids.true

pub returns-else-all_ids : goal.returns-else-all_ids
returns-else-all_ids c = id_written (chip_of c.args.self.now.device) _ _ _ _ _ (omega arith) (config_below _ (omega arith)) c.if-all_ids.false c.differs.ensures

pub returns-in-7 : goal.returns-in-7
returns-in-7 c = config_written (chip_of c.args.self.now.device) _ _ _ _ _ (omega arith) (config_inside _ (omega arith) (omega arith)) c.differs-in-7.ensures

pub returns-in_default : goal.returns-in_default
returns-in_default c = never_written (chip_of c.args.self.now.device) _ _ _ _ (omega arith) (config_below _ (omega arith))

pub returns-in_default-2 : goal.returns-in_default-2
returns-in_default-2 c = never_written (chip_of c.args.self.now.device) _ _ _ _ (omega arith) (config_past _ (omega arith))
