-- Each word under its mask.
use native.Mathlib.Omega.{arith}
use Rattle.judge.specs.LawsChecksum.{config_of}
use Rattle.judge.proofs.checksums.add_config.Goals as goal

pub returns : goal.returns
returns c = (config_of _ _ _ _ c.masked.ensures.0 c.masked-2.ensures.0, omega arith)
