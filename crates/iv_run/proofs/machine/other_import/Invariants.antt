use Rattle.std.proofs.Common.{◌≡◌, drop}
use Rattle.iv_run.specs.Machine.{other_import}
use Rattle.iv_run.proofs.machine.other_import.Given as goal

abbrev pub invariant-loop-import : goal.invariant-loop-import
invariant-loop-import l = other_import (drop l.import-index l.imports) ≡ other_import l.imports
