use Rattle.std.proofs.Common.{sym}
use Rattle.pm_io.proofs.MemInputsLemmas.{found_or_not}
use Rattle.pm_io.proofs.mem_inputs.place_of.Goals as goal

pub returns : goal.returns
returns c = found_or_not c.args.name.now c.args.files.now c.first_named.result (sym c.first_named.ensures)
