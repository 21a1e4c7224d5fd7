use Rattle.std.proofs.Common.{◌≢◌, ◌≤◌, Some, arith}
use Rattle.std.proofs.lemmas.Grind.{common_steps}
use Rattle.pm_io.specs.MemInputs.{reach_of}
use Rattle.pm_io.proofs.MemInputsLemmas.{Advances-read}
use Rattle.pm_io.proofs.stored_file.StoredFile.read_at.Goals as goal

pub returns-clause-read : goal.returns-clause-read
returns-clause-read c =
    let free : c.args.self.now.file.fails_at ≢ Some c.args.place = grind (arith, common_steps) in
    let few : c.copy_front.result ≤ reach_of c.args.self.now.file c.args.place = grind (arith, common_steps) in
    Advances-read c.args.self.now c.args.place c.copy_front.result _ free few (grind (arith, common_steps))
