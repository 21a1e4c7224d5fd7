use Rattle.pm_reader.proofs.MeantLemmas.{held_meant}
use Rattle.pm_reader.proofs.reader.LineReader.next_meant.Goals as goal

pub returns-in-Some : goal.returns-in-Some
returns-in-Some g c =
    held_meant g.I.Inputs.observable c.args.id (g.I.Inputs.state c.args.inputs.now) c.args.self.now c.give_meant.new.self c.in-Some.meant c.give_meant.new.event c.in-Some.ensures
