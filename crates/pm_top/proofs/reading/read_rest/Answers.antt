use Rattle.std.proofs.Common.{map, string_bytes}
use Rattle.pm_top.specs.Reads.{topology_named}
use Rattle.pm_top.proofs.ReadsLemmas.{rest_for}
use Rattle.pm_top.proofs.SubjectLemmas.{rest_read, rest_refused, subject_is_sound}
use Rattle.pm_top.proofs.reading.read_rest.Goals as goal

pub returns-in-Ok-clause-read : goal.returns-in-Ok-clause-read
returns-in-Ok-clause-read g c =
    rest_read g.I.Inputs.observable c.args.form (map string_bytes c.args.words.now) c.args.object (g.I.Inputs.state c.args.inputs.now) (g.I.Inputs.state c.topology_for.new.inputs) c.in-Ok.topology c.lines_by.result c.word-name.result.now c.with_master.result c.word-name.ensures c.lines_by.ensures c.in-Ok.ensures.supported c.in-Ok.ensures.read c.with_master.ensures.exact

pub returns-in-Err-clause-read : goal.returns-in-Err-clause-read
returns-in-Err-clause-read g c =
    rest_refused g.I.Inputs.observable c.args.form (map string_bytes c.args.words.now) c.args.object (g.I.Inputs.state c.args.inputs.now) (g.I.Inputs.state c.topology_for.new.inputs) c.in-Err.fault c.in-Err.ensures.read

pub returns-in-Ok-clause-begun : goal.returns-in-Ok-clause-begun
returns-in-Ok-clause-begun g c =
    let ws = map string_bytes c.args.words.now in
    rest_for (topology_named c.args.form.topology ws) (g.I.Inputs.state c.args.inputs.now) (g.I.Inputs.state c.topology_for.new.inputs) c.with_master.result c.args.object c.in-Ok.topology c.lines_by.result c.args.form.node ws c.with_master.ensures.exact c.in-Ok.ensures.begun

pub returns-in-Ok-clause-sound : goal.returns-in-Ok-clause-sound
returns-in-Ok-clause-sound g c =
    subject_is_sound c.args.form.source c.word-name.result.now c.args.object c.in-Ok.topology c.lines_by.result c.args.form.node (map string_bytes c.args.words.now) c.with_master.result c.lines_by.ensures c.with_master.ensures.exact c.requires.object c.in-Ok.ensures.supported c.with_master.ensures.named
