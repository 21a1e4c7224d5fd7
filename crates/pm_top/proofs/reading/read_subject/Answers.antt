use Rattle.std.proofs.Common.{List, ℕ, map, string_bytes, subst}
use Rattle.pm_io.specs.Readings.{Meanwhile}
use Rattle.pm_io.specs.Calls.{ReadsEach}
use Rattle.pm_top.specs.Words.{word}
use Rattle.pm_top.specs.Reads.{RefusedSubject, source_named, topology_named}
use Rattle.pm_top.proofs.ReadsLemmas.{subject_at, subject_for}
use Rattle.pm_top.proofs.SubjectLemmas.{of_read, rest_behind, subject_bad, subject_read}
use Rattle.pm_top.proofs.reading.read_subject.Goals as goal

pub returns-in-Ok-clause-read : goal.returns-in-Ok-clause-read
returns-in-Ok-clause-read g c =
    subject_read g.I.Inputs.observable c.args.form (map string_bytes c.args.words.now) c.word-name.result.now (g.I.Inputs.state c.args.inputs.now) (g.I.Inputs.state c.read_source.new.inputs) (g.I.Inputs.state c.read_rest.new.inputs) c.in-Ok.object c.read_rest.result c.word-name.ensures c.in-Ok.ensures.read c.read_rest.ensures.read

pub returns-in-Err-clause-read : goal.returns-in-Err-clause-read
returns-in-Err-clause-read g c =
    subject_bad g.I.Inputs.observable c.args.form (map string_bytes c.args.words.now) c.word-name.result.now (g.I.Inputs.state c.args.inputs.now) (g.I.Inputs.state c.read_source.new.inputs) c.in-Err.fault c.word-name.ensures c.in-Err.ensures.read

pub returns-in-Ok-clause-begun : goal.returns-in-Ok-clause-begun
returns-in-Ok-clause-begun g c =
    let ws = map string_bytes c.args.words.now in
    let old = g.I.Inputs.state c.args.inputs.now in
    let mid = g.I.Inputs.state c.read_source.new.inputs in
    let new = g.I.Inputs.state c.read_rest.new.inputs in
    let N : List ℕ → Type 0 = λ name. Meanwhile old mid (ReadsEach (source_named c.args.form.source name)) in
    subject_for c.read_rest.result (source_named c.args.form.source (word 1 ws)) (topology_named c.args.form.topology ws) old mid new
    (rest_behind g.I.Inputs.observable c.args.form ws c.in-Ok.object mid new c.read_rest.result c.read_rest.ensures.read)
    (subst N c.word-name.ensures c.in-Ok.ensures.begun) c.read_rest.ensures.begun

pub returns-in-Err-clause-begun : goal.returns-in-Err-clause-begun
returns-in-Err-clause-begun g c =
    let ws = map string_bytes c.args.words.now in
    let old = g.I.Inputs.state c.args.inputs.now in
    let new = g.I.Inputs.state c.read_source.new.inputs in
    let name = c.word-name.result.now in
    let N : List ℕ → Type 0 = λ name. Meanwhile old new (RefusedSubject c.in-Err.fault (source_named c.args.form.source name) (topology_named c.args.form.topology ws)) in
    subst N c.word-name.ensures
    (subject_at c.in-Err.fault c.args.form.source name c.args.form.topology ws old new c.requires.plain
    (of_read g.I.Inputs.observable c.args.form.source name old new c.in-Err.fault c.in-Err.ensures.read) c.in-Err.ensures.begun)
