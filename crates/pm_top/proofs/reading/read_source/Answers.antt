use Rattle.std.proofs.Common.{◌≡◌, ◌⊎◌, [], Err, refl, subst, sym}
use Rattle.pm_trace.specs.declared.faults.Fault.TheVariants.{Memory}
use Rattle.pm_top.specs.declared.works.Source.{Source}
use Rattle.pm_top.specs.Within.{ReadsAs}
use Rattle.pm_top.proofs.TakingLemmas.{nothing_read, number_read}
use Rattle.pm_io.specs.Readings.{Meanwhile}
use Rattle.pm_io.proofs.ReadingsLemmas.{meanwhile_none}
use Rattle.pm_top.specs.Asked.{lines_asked}
use Rattle.pm_top.specs.Reads.{ReadsFor, source_named}
use Rattle.pm_top.proofs.ReadsLemmas.{nothing_for, number_for}
use Rattle.pm_top.proofs.reading.read_source.Goals as goal

pub returns-in-Number-clause-read : goal.returns-in-Number-clause-read
returns-in-Number-clause-read g c =
    let R : Source → Type 0 = λ source. (c.laboratory_for.result ≡ Err Memory) ⊎ ReadsAs source g.I.Inputs.observable c.args.name.now (g.I.Inputs.state c.args.inputs.now) (g.I.Inputs.state c.args.inputs.now) c.laboratory_for.result in
    subst R (sym c.in-Number.is) (number_read g.I.Inputs.observable c.args.name.now (g.I.Inputs.state c.args.inputs.now) c.laboratory_for.result c.laboratory_for.ensures.exact)

pub returns-in-Number-clause-begun : goal.returns-in-Number-clause-begun
returns-in-Number-clause-begun g c =
    let m = g.I.Inputs.state c.args.inputs.now in
    let R : Source → Type 0 = λ source. Meanwhile m m (ReadsFor c.laboratory_for.result (source_named source c.args.name.now)) in
    subst R (sym c.in-Number.is) (meanwhile_none m (ReadsFor c.laboratory_for.result []) (number_for [] [] refl c.laboratory_for.result (lines_asked c.args.name.now) c.laboratory_for.ensures.exact))

pub returns-in-Nothing-clause-read : goal.returns-in-Nothing-clause-read
returns-in-Nothing-clause-read g c =
    let R : Source → Type 0 = λ source. (c.laboratory.result ≡ Err Memory) ⊎ ReadsAs source g.I.Inputs.observable c.args.name.now (g.I.Inputs.state c.args.inputs.now) (g.I.Inputs.state c.args.inputs.now) c.laboratory.result in
    subst R (sym c.in-Nothing.is) (nothing_read g.I.Inputs.observable c.args.name.now (g.I.Inputs.state c.args.inputs.now) c.laboratory.result c.laboratory.ensures.exact)

pub returns-in-Nothing-clause-begun : goal.returns-in-Nothing-clause-begun
returns-in-Nothing-clause-begun g c =
    let m = g.I.Inputs.state c.args.inputs.now in
    let R : Source → Type 0 = λ source. Meanwhile m m (ReadsFor c.laboratory.result (source_named source c.args.name.now)) in
    subst R (sym c.in-Nothing.is) (meanwhile_none m (ReadsFor c.laboratory.result []) (nothing_for [] [] refl c.laboratory.result c.laboratory.ensures.exact))
