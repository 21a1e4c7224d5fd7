use Rattle.std.proofs.Common.{ℕ, List, subst, sym}
use Rattle.std.proofs.lemmas.Bool.{false≢true}
use Rattle.std.proofs.lemmas.Result.{IfOk-weaker}
use Rattle.pm_io.specs.Calls.{named}
use Rattle.pm_io.specs.Given.{NameGiven}
use Rattle.pm_io.specs.Readings.{Meanwhile}
use Rattle.pm_io.specs.declared.prefix.StopReason.TheVariants.{Unbegun}
use Rattle.pm_io.proofs.GivenLemmas.{name_given, none_given}
use Rattle.pm_io.proofs.PrefixLemmas.{prefix_read}
use Rattle.pm_io.proofs.ReadingsLemmas.{name_read, name_unbegun}
use Rattle.pm_io.proofs.prefix.gather.Goals as goal

pub returns-in-Ok-clause-read : goal.returns-in-Ok-clause-read
returns-in-Ok-clause-read g c = IfOk-weaker c.read_rest.result _ _ (λ prefix reads. prefix_read g.I.Inputs.observable c.args.name.now c.in-Ok.id c.args.limit (g.I.Inputs.state c.args.inputs.now) (g.I.Inputs.state c.begin.new.self) (g.I.Inputs.state c.read_rest.new.inputs) prefix c.in-Ok.ensures.cause.later c.in-Ok.ensures.begun (λ seen cannot. false≢true ((c.in-Ok.ensures.failed seen).1 cannot)) reads) c.read_rest.ensures.read

pub returns-in-Ok-clause-calls : goal.returns-in-Ok-clause-calls
returns-in-Ok-clause-calls g c = name_read (named c.args.name.now c.args.limit) c.in-Ok.id c.read_rest.result (g.I.Inputs.state c.args.inputs.now) (g.I.Inputs.state c.begin.new.self) (g.I.Inputs.state c.read_rest.new.inputs) c.in-Ok.ensures.logged c.read_rest.ensures.calls

pub returns-in-Err-clause-calls : goal.returns-in-Err-clause-calls
returns-in-Err-clause-calls g c = name_unbegun (named c.args.name.now c.args.limit) (g.I.Inputs.state c.args.inputs.now) (g.I.Inputs.state c.begin.new.self) c.in-Err.ensures.logged

pub returns-in-Ok-clause-given : goal.returns-in-Ok-clause-given
returns-in-Ok-clause-given g c =
    IfOk-weaker c.read_rest.result _ _ (λ prefix given. name_given c.args.limit c.in-Ok.id c.args.name.now prefix (g.I.Inputs.state c.args.inputs.now) (g.I.Inputs.state c.begin.new.self) (g.I.Inputs.state c.read_rest.new.inputs) c.in-Ok.ensures.logged given) c.read_rest.ensures.given

pub returns-in-Err-clause-given : goal.returns-in-Err-clause-given
returns-in-Err-clause-given g c =
    let old = g.I.Inputs.state c.args.inputs.now in
    let new = g.I.Inputs.state c.begin.new.self in
    subst (λ (bytes : List ℕ). Meanwhile old new (NameGiven c.args.limit (record { bytes = bytes; stop = Unbegun }))) (sym c.new.ensures.items)
    (none_given c.args.limit c.args.name.now old new c.in-Err.ensures.logged)
