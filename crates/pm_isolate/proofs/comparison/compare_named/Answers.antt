use Rattle.std.proofs.Common.{List, ◌∷◌, Some, None, arith, inl, inr, refl}
use Rattle.std.proofs.lemmas.Bool.{false≢true}
use Rattle.pm_base.specs.Faults.{Rose}
use Rattle.pm_io.specs.Calls.{Begin, Call}
use Rattle.pm_io.specs.Readings.{Meanwhile}
use Rattle.pm_io.proofs.GivenLemmas.{one_call}
use Rattle.pm_io.proofs.ReadingsLemmas.{meanwhile_map, then_read}
use Rattle.pm_reader.proofs.Named.{script_begun, script_unbegun}
use Rattle.pm_script.specs.Script.{Script, script_from, script_lines, stop_of}
use Rattle.pm_trace.proofs.ReadsLemmas.{script_not_begun, script_reads}
use Rattle.pm_trace.specs.Scripts.{ReadsBegun, script_named}
use Rattle.pm_isolate.specs.Within.{RanGiven}
use Rattle.pm_isolate.proofs.ComparedLemmas.{compare_ran, compare_starved, compare_unbegun}
use Rattle.pm_isolate.proofs.GivenLemmas.{ran_given, ran_starved, ran_unbegun}
use Rattle.pm_isolate.proofs.comparison.compare_named.Goals as goal

pub returns-in-Ok-clause-ran : goal.returns-in-Ok-clause-ran
returns-in-Ok-clause-ran g c = elim c.compare_begun.ensures.ran [
  | inl reports ↦ compare_starved g.I.Inputs g.O.Sink c.args.object c.args.topology c.args.m c.args.script.now c.args.inputs.now c.compare_begun.new.inputs c.args.out.now c.compare_begun.new.out c.compare_begun.result reports
  | inr read ↦
      let of = read.held in
      let s : Script = script_from (script_lines of.prefix) (stop_of of.prefix.stop) in
      let is = script_begun g.I.Inputs.observable c.args.script.now c.in-Ok.id (g.I.Inputs.state c.args.inputs.now) (g.I.Inputs.state c.begin.new.self) _ of c.in-Ok.ensures.begun (λ seen cannot. false≢true ((c.in-Ok.ensures.failed seen).1 cannot)) in
      compare_ran g.I.Inputs g.O.Sink c.args.object c.args.topology c.args.m c.args.script.now c.args.inputs.now c.compare_begun.new.inputs c.args.out.now c.compare_begun.new.out c.compare_begun.result s of.holds.0 is
      (λ fails. let rose : Rose (g.I.Inputs.state c.begin.new.self).faults (g.I.Inputs.state c.compare_begun.new.inputs).faults = c.compare_begun.ensures.fault fails in omega (arith, c.in-Ok.ensures.cause.later, rose))
      of.holds.1 of.holds.2
]

pub returns-in-Err-clause-ran : goal.returns-in-Err-clause-ran
returns-in-Err-clause-ran g c =
    compare_unbegun g.I.Inputs g.O.Sink c.args.object c.args.topology c.args.m c.args.script.now c.args.inputs.now c.begin.new.self c.args.out.now c.refuse.new.out c.refuse.result
    (λ seen. script_unbegun c.args.script.now (g.I.Inputs.state c.args.inputs.now) ((c.in-Err.ensures.failed seen).0 refl))
    c.in-Err.ensures.cause.failed c.refuse.ensures

pub returns-in-Ok-clause-begun : goal.returns-in-Ok-clause-begun
returns-in-Ok-clause-begun g c = script_reads c.args.script.now c.in-Ok.id c.compare_begun.result (g.I.Inputs.state c.args.inputs.now) (g.I.Inputs.state c.begin.new.self) (g.I.Inputs.state c.compare_begun.new.inputs) c.in-Ok.ensures.logged c.compare_begun.ensures.reads

pub returns-in-Err-clause-begun : goal.returns-in-Err-clause-begun
returns-in-Err-clause-begun g c = script_not_begun g.O.Sink c.args.script.now c.args.out.now c.refuse.new.out c.refuse.result (g.I.Inputs.state c.args.inputs.now) (g.I.Inputs.state c.begin.new.self) c.refuse.ensures c.in-Err.ensures.logged

-- so by what the calls gave
pub returns-in-Ok-clause-given : goal.returns-in-Ok-clause-given
returns-in-Ok-clause-given g c =
    let name = c.args.script.now in
    let id = c.in-Ok.id in
    let first = g.I.Inputs.state c.args.inputs.now in
    let mid = g.I.Inputs.state c.begin.new.self in
    let last = g.I.Inputs.state c.compare_begun.new.inputs in
    let result = c.compare_begun.result in
    let Ran : List Call → Type 0 = RanGiven g.O.Sink c.args.object c.args.topology c.args.m name first last c.args.out.now c.compare_begun.new.out result in
    let later : Meanwhile mid last (λ calls. Ran (Begin name (Some id) ∷ calls)) = elim c.compare_begun.ensures.ran [
      | inl reports ↦
          meanwhile_map mid last (ReadsBegun result id) (λ calls. Ran (Begin name (Some id) ∷ calls))
          (λ calls reads. ran_starved g.O.Sink c.args.object c.args.topology c.args.m name first last c.args.out.now c.compare_begun.new.out result (Begin name (Some id) ∷ calls) reports)
          c.compare_begun.ensures.reads
      | inr read ↦
          meanwhile_map mid last _ (λ calls. Ran (Begin name (Some id) ∷ calls))
          (λ calls of. ran_given g.O.Sink c.args.object c.args.topology c.args.m name first last c.args.out.now c.compare_begun.new.out result id calls of.0
          (λ fails. let rose : Rose mid.faults last.faults = c.compare_begun.ensures.fault fails in omega (arith, c.in-Ok.ensures.cause.later, rose))
          of.1.0 of.1.1 of.1.2)
          read.given
    ] in
    then_read (script_named name) id first mid last (λ calls. Ran (Begin name (Some id) ∷ calls)) Ran (λ calls holds. holds) c.in-Ok.ensures.logged later

pub returns-in-Err-clause-given : goal.returns-in-Err-clause-given
returns-in-Err-clause-given g c =
    let name = c.args.script.now in
    let first = g.I.Inputs.state c.args.inputs.now in
    let last = g.I.Inputs.state c.begin.new.self in
    one_call (Begin name None) first last (RanGiven g.O.Sink c.args.object c.args.topology c.args.m name first last c.args.out.now c.refuse.new.out c.refuse.result) c.in-Err.ensures.logged
    (ran_unbegun g.O.Sink c.args.object c.args.topology c.args.m name first last c.args.out.now c.refuse.new.out c.refuse.result c.in-Err.ensures.cause.failed c.refuse.ensures)
