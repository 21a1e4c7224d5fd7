use Rattle.std.proofs.Common.{◌≡◌, None, refl, subst, sym}
use Rattle.std.specs.Prelude.{IfNone, is_some}
use Rattle.pm_chip.specs.Chip.{chip}
use Rattle.pm_io.specs.Readings.{Meanwhile}
use Rattle.pm_io.proofs.ReadingsLemmas.{meanwhile_none}
use Rattle.pm_top.specs.declared.works.Work.{Work}
use Rattle.pm_top.specs.Form.{form_of}
use Rattle.pm_top.specs.Reads.{WorkReads}
use Rattle.pm_top.proofs.FitLemmas.{chip_safe, still_safe}
use Rattle.pm_top.proofs.ReadsLemmas.{bare, made_bare}
use Rattle.pm_top.proofs.works.do_work.Goals as goal

pub replay_over-requires : goal.replay_over-requires
replay_over-requires g c = record {
  object = c.requires.sound.object;
  formed = c.requires.sound.topology.well_formed;
  built_in = subst (λ (work : Work). IfNone (form_of work c.args.request.topology).topology (c.args.subject.topology ≡ chip)) c.in-Replay.is c.requires.built_in;
  idle = c.requires.idle;
}

pub write_piece-exit-requires : goal.write_piece-exit-requires
write_piece-exit-requires g c = record {
  sound = c.requires.sound;
  complete = subst (λ (work : Work). is_some c.args.subject.master ≡ is_some (form_of work c.args.request.topology).node) c.in-Write.is c.requires.complete;
}

pub returns-in-Write-clause-safe : goal.returns-in-Write-clause-safe
returns-in-Write-clause-safe g c = still_safe g.D.Device _ c.args.dev.now c.args.dev.now refl

pub returns-in-Isolate-clause-safe : goal.returns-in-Isolate-clause-safe
returns-in-Isolate-clause-safe g c = still_safe g.D.Device _ c.args.dev.now c.args.dev.now refl

pub returns-in-Make-clause-safe : goal.returns-in-Make-clause-safe
returns-in-Make-clause-safe g c =
    let chips : c.args.subject.topology ≡ chip = subst (λ (work : Work). IfNone (form_of work c.args.request.topology).topology (c.args.subject.topology ≡ chip)) c.in-Make.is c.requires.built_in in
    chip_safe g.D.Device _ c.args.dev.now c.make_over.new.dev c.args.subject.topology chips c.make_over.ensures.safe

pub returns-in-Write-clause-begun : goal.returns-in-Write-clause-begun
returns-in-Write-clause-begun g c =
    let m = g.I.Inputs.state c.args.inputs.now in
    let W : Work → Type 0 = λ work. Meanwhile m m (WorkReads (form_of work c.args.request.topology).script c.args.script.now c.write_piece-exit.result) in
    subst W (sym c.in-Write.is) (meanwhile_none m (WorkReads None c.args.script.now c.write_piece-exit.result) (refl, bare g.O.Sink _ c.args.out.now c.write_piece-exit.new.out c.write_piece-exit.result c.write_piece-exit.ensures))

pub returns-in-Make-clause-begun : goal.returns-in-Make-clause-begun
returns-in-Make-clause-begun g c =
    let m = g.I.Inputs.state c.args.inputs.now in
    let W : Work → Type 0 = λ work. Meanwhile m m (WorkReads (form_of work c.args.request.topology).script c.args.script.now c.make_over.result) in
    subst W (sym c.in-Make.is) (meanwhile_none m (WorkReads None c.args.script.now c.make_over.result) (refl, made_bare g.O.Sink g.D.Device _ _ _ _ _ c.args.out.now c.make_over.new.out c.args.dev.now c.make_over.new.dev c.make_over.result c.make_over.ensures.made))
