use Rattle.std.proofs.Common.{◌≡◌, ℕ, Option, inr, refl, subst, sym}
use Rattle.std.specs.Prelude.{IfNone}
use Rattle.pm_io.specs.World.{world}
use Rattle.pm_board.specs.Standing.{standing}
use Rattle.pm_chip.specs.Chip.{chip}
use Rattle.pm_top.specs.Done.{Replays}
use Rattle.pm_top.proofs.FitLemmas.{chip_safe}
use Rattle.pm_top.proofs.replaying.replay_over.Goals as goal

pub returns-in-Some-clause-did : goal.returns-in-Some-clause-did
returns-in-Some-clause-did g c =
    let P : Option ℕ → Type 0 = λ named. Replays g.I.Inputs g.O.Sink g.D.Device named c.args.object c.args.topology (standing g.H.Responder g.T.Handler c.args.board.now.modules.now c.args.board.now.tasks) (standing g.H.Responder g.T.Handler c.args.board.now.modules.now c.replay_fitted.new.board.tasks) c.args.script.now (world c.args.inputs.now c.args.out.now c.args.dev.now) (world c.replay_fitted.new.inputs c.replay_fitted.new.out c.replay_fitted.new.dev) c.replay_fitted.result in
    subst P (sym c.in-Some.is) c.replay_fitted.ensures.did

pub returns-in-None-clause-did : goal.returns-in-None-clause-did
returns-in-None-clause-did g c =
    let P : Option ℕ → Type 0 = λ named. Replays g.I.Inputs g.O.Sink g.D.Device named c.args.object c.args.topology (standing g.H.Responder g.T.Handler c.args.board.now.modules.now c.args.board.now.tasks) (standing g.H.Responder g.T.Handler c.args.board.now.modules.now c.replay.new.tasks) c.args.script.now (world c.args.inputs.now c.args.out.now c.args.dev.now) (world c.replay.new.inputs c.replay.new.out c.replay.new.dev) c.replay.result in
    let chips : c.args.topology ≡ chip = subst (λ (named : Option ℕ). IfNone named (c.args.topology ≡ chip)) c.in-None.is c.requires.built_in in
    subst P (sym c.in-None.is) (inr (record { start = c.args.dev.now; fitted = (chips, refl); ran = c.replay.ensures.ran; done = c.replay.ensures.done; given = c.replay.ensures.given }))

pub returns-in-None-clause-safe : goal.returns-in-None-clause-safe
returns-in-None-clause-safe g c =
    let chips : c.args.topology ≡ chip = subst (λ (named : Option ℕ). IfNone named (c.args.topology ≡ chip)) c.in-None.is c.requires.built_in in
    chip_safe g.D.Device _ c.args.dev.now c.replay.new.dev c.args.topology chips c.replay.ensures.safe
