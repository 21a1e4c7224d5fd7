use Rattle.std.proofs.Common.{[], ◌∷◌, Some, inl, inr, refl, sym}
use Rattle.pm_device.specs.Act.{Fit}
use Rattle.pm_trace.specs.Scripts.{script_named}
use Rattle.pm_trace.proofs.ReadsLemmas.{script_starved}
use Rattle.pm_top.proofs.FitLemmas.{still_safe}
use Rattle.pm_top.proofs.replaying.replay_fitted.Goals as goal

pub replay-requires-clause-idle : goal.replay-requires-clause-idle
replay-requires-clause-idle g c = λ seen unit. (c.chain_shows.ensures (Fit c.args.topology ∷ []) c.args.dev.now c.fit.new.self (c.fit.new.self, c.in-Ok.ensures.does, refl)).values seen unit

pub returns-in-Ok-clause-did : goal.returns-in-Ok-clause-did
returns-in-Ok-clause-did g c = inr (record { start = c.fit.new.self; fitted = c.in-Ok.ensures.does; ran = c.replay.ensures.ran; done = c.replay.ensures.done; given = c.replay.ensures.given })

pub returns-in-Ok-clause-safe : goal.returns-in-Ok-clause-safe
returns-in-Ok-clause-safe g c = record { named = Some c.args.place; asked = inr refl; topology = c.args.topology; start = c.fit.new.self; fitted = c.in-Ok.ensures.does; safe = c.replay.ensures.safe }

pub returns-in-Err-clause-did : goal.returns-in-Err-clause-did
returns-in-Err-clause-did g c = inl (record { reports = c.refuse.ensures; inputs = refl; device = sym c.in-Err.ensures.refused; still = refl })

pub returns-in-Err-clause-safe : goal.returns-in-Err-clause-safe
returns-in-Err-clause-safe g c = still_safe g.D.Device _ c.args.dev.now c.fit.new.self (sym c.in-Err.ensures.refused)

pub returns-in-Err-clause-begun : goal.returns-in-Err-clause-begun
returns-in-Err-clause-begun g c = script_starved g.O.Sink (script_named c.args.script.now) c.args.out.now c.refuse.new.out c.refuse.result (g.I.Inputs.state c.args.inputs.now) c.refuse.ensures
