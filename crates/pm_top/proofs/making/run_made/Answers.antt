use Rattle.std.proofs.Common.{ℕ, Vec, Global, refl, ap}
use Rattle.pm_top.proofs.MakingLemmas.{made_driven, made_summary, no_other}
use Rattle.pm_io.specs.OneInput.{file_with}
use Rattle.std.proofs.Common.{Some}
use Rattle.pm_top.proofs.making.run_made.Goals as goal

pub returns-in-Done-clause-made : goal.returns-in-Done-clause-made
returns-in-Done-clause-made g c =
    let held = ap (λ held. Some (file_with held.bytes)) c.in-Ok.ensures.script in
    made_summary c.args.lines c.requires.few c.in-Ok.ensures.short c.in-Ok.ensures.meant held refl (λ (lines : Vec ℕ Global). lines.items) c.bytes.result.now c.summary_of.result c.summary_of.ensures c.bytes.ensures.bytes (ap (λ held. held.bytes) c.in-Ok.ensures.sink) (c.replay.ensures.done tt tt c.in-Done.is)
    (made_driven c.args.lines c.requires.few c.in-Ok.ensures.short c.in-Ok.ensures.meant held refl c.replay.result tt c.replay.ensures.ran)

pub returns-in-Memory-clause-made : goal.returns-in-Memory-clause-made
returns-in-Memory-clause-made g c =
    let held = ap (λ held. Some (file_with held.bytes)) c.in-Ok.ensures.script in
    made_driven c.args.lines c.requires.few c.in-Ok.ensures.short c.in-Ok.ensures.meant held refl c.replay.result tt c.replay.ensures.ran

pub unreachable-requires : goal.unreachable-requires
unreachable-requires g c =
    no_other c.args.lines c.requires.few c.in-Ok.ensures.short c.in-Ok.ensures.meant _ (ap (λ held. held.bytes) c.in-Ok.ensures.script) c.replay.result (c.replay.ensures.decided tt) c.in_default.not-Done c.in_default.not-Memory c.in_default.not-WriteFault
