use Rattle.std.proofs.Common.{◌<◌, length, ◌∙◌, inl, inr, arith}
use Rattle.std.proofs.lemmas.List.{length-set}
use Rattle.std.proofs.lemmas.Option.{slice_get_cases}
use Rattle.pm_values.specs.Along.{mode_beside}
use Rattle.pm_state.proofs.PlacedLemmas.{placed_step}
use Rattle.pm_values.proofs.along.log_modes.Goals as goal

pub loop-m-preserved : goal.loop-m-preserved
loop-m-preserved c =
    let book = c.args.tables.now in
    let masters = book.fixed.object.masters in
    let m = c.loop-m.m in
    let within : m < length masters = omega (arith, c.masters-m-end.ensures, c.loop-m-test.true) in
    record {
      places = length-set c.loop-m.modes m c.mode_of_master.result ∙ c.loop-m.invariant.places;
      modes = elim ((slice_get_cases masters m).1) [
        | inl here ↦ placed_step (mode_beside book) masters c.loop-m.modes m here.0 c.mode_of_master.result _ here.2 (omega arith) c.mode_of_master.ensures c.loop-m.invariant.modes
        | inr past ↦ absurd (omega (arith, past.0))
      ];
    }
