use Rattle.std.proofs.Common.{length, refl, ◌∙◌, ap, arith}
use Rattle.pm_tell.specs.declared.telling.Telling.{Telling}
use Rattle.pm_values.specs.Along.{mode_beside}
use Rattle.pm_state.proofs.PlacedLemmas.{length-placed}
use Rattle.pm_values.proofs.AlongLaw.{next_places}
use Rattle.pm_step.proofs.step.begin.Goals as goal

pub returns-clause-places : goal.returns-clause-places
returns-clause-places c =
    let book = c.args.tables.now in
    record {
      modes = ap length c.log_modes.ensures.modes ∙ length-placed (mode_beside book) 0 book.fixed.object.masters;
      along = next_places book book c.start.new.self c.start.ensures refl;
      ended = omega (arith, c.requires.places.ended, ap (λ (t : Telling). t.ended.room) c.log_modes.ensures.rest);
      notices = omega (arith, c.requires.places.notices, ap (λ (t : Telling). t.notices.room) c.log_modes.ensures.rest);
    }
