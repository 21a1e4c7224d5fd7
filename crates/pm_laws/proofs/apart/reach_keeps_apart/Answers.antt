use Rattle.std.proofs.Common.{refl}
use Rattle.pm_run.specs.Run.{fixed_of}
use Rattle.pm_laws.specs.ReachBorder.{border_of}
use Rattle.pm_laws.proofs.AlikeLaw.{BookLaws, worlds_alike, worlds_beside}
use Rattle.pm_laws.proofs.BesideLaw.{CoreLaws, agree_after, cores_beside, line_beside, splits_beside}
use Rattle.pm_laws.proofs.apart.reach_keeps_apart.Goals as goal

pub returns : goal.returns
returns c =
    let laws : CoreLaws = record {
      both = c.steps_keep_apart.ensures.both;
      left = c.steps_keep_apart.ensures.left;
      rest = c.steps_keep_apart.ensures.rest;
      keeps = c.books_of_a_run.ensures.step;
      line = c.books_of_a_run.ensures.line;
    } in
    let books : BookLaws = record {
      values = c.steps_keep_apart.ensures.values;
      modes = c.steps_keep_apart.ensures.modes;
      load = c.books_of_a_run.ensures.load;
      agrees = λ setup m object chip.
          c.books_agree.ensures.load (border_of (fixed_of setup) m) (fixed_of setup) setup.object 0 refl
          (c.reach_is_closed.ensures.closed (fixed_of setup) m object chip);
    } in
    record {
      events = λ setup m event a b rules quiet_boxes. (splits_beside setup m event a b rules quiet_boxes).events;
      boxes = λ setup m event a b rules quiet_boxes. (splits_beside setup m event a b rules quiet_boxes).boxes;
      cores = λ setup m es fs a b object chip beside first second agree. cores_beside laws setup m object chip es fs a b beside first second agree;
      after = λ setup m es fs a b object chip beside first second agree. agree_after laws setup m object chip es fs a b beside first second agree;
      line = λ setup m event a b object chip first second agree boxes. line_beside laws setup m object chip event a b chip.masters first second agree boxes;
      beside = λ setup m events object chip. worlds_beside setup m laws books object chip events;
      alike = λ setup m events object chip. worlds_alike setup m laws books object chip events;
    }
