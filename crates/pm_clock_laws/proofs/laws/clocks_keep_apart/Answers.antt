use Rattle.pm_clock_laws.proofs.BesideLemmas.{Below, answers_alike, cores_alike}
use Rattle.pm_clock_laws.proofs.LinesLemmas.{RunLaws, clocks_alike}
use Rattle.pm_clock_laws.proofs.laws.clocks_keep_apart.Goals as goal

pub returns-clause-cores : goal.returns-clause-cores
returns-clause-cores c =
    let below : Below = record {
      values = c.steps_keep_apart.ensures.values;
      both = c.steps_keep_apart.ensures.both;
      left = c.steps_keep_apart.ensures.left;
      rest = c.steps_keep_apart.ensures.rest;
      mode = c.rows_follow_alike.ensures.mode;
      own = c.reach_is_closed.ensures.own;
      sound = c.books_stay_sound.ensures.step;
      stand = c.clocks_stand_after_steps.ensures;
    } in
    cores_alike below

pub returns-clause-answers : goal.returns-clause-answers
returns-clause-answers c = λ m.
    let below : Below = record {
      values = c.steps_keep_apart.ensures.values;
      both = c.steps_keep_apart.ensures.both;
      left = c.steps_keep_apart.ensures.left;
      rest = c.steps_keep_apart.ensures.rest;
      mode = c.rows_follow_alike.ensures.mode;
      own = c.reach_is_closed.ensures.own;
      sound = c.books_stay_sound.ensures.step;
      stand = c.clocks_stand_after_steps.ensures;
    } in
    answers_alike below m c.clocks_run_by_their_parents.ensures

pub returns-clause-lines : goal.returns-clause-lines
returns-clause-lines c = λ setup m events object chip.
    let below : Below = record {
      values = c.steps_keep_apart.ensures.values;
      both = c.steps_keep_apart.ensures.both;
      left = c.steps_keep_apart.ensures.left;
      rest = c.steps_keep_apart.ensures.rest;
      mode = c.rows_follow_alike.ensures.mode;
      own = c.reach_is_closed.ensures.own;
      sound = c.books_stay_sound.ensures.step;
      stand = c.clocks_stand_after_steps.ensures;
    } in
    let lines : RunLaws = record {
      events = c.reach_keeps_apart.ensures.events;
      boxes = c.reach_keeps_apart.ensures.boxes;
      after = c.reach_keeps_apart.ensures.after;
      worlds = c.reach_keeps_apart.ensures.beside;
      load = c.books_of_a_run.ensures.load;
      line = c.books_of_a_run.ensures.line;
    } in
    clocks_alike below lines c.clocks_run_by_their_parents.ensures setup m object chip events
