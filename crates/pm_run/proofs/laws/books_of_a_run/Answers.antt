use Rattle.pm_run.proofs.BooksLaw.{BookLaws, load_keeps, step_keeps, cores_keep, books_keep, line_keeps, run_keeps, run_cores_keep, a_core}
use Rattle.pm_run.proofs.laws.books_of_a_run.Goals as goal

pub returns : goal.returns
returns c =
    let laws : BookLaws = record { load = c.books_stay_sound.ensures.load; step = c.books_stay_sound.ensures.step; met = c.values_meet.ensures.met } in
    record {
      load = load_keeps laws;
      step = step_keeps laws;
      cores = cores_keep laws;
      after = books_keep laws;
      line = line_keeps laws;
      all = run_keeps laws;
      all_cores = run_cores_keep laws;
      some_core = a_core;
    }
