-- Each answer of a run has its causes, since each answer has.
use Rattle.std.proofs.Common.{List, [], ◌∷◌}
use Rattle.std.proofs.lemmas.List.Elements.{All-nil, All-cons, All-append}
use Rattle.pm_base.specs.declared.events.Event.{Event}
use Rattle.pm_base.specs.declared.events.Event.TheVariants.{Pass}
use Rattle.pm_state.specs.State.{State}
use Rattle.pm_core.specs.Step.{answer_to, effect}
use Rattle.pm_run.specs.Run.{Setup, Stand, core_0, core_of, cores_of, cores_in, line_of, lines_of, loaded, run, split}
use Rattle.pm_causes.specs.Caused.{HasCauses, HasOwnCauses, HaveCauses}

module _ (law : (event : Event) (book : State) → HasCauses event book (answer_to event book)) where
  pub cores_caused : (events : List Event) (book : State) → HaveCauses (cores_of events book)
  cores_caused [] book = All-nil HasOwnCauses
  cores_caused (event ∷ events) book =
      All-cons HasOwnCauses (core_of event book) (cores_of events (effect event book)) (law event book) (cores_caused events (effect event book))

  pub lines_caused : (c : Setup) (events : List Event) (stand : Stand) → HaveCauses (cores_in (lines_of c events stand))
  lines_caused c [] stand = All-nil HasOwnCauses
  lines_caused c (event ∷ events) stand =
      All-append HasOwnCauses (line_of c event stand).cores (cores_in (lines_of c events (line_of c event stand).after))
      (cores_caused (split c event stand).events stand.book) (lines_caused c events (line_of c event stand).after)

  pub run_caused : (c : Setup) (events : List Event) → HaveCauses (cores_in (run c events))
  run_caused c events =
      All-cons HasOwnCauses (core_0 c) (cores_in (lines_of c events (loaded c))) (law Pass (loaded c).book) (lines_caused c events (loaded c))
