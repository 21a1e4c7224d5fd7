-- A core event in which no processor goes to a mode leaves all processors as they are.
use Rattle.std.proofs.Common.{◌≡◌, ℕ, ◌==◌, true, false, not, List, [], length, refl}
use Rattle.std.proofs.lemmas.Bool.{eqb-true}
use Rattle.std.proofs.lemmas.List.{nil_from_length}
use Rattle.pm_base.specs.declared.events.Event.{Event}
use Rattle.pm_state.specs.Changes.{written_along}
use Rattle.pm_state.specs.State.{State}
use Rattle.pm_calls.proofs.StaysLaw.{none_written}
use Rattle.pm_core.specs.Step.{effect, nothing_of, stages, turns_proc}
use Rattle.pm_isolate.proofs.HistoryLemmas.{not_false}

-- the processors after a step of a book are those before it
abbrev pub KeepsProcs : State → State → Type 0
KeepsProcs book next = next.now.core.procs ≡ book.now.core.procs

none_of : (xs : List ℕ) → not (length xs == 0) ≡ false → xs ≡ []
none_of xs none = nil_from_length xs (eqb-true (length xs) 0 (not_false (length xs == 0) none))

pub event_keeps : (event : Event) (book : State) → turns_proc event book ≡ false → KeepsProcs book (effect event book)
event_keeps event book stays =
    (none_written (stages event book) book (nothing_of book) refl
    (none_of (written_along (stages event book) book (nothing_of book)).procs.list stays)).procs
