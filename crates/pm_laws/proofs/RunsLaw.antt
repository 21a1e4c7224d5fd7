-- Events one after another: what holds part of the way through them, and how their end is that of a run.
use Rattle.std.proofs.Common.{◌≡◌, List, [], ◌∷◌, Option, None, Some, MatchOption, refl, ap, sym, ◌∙◌, subst}
use Rattle.pm_laws.proofs.Common.{Event, IsSound, MeetsRequirements, State, value}
use Rattle.pm_core.specs.declared.outbox.Outbox.{Outbox}
use Rattle.pm_core.specs.Outbox.{HasRoomFor, Holds, KeepsRoom, Outputs}
use Rattle.pm_run.specs.Run.{Core, Setup, book_after, core_0, core_of, cores_of}
use Rattle.pm_laws.specs.Runs.{IsLeftBy, end_of_run, last_core, last_outputs}

-- an outbox holds these outputs, or, if there are none, is as before
abbrev pub HoldsLast : Option Outputs → Outbox → Outbox → Type 0
HoldsLast last before out = MatchOption last (out ≡ before) (λ outputs. Holds outputs out)

-- part of the way: from here the events that are left lead to the end of all
pub record IsUnderWay (events left : List Event) (first now : State) (before out : Outbox) : Type 0 where
  pub held : Option Outputs
  pub holds : HoldsLast held before out
  pub book : book_after left now ≡ book_after events first
  pub last : last_outputs held left now ≡ last_outputs None events first
  pub fixed : now.fixed ≡ first.fixed
  pub room : KeepsRoom before out
  pub ready : HasRoomFor now out
  pub sound : IsSound now
  pub met : MeetsRequirements now (λ u. value u now)

-- at the end
holds_at_end : (events : List Event) (first now : State) (before out : Outbox) → IsUnderWay events [] first now before out
    → HoldsLast (last_outputs None events first) before out
holds_at_end events first now before out way =
    let P : Option Outputs → Type 0 = λ last. HoldsLast last before out in
    subst P way.last way.holds

-- ---- a run

last_book : (events : List Event) (core : Core) → (last_core core (cores_of events core.after)).after ≡ book_after events core.after
last_book [] core = refl
last_book (event ∷ events) core = last_book events (core_of event core.after)

last_out : (events : List Event) (core : Core)
    → last_outputs (Some core.outputs) events core.after ≡ Some (last_core core (cores_of events core.after)).outputs
last_out [] core = refl
last_out (event ∷ events) core = last_out events (core_of event core.after)

held_after : (events : List Event) (core : Core) (before out : Outbox) → Holds core.outputs before
    → HoldsLast (last_outputs None events core.after) before out → HoldsLast (last_outputs (Some core.outputs) events core.after) before out
held_after [] core before out holds same = let P : Outbox → Type 0 = λ o. Holds core.outputs o in subst P (sym same) holds
held_after (event ∷ events) core before out holds last = last

left_by_last : (events : List Event) (core : Core) (first now : State) (before out : Outbox) → IsUnderWay events [] first now before out
    → IsLeftBy core first before → IsLeftBy (last_core core (cores_of events core.after)) now out
left_by_last events core first now before out way start =
    let P : State → Type 0 = λ book. HoldsLast (last_outputs None events book) before out in
    let Q : Option Outputs → Type 0 = λ last. HoldsLast last before out in
    record {
      book = way.book ∙ ap (book_after events) start.book ∙ sym (last_book events core);
      out = subst Q (last_out events core) (held_after events core before out start.out (subst P start.book (holds_at_end events first now before out way)));
    }

pub runs_to_end : (events : List Event) (first now : State) (before out : Outbox) → IsUnderWay events [] first now before out
    → (c : Setup) → IsLeftBy (core_0 c) first before → IsLeftBy (end_of_run c events) now out
runs_to_end events first now before out way c start = left_by_last events (core_0 c) first now before out way start
