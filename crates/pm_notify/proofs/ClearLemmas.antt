-- Notes are cleared place by place.
use Rattle.std.proofs.Common.{◌≡◌, ℕ, ◌+◌, ◌<◌, ◌++◌, length, take, drop, ap, ◌∙◌, arith, inl, inr}
use Rattle.std.proofs.lemmas.Option.{slice_get_cases}
use Rattle.pm_topology.specs.UnitMap.{TablePlaceLaws, mapped, with_value_at}
use Rattle.pm_notify.specs.declared.node_notes.NodeNotes.{NodeNotes}
use Rattle.pm_notify.specs.MasterNotes.{MasterNotes, nothing_more}
use Rattle.pm_notify.specs.NodeNotes.{no_notes}

pub clear_step : TablePlaceLaws NodeNotes → (old now new : MasterNotes) (place : ℕ)
    → place < length old
    → now ≡ mapped nothing_more (take place old) ++ drop place old
    → new ≡ with_value_at place no_notes now
    → new ≡ mapped nothing_more (take (place + 1) old) ++ drop (place + 1) old
clear_step places old now new place within so_far clears =
    elim ((slice_get_cases old place).1) [
      | inl here ↦
          clears
          ∙ ap (with_value_at place no_notes) so_far
          ∙ places.made nothing_more old place here.0 here.2
      | inr past ↦ absurd (omega (arith, past.0))
    ]
