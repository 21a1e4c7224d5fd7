-- The notes of each master are about the units of the chip.
use Rattle.std.proofs.Common.{ℕ, List, [], ◌∷◌, ◌∙◌}
use Rattle.std.proofs.lemmas.List.{length-map, length-set, length-replicate}
use Rattle.pm_notify.specs.Laws.{OrderLaws}
use Rattle.pm_notify.specs.MasterNotes.{forgotten, with_note, with_notifier, without_note, without_notifiers}
use Rattle.pm_notify.specs.NodeNotes.{no_notes}
use Rattle.pm_notify.specs.Notify.{loaded, notes_for}
use Rattle.pm_topology.specs.declared.topology.Topology.{Topology}
use Rattle.pm_topology.specs.UnitMap.{all_at}
use Rattle.pm_topology.specs.Units.{units_of}
use Rattle.pm_state.specs.Sound.{AreNotes}
use Rattle.pm_state.specs.State.{TalkHalf}
use Rattle.pm_state.specs.Talk.{Talk, Ask, Lower, End, Forget, Notify, Take, Wait, Renew, Unwatch, apply_talk, talks}

change_notes : OrderLaws → (t : Topology) (masters : ℕ) (change : Talk) (half : TalkHalf) → AreNotes t masters half.notes → AreNotes t masters (apply_talk change half).notes
change_notes laws t masters (Ask m request) half note_changes = note_changes
change_notes laws t masters (Lower count) half note_changes = note_changes
change_notes laws t masters (End m) half note_changes = note_changes
change_notes laws t masters (Forget m) half note_changes = record {
  each = length-set half.notes m (forgotten (notes_for m half.notes)) ∙ note_changes.each;
  units = λ k within. laws.clears m half.notes k ∙ note_changes.units k within;
}
change_notes laws t masters (Notify m node event on) half note_changes = record {
  each = length-set half.notes m (with_notifier node event on (notes_for m half.notes)) ∙ note_changes.each;
  units = λ k within. laws.puts m node event on half.notes k ∙ note_changes.units k within;
}
change_notes laws t masters (Take m node note) half note_changes = record {
  each = length-set half.notes m (without_note node note (notes_for m half.notes)) ∙ note_changes.each;
  units = λ k within. laws.takes m node note half.notes k ∙ note_changes.units k within;
}
change_notes laws t masters (Wait m node note) half note_changes = record {
  each = length-set half.notes m (with_note node note (notes_for m half.notes)) ∙ note_changes.each;
  units = λ k within. laws.waits m node note half.notes k ∙ note_changes.units k within;
}
change_notes laws t masters Renew half note_changes = record {
  each = length-map half.notes forgotten ∙ note_changes.each;
  units = λ k within. laws.restarts half.notes k ∙ note_changes.units k within;
}
change_notes laws t masters Unwatch half note_changes = record {
  each = length-map half.notes without_notifiers ∙ note_changes.each;
  units = λ k within. laws.forgets half.notes k ∙ note_changes.units k within;
}

pub talk_notes : OrderLaws → (t : Topology) (masters : ℕ) (changes : List Talk) (half : TalkHalf) → AreNotes t masters half.notes → AreNotes t masters (talks changes half).notes
talk_notes laws t masters [] half note_changes = note_changes
talk_notes laws t masters (change ∷ changes) half note_changes =
    talk_notes laws t masters changes (apply_talk change half) (change_notes laws t masters change half note_changes)

pub load_notes : OrderLaws → (t : Topology) (masters : ℕ) → AreNotes t masters (loaded t masters)
load_notes laws t masters = record {
  each = length-replicate masters (all_at no_notes (units_of t));
  units = λ m within. laws.units t masters m within;
}
