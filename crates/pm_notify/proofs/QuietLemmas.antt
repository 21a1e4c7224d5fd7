-- When nothing waits in a master's notes: at load, when they were cleared, and when no first note was found.
use Rattle.std.proofs.Common.{◌≡◌, ℕ, ◌++◌, List, [], ◌∷◌, refl, ap, sym, subst, ◌∙◌}
use Rattle.std.specs.Prelude.{Option, Some, None, slice_get}
use Rattle.pm_base.specs.declared.names.Unit.{Unit}
use Rattle.pm_base.specs.declared.names.Unit.TheVariants.{Node, Line}
use Rattle.pm_topology.specs.UnitMap.{all_at}
use Rattle.pm_notify.specs.declared.notes.Waiting.{Waiting}
use Rattle.pm_notify.specs.MasterNotes.{MasterNotes, forgotten, waiting_about, waiting_in, without_notifiers}
use Rattle.pm_notify.specs.NodeNotes.{no_notes, no_slots}

none_about : (u : Unit) → waiting_about u no_slots ≡ []
none_about (Node n) = refl
none_about (Line l) = refl

pub none_loaded : (units : List Unit) → waiting_in (all_at no_notes units) ≡ []
none_loaded [] = refl
none_loaded (u ∷ units) = ap (λ ws. ws ++ waiting_in (all_at no_notes units)) (none_about u) ∙ none_loaded units

pub none_forgotten : (notes : MasterNotes) → waiting_in (forgotten notes) ≡ []
none_forgotten [] = refl
none_forgotten (e ∷ notes) = ap (λ ws. ws ++ waiting_in (forgotten notes)) (none_about e.0) ∙ none_forgotten notes

pub none_first : (ws : List Waiting) → slice_get ws 0 ≡ None → ws ≡ []
none_first [] is = refl
none_first (w ∷ ws) is = cc

-- ---- nothing is held

pub blank_loaded : (units : List Unit) → forgotten (all_at no_notes units) ≡ all_at no_notes units
blank_loaded [] = refl
blank_loaded (u ∷ units) = ap (λ (notes : MasterNotes). (u, no_notes) ∷ notes) (blank_loaded units)

pub blank_forgotten : (notes : MasterNotes) → forgotten (forgotten notes) ≡ forgotten notes
blank_forgotten [] = refl
blank_forgotten (e ∷ notes) = ap (λ (notes : MasterNotes). (e.0, no_notes) ∷ notes) (blank_forgotten notes)

none_to_drop : (notes : MasterNotes) → without_notifiers (forgotten notes) ≡ forgotten notes
none_to_drop [] = refl
none_to_drop (e ∷ notes) = ap (λ (notes : MasterNotes). (e.0, no_notes) ∷ notes) (none_to_drop notes)

-- where nothing is held there are no notifiers to drop
pub blank_dropped : (notes : MasterNotes) → forgotten notes ≡ notes → without_notifiers notes ≡ notes
blank_dropped notes blank = (let P : MasterNotes → Type 0 = λ notes. without_notifiers notes ≡ notes in subst P blank (none_to_drop notes))
