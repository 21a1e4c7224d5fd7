-- When all masters forget, the notes of each are about the same units as before, and as at load.
use Rattle.std.proofs.Common.{◌≡◌, ℕ, ◌<◌, List, [], ◌∷◌, length, zero, suc, refl, ap, ◌∙◌, arith}
use Rattle.pm_topology.specs.declared.topology.Topology.{Topology}
use Rattle.pm_topology.specs.UnitMap.{TableLaws, all_at, units_in}
use Rattle.pm_topology.specs.Units.{units_of}
use Rattle.pm_notify.specs.declared.node_notes.NodeNotes.{NodeNotes}
use Rattle.pm_notify.specs.MasterNotes.{MasterNotes, forgotten, nothing_more}
use Rattle.pm_notify.specs.NodeNotes.{no_notes}
use Rattle.pm_notify.specs.Notify.{all_forgotten, loaded, notes_for}

pub all_units : TableLaws NodeNotes → (notify : List MasterNotes) (k : ℕ) → units_in (notes_for k (all_forgotten notify)) ≡ units_in (notes_for k notify)
all_units tables [] k = refl
all_units tables (notes ∷ notify) zero = tables.made_units nothing_more notes
all_units tables (notes ∷ notify) (suc k) = all_units tables notify k

forgotten_is : (notes : MasterNotes) → forgotten notes ≡ all_at no_notes (units_in notes)
forgotten_is [] = refl
forgotten_is (e ∷ notes) = ap (λ later. (e.0, no_notes) ∷ later) (forgotten_is notes)

pub as_loaded : (t : Topology) (notify : List MasterNotes) → ((m : ℕ) → m < length notify → units_in (notes_for m notify) ≡ units_of t) → all_forgotten notify ≡ loaded t (length notify)
as_loaded t [] about = refl
as_loaded t (notes ∷ notify) about =
    ap (λ first. first ∷ all_forgotten notify) (forgotten_is notes ∙ ap (all_at no_notes) (about zero (omega arith)))
    ∙ ap (λ later. all_at no_notes (units_of t) ∷ later) (as_loaded t notify (λ m within. about (suc m) (omega (arith, within))))
