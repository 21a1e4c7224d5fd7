-- What is read of a master's notes, and of the notes of all masters, after a change of one master's.
use Rattle.std.proofs.Common.{◌≡◌, ◌≢◌, ℕ, ◌<◌, ◌≤◌, ◌&&◌, Bool, true, false, cond, ◌==◌, List, [], length, refl, ap, sym, ◌∙◌, arith, ⊎_elim}
use Rattle.std.specs.Prelude.{Option, Some, None, is_some, slice_set, unwrap_or}
use Rattle.std.specs.Option.{option_map}
use Rattle.std.proofs.lemmas.List.{get_or-set_same, get_or-set_other, get_or-replicate, get_or_past, length-replicate, set_past}
use Rattle.std.proofs.lemmas.Bool.{cases_lt}
use Rattle.std.proofs.lemmas.Bool.Decides.{nat_tests}
use Rattle.std.proofs.lemmas.Option.{unwrap_or-slice_get}
use Rattle.pm_base.specs.declared.names.NodeId.{NodeId}
use Rattle.pm_base.specs.declared.names.Unit.{Unit}
use Rattle.pm_base.specs.declared.names.Unit.TheVariants.{Node}
use Rattle.pm_base.proofs.Booleans.{both, differs}
use Rattle.pm_topology.specs.declared.topology.Topology.{Topology}
use Rattle.pm_topology.specs.UnitMap.{TableLaws, all_at, units_in, value_of}
use Rattle.pm_topology.specs.Units.{UnitLaws, has_in, rises, units_of}
use Rattle.pm_notify.specs.declared.node_notes.NodeNotes.{NodeNotes}
use Rattle.pm_notify.specs.MasterNotes.{MasterNotes, forgotten, notes_at, with_notes}
use Rattle.pm_notify.specs.NodeNotes.{no_notes}
use Rattle.pm_notify.specs.Notify.{IsInOrder, has_slots, loaded, notes_for}
use Rattle.pm_notify.specs.Laws.{is_at}

-- ---- the notes of one master are changed

changed_here : (m : ℕ) (notes : MasterNotes) (notify : List MasterNotes) → m < length notify → notes_for m (slice_set notify m notes) ≡ notes
changed_here m notes notify within = unwrap_or-slice_get (slice_set notify m notes) m [] ∙ get_or-set_same notify m notes [] within

no_master_notes : (m : ℕ) (notify : List MasterNotes) → length notify ≤ m → notes_for m notify ≡ []
no_master_notes m notify past = unwrap_or-slice_get notify m [] ∙ get_or_past notify m [] past

pub other_notes : (m k : ℕ) (notes : MasterNotes) (notify : List MasterNotes) → k ≢ m → notes_for k (slice_set notify m notes) ≡ notes_for k notify
other_notes m k notes notify other =
    unwrap_or-slice_get (slice_set notify m notes) k [] ∙ get_or-set_other notify m k notes [] other ∙ sym (unwrap_or-slice_get notify k [])

-- a change that makes no notes of none
module _ (f : MasterNotes → MasterNotes) (none : f [] ≡ []) where
  own_notes : (m : ℕ) (notify : List MasterNotes) → notes_for m (slice_set notify m (f (notes_for m notify))) ≡ f (notes_for m notify)
  own_notes m notify = ⊎_elim
      (λ within. changed_here m (f (notes_for m notify)) notify within)
      (λ past.
      ap (notes_for m) (set_past notify m (f (notes_for m notify)) past)
      ∙ no_master_notes m notify past ∙ sym none ∙ ap f (sym (no_master_notes m notify past)))
      (cases_lt m (length notify))

  master_notes_at : (m k : ℕ) (notify : List MasterNotes) (b : Bool) → (k == m) ≡ b → notes_for k (slice_set notify m (f (notes_for m notify))) ≡ cond b (f (notes_for k notify)) (notes_for k notify)
  master_notes_at m k notify true is = let at : k ≡ m = grind (arith, nat_tests) in rw at (own_notes m notify)
  master_notes_at m k notify false is = other_notes m k (f (notes_for m notify)) notify (differs k m is)

  pub master_notes_changed : (m k : ℕ) (notify : List MasterNotes) → notes_for k (slice_set notify m (f (notes_for m notify))) ≡ cond (k == m) (f (notes_for k notify)) (notes_for k notify)
  master_notes_changed m k notify = master_notes_at m k notify (k == m) refl

  pub units_kept : ((notes : MasterNotes) → units_in (f notes) ≡ units_in notes) → (m k : ℕ) (notify : List MasterNotes)
      → units_in (notes_for k (slice_set notify m (f (notes_for m notify)))) ≡ units_in (notes_for k notify)
  units_kept same m k notify = ap (λ (notes : MasterNotes). units_in notes) (master_notes_changed m k notify) ∙ at (k == m)
    where
      at : (b : Bool) → units_in (cond b (f (notes_for k notify)) (notes_for k notify)) ≡ units_in (notes_for k notify)
      at true = same (notes_for k notify)
      at false = refl

  -- what is read of the notes, where the change leaves them
  module _ {X : Type 0} (read : MasterNotes → X) where
    pub master_notes_kept : ((notes : MasterNotes) → read (f notes) ≡ read notes) → (m k : ℕ) (notify : List MasterNotes)
        → read (notes_for k (slice_set notify m (f (notes_for m notify)))) ≡ read (notes_for k notify)
    master_notes_kept same m k notify = ap read (master_notes_changed m k notify) ∙ at (k == m)
      where
        at : (b : Bool) → read (cond b (f (notes_for k notify)) (notes_for k notify)) ≡ read (notes_for k notify)
        at true = same (notes_for k notify)
        at false = refl

    -- where it is then the same for the notes of each master
    pub master_notes_cleared : (x : X) → ((notes : MasterNotes) → read (f notes) ≡ x) → (m k : ℕ) (notify : List MasterNotes)
        → read (notes_for k (slice_set notify m (f (notes_for m notify)))) ≡ cond (k == m) x (read (notes_for k notify))
    master_notes_cleared x same m k notify = ap read (master_notes_changed m k notify) ∙ at (k == m)
      where
        at : (b : Bool) → read (cond b (f (notes_for k notify)) (notes_for k notify)) ≡ cond b x (read (notes_for k notify))
        at true = same (notes_for k notify)
        at false = refl

    -- and where it is then another at one node that is there, if a test passes
    pub master_notes_put : (n o : NodeId) (c : Bool) (x : X)
        → ((notes : MasterNotes) → read (f notes) ≡ cond (((n.0 == o.0) && is_some (value_of notes (Node n))) && c) x (read notes))
        → (m k : ℕ) (notify : List MasterNotes)
        → read (notes_for k (slice_set notify m (f (notes_for m notify)))) ≡ cond (is_at m n notify k o && c) x (read (notes_for k notify))
    master_notes_put n o c x same m k notify = ap read (master_notes_changed m k notify) ∙ at (k == m) refl
      where
        at : (b : Bool) → (k == m) ≡ b
            → read (cond b (f (notes_for k notify)) (notes_for k notify)) ≡ cond ((b && ((n.0 == o.0) && has_slots m n notify)) && c) x (read (notes_for k notify))
        at true is =
            let here : k ≡ m = grind (arith, nat_tests) in
            same (notes_for k notify) ∙ ap (λ j. cond (((n.0 == o.0) && has_slots j n notify) && c) x (read (notes_for k notify))) here
        at false is = refl

-- ---- what is kept about one node is changed

module _ (tables : TableLaws NodeNotes) (units : UnitLaws) where
  pub notes_written : (n o : NodeId) (of_node : NodeNotes) (notes : MasterNotes)
      → notes_at o (with_notes n of_node notes) ≡ cond ((n.0 == o.0) && is_some (value_of notes (Node n))) of_node (notes_at o notes)
  notes_written n o of_node notes =
      ap (λ found. unwrap_or found no_notes) (tables.set (Node n) of_node notes (Node o))
      ∙ at ((n.0 == o.0) && is_some (value_of notes (Node n))) (value_of notes (Node o))
    where
      at : (b : Bool) (found : Option NodeNotes) → unwrap_or (cond b (Some of_node) found) no_notes ≡ cond b of_node (unwrap_or found no_notes)
      at true found = refl
      at false found = refl

  same_notes : (n o : NodeId) (notes : MasterNotes) → (n.0 == o.0) ≡ true → notes_at n notes ≡ notes_at o notes
  same_notes n o notes is = ap (λ (u : Unit). unwrap_or (value_of notes u) no_notes) (units.same (Node n) (Node o) is)

  module _ {X : Type 0} (read : NodeNotes → X) where
    -- what is read of a node's notes, where the change leaves it
    pub notes_kept : (n o : NodeId) (of_node : NodeNotes) (notes : MasterNotes) → read of_node ≡ read (notes_at n notes)
        → read (notes_at o (with_notes n of_node notes)) ≡ read (notes_at o notes)
    notes_kept n o of_node notes same = ap read (notes_written n o of_node notes) ∙ at ((n.0 == o.0) && is_some (value_of notes (Node n))) refl
      where
        at : (b : Bool) → ((n.0 == o.0) && is_some (value_of notes (Node n))) ≡ b → read (cond b of_node (notes_at o notes)) ≡ read (notes_at o notes)
        at true is = same ∙ ap read (same_notes n o notes (both (n.0 == o.0) (is_some (value_of notes (Node n))) is).0)
        at false is = refl

    -- and where it is then another, if a test passes
    pub notes_put : (n o : NodeId) (of_node : NodeNotes) (notes : MasterNotes) (c : Bool) (x : X) → read of_node ≡ cond c x (read (notes_at n notes))
        → read (notes_at o (with_notes n of_node notes)) ≡ cond (((n.0 == o.0) && is_some (value_of notes (Node n))) && c) x (read (notes_at o notes))
    notes_put n o of_node notes c x same = ap read (notes_written n o of_node notes) ∙ at ((n.0 == o.0) && is_some (value_of notes (Node n))) refl
      where
        at : (b : Bool) → ((n.0 == o.0) && is_some (value_of notes (Node n))) ≡ b
            → read (cond b of_node (notes_at o notes)) ≡ cond (b && c) x (read (notes_at o notes))
        at true is = same ∙ ap (λ (there : NodeNotes). cond c x (read there)) (same_notes n o notes (both (n.0 == o.0) (is_some (value_of notes (Node n))) is).0)
        at false is = refl

  -- ---- notes that are cleared, and notes at load

  pub notes_forgotten : (o : NodeId) (notes : MasterNotes) → notes_at o (forgotten notes) ≡ no_notes
  notes_forgotten o notes = ap (λ found. unwrap_or found no_notes) (tables.made (λ unit of_node. no_notes) notes (Node o)) ∙ at (value_of notes (Node o))
    where
      at : (found : Option NodeNotes) → unwrap_or (option_map (λ (of_node : NodeNotes). no_notes) found) no_notes ≡ no_notes
      at None = refl
      at (Some of_node) = refl

  pub master_notes_loaded : (t : Topology) (masters m : ℕ) → m < masters → notes_for m (loaded t masters) ≡ all_at no_notes (units_of t)
  master_notes_loaded t masters m within =
      unwrap_or-slice_get (loaded t masters) m [] ∙ get_or-replicate masters m (all_at no_notes (units_of t)) [] within

  pub master_notes_past : (t : Topology) (masters m : ℕ) → masters ≤ m → notes_for m (loaded t masters) ≡ []
  master_notes_past t masters m past = no_master_notes m (loaded t masters) (rw (length-replicate masters (all_at no_notes (units_of t))) past)

  pub notes_loaded : (t : Topology) (masters m : ℕ) (o : NodeId) → notes_at o (notes_for m (loaded t masters)) ≡ no_notes
  notes_loaded t masters m o = ⊎_elim
      (λ within.
      ap (notes_at o) (master_notes_loaded t masters m within)
      ∙ ap (λ found. unwrap_or found no_notes) (tables.all no_notes (units_of t) (Node o))
      ∙ at (has_in (units_of t) (Node o)))
      (λ past. ap (notes_at o) (master_notes_past t masters m past))
      (cases_lt m masters)
    where
      at : (b : Bool) → unwrap_or (cond b (Some no_notes) None) no_notes ≡ no_notes
      at true = refl
      at false = refl

  pub order_loaded : (t : Topology) (masters m : ℕ) → IsInOrder m (loaded t masters)
  order_loaded t masters m = ⊎_elim
      (λ within.
      ap (λ (notes : MasterNotes). rises (units_in notes)) (master_notes_loaded t masters m within)
      ∙ ap rises (tables.all_units no_notes (units_of t))
      ∙ (units.are t).rising)
      (λ past. ap (λ (notes : MasterNotes). rises (units_in notes)) (master_notes_past t masters m past))
      (cases_lt m masters)

  pub units_loaded : (t : Topology) (masters m : ℕ) → m < masters → units_in (notes_for m (loaded t masters)) ≡ units_of t
  units_loaded t masters m within = ap (λ (notes : MasterNotes). units_in notes) (master_notes_loaded t masters m within) ∙ tables.all_units no_notes (units_of t)
