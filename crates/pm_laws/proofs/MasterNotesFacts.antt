-- The notes of a master, entry by entry: what is made of the notes of two that are alike leaves them alike, and so does what isn't told
-- beyond, made of one of them.
use Rattle.std.proofs.Common.{◌≡◌, ℕ, Bool, true, false, if◌then◌else◌, List, [], ◌∷◌, Some, unwrap_or, refl, sym, ◌∙◌, ap, subst, arith}
use Rattle.std.specs.Prelude.{map}
use Rattle.std.specs.List.{list_all}
use Rattle.std.proofs.lemmas.Bool.{eqb-true}
use Rattle.std.proofs.lemmas.Bool.Decides.{nat_tests}
use Rattle.pm_laws.proofs.Common.{Border, Both, BothFrom, IsBeyond, Node, NodeId, SameEntries, SameEntry, SameMasterNotes, SameNotes, Unit, is_told}
use Rattle.pm_base.specs.declared.names.Unit.TheVariants.{Line}
use Rattle.pm_base.proofs.Booleans.{both}
use Rattle.pm_notify.specs.declared.node_notes.NodeNotes.{NodeNotes}
use Rattle.pm_notify.specs.declared.notes.NodeEvent.{NodeEvent}
use Rattle.pm_notify.specs.declared.notes.Note.{Note}
use Rattle.pm_notify.specs.MasterNotes.{MasterNotes, forgotten, notes_at, nothing_more, only_waiting, with_note, with_notes, with_notifier, without_note, without_notifiers}
use Rattle.pm_notify.specs.NodeNotes.{emptied, filled, no_notes, with_asked}
use Rattle.pm_notify.specs.Notify.{notes_for}
use Rattle.pm_topology.specs.UnitMap.{remade, set_entry, units_in, value_of}
use Rattle.pm_topology.specs.Units.{is_before, rises, same_unit}
use Rattle.pm_laws.proofs.Places.{Both-map, Both-sym, Both-trans, BothFrom-get}

abbrev Entry : Type 0
Entry = Unit × NodeNotes

-- ---- the units stay

-- a function keeps the unit of each entry
abbrev KeepsUnits : (Entry → Entry) → Type 0
KeepsUnits f = (e : Entry) → (f e).0 ≡ e.0

units_kept : (f : Entry → Entry) → KeepsUnits f → (notes : MasterNotes) → units_in (map f notes) ≡ units_in notes
units_kept f keeps [] = refl
units_kept f keeps (e ∷ notes) = ap (λ u. u ∷ units_in (map f notes)) (keeps e) ∙ ap (λ units. e.0 ∷ units) (units_kept f keeps notes)

set_keeps : (u : Unit) (v : NodeNotes) → KeepsUnits (set_entry u v)
set_keeps u v e = at (same_unit e.0 u)
  where
    at : (b : Bool) → (if b then (e.0, v) else e).0 ≡ e.0
    at true = refl
    at false = refl

units_same : (border : Border) (a b : MasterNotes) → Both (SameEntry border) a b → units_in a ≡ units_in b
units_same border [] [] same = refl
units_same border [] (y ∷ ys) same = absurd same
units_same border (x ∷ xs) [] same = absurd same
units_same border (x ∷ xs) (y ∷ ys) same = ap (λ u. u ∷ units_in xs) same.0.unit ∙ ap (λ units. y.0 ∷ units) (units_same border xs ys same.1)

-- ---- turned round, and through a third

entry_sym : (border : Border) (x y : Entry) → SameEntry border x y → SameEntry border y x
entry_sym border x y same =
    let P : Unit → Type 0 = λ u. is_told border u ≡ true in
    record {
      unit = sym same.unit;
      notes = record { notifiers = sym same.notes.notifiers; slots = λ told. sym (same.notes.slots (subst P (sym same.unit) told)) };
    }

pub entries_sym : (border : Border) (a b : MasterNotes) → SameEntries border a b → SameEntries border b a
entries_sym border a b same = record {
  order = ap rises (sym (units_same border a b same.each)) ∙ same.order;
  each = Both-sym (SameEntry border) (entry_sym border) a b same.each;
}

entry_trans : (border : Border) (x y z : Entry) → SameEntry border x y → SameEntry border y z → SameEntry border x z
entry_trans border x y z first second =
    let P : Unit → Type 0 = λ u. is_told border u ≡ true in
    record {
      unit = first.unit ∙ second.unit;
      notes = record {
        notifiers = first.notes.notifiers ∙ second.notes.notifiers;
        slots = λ told. first.notes.slots told ∙ second.notes.slots (subst P first.unit told);
      };
    }

pub entries_trans : (border : Border) (a b c : MasterNotes) → SameEntries border a b → SameEntries border b c → SameEntries border a c
entries_trans border a b c first second =
    record { order = first.order; each = Both-trans (SameEntry border) (entry_trans border) a b c first.each second.each }

-- ---- with itself

itself : (border : Border) (notes : MasterNotes) → Both (SameEntry border) notes notes
itself border [] = tt
itself border (e ∷ notes) =
    (record { unit = refl; notes = record { notifiers = refl; slots = λ told. refl } }, itself border notes)

pub entries_self : (border : Border) (notes : MasterNotes) → rises (units_in notes) ≡ true → SameEntries border notes notes
entries_self border notes order = record { order = order; each = itself border notes }

-- ---- what stands about a node

notes_self : (told : Bool) → SameNotes told no_notes no_notes
notes_self told = record { notifiers = refl; slots = λ is. refl }

-- the entry of a node tells beyond what its number does
told_node : (border : Border) (u : Unit) (n : NodeId) → same_unit u (Node n) ≡ true → is_told border u ≡ border.node n.0
told_node border (Node m) n is = ap border.node (eqb-true m.0 n.0 is)
told_node border (Line l) n is = cc

pub notes_same : (border : Border) (n : NodeId) (a b : MasterNotes) → Both (SameEntry border) a b → SameNotes (border.node n.0) (notes_at n a) (notes_at n b)
notes_same border n [] [] same = notes_self (border.node n.0)
notes_same border n [] (y ∷ ys) same = absurd same
notes_same border n (x ∷ xs) [] same = absurd same
notes_same border n (x ∷ xs) (y ∷ ys) same =
    let P : Unit → Type 0 = λ u. SameNotes (border.node n.0) (notes_at n (x ∷ xs)) (unwrap_or (if same_unit u (Node n) then Some y.1 else value_of ys (Node n)) no_notes) in
    subst P same.0.unit (at (same_unit x.0 (Node n)) refl (notes_same border n xs ys same.1))
  where
    at : (here : Bool) → same_unit x.0 (Node n) ≡ here → SameNotes (border.node n.0) (notes_at n xs) (notes_at n ys)
        → SameNotes (border.node n.0) (unwrap_or (if here then Some x.1 else value_of xs (Node n)) no_notes)
        (unwrap_or (if here then Some y.1 else value_of ys (Node n)) no_notes)
    at true is later = record {
      notifiers = same.0.notes.notifiers;
      slots = λ told. same.0.notes.slots (told_node border x.0 n is ∙ told);
    }
    at false is later = later

-- ---- made of both

-- notes that are alike, put about a node of both
set_both : (border : Border) (n : NodeId) (v w : NodeNotes) (x y : Entry) → SameNotes (border.node n.0) v w → SameEntry border x y
    → SameEntry border (set_entry (Node n) v x) (set_entry (Node n) w y)
set_both border n v w x y alike same =
    let P : Unit → Type 0 = λ u. SameEntry border (set_entry (Node n) v x) (if same_unit u (Node n) then (y.0, w) else y) in
    subst P same.unit (at (same_unit x.0 (Node n)) refl)
  where
    at : (here : Bool) → same_unit x.0 (Node n) ≡ here
        → SameEntry border (if here then (x.0, v) else x) (if here then (y.0, w) else y)
    at true is = record {
      unit = same.unit;
      notes = record { notifiers = alike.notifiers; slots = λ told. alike.slots (sym (told_node border x.0 n is) ∙ told) };
    }
    at false is = same

with_both : (border : Border) (n : NodeId) (v w : NodeNotes) (a b : MasterNotes) → SameNotes (border.node n.0) v w → SameEntries border a b
    → SameEntries border (with_notes n v a) (with_notes n w b)
with_both border n v w a b alike same = record {
  order = ap rises (units_kept (set_entry (Node n) v) (set_keeps (Node n) v) a) ∙ same.order;
  each = Both-map (SameEntry border) (set_entry (Node n) v) (set_entry (Node n) w) (λ x y is. set_both border n v w x y alike is) a b same.each;
}

pub notifier_both : (border : Border) (n : NodeId) (event : NodeEvent) (on : Bool) (a b : MasterNotes) → SameEntries border a b
    → SameEntries border (with_notifier n event on a) (with_notifier n event on b)
notifier_both border n event on a b same =
    let notes = notes_same border n a b same.each in
    with_both border n (record (notes_at n a) { notifiers = with_asked event on (notes_at n a).notifiers })
    (record (notes_at n b) { notifiers = with_asked event on (notes_at n b).notifiers }) a b
    (record { notifiers = ap (with_asked event on) notes.notifiers; slots = notes.slots }) same

pub note_both : (border : Border) (n : NodeId) (note : Note) (a b : MasterNotes) → SameEntries border a b
    → SameEntries border (with_note n note a) (with_note n note b)
note_both border n note a b same =
    let notes = notes_same border n a b same.each in
    with_both border n (record (notes_at n a) { slots = filled note (notes_at n a).slots })
    (record (notes_at n b) { slots = filled note (notes_at n b).slots }) a b
    (record { notifiers = notes.notifiers; slots = λ told. ap (filled note) (notes.slots told) }) same

pub take_both : (border : Border) (n : NodeId) (note : Note) (a b : MasterNotes) → SameEntries border a b
    → SameEntries border (without_note n note a) (without_note n note b)
take_both border n note a b same =
    let notes = notes_same border n a b same.each in
    with_both border n (record (notes_at n a) { slots = emptied note (notes_at n a).slots })
    (record (notes_at n b) { slots = emptied note (notes_at n b).slots }) a b
    (record { notifiers = notes.notifiers; slots = λ told. ap (emptied note) (notes.slots told) }) same

pub forgotten_both : (border : Border) (a b : MasterNotes) → SameEntries border a b → SameEntries border (forgotten a) (forgotten b)
forgotten_both border a b same = record {
  order = ap rises (units_kept (remade nothing_more) (λ e. refl) a) ∙ same.order;
  each = Both-map (SameEntry border) (remade nothing_more) (remade nothing_more)
      (λ x y is. record { unit = is.unit; notes = notes_self (is_told border x.0) }) a b same.each;
}

pub unwatched_both : (border : Border) (a b : MasterNotes) → SameEntries border a b → SameEntries border (without_notifiers a) (without_notifiers b)
unwatched_both border a b same = record {
  order = ap rises (units_kept (remade only_waiting) (λ e. refl) a) ∙ same.order;
  each = Both-map (SameEntry border) (remade only_waiting) (remade only_waiting)
      (λ x y is. record { unit = is.unit; notes = record { notifiers = refl; slots = is.notes.slots } }) a b same.each;
}

-- ---- made of one

apart : (u v : Unit) (n : NodeId) → is_before u v ≡ true → same_unit u (Node n) ≡ true → same_unit v (Node n) ≡ false
apart (Node a) (Node b) n before here = grind (arith, nat_tests)
apart (Node a) (Line b) n before here = refl
apart (Line a) (Node b) n before here = cc
apart (Line a) (Line b) n before here = refl

-- past the entry of a node there is no other
set_nowhere : (border : Border) (n : NodeId) (v : NodeNotes) (u : Unit) (xs ys : MasterNotes) → same_unit u (Node n) ≡ true
    → list_all (is_before u) (units_in xs) ≡ true → Both (SameEntry border) xs ys
    → Both (SameEntry border) (map (set_entry (Node n) v) xs) ys
set_nowhere border n v u [] [] here later same = tt
set_nowhere border n v u [] (y ∷ ys) here later same = absurd same
set_nowhere border n v u (x ∷ xs) [] here later same = absurd same
set_nowhere border n v u (x ∷ xs) (y ∷ ys) here later same =
    let parts = both (is_before u x.0) (list_all (is_before u) (units_in xs)) later in
    let P : Bool → Type 0 = λ b. SameEntry border (if b then (x.0, v) else x) y in
    (subst P (sym (apart u x.0 n parts.0 here)) same.0, set_nowhere border n v u xs ys here parts.1 same.1)

-- other slots about a node that isn't told beyond
set_left : (border : Border) (n : NodeId) (v : NodeNotes) (xs ys : MasterNotes) → border.node n.0 ≡ false
    → v.notifiers ≡ (notes_at n xs).notifiers → rises (units_in xs) ≡ true → Both (SameEntry border) xs ys
    → Both (SameEntry border) (map (set_entry (Node n) v) xs) ys
set_left border n v [] [] within kept order same = tt
set_left border n v [] (y ∷ ys) within kept order same = absurd same
set_left border n v (x ∷ xs) [] within kept order same = absurd same
set_left border n v (x ∷ xs) (y ∷ ys) within kept order same =
    let parts = both (list_all (is_before x.0) (units_in xs)) (rises (units_in xs)) order in
    at (same_unit x.0 (Node n)) refl parts.0 (λ still. set_left border n v xs ys within still parts.1 same.1) kept
  where
    at : (here : Bool) → same_unit x.0 (Node n) ≡ here → list_all (is_before x.0) (units_in xs) ≡ true
        → (v.notifiers ≡ (notes_at n xs).notifiers → Both (SameEntry border) (map (set_entry (Node n) v) xs) ys)
        → v.notifiers ≡ (unwrap_or (if here then Some x.1 else value_of xs (Node n)) no_notes).notifiers
        → Both (SameEntry border) ((if here then (x.0, v) else x) ∷ map (set_entry (Node n) v) xs) (y ∷ ys)
    at true is first later still = (
      record {
        unit = same.0.unit;
        notes = record {
          notifiers = still ∙ same.0.notes.notifiers;
          slots = λ told. absurd (let e : true ≡ false = sym told ∙ (told_node border x.0 n is ∙ within) in cc);
        };
      },
      set_nowhere border n v x.0 xs ys is first same.1,
    )
    at false is first later still = (same.0, later still)

with_left : (border : Border) (n : NodeId) (v : NodeNotes) (a b : MasterNotes) → border.node n.0 ≡ false
    → v.notifiers ≡ (notes_at n a).notifiers → SameEntries border a b → SameEntries border (with_notes n v a) b
with_left border n v a b within kept same = record {
  order = ap rises (units_kept (set_entry (Node n) v) (set_keeps (Node n) v) a) ∙ same.order;
  each = set_left border n v a b within kept same.order same.each;
}

pub note_left : (border : Border) (n : NodeId) (note : Note) (a b : MasterNotes) → border.node n.0 ≡ false → SameEntries border a b
    → SameEntries border (with_note n note a) b
note_left border n note a b within same =
    with_left border n (record (notes_at n a) { slots = filled note (notes_at n a).slots }) a b within refl same

pub take_left : (border : Border) (n : NodeId) (note : Note) (a b : MasterNotes) → border.node n.0 ≡ false → SameEntries border a b
    → SameEntries border (without_note n note a) b
take_left border n note a b within same =
    with_left border n (record (notes_at n a) { slots = emptied note (notes_at n a).slots }) a b within refl same

-- ---- the notes of a master beyond

pub master_notes_same : (border : Border) (m : ℕ) (a b : List MasterNotes) → IsBeyond border m → BothFrom (SameMasterNotes border) 0 a b → SameEntries border (notes_for m a) (notes_for m b)
master_notes_same border m a b beyond same =
    BothFrom-get (SameMasterNotes border) (SameEntries border) 0 m m [] (omega arith) (record { order = refl; each = tt }) (λ x y is. is beyond) a b same
