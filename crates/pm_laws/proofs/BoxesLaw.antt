-- A line is split by the boxes of two worlds, of which the quiet one has the boxes of the loud one, but that the box of the master is
-- empty. Its core events are beside one another, the boxes after it are so again, and the same other masters are told that their
-- boxes are full.
use Rattle.std.proofs.Common.{◌≡◌, ◌≢◌, ℕ, ◌==◌, ◌-◌, Bool, true, false, not, if◌then◌else◌, List, [], ◌∷◌, ◌++◌, flat_map, length, slice_get, Option, None, Some, refl, ap, sym, ◌∙◌, subst}
use Rattle.std.specs.Prelude.{is_some, slice_set}
use Rattle.std.specs.List.{range_with_len}
use Rattle.std.proofs.Math.ListN.{length-set}
use Rattle.std.proofs.lemmas.Bool.{eqb-true}
use Rattle.pm_base.specs.declared.events.Event.{Event}
use Rattle.pm_base.specs.declared.events.Event.TheVariants.{Ipi, Pass, Post, Serve, Smc}
use Rattle.pm_base.specs.declared.events.Message.{Message}
use Rattle.pm_base.specs.declared.names.NodeId.{NodeId}
use Rattle.pm_base.proofs.Booleans.{differs, equal}
use Rattle.pm_base.proofs.Searches.{IsFirst, position-first}
use Rattle.pm_ipi.specs.Mail.{all_empty, box_at, emptied, is_empty, posted}
use Rattle.pm_object.specs.declared.object.MasterRec.{MasterRec}
use Rattle.pm_object.specs.declared.object.Object.{Object}
use Rattle.pm_topology.specs.declared.topology.Topology.{Topology}
use Rattle.pm_topology.specs.WellFormed.{ObeysMasterRules}
use Rattle.pm_psci.specs.Lowering.{lowered, or_pass}
use Rattle.pm_split.specs.Boxes.{Boxes, box_of, sent_by, sent_from, with_bit}
use Rattle.pm_split.specs.Split.{Split, call, post, split_of}
use Rattle.pm_split.specs.Split.Note.{Busy}
use Rattle.pm_split.proofs.Lists.{all_stay, box_emptied, box_other, set_again, set_either}
use Rattle.pm_laws.specs.Beside.{Beside, none, both, left, rest}
use Rattle.pm_laws.specs.Quiet.{quiet_event}
use Rattle.pm_laws.specs.Worlds.{busy_others, without_box}
use Rattle.pm_laws.proofs.CallsLeft.{calls_left}

-- ---- lists of core events

module _ (object : Object) (t : Topology) (m : NodeId) where
  pub beside_itself : (es : List Event) → Beside object t m es es
  beside_itself [] = none
  beside_itself (event ∷ es) = both event es es (beside_itself es)

  beside_append : (es fs later others : List Event) → Beside object t m es fs → Beside object t m later others → Beside object t m (es ++ later) (fs ++ others)
  beside_append _ _ later others none beside = beside
  beside_append _ _ later others (both event es fs first) beside = both event (es ++ later) (fs ++ others) (beside_append es fs later others first beside)
  beside_append _ _ later others (left event es fs own first) beside = left event (es ++ later) (fs ++ others) own (beside_append es fs later others first beside)
  beside_append _ _ later others (rest es fs first) beside = rest (es ++ later) (fs ++ others) (beside_append es fs later others first beside)

  -- the quiet line has only a Pass if all events of the line are the master's
  rest_alone : (es fs : List Event) → fs ≡ [] → Beside object t m es fs → Beside object t m es (Pass ∷ [])
  rest_alone _ _ is none = rest [] [] none
  rest_alone _ _ is (both event es fs later) = cc
  rest_alone _ _ is (left event es fs own later) = left event es (Pass ∷ []) own (rest_alone es fs is later)
  rest_alone _ _ is (rest es fs later) = cc

  or_pass_beside : (es fs : List Event) → Beside object t m es fs → Beside object t m (or_pass es) (or_pass fs)
  or_pass_beside _ _ none = both Pass [] [] none
  or_pass_beside _ _ (both event es fs later) = both event es fs later
  or_pass_beside _ _ (left event es [] own later) = left event es (Pass ∷ []) own (rest_alone es [] refl later)
  or_pass_beside _ _ (left event es (f ∷ fs) own later) = left event es (f ∷ fs) own later
  or_pass_beside _ _ (rest [] fs later) = both Pass [] fs later
  or_pass_beside _ _ (rest (e ∷ es) fs later) = rest (e ∷ es) fs later

-- what is split of a line in the two worlds
pub record IsSplitBeside (object : Object) (t : Topology) (m : NodeId) (x y : Split) : Type 0 where
  pub events : Beside object t m x.events y.events
  pub boxes : y.boxes ≡ without_box (box_of object m) x.boxes
  pub busy : busy_others m x.notes ≡ busy_others m y.notes

-- ---- boxes

module _ (object : Object) (t : Topology) (m : NodeId) where
  -- the master at the place of a node has its number
  at_place : (node : NodeId) (k : ℕ) → box_of object node ≡ Some k → (r : MasterRec) × (slice_get object.masters k ≡ Some r) × (r.node ≡ node.0)
  at_place node k is =
      let first : IsFirst (λ (r : MasterRec). r.node == node.0) object.masters k = position-first _ object.masters k is in
      (first.element, first.here, eqb-true first.element.node node.0 first.passes)

  other_places : (node : NodeId) (j k : ℕ) → box_of object node ≡ Some j → box_of object m ≡ Some k → node.0 ≢ m.0 → k ≢ j
  other_places node j k first second other same =
      let one = at_place node j first in
      let two = at_place m k second in
      let equal : Some one.0 ≡ Some two.0 = sym one.1 ∙ ap (λ place. slice_get object.masters place) (sym same) ∙ two.1 in
      let is : one.0 ≡ two.0 = cc in
      other (sym one.2 ∙ ap (λ (r : MasterRec). r.node) is ∙ two.2)

  module _ (loud : Boxes) where
    -- ---- the messages that are served

    -- the message of the master is in the loud world alone
    own_sent : (r : MasterRec) (held : Option Message) → r.node ≡ m.0 → Beside object t m (sent_by (Some r) held) (sent_by (Some r) None)
    own_sent r None is = none
    own_sent r (Some message) is = left (Ipi (record { 0 = r.node }) message) [] [] is none

    sent_at : (k j : ℕ) (same : Bool) → (k == j) ≡ same → box_of object m ≡ Some k
        → Beside object t m (sent_from object loud (Some j)) (sent_from object (emptied k loud) (Some j))
    sent_at k j true same is =
        let place : k ≡ j = eqb-true k j same in
        let there = at_place m k is in
        let P : Option MasterRec → Type 0 = λ found. Beside object t m (sent_by found (box_at k loud)) (sent_by found None) in
        let Q : Option Message → Type 0 = λ held. Beside object t m (sent_by (slice_get object.masters k) (box_at k loud)) (sent_by (slice_get object.masters k) held) in
        let R : ℕ → Type 0 = λ place. Beside object t m (sent_from object loud (Some place)) (sent_from object (emptied k loud) (Some place)) in
        subst R place (subst Q (sym (box_emptied k loud)) (subst P (sym there.1) (own_sent there.0 (box_at k loud) there.2)))
    sent_at k j false other is =
        let P : Option Message → Type 0 = λ held. Beside object t m (sent_from object loud (Some j)) (sent_by (slice_get object.masters j) held) in
        subst P (sym (box_other k j loud (differs k j other))) (beside_itself object t m (sent_from object loud (Some j)))

    sent_beside : (mine place : Option ℕ) → box_of object m ≡ mine → Beside object t m (sent_from object loud place) (sent_from object (without_box mine loud) place)
    sent_beside None place is = beside_itself object t m (sent_from object loud place)
    sent_beside (Some k) None is = none
    sent_beside (Some k) (Some j) is = sent_at k j (k == j) refl is

    all_sent : (mine : Option ℕ) (bits : List ℕ) → box_of object m ≡ mine
        → Beside object t m (flat_map (λ k. sent_from object loud (with_bit object k)) bits) (flat_map (λ k. sent_from object (without_box mine loud) (with_bit object k)) bits)
    all_sent mine [] is = none
    all_sent mine (bit ∷ bits) is =
        beside_append object t m _ _ _ _ (sent_beside mine (with_bit object bit) is) (all_sent mine bits is)

    -- ---- the boxes

    -- a message of the master, in its box that is emptied, and in no box
    own_post : (k : ℕ) (message : Message) (empty : Bool) → emptied k (if empty then slice_set loud k (Some message) else loud) ≡ emptied k loud
    own_post k message true = set_again loud k (Some message) None
    own_post k message false = refl

    -- a message of another one
    still_empty : (k j : ℕ) → k ≢ j → is_empty j (emptied k loud) ≡ is_empty j loud
    still_empty k j other = ap (λ (held : Option Message). not (is_some held)) (box_other k j loud other)

    put_either : (k j : ℕ) (message : Message) (empty : Bool) → k ≢ j
        → (if empty then slice_set (emptied k loud) j (Some message) else emptied k loud) ≡ emptied k (if empty then slice_set loud j (Some message) else loud)
    put_either k j message true other = set_either loud k j None (Some message) other
    put_either k j message false other = refl

    other_post : (k j : ℕ) (message : Message) → k ≢ j → posted j message (emptied k loud) ≡ emptied k (posted j message loud)
    other_post k j message other =
        ap (λ (empty : Bool). if empty then slice_set (emptied k loud) j (Some message) else emptied k loud) (still_empty k j other)
        ∙ put_either k j message (is_empty j loud) other

    -- ---- a message that is put into a box

    module _ (node : NodeId) (message : Message) where
      post_boxes : (place mine : Option ℕ) → box_of object node ≡ place → box_of object m ≡ mine → node.0 ≢ m.0
          → (post place node message (without_box mine loud)).boxes ≡ without_box mine (post place node message loud).boxes
      post_boxes None mine first second other = refl
      post_boxes (Some j) None first second other = refl
      post_boxes (Some j) (Some k) first second other = other_post k j message (other_places node j k first second other)

      post_notes : (place mine : Option ℕ) → box_of object node ≡ place → box_of object m ≡ mine → node.0 ≢ m.0
          → (post place node message (without_box mine loud)).notes ≡ (post place node message loud).notes
      post_notes None mine first second other = refl
      post_notes (Some j) None first second other = refl
      post_notes (Some j) (Some k) first second other =
          ap (λ (empty : Bool). if empty then [] else Busy node ∷ []) (still_empty k j (other_places node j k first second other))

      post_beside : (place mine : Option ℕ) → Beside object t m (post place node message loud).events (post place node message (without_box mine loud)).events
      post_beside None mine = both (Ipi node message) [] [] none
      post_beside (Some j) mine = both Pass [] [] none

    own_beside : (place : Option ℕ) (message : Message) → Beside object t m (post place m message loud).events (Pass ∷ [])
    own_beside None message = left (Ipi m message) [] (Pass ∷ []) refl (rest [] [] none)
    own_beside (Some k) message = both Pass [] [] none

    own_boxes : (place : Option ℕ) (message : Message) → without_box place loud ≡ without_box place (post place m message loud).boxes
    own_boxes None message = refl
    own_boxes (Some k) message = sym (own_post k message (is_empty k loud))

    own_busy : (empty : Bool) → busy_others m (if empty then [] else Busy m ∷ []) ≡ []
    own_busy true = refl
    own_busy false = ap (λ (own : Bool). (if own then [] else m ∷ []) ++ []) (equal m.0 m.0 refl)

    own_notes : (place : Option ℕ) (message : Message) → busy_others m (post place m message loud).notes ≡ []
    own_notes None message = refl
    own_notes (Some k) message = own_busy (is_empty k loud)

    serve_boxes : (mine : Option ℕ) → all_empty (length (without_box mine loud)) ≡ without_box mine (all_empty (length loud))
    serve_boxes None = refl
    serve_boxes (Some k) = ap all_empty (length-set loud k None) ∙ sym (all_stay k (length loud))

    -- ---- a line

    abbrev quiet_boxes : Boxes
    quiet_boxes = without_box (box_of object m) loud

    post_split : (node : NodeId) (message : Message) (mine : Bool) → (node.0 == m.0) ≡ mine
        → IsSplitBeside object t m (split_of object t (Post node message) loud) (split_of object t (if mine then Pass else Post node message) quiet_boxes)
    post_split node message true is =
        let P : ℕ → Type 0 = λ number. IsSplitBeside object t m (split_of object t (Post (record { 0 = number }) message) loud) (split_of object t Pass quiet_boxes) in
        subst P (sym (eqb-true node.0 m.0 is)) (record {
          events = own_beside (box_of object m) message;
          boxes = own_boxes (box_of object m) message;
          busy = own_notes (box_of object m) message;
        })
    post_split node message false is =
        let other : node.0 ≢ m.0 = differs node.0 m.0 is in
        record {
          events = post_beside node message (box_of object node) (box_of object m);
          boxes = post_boxes node message (box_of object node) (box_of object m) refl refl other;
          busy = ap (busy_others m) (sym (post_notes node message (box_of object node) (box_of object m) refl refl other));
        }

    sent_split : (node : NodeId) (message : Message) (mine : Bool) → (node.0 == m.0) ≡ mine
        → IsSplitBeside object t m (split_of object t (Ipi node message) loud) (split_of object t (if mine then Pass else Ipi node message) quiet_boxes)
    sent_split node message true is =
        record { events = left (Ipi node message) [] (Pass ∷ []) (eqb-true node.0 m.0 is) (rest [] [] none); boxes = refl; busy = refl }
    sent_split node message false is = record { events = both (Ipi node message) [] [] none; boxes = refl; busy = refl }

    -- a power call: if the master is 1 all its events are the master's, else they are equal in both worlds
    call_split : (rules : ObeysMasterRules t) (proc : NodeId) (function : ℕ) (args : List ℕ) (mine : Bool) → (m.0 == 1) ≡ mine
        → IsSplitBeside object t m (split_of object t (Smc proc function args) loud) (split_of object t (if mine then Pass else Smc proc function args) quiet_boxes)
    call_split rules proc function args true is = record { events = calls_left object t m rules (eqb-true m.0 1 is) (call proc function args); boxes = refl; busy = refl }
    call_split rules proc function args false is = record { events = beside_itself object t m (lowered t (call proc function args)); boxes = refl; busy = refl }

    pub split_beside : ObeysMasterRules t → (event : Event) → IsSplitBeside object t m (split_of object t event loud) (split_of object t (quiet_event m event) quiet_boxes)
    split_beside rules (Smc proc function args) = call_split rules proc function args (m.0 == 1) refl
    split_beside rules (Post node message) = post_split node message (node.0 == m.0) refl
    split_beside rules (Ipi node message) = sent_split node message (node.0 == m.0) refl
    split_beside rules Serve = record {
      events = or_pass_beside object t m _ _ (all_sent (box_of object m) (range_with_len 0 (32 - 0)) refl);
      boxes = serve_boxes (box_of object m);
      busy = refl;
    }
    split_beside rules event = record { events = both event [] [] none; boxes = refl; busy = refl }

-- at load all boxes are empty in both worlds
pub load_boxes : (object : Object) (m : NodeId) (n : ℕ) → all_empty n ≡ without_box (box_of object m) (all_empty n)
load_boxes object m n = at (box_of object m)
  where
    at : (mine : Option ℕ) → all_empty n ≡ without_box mine (all_empty n)
    at None = refl
    at (Some k) = sym (all_stay k n)
