-- Nothing is seen of a reset by a master within reach: the line is within, and so is the master whose processor it resets.
use Rattle.std.proofs.Common.{◌≡◌, ℕ, ◌==◌, Bool, true, false, if◌then◌else◌, List, [], ◌∷◌, ◌++◌, slice_get, Option, Some, None, refl, sym, ◌∙◌, ap, subst}
use Rattle.std.specs.Prelude.{option_and_then}
use Rattle.std.specs.Option.{option_map_or}
use Rattle.std.proofs.lemmas.Bool.{eqb-true}
use Rattle.pm_base.specs.declared.names.LineId.{LineId}
use Rattle.pm_laws.proofs.Common.{AreHidden, Border, IsUnseen, Kind, NodeId, Object, Off, Prim, Put_line, Put_proc, State, Topology, called, kind_at, kind_of, owner_at, proc_place, seen, seen_part, stages_of}
use Rattle.pm_base.proofs.Searches.{position-first}
use Rattle.pm_ipi.specs.declared.calls.Call.TheVariants.{ResetAssert}
use Rattle.pm_perms.specs.Owner.{owner}
use Rattle.pm_grants.specs.Grants.{permits_reset}
use Rattle.pm_state.specs.State.{grants_in, usable_among}
use Rattle.pm_reach.specs.Leads.{has_processor_at, targets}
use Rattle.pm_topology.specs.declared.places.Kind.TheVariants.{Proc}
use Rattle.pm_topology.specs.declared.topology.LineDef.{LineDef}
use Rattle.pm_topology.specs.declared.topology.ProcDef.{ProcDef}
use Rattle.pm_calls.specs.declared.reset_lines.OwnedProc.{OwnedProc}
use Rattle.pm_calls.specs.ResetLines.{can_reset, owned_by, owned_node, owned_of, reset_at, reset_by}
use Rattle.pm_state.specs.Values.{line_place}
use Rattle.pm_calls.specs.calls.ResetAssert.{line_put, stopped, stopped_by}
use Rattle.pm_laws.proofs.DownHidden.{call_hides}
use Rattle.pm_laws.proofs.HiddenLemmas.{HasClosed, by_one, within_by}
use Rattle.pm_laws.proofs.OwnsLaw.{owner_owns}

-- ---- changes

unseen_more : (border : Border) (prim : Prim) (later : List Prim) → seen border prim ≡ false → IsUnseen border later → IsUnseen border (prim ∷ later)
unseen_more border prim later is rest = ap (λ b. if b then prim ∷ seen_part border later else seen_part border later) is ∙ rest

stop_unseen : (border : Border) (target : Option OwnedProc) → ((x : OwnedProc) → target ≡ Some x → border.master x.owner ≡ false) → IsUnseen border (stopped target)
stop_unseen border None within = refl
stop_unseen border (Some target) within = unseen_more border (Put_proc target.owner target.proc Off 0) [] (within target refl) refl

stops_unseen : (border : Border) (release : Bool) (target : Option OwnedProc) → ((x : OwnedProc) → target ≡ Some x → border.master x.owner ≡ false) → IsUnseen border (if release then [] else stopped target)
stops_unseen border true target within = refl
stops_unseen border false target within = stop_unseen border target within

-- ---- the target of a line

proc_first : (proc slave power : Option ℕ) (p : ℕ) → kind_at proc slave power ≡ Proc p → proc ≡ Some p
proc_first (Some k) slave power p is = let same : k ≡ p = cc in ap Some same
proc_first None slave (Some k) p is = cc
proc_first None (Some k) None p is = cc
proc_first None None None p is = cc

-- the owner of a processor is that of its number
owner_of_node : (object : Object) (t : Topology) (node : NodeId) (p : ℕ) → proc_place t.procs node.0 ≡ Some p → owner_at object t p ≡ owner object t node
owner_of_node object t node p is =
    let first = position-first (λ (x : ProcDef). x.node.0 == node.0) t.procs p is in
    let id : ℕ → NodeId = λ n. record { 0 = n } in
    let same : first.element.node ≡ node = ap id (eqb-true first.element.node.0 node.0 first.passes) in
    ap (λ o. option_and_then (λ (proc : ProcDef). owner object t proc.node) o) first.here ∙ ap (owner object t) same

targets_owner : (object : Object) (others : List Object) (t : Topology) (line : LineDef) (node : NodeId) (k : ℕ) → line.target ≡ Some node → owner object t node ≡ Some k → targets (object ∷ others) t line k ≡ true
targets_owner object others t line node k target is =
    ap (λ o. option_map_or (has_processor_at (object ∷ others) t k) o false) target
    ∙ owner_owns object others t node k is

module _ (border : Border) (book : State) (closed : HasClosed border book) (m l : ℕ) (line : LineDef)
    (here : slice_get book.fixed.topology.lines l ≡ Some line)
    (may : permits_reset (grants_in book) m l ≡ true)
    (within : border.master m ≡ false) where
  -- the owner of a processor that the line resets is within
  owner_within : (node : NodeId) (p : ℕ) (got : Option ℕ) (x : OwnedProc) → line.target ≡ Some node → kind_of book.fixed.topology node ≡ Proc p
      → owner_at book.fixed.object book.fixed.topology p ≡ got → owned_by got p ≡ Some x → border.master x.owner ≡ false
  owner_within node p None x target kind own is = cc
  owner_within node p (Some k) x target kind own is =
      let t : Topology = book.fixed.topology in
      let place : proc_place t.procs node.0 ≡ Some p = proc_first (proc_place t.procs node.0) _ _ p kind in
      let owned : owner book.fixed.object t node ≡ Some k = sym (owner_of_node book.fixed.object t node p place) ∙ own in
      let same : k ≡ x.owner = ap (λ (o : Option OwnedProc). option_map_or (λ (y : OwnedProc). y.owner) o k) is in
      let P : ℕ → Type 0 = λ j. border.master j ≡ false in
      subst P same
      (within_by (border.master k) (border.master m) (closed.closed.resets m k l line here (by_one book (λ g. permits_reset g m l) closed.force may) (targets_owner book.fixed.object (usable_among book.fixed.object book.fixed.attached) t line node k target owned)) within)

  kind_within : (node : NodeId) (kind : Kind) (x : OwnedProc) → line.target ≡ Some node → kind_of book.fixed.topology node ≡ kind
      → owned_of kind book.fixed ≡ Some x → border.master x.owner ≡ false
  kind_within node (Proc p) x target kind is = owner_within node p (owner_at book.fixed.object book.fixed.topology p) x target kind refl is
  kind_within node _ x target kind is = cc

  target_within : (target : Option NodeId) (x : OwnedProc) → line.target ≡ target → owned_node target book.fixed ≡ Some x → border.master x.owner ≡ false
  target_within None x target is = cc
  target_within (Some node) x target is = kind_within node (kind_of book.fixed.topology node) x target refl is

module _ (border : Border) (book : State) (closed : HasClosed border book) (m l : ℕ)
    (may : permits_reset (grants_in book) m l ≡ true) (within : border.master m ≡ false) where
  entry_within : (got : Option LineDef) (x : OwnedProc) → slice_get book.fixed.topology.lines l ≡ got → reset_by got book.fixed ≡ Some x → border.master x.owner ≡ false
  entry_within None x here is = cc
  entry_within (Some line) x here is = target_within border book closed m l line here may within line.target x refl is

  reset_within : (x : OwnedProc) → reset_at (Some l) book.fixed ≡ Some x → border.master x.owner ≡ false
  reset_within x is = entry_within (slice_get book.fixed.topology.lines l) x refl is

  pub line_within : border.line l ≡ false
  line_within = within_by (border.line l) (border.master m) (closed.closed.lines m l (by_one book (λ g. permits_reset g m l) closed.force may)) within

-- ---- the call

placed_unseen : (border : Border) (m action : ℕ) (book : State) (place : Option ℕ) → HasClosed border book → border.master m ≡ false → can_reset m place book ≡ true → IsUnseen border (line_put place (action == 1) ++ stopped_by action (reset_at place book.fixed))
placed_unseen border m action book None closed within may = stops_unseen border (action == 0) None (λ x is. cc)
placed_unseen border m action book (Some l) closed within may =
    unseen_more border (Put_line l (action == 1)) (stopped_by action (reset_at (Some l) book.fixed)) (line_within border book closed m l may within)
    (stops_unseen border (action == 0) (reset_at (Some l) book.fixed) (reset_within border book closed m l may within))

pub reset_hidden : (border : Border) (m : ℕ) (line : LineId) (action : ℕ) (book : State) → HasClosed border book → border.master m ≡ false → AreHidden border (stages_of (called m (ResetAssert line action) book))
reset_hidden border m line action book closed within =
    call_hides border (called m (ResetAssert line action) book)
    (λ all. (placed_unseen border m action book (line_place line book.fixed) closed within all.permitted, tt))
