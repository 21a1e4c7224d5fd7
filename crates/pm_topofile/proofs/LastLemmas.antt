-- The last slave and the last master.
use Rattle.std.proofs.Common.{◌≡◌, true, false, ◌==◌, List, [], ◌∷◌, ◌++◌, refl, ap, sym, ◌∙◌}
use Rattle.pm_base.specs.declared.names.NodeId.{NodeId}
use Rattle.pm_topology.specs.declared.topology.SlaveState.{SlaveState}
use Rattle.pm_topology.specs.declared.topology.SlaveDef.{SlaveDef}
use Rattle.pm_topology.specs.declared.topology.MasterDef.{MasterDef}
use Rattle.pm_topofile.specs.Taking.{with_state, with_members}

pub with_state-last : (state : SlaveState) (slaves : List SlaveDef) (s : SlaveDef) → with_state state (slaves ++ s ∷ []) ≡ slaves ++ record s { states = s.states ++ state ∷ [] } ∷ []
with_state-last state [] s = refl
with_state-last state (first ∷ []) s = refl
with_state-last state (first ∷ next ∷ slaves) s = ap (λ (more : List SlaveDef). first ∷ more) (with_state-last state (next ∷ slaves) s)

pub with_members-same : (node : NodeId) (procs : List NodeId) (masters : List MasterDef) (m : MasterDef) → (m.node.0 == node.0) ≡ true → with_members node procs (masters ++ m ∷ []) ≡ masters ++ record m { procs = m.procs ++ procs } ∷ []
with_members-same node procs [] m same = rw same refl
with_members-same node procs (first ∷ []) m same = rw same refl
with_members-same node procs (first ∷ next ∷ masters) m same = ap (λ (more : List MasterDef). first ∷ more) (with_members-same node procs (next ∷ masters) m same)

pub with_members-other : (node : NodeId) (procs : List NodeId) (masters : List MasterDef) (m : MasterDef) → (m.node.0 == node.0) ≡ false → with_members node procs (masters ++ m ∷ []) ≡ masters ++ m ∷ [] ++ record { node = node; procs = procs } ∷ []
with_members-other node procs [] m other = rw other refl
with_members-other node procs (first ∷ []) m other = rw other refl
with_members-other node procs (first ∷ next ∷ masters) m other = ap (λ (more : List MasterDef). first ∷ more) (with_members-other node procs (next ∷ masters) m other)

-- a state is put at the end of the last slave's
pub state_added : (state : SlaveState) (old front new : List SlaveDef) (s : SlaveDef) (states : List SlaveState) → old ≡ front ++ s ∷ [] → states ≡ s.states ++ state ∷ [] → new ≡ front ++ record s { states = states } ∷ [] → new ≡ with_state state old
state_added state old front new s states was more now =
    now ∙ ap (λ states. front ++ record s { states = states } ∷ []) more ∙ sym (with_state-last state front s) ∙ ap (with_state state) (sym was)

-- the last master is taken off its list, or a new one comes
pub same_taken : (node : NodeId) (procs : List NodeId) (old front : List MasterDef) (m : MasterDef) → old ≡ front ++ m ∷ [] → (m.node.0 == node.0) ≡ true → with_members node procs old ≡ front ++ record m { procs = m.procs ++ procs } ∷ []
same_taken node procs old front m was same = ap (with_members node procs) was ∙ with_members-same node procs front m same

pub other_taken : (node : NodeId) (procs : List NodeId) (old front back : List MasterDef) (m : MasterDef) → old ≡ front ++ m ∷ [] → (m.node.0 == node.0) ≡ false → back ≡ front ++ m ∷ [] → with_members node procs old ≡ back ++ record { node = node; procs = procs } ∷ []
other_taken node procs old front back m was other is = ap (with_members node procs) was ∙ with_members-other node procs front m other ∙ ap (λ masters. masters ++ record { node = node; procs = procs } ∷ []) (sym is)
