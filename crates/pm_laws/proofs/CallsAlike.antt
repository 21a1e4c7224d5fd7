-- A call of a master beyond does the same in two books that agree, unless it changes a row on a slave within reach.
use Rattle.std.proofs.Common.{◌≡◌, ℕ, Bool, true, false, not, ◌&&◌, ◌||◌, ◌==◌, if◌then◌else◌, List, [], ◌∷◌, Option, Some, None, refl, sym, ◌∙◌, ap, subst, arith}
use Rattle.std.specs.Prelude.{find, is_some, option_map, cond}
use Rattle.std.proofs.lemmas.Bool.{eqb-true}
use Rattle.pm_laws.proofs.Common.{Agree, AreAlike, BelowLaws, Border, Both, Entry, Fixed, IsBeyond, IsClosed, IsSeenAlike, Kind, NodeId, Now, Object, Prim, Pair, Same, SamePending, SameRow, SameRows, State, called, can_suspend, can_wake, changes_within, changing, is_asked, is_place, is_slave_within, is_within, kind_of, master_node, master_timeout, mode_of_master, named_master, names_master, owner_at, owner_by, proc_at, proc_view, proc_view_at, rival_node, row_view, row_view_at, shape_within, stages_of, suspend_view, suspendable, suspendable_at, wake_view, wake_view_at, wakeable, watched_at}
use Rattle.pm_base.proofs.Booleans.{both, equal}
use Rattle.pm_base.specs.declared.names.LineId.{LineId}
use Rattle.pm_ipi.specs.declared.calls.Call.{Call}
use Rattle.pm_procs.specs.declared.procs.Proc.{Proc as Processor}
use Rattle.pm_procs.specs.Pending.{pending_at}
use Rattle.pm_rows.specs.declared.row.Row.{Row}
use Rattle.pm_rows.specs.Rows.{entry_at, is_at, is_rival}
use Rattle.pm_rows.specs.Sound.{pair_in}
use Rattle.pm_calls.specs.declared.reset_lines.LineView.{LineView}
use Rattle.pm_calls.specs.declared.views.ProcView.{ProcView}
use Rattle.pm_calls.specs.declared.views.RowView.{RowView}
use Rattle.pm_topology.specs.declared.places.Kind.TheVariants.{Proc, Slave}
use Rattle.pm_grants.specs.declared.grants.Grants.{Grants}
use Rattle.pm_grants.specs.Grants.{grants_of, permits_configure, permits_reset, permits_suspend, permits_use, permits_wake}
use Rattle.pm_state.specs.Objects.{found_at}
use Rattle.pm_state.specs.State.{grants_in}
use Rattle.pm_calls.specs.declared.views.Watched.TheVariants.{SlaveNode}
use Rattle.pm_calls.specs.calls.ForcePowerdown.{force_powerdown}
use Rattle.pm_calls.specs.calls.SetConfiguration.{set_configuration}
use Rattle.pm_calls.specs.calls.SystemShutdown.{system_shutdown}
use Rattle.pm_state.specs.Members.{owns}
use Rattle.pm_state.specs.Values.{line_place, slave_place}
use Rattle.pm_calls.specs.ResetLines.{can_reset, line_view, reset_at}
use Rattle.pm_calls.specs.RowCalls.{row_changes}
use Rattle.pm_calls.specs.calls.AbortSuspend.{abort_suspend}
use Rattle.pm_calls.specs.calls.RegisterNotifier.{register_notifier}
use Rattle.pm_calls.specs.calls.RequestSuspend.{request_suspend}
use Rattle.pm_calls.specs.calls.RequestWakeup.{request_wakeup}
use Rattle.pm_calls.specs.calls.ResetAssert.{reset_assert}
use Rattle.pm_calls.specs.calls.SelfSuspend.{self_suspend}
use Rattle.pm_calls.specs.calls.SetWakeupSource.{set_wakeup_source}
use Rattle.pm_calls.proofs.Verdicts.{nothing_done}
use Rattle.pm_calls.specs.calls.{shape_of}
use Rattle.pm_calls.specs.Shapes.{Shape, Node_status, Node_figures, Line_value, Own_row, Own_arming, Own_suspend, Own_abort, Own_notifier, Other_wakeup, Other_suspend, All_forced, All_shut, All_reset, All_configured, shaped}
use Rattle.pm_calls.proofs.ShapeLaw.{called_shaped}
use Rattle.pm_laws.proofs.ShapesLaw.{reads_within}
use Rattle.pm_laws.proofs.AgreeLaw.{clash}
use Rattle.pm_laws.proofs.FollowLaw.{mode_alike, proc_alike}
use Rattle.pm_laws.proofs.Places.{Both-find, Both-refl, BothFrom-get}
use Rattle.pm_laws.proofs.RowFacts.{no_rival, rival_alike}

abbrev pub book_of : Fixed → Now → State
book_of fixed now = record { fixed = fixed; now = now }

-- equal stages are alike
pub alike_of : (border : Border) (first second : List (List Prim)) → first ≡ second → AreAlike border first second
alike_of border first second is = Both-refl (IsSeenAlike border) (λ stage. refl) first second is

-- ---- the view of a row on a slave beyond

pub rows_both : (border : Border) (a b : List Entry) → border.some ≡ true → SameRows border border.some a b → Both (SameRow border) a b
rows_both border a b some same =
    let P : Bool → Type 0 = λ s. SameRows border s a b in
    subst P some same

-- of a slave beyond the row and its pair are equal
pub entry_alike : (border : Border) (s : ℕ) (x y : Entry) → border.slave s ≡ true → SameRow border x y → x.seed.slave ≡ s → x ≡ y
entry_alike border s x y beyond same there =
    ap (λ (seed : Pair). record { seed = seed; row = x.row }) same.seed
    ∙ ap (λ (row : Row). record { seed = y.seed; row = row }) (same.row (ap border.slave there ∙ beyond))

pub entries_alike : (border : Border) (m s : ℕ) (a b : List Entry) → border.slave s ≡ true → Both (SameRow border) a b → find (is_at m s) a ≡ find (is_at m s) b
entries_alike border m s a b beyond same =
    Both-find (SameRow border) (is_at m s) (λ x y each. ap (λ (seed : Pair). (seed.master == m) && (seed.slave == s)) each.seed)
    (λ x y each is. entry_alike border s x y beyond each (eqb-true x.seed.slave s (both (x.seed.master == m) (x.seed.slave == s) is).1)) a b same

rival_there : (m s : ℕ) (x : Entry) (there : Bool) → (x.seed.slave == s) ≡ there → is_rival m s x ≡ true → there ≡ true
rival_there m s x true at is = refl
rival_there m s x false at is = clash (is_rival m s x) is (no_rival m s x at)

rivals_alike : (border : Border) (m s : ℕ) (a b : List Entry) → border.slave s ≡ true → Both (SameRow border) a b → find (is_rival m s) a ≡ find (is_rival m s) b
rivals_alike border m s a b beyond same =
    Both-find (SameRow border) (is_rival m s) (λ x y each. rival_alike border m s (x.seed.slave == s) x y beyond refl each)
    (λ x y each is. entry_alike border s x y beyond each (eqb-true x.seed.slave s (rival_there m s x (x.seed.slave == s) refl is))) a b same

pub kept : (b : Bool) → not b ≡ false → b ≡ true
kept true is = refl
kept false is = cc

-- the node of a rival, if there is one
abbrev rival_by : Fixed → Option Entry → Option NodeId
rival_by fixed rival = option_map (master_node fixed.object.masters) (option_map (λ (entry : Entry). entry.seed.master) rival)

pub row_view_alike : (fixed : Fixed) (border : Border) (m : ℕ) (slave : Option ℕ) (a b : Now) → border.some ≡ true → is_slave_within border slave ≡ false → Same fixed border a b → row_view_at m slave (book_of fixed a) ≡ row_view_at m slave (book_of fixed b)
row_view_alike fixed border m None a b some beyond same = refl
row_view_alike fixed border m (Some s) a b some within same =
    let beyond : border.slave s ≡ true = kept (border.slave s) within in
    let rows : Both (SameRow border) a.core.rows.entries b.core.rows.entries = rows_both border a.core.rows.entries b.core.rows.entries some same.rows in
    ap (λ entry. record { slave = Some s; entry = entry; rival = rival_by fixed (find (is_rival m s) a.core.rows.entries) }) (entries_alike border m s a.core.rows.entries b.core.rows.entries beyond rows)
    ∙ ap (λ rival. record { slave = Some s; entry = entry_at m s b.core.rows; rival = rival_by fixed rival }) (rivals_alike border m s a.core.rows.entries b.core.rows.entries beyond rows)

-- ---- the view of a master's own processor

own_alike : (fixed : Fixed) (border : Border) (m p : ℕ) (a b : Now) (own : Bool) → owns fixed.object fixed.topology m p ≡ own → IsBeyond border m → Same fixed border a b → (if own then Some (proc_at p a.core.procs) else None) ≡ (if own then Some (proc_at p b.core.procs) else None)
own_alike fixed border m p a b true is beyond same = ap (λ proc. Some proc) (proc_alike fixed border m p a b beyond is same)
own_alike fixed border m p a b false is beyond same = refl

proc_view_alike : (fixed : Fixed) (border : Border) (m : ℕ) (kind : Kind) (a b : Now) → IsBeyond border m → Same fixed border a b → proc_view_at m kind (book_of fixed a) ≡ proc_view_at m kind (book_of fixed b)
proc_view_alike fixed border m (Proc p) a b beyond same =
    ap (λ (own : Option Processor). record { place = Some p; own = own }) (own_alike fixed border m p a b (owns fixed.object fixed.topology m p) refl beyond same)
proc_view_alike fixed border m _ a b beyond same = refl

-- ---- the view of a processor that is to wake

-- if some master is beyond, both books permit the same
pub grants_alike : (fixed : Fixed) (border : Border) (a b : Now) → border.some ≡ true → Same fixed border a b → grants_in (book_of fixed a) ≡ grants_in (book_of fixed b)
grants_alike fixed border a b some same = ap (λ (o : Object). grants_of o fixed.topology) (same.force some)

wake_owner : (fixed : Fixed) (border : Border) (m p : ℕ) (owner : Option ℕ) (a b : Now) → owner_at fixed.object fixed.topology p ≡ owner → is_within border owner ≡ false → Same fixed border a b → wakeable m p owner (book_of fixed a) ≡ wakeable m p owner (book_of fixed b)
wake_owner fixed border m p None a b owner is same = cc
wake_owner fixed border m p (Some k) a b owner is same =
    let own : owns fixed.object fixed.topology k p ≡ true = ap (is_place k) owner ∙ equal k k refl in
    ap (λ (proc : Processor). if can_wake m k (book_of fixed a) then Some (record { owner = k; proc = proc }) else None)
    (proc_alike fixed border k p a b (kept (border.master k) is) own same)
    ∙ ap (λ (grants : Grants). if (k == m) || permits_wake grants m k then Some (record { owner = k; proc = proc_at p b.core.procs }) else None)
    (grants_alike fixed border a b (same.some k (kept (border.master k) is)) same)

pub wake_alike : (fixed : Fixed) (border : Border) (m : ℕ) (kind : Kind) (a b : Now) → is_within border (owner_by kind (book_of fixed a)) ≡ false → Same fixed border a b → wake_view_at m kind (book_of fixed a) ≡ wake_view_at m kind (book_of fixed b)
wake_alike fixed border m (Proc p) a b is same =
    ap (λ target. record { place = Some p; target = target }) (wake_owner fixed border m p (owner_at fixed.object fixed.topology p) a b refl is same)
wake_alike fixed border m _ a b is same = refl

-- ---- the view of a master that is asked to suspend

-- on a master beyond the same is pending
pub pending_alike : (fixed : Fixed) (border : Border) (m : ℕ) (a b : Now) → IsBeyond border m → Same fixed border a b → pending_at m a.talk.pending ≡ pending_at m b.talk.pending
pending_alike fixed border m a b beyond same =
    BothFrom-get (SamePending border) (λ x y. x ≡ y) 0 m m None (omega arith) refl (λ x y is. is beyond) a.talk.pending b.talk.pending same.talk.pending

target_alike : BelowLaws → (fixed : Fixed) (border : Border) (k : ℕ) (a b : Now) → IsBeyond border k → Same fixed border a b → suspendable_at k (book_of fixed a) ≡ suspendable_at k (book_of fixed b)
target_alike laws fixed border k a b beyond same =
    let timeout : ℕ = master_timeout a.force.masters k in
    ap (λ pending. record { master = k; pending = is_some pending; mode = mode_of_master fixed a.core k; timeout = timeout }) (pending_alike fixed border k a b beyond same)
    ∙ (ap (λ mode. record { master = k; pending = is_asked k (book_of fixed b); mode = mode; timeout = timeout }) (mode_alike laws fixed border k a b beyond same)
    ∙ ap (λ (o : Object). record { master = k; pending = is_asked k (book_of fixed b); mode = mode_of_master fixed b.core k; timeout = master_timeout o.masters k }) (same.force (same.some k beyond)))

targets_alike : BelowLaws → (fixed : Fixed) (border : Border) (m : ℕ) (named : Option ℕ) (a b : Now) → is_within border named ≡ false → Same fixed border a b → suspendable m named (book_of fixed a) ≡ suspendable m named (book_of fixed b)
targets_alike laws fixed border m None a b is same = cc
targets_alike laws fixed border m (Some k) a b is same =
    let beyond : IsBeyond border k = kept (border.master k) is in
    ap (λ target. if can_suspend m k (book_of fixed a) then Some target else None) (target_alike laws fixed border k a b beyond same)
    ∙ ap (λ (grants : Grants). if permits_suspend grants m k then Some (suspendable_at k (book_of fixed b)) else None)
    (grants_alike fixed border a b (same.some k beyond) same)

pub suspend_alike : BelowLaws → (fixed : Fixed) (border : Border) (m : ℕ) (node : NodeId) (a b : Now) → is_within border (named_master fixed node) ≡ false → Same fixed border a b → suspend_view m node (book_of fixed a) ≡ suspend_view m node (book_of fixed b)
suspend_alike laws fixed border m node a b is same =
    ap (λ target. record { named = names_master fixed node; target = target }) (targets_alike laws fixed border m (named_master fixed node) a b is same)

-- ---- the call that arms: of the row it looks at the pair alone

found_seed : (at : Bool) (x y : Entry) (first second : Option Entry) → x.seed ≡ y.seed → option_map pair_in first ≡ option_map pair_in second → option_map pair_in (cond at (Some x) first) ≡ option_map pair_in (cond at (Some y) second)
found_seed true x y first second same later = ap (λ seed. Some seed) same
found_seed false x y first second same later = later

seeds_alike : (border : Border) (m s : ℕ) (a b : List Entry) → Both (SameRow border) a b → option_map pair_in (find (is_at m s) a) ≡ option_map pair_in (find (is_at m s) b)
seeds_alike border m s [] [] same = refl
seeds_alike border m s [] (y ∷ ys) same = absurd same
seeds_alike border m s (x ∷ xs) [] same = absurd same
seeds_alike border m s (x ∷ xs) (y ∷ ys) same =
    found_seed (is_at m s x) x y (find (is_at m s) xs) (find (is_at m s) ys) same.0.seed (seeds_alike border m s xs ys same.1)
    ∙ ap (λ at. option_map pair_in (cond at (Some y) (find (is_at m s) ys))) (ap (λ (seed : Pair). (seed.master == m) && (seed.slave == s)) same.0.seed)

abbrev arm_stages : NodeId → ℕ → ProcView → RowView → List (List Prim)
arm_stages node enable target source = stages_of (set_wakeup_source node enable target source)

arm_alike : (node : NodeId) (enable : ℕ) (target : ProcView) (slave : Option ℕ) (x y : Option Entry) (r q : Option NodeId) → option_map pair_in x ≡ option_map pair_in y → arm_stages node enable target (record { slave = slave; entry = x; rival = r }) ≡ arm_stages node enable target (record { slave = slave; entry = y; rival = q })
arm_alike node enable target slave None None r q same = refl
arm_alike node enable target slave None (Some y) r q same = cc
arm_alike node enable target slave (Some x) None r q same = cc
arm_alike node enable target slave (Some x) (Some y) r q same =
    let seed : x.seed ≡ y.seed = cc in
    ap (λ (seed : Pair). arm_stages node enable target (record { slave = slave; entry = Some (record { seed = seed; row = x.row }); rival = r })) seed

source_alike : (fixed : Fixed) (border : Border) (m : ℕ) (node : NodeId) (enable : ℕ) (target : ProcView) (slave : Option ℕ) (a b : Now) → border.some ≡ true → Same fixed border a b → arm_stages node enable target (row_view_at m slave (book_of fixed a)) ≡ arm_stages node enable target (row_view_at m slave (book_of fixed b))
source_alike fixed border m node enable target None a b some same = refl
source_alike fixed border m node enable target (Some s) a b some same =
    arm_alike node enable target (Some s) (entry_at m s a.core.rows) (entry_at m s b.core.rows) (rival_node m s (book_of fixed a)) (rival_node m s (book_of fixed b))
    (seeds_alike border m s a.core.rows.entries b.core.rows.entries (rows_both border a.core.rows.entries b.core.rows.entries some same.rows))

-- ---- the view of a node of which a master wants to be told: by what is fixed and what is permitted alone

pub watched_same : (fixed : Fixed) (border : Border) (m : ℕ) (kind : Kind) (a b : Now) → border.some ≡ true → Same fixed border a b → watched_at m kind (book_of fixed a) ≡ watched_at m kind (book_of fixed b)
watched_same fixed border m (Slave s) a b some same = ap (λ (grants : Grants). SlaveNode (permits_use grants m s)) (grants_alike fixed border a b some same)
watched_same fixed border m _ a b some same = refl

-- ---- the view of a reset line: by what is fixed and what is permitted alone

reset_same : (fixed : Fixed) (border : Border) (m : ℕ) (place : Option ℕ) (a b : Now) → border.some ≡ true → Same fixed border a b → can_reset m place (book_of fixed a) ≡ can_reset m place (book_of fixed b)
reset_same fixed border m None a b some same = refl
reset_same fixed border m (Some l) a b some same = ap (λ (grants : Grants). permits_reset grants m l) (grants_alike fixed border a b some same)

pub line_same : (fixed : Fixed) (border : Border) (m : ℕ) (line : LineId) (a b : Now) → border.some ≡ true → Same fixed border a b → line_view m line (book_of fixed a) ≡ line_view m line (book_of fixed b)
line_same fixed border m line a b some same =
    let place : Option ℕ = line_place line fixed in
    let view : Bool → LineView = λ may. record { place = place; permitted = may; target = reset_at place fixed } in
    ap view (reset_same fixed border m place a b some same)

-- ---- calls

module _ (laws : BelowLaws) (fixed : Fixed) (border : Border) (m : ℕ) (a b : Now) (beyond : IsBeyond border m)
    (same : Same fixed border a b) where
  abbrev first : State
  first = book_of fixed a

  abbrev second : State
  second = book_of fixed b

  -- a call of a master beyond that changes nothing within, and can read nothing there
  shape_same : (shape : Shape) → reads_within shape ≡ false → shape_within border shape first ≡ false → shaped m shape first ≡ shaped m shape second
  shape_same (Own_row node by call) blind plain =
      ap (λ mode. changing (call mode (row_view m node first)).checks (row_changes (by mode) (row_view m node first))) (mode_alike laws fixed border m a b beyond same)
      ∙ ap (λ view. changing (call (mode_of_master fixed b.core m) view).checks (row_changes (by (mode_of_master fixed b.core m)) view))
      (row_view_alike fixed border m (slave_place node first) a b (same.some m beyond) plain same)
  shape_same (Own_suspend node address) blind plain =
      ap (self_suspend m address) (proc_view_alike fixed border m (kind_of fixed.topology node) a b beyond same)
  shape_same (Own_abort node reason) blind plain =
      ap (abort_suspend m reason (is_asked m first)) (proc_view_alike fixed border m (kind_of fixed.topology node) a b beyond same)
      ∙ ap (λ pending. abort_suspend m reason (is_some pending) (proc_view m node second)) (pending_alike fixed border m a b beyond same)
  shape_same (Own_notifier node event enable) blind plain =
      ap (register_notifier m node event enable) (watched_same fixed border m (kind_of fixed.topology node) a b (same.some m beyond) same)
  shape_same (Other_wakeup node address ack) blind plain =
      ap (request_wakeup address ack) (wake_alike fixed border m (kind_of fixed.topology node) a b plain same)
  shape_same (Other_suspend node ack latency state) blind plain =
      ap (request_suspend m node ack latency state) (suspend_alike laws fixed border m node a b plain same)
  shape_same (All_reset line action) blind plain = ap (reset_assert line action) (line_same fixed border m line a b (same.some m beyond) same)
  shape_same (All_forced node ack) blind plain =
      ap (λ (grants : Grants). force_powerdown grants fixed m node ack) (grants_alike fixed border a b (same.some m beyond) same)
  shape_same (All_shut shutdown_type subtype) blind plain =
      ap (λ (grants : Grants). system_shutdown grants fixed m shutdown_type subtype) (grants_alike fixed border a b (same.some m beyond) same)
  shape_same (All_configured address) blind plain =
      ap (λ (grants : Grants). set_configuration (found_at address fixed) (permits_configure grants m)) (grants_alike fixed border a b (same.some m beyond) same)
  shape_same (Node_status node call) blind plain = cc
  shape_same (Node_figures node call) blind plain = cc
  shape_same (Line_value line call) blind plain = cc
  shape_same (Own_arming target source enable) blind plain = cc
  shape_same _ blind plain = refl

  pub called_same : (call : Call) → reads_within (shape_of call) ≡ false → changes_within border call first ≡ false → called m call first ≡ called m call second
  called_same call blind plain = called_shaped m call first ∙ (shape_same (shape_of call) blind plain ∙ sym (called_shaped m call second))

  -- its stages are the same, whatever it reads
  shape_stages : (shape : Shape) → shape_within border shape first ≡ false → stages_of (shaped m shape first) ≡ stages_of (shaped m shape second)
  shape_stages (Own_arming target source enable) plain =
      ap (λ view. arm_stages target enable view (row_view m source first)) (proc_view_alike fixed border m (kind_of fixed.topology target) a b beyond same)
      ∙ source_alike fixed border m target enable (proc_view m target second) (slave_place source first) a b (same.some m beyond) same
  shape_stages (Node_status node call) plain =
      nothing_done (shaped m (Node_status node call) first) refl ∙ sym (nothing_done (shaped m (Node_status node call) second) refl)
  shape_stages (Node_figures node call) plain =
      nothing_done (shaped m (Node_figures node call) first) refl ∙ sym (nothing_done (shaped m (Node_figures node call) second) refl)
  shape_stages (Line_value line call) plain =
      nothing_done (shaped m (Line_value line call) first) refl ∙ sym (nothing_done (shaped m (Line_value line call) second) refl)
  shape_stages shape plain = ap stages_of (shape_same shape refl plain)

  pub call_alike : (call : Call) → changes_within border call first ≡ false → AreAlike border (stages_of (called m call first)) (stages_of (called m call second))
  call_alike call plain =
      alike_of border (stages_of (called m call first)) (stages_of (called m call second))
      (ap stages_of (called_shaped m call first) ∙ (shape_stages (shape_of call) plain ∙ sym (ap stages_of (called_shaped m call second))))

-- ---- books

pub row_views_agree : (border : Border) (m : ℕ) (node : NodeId) (a b : State) → IsClosed a.fixed border → IsBeyond border m → is_slave_within border (slave_place node a) ≡ false → Agree border a b → row_view m node a ≡ row_view m node b
row_views_agree border m node a b closed beyond there agree =
    let P : Fixed → Type 0 = λ fixed. row_view m node a ≡ row_view m node (book_of fixed b.now) in
    subst P agree.fixed (row_view_alike a.fixed border m (slave_place node a) a.now b.now (closed.some m beyond) there agree.now)

pub proc_views_agree : (border : Border) (m : ℕ) (node : NodeId) (a b : State) → IsBeyond border m → Agree border a b → proc_view m node a ≡ proc_view m node b
proc_views_agree border m node a b beyond agree =
    let P : Fixed → Type 0 = λ fixed. proc_view m node a ≡ proc_view m node (book_of fixed b.now) in
    subst P agree.fixed (proc_view_alike a.fixed border m (kind_of a.fixed.topology node) a.now b.now beyond agree.now)

pub wake_views_agree : (border : Border) (m : ℕ) (node : NodeId) (a b : State) → is_within border (owner_by (kind_of a.fixed.topology node) a) ≡ false → Agree border a b → wake_view m node a ≡ wake_view m node b
wake_views_agree border m node a b there agree =
    let P : Fixed → Type 0 = λ fixed. wake_view m node a ≡ wake_view m node (book_of fixed b.now) in
    subst P agree.fixed (wake_alike a.fixed border m (kind_of a.fixed.topology node) a.now b.now there agree.now)

pub suspend_views_agree : BelowLaws → (border : Border) (m : ℕ) (node : NodeId) (a b : State) → is_within border (named_master a.fixed node) ≡ false → Agree border a b → suspend_view m node a ≡ suspend_view m node b
suspend_views_agree laws border m node a b there agree =
    let P : Fixed → Type 0 = λ fixed. suspend_view m node a ≡ suspend_view m node (book_of fixed b.now) in
    subst P agree.fixed (suspend_alike laws a.fixed border m node a.now b.now there agree.now)

pub asked_agrees : (border : Border) (m : ℕ) (a b : State) → IsBeyond border m → Agree border a b → is_asked m a ≡ is_asked m b
asked_agrees border m a b beyond agree = ap is_some (pending_alike a.fixed border m a.now b.now beyond agree.now)
