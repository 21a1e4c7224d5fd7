-- A call of a master beyond that names nothing within has the same outcome in two books that agree.
use Rattle.std.proofs.Common.{◌≡◌, ℕ, ◌+◌, Bool, true, false, not, ◌&&◌, ◌||◌, ◌==◌, if◌then◌else◌, position, Option, Some, None, refl, sym, ◌∙◌, ap}
use Rattle.std.specs.Prelude.{option_map}
use Rattle.std.proofs.lemmas.Bool.{eqb-true}
use Rattle.pm_laws.proofs.Common.{Agree, BelowLaws, Border, Entry, Fixed, IsBeyond, IsClosed, IsWellFormed, Kind, KindLaws, MasterRec, NodeId, Now, Power, Pair, Same, SameRow, Slave, State, called, can_wake, changing, is_asked, is_place, is_slave_within, is_within, kind_of, line_beyond, mode_number, mode_of_master, named_master, names_master, none_within, owner_at, point_at, proc_view, row_view, status_view, status_view_at, suspend_view, suspendable, unit_beyond, wake_view_at, wakeable}
use Rattle.pm_base.proofs.Booleans.{both, equal}
use Rattle.pm_base.proofs.Searches.{position-first}
use Rattle.pm_ipi.specs.declared.calls.Call.{Call}
use Rattle.pm_topology.specs.declared.places.Kind.TheVariants.{Proc, Unknown as NoNode}
use Rattle.pm_topology.specs.declared.topology.SlaveDef.{SlaveDef}
use Rattle.pm_topology.specs.Places.{line_place, slave_place}
use Rattle.pm_procs.specs.declared.procs.Proc.{Proc as Processor}
use Rattle.pm_rows.specs.Rows.{is_at, is_of_other, is_used_by, is_used_by_others, entry_at, now_of}
use Rattle.pm_grants.specs.declared.grants.Grants.{Grants}
use Rattle.pm_grants.specs.Grants.{permits_configure, permits_wake}
use Rattle.pm_procs.specs.Procs.{proc_at}
use Rattle.pm_state.specs.Members.{owns}
use Rattle.pm_state.specs.Objects.{found_at}
use Rattle.pm_calls.specs.calls.ForcePowerdown.{force_powerdown}
use Rattle.pm_calls.specs.calls.SetConfiguration.{set_configuration}
use Rattle.pm_calls.specs.calls.SystemShutdown.{system_shutdown}
use Rattle.pm_calls.specs.RowCalls.{row_changes}
use Rattle.pm_calls.specs.calls.AbortSuspend.{abort_suspend}
use Rattle.pm_calls.specs.calls.RegisterNotifier.{register_notifier}
use Rattle.pm_calls.specs.Characteristics.{characteristics_at}
use Rattle.pm_resets.specs.Resets.{value_of}
use Rattle.pm_calls.specs.calls.RequestSuspend.{request_suspend}
use Rattle.pm_calls.specs.calls.RequestWakeup.{request_wakeup}
use Rattle.pm_calls.specs.calls.ResetAssert.{reset_assert}
use Rattle.pm_calls.specs.calls.SelfSuspend.{self_suspend}
use Rattle.pm_calls.specs.calls.SetWakeupSource.{set_wakeup_source}
use Rattle.pm_laws.specs.Answers.{all_beyond, names_beyond}
use Rattle.pm_laws.proofs.CallsAlike.{asked_agrees, book_of, entries_alike, entry_alike, grants_alike, line_same, proc_views_agree, row_views_agree, rows_both, suspend_views_agree, watched_same}
use Rattle.pm_laws.proofs.FollowLaw.{mode_alike, proc_alike}
use Rattle.pm_laws.proofs.Places.{Both-any}
use Rattle.pm_calls.specs.calls.{shape_of}
use Rattle.pm_calls.specs.Shapes.{Shape, Node_status, Node_figures, Line_value, Own_row, Own_arming, Own_suspend, Own_abort, Own_notifier, Other_wakeup, Other_suspend, All_forced, All_shut, All_reset, All_configured, shaped, telling}
use Rattle.pm_calls.proofs.ShapeLaw.{called_shaped}
use Rattle.pm_laws.proofs.ShapesLaw.{named_shaped, names_of}
use Rattle.pm_laws.proofs.ValuesLaw.{kind_alike, line_alike, mode_same}

-- ---- a test of the rows on a slave beyond

never : (a b : Bool) → ((a && false) && b) ≡ false
never true b = refl
never false b = refl

-- a test holds of two alike rows or of neither, if it holds of no row on another slave
pub on_slave : (border : Border) (test : Entry → Bool) (s : ℕ) (x y : Entry) → border.slave s ≡ true
    → ((z : Entry) → (z.seed.slave == s) ≡ false → test z ≡ false)
    → SameRow border x y → test x ≡ test y
on_slave border test s x y beyond elsewhere same = at (x.seed.slave == s) refl
  where
    at : (here : Bool) → (x.seed.slave == s) ≡ here → test x ≡ test y
    at true is = ap test (entry_alike border s x y beyond same (eqb-true x.seed.slave s is))
    at false is = elsewhere x is ∙ sym (elsewhere y (ap (λ (seed : Pair). seed.slave == s) (sym same.seed) ∙ is))

own_elsewhere : (m s : ℕ) (z : Entry) → (z.seed.slave == s) ≡ false → (is_at m s z && z.row.used) ≡ false
own_elsewhere m s z is = ap (λ t. ((z.seed.master == m) && t) && z.row.used) is ∙ never (z.seed.master == m) z.row.used

others_elsewhere : (m s : ℕ) (z : Entry) → (z.seed.slave == s) ≡ false → (is_of_other m s z && z.row.used) ≡ false
others_elsewhere m s z is = ap (λ t. (not (z.seed.master == m) && t) && z.row.used) is ∙ never (not (z.seed.master == m)) z.row.used

-- ---- the unit and the master of a node beyond

pub unit_named : (fixed : Fixed) (border : Border) → IsClosed fixed border → (node : NodeId) → border.node node.0 ≡ true
    → unit_beyond fixed.object fixed.topology border (kind_of fixed.topology node) ≡ true
unit_named fixed border closed node is =
    (both (unit_beyond fixed.object fixed.topology border (kind_of fixed.topology node))
    (none_within border (position (λ (master : MasterRec). master.node == node.0) fixed.object.masters)) (sym (closed.nodes node) ∙ is)).0

-- ---- the operating point of a node beyond

module _ (fixed : Fixed) (border : Border) (closed : IsClosed fixed border) (a b : Now) (same : Same fixed border a b) where
  kind_point : (kind : Kind) → unit_beyond fixed.object fixed.topology border kind ≡ true → point_at kind fixed a.core ≡ point_at kind fixed b.core
  kind_point (Proc p) beyond = ap mode_number (mode_same fixed border a b same p (owner_at fixed.object fixed.topology p) refl beyond)
  kind_point (Slave s) beyond = kind_alike fixed border closed a b same (Slave s) beyond
  kind_point (Power w) beyond = kind_alike fixed border closed a b same (Power w) beyond
  kind_point NoNode beyond = refl

  pub point_alike : (node : NodeId) → border.node node.0 ≡ true
      → point_at (kind_of fixed.topology node) fixed a.core ≡ point_at (kind_of fixed.topology node) fixed b.core
  point_alike node is = kind_point (kind_of fixed.topology node) (unit_named fixed border closed node is)

module _ (laws : BelowLaws) (kinds : KindLaws) (fixed : Fixed) (border : Border) (closed : IsClosed fixed border)
    (chip : IsWellFormed fixed.topology) (a b : Now) (same : Same fixed border a b) where
  abbrev first : State
  first = book_of fixed a

  abbrev second : State
  second = book_of fixed b

  agree : Agree border first second
  agree = record { fixed = refl; now = same }

  abbrev Names : NodeId → Type 0
  Names node = border.node node.0 ≡ true

  unit_of : (node : NodeId) → Names node → unit_beyond fixed.object fixed.topology border (kind_of fixed.topology node) ≡ true
  unit_of node is = unit_named fixed border closed node is

  slave_beyond : (node : NodeId) → Names node → is_slave_within border (slave_place fixed.topology.slaves node.0) ≡ false
  slave_beyond node is = at (slave_place fixed.topology.slaves node.0) refl
    where
      at : (got : Option ℕ) → slave_place fixed.topology.slaves node.0 ≡ got → is_slave_within border got ≡ false
      at None found = refl
      at (Some s) found =
          let here = position-first (λ (d : SlaveDef). d.node.0 == node.0) fixed.topology.slaves s found in
          let kind : Slave s ≡ kind_of fixed.topology node =
          kinds.alone fixed.topology node (Slave s) chip (here.element, here.here, eqb-true here.element.node.0 node.0 here.passes)
          in
          ap not (ap (unit_beyond fixed.object fixed.topology border) kind ∙ unit_of node is)

  -- ---- what is read

  status_alike : (m : ℕ) (kind : Kind) (value : ℕ) → border.some ≡ true → unit_beyond fixed.object fixed.topology border kind ≡ true
      → status_view_at m kind value first ≡ status_view_at m kind value second
  status_alike m NoNode value some beyond = refl
  status_alike m (Proc p) value some beyond = refl
  status_alike m (Power w) value some beyond = refl
  status_alike m (Slave s) value some beyond =
      let xs = a.core.rows.entries in
      let ys = b.core.rows.entries in
      let rows = rows_both border xs ys some same.rows in
      let own : is_used_by m s a.core.rows ≡ is_used_by m s b.core.rows =
      Both-any (SameRow border) (λ (z : Entry). is_at m s z && z.row.used) (λ (z : Entry). is_at m s z && z.row.used)
      (λ x y is. on_slave border (λ (z : Entry). is_at m s z && z.row.used) s x y beyond (own_elsewhere m s) is) xs ys rows
      in
      let others : is_used_by_others m s a.core.rows ≡ is_used_by_others m s b.core.rows =
      Both-any (SameRow border) (λ (z : Entry). is_of_other m s z && z.row.used) (λ (z : Entry). is_of_other m s z && z.row.used)
      (λ x y is. on_slave border (λ (z : Entry). is_of_other m s z && z.row.used) s x y beyond (others_elsewhere m s) is) xs ys rows
      in
      ap (λ entry. record {
        state = Some value;
        requested = now_of entry;
        usage = (if is_used_by m s a.core.rows then 1 else 0) + (if is_used_by_others m s a.core.rows then 2 else 0);
      }) (entries_alike border m s xs ys beyond rows)
      ∙ (ap (λ (t : Bool). record {
        state = Some value;
        requested = now_of (entry_at m s b.core.rows);
        usage = (if t then 1 else 0) + (if is_used_by_others m s a.core.rows then 2 else 0);
      }) own
      ∙ ap (λ (t : Bool). record {
        state = Some value;
        requested = now_of (entry_at m s b.core.rows);
        usage = (if is_used_by m s b.core.rows then 1 else 0) + (if t then 2 else 0);
      }) others)

  status_same : (m : ℕ) (node : NodeId) → border.some ≡ true → Names node → status_view m node first ≡ status_view m node second
  status_same m node some is =
      let kind : Kind = kind_of fixed.topology node in
      ap (λ value. status_view_at m kind value first) (point_alike fixed border closed a b same node is)
      ∙ status_alike m kind (point_at kind fixed b.core) some (unit_of node is)

  wake_owned : (m p : ℕ) (owner : Option ℕ) → owner_at fixed.object fixed.topology p ≡ owner → none_within border owner ≡ true
      → wakeable m p owner first ≡ wakeable m p owner second
  wake_owned m p None is beyond = refl
  wake_owned m p (Some k) is beyond =
      let own : owns fixed.object fixed.topology k p ≡ true = ap (is_place k) is ∙ equal k k refl in
      ap (λ (proc : Processor). if can_wake m k first then Some (record { owner = k; proc = proc }) else None)
      (proc_alike fixed border k p a b beyond own same)
      ∙ ap (λ (grants : Grants). if (k == m) || permits_wake grants m k then Some (record { owner = k; proc = proc_at p b.core.procs }) else None)
      (grants_alike fixed border a b (same.some k beyond) same)

  wake_kind : (m : ℕ) (kind : Kind) → unit_beyond fixed.object fixed.topology border kind ≡ true → wake_view_at m kind first ≡ wake_view_at m kind second
  wake_kind m (Proc p) beyond =
      ap (λ target. record { place = Some p; target = target }) (wake_owned m p (owner_at fixed.object fixed.topology p) refl beyond)
  wake_kind m _ beyond = refl

  suspend_same : (m : ℕ) (node : NodeId) → Names node → suspend_view m node first ≡ suspend_view m node second
  suspend_same m node is = at (named_master fixed node) refl (closed.names node is)
    where
      at : (named : Option ℕ) → named_master fixed node ≡ named → none_within border named ≡ true → suspend_view m node first ≡ suspend_view m node second
      at None none beyond =
          ap (λ target. record { named = names_master fixed node; target = target })
          (ap (λ named. suspendable m named first) none ∙ sym (ap (λ named. suspendable m named second) none))
      at (Some k) named beyond = suspend_views_agree laws border m node first second (ap (is_within border) named ∙ ap not beyond) agree

  row_same : (m : ℕ) (node : NodeId) → IsBeyond border m → Names node → row_view m node first ≡ row_view m node second
  row_same m node beyond is = row_views_agree border m node first second closed beyond (slave_beyond node is) agree

  own_same : (m : ℕ) (node : NodeId) → IsBeyond border m → proc_view m node first ≡ proc_view m node second
  own_same m node beyond = proc_views_agree border m node first second beyond agree

  -- the value of a reset line beyond
  status_of_line : (place : Option ℕ) → line_beyond border place ≡ true → option_map (λ l. value_of l a.core.lines) place ≡ option_map (λ l. value_of l b.core.lines) place
  status_of_line None beyond = refl
  status_of_line (Some l) beyond = ap Some (line_alike fixed border closed a b same (Some l) beyond)

  -- ---- calls

  shape_same : (m : ℕ) (shape : Shape) → IsBeyond border m → all_beyond fixed.topology border (names_of shape) ≡ true → shaped m shape first ≡ shaped m shape second
  shape_same m (Node_status node call) beyond is = ap (λ view. telling (call view)) (status_same m node (closed.some m beyond) is)
  shape_same m (Node_figures node call) beyond is =
      ap (λ value. telling (call (characteristics_at (kind_of fixed.topology node) value fixed.topology)))
      (kind_alike fixed border closed a b same (kind_of fixed.topology node) (unit_of node is))
  shape_same m (Line_value line call) beyond is = ap (λ value. telling (call value)) (status_of_line (line_place fixed.topology.lines line.0) is)
  shape_same m (Own_row node by call) beyond is =
      ap (λ mode. changing (call mode (row_view m node first)).checks (row_changes (by mode) (row_view m node first))) (mode_alike laws fixed border m a b beyond same)
      ∙ ap (λ view. changing (call (mode_of_master fixed b.core m) view).checks (row_changes (by (mode_of_master fixed b.core m)) view)) (row_same m node beyond is)
  shape_same m (Own_arming target source enable) beyond is =
      ap (λ view. set_wakeup_source target enable view (row_view m source first)) (own_same m target beyond)
      ∙ ap (set_wakeup_source target enable (proc_view m target second))
      (row_same m source beyond (both (border.node target.0) (border.node source.0) is).1)
  shape_same m (Own_suspend node address) beyond is = ap (self_suspend m address) (own_same m node beyond)
  shape_same m (Own_abort node reason) beyond is =
      ap (abort_suspend m reason (is_asked m first)) (own_same m node beyond)
      ∙ ap (λ pending. abort_suspend m reason pending (proc_view m node second)) (asked_agrees border m first second beyond agree)
  shape_same m (Own_notifier node event enable) beyond is =
      ap (register_notifier m node event enable) (watched_same fixed border m (kind_of fixed.topology node) a b (same.some m beyond) same)
  shape_same m (Other_wakeup node address ack) beyond is =
      ap (request_wakeup address ack) (wake_kind m (kind_of fixed.topology node) (unit_of node is))
  shape_same m (Other_suspend node ack latency state) beyond is = ap (request_suspend m node ack latency state) (suspend_same m node is)
  shape_same m (All_reset line action) beyond is = ap (reset_assert line action) (line_same fixed border m line a b (same.some m beyond) same)
  shape_same m (All_forced node ack) beyond is =
      ap (λ (grants : Grants). force_powerdown grants fixed m node ack) (grants_alike fixed border a b (same.some m beyond) same)
  shape_same m (All_shut shutdown_type subtype) beyond is =
      ap (λ (grants : Grants). system_shutdown grants fixed m shutdown_type subtype) (grants_alike fixed border a b (same.some m beyond) same)
  shape_same m (All_configured address) beyond is =
      ap (λ (grants : Grants). set_configuration (found_at address fixed) (permits_configure grants m)) (grants_alike fixed border a b (same.some m beyond) same)
  shape_same m _ beyond is = refl

  pub call_same : (m : ℕ) (call : Call) → IsBeyond border m → names_beyond fixed.topology border call ≡ true → called m call first ≡ called m call second
  call_same m call beyond is =
      called_shaped m call first
      ∙ (shape_same m (shape_of call) beyond (sym (ap (all_beyond fixed.topology border) (named_shaped call)) ∙ is)
      ∙ sym (called_shaped m call second))
