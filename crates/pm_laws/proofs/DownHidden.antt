-- Nothing is seen of a force and of a shutdown by a master within reach.
use Rattle.std.proofs.Common.{◌≡◌, ℕ, ◌+◌, Bool, true, false, ◌||◌, ◌==◌, if◌then◌else◌, List, [], ◌∷◌, ◌++◌, slice_get, Option, Some, None, refl, sym, ◌∙◌, ap}
use Rattle.std.proofs.lemmas.List.Elements.{filter-append}
use Rattle.pm_laws.proofs.Common.{Active, AreHidden, Border, Called, Clear, Fixed, Halt, HasSome, IsUnseen, Kind, NodeId, Off, Prim, Put_proc, Reload, State, called, kind_of, owner_at, seen, seen_part, stages_by, stages_of}
use Rattle.pm_topology.specs.declared.topology.ProcDef.{ProcDef}
use Rattle.pm_topology.specs.declared.topology.SlaveDef.{SlaveDef}
use Rattle.pm_grants.specs.declared.grants.Grants.{Grants}
use Rattle.pm_grants.specs.Grants.{permits_force, permits_shut}
use Rattle.pm_state.specs.State.{grants_in}
use Rattle.pm_state.specs.declared.scope.Scope.{Scope}
use Rattle.pm_state.specs.declared.scope.Scope.TheVariants.{Under, Own, All}
use Rattle.pm_calls.specs.Checks.{AllHold, Cause, Fits, Stands, first_failing}
use Rattle.pm_state.specs.Scope.{clear_at, clears, clears_from, is_slave_under, off_at, off_by, offs, offs_from, takes}
use Rattle.pm_calls.specs.calls.ForcePowerdown.{force_powerdown}
use Rattle.pm_calls.specs.calls.SystemShutdown.{all_stages, own_stages, starting, system_shutdown, system_shutdown_checks}
use Rattle.pm_state.specs.Members.{first_own}
use Rattle.pm_ipi.specs.declared.calls.Call.TheVariants.{ForcePowerdown, SystemShutdown}
use Rattle.pm_calls.proofs.Verdicts.{all_hold}
use Rattle.pm_laws.proofs.HiddenLemmas.{HasClosed, by_one, one_hidden, within_by}
use Rattle.pm_laws.proofs.Places.{StandsFrom, stands_first, stands_from_start, stands_later}
use Rattle.pm_laws.proofs.PrimFacts.{placed_by}

-- ---- a call whose checks hold

hides_by : (border : Border) (cause : Cause) (stages : List (List Prim)) → (cause ≡ Stands Fits → AreHidden border stages) → AreHidden border (stages_by cause stages)
hides_by border (Stands Fits) stages hides = hides refl
hides_by border _ stages hides = tt

pub call_hides : (border : Border) (call : Called) → (AllHold call.checks → AreHidden border call.stages) → AreHidden border (stages_of call)
call_hides border call hides =
    hides_by border (first_failing call.checks) call.stages (λ fits. hides (all_hold call.checks fits))

-- ---- processors that go off

off_hidden : (border : Border) (owner : Option ℕ) (p : ℕ) → ((k : ℕ) → owner ≡ Some k → border.master k ≡ false) → IsUnseen border (off_by owner p)
off_hidden border None p within = refl
off_hidden border (Some m) p within = one_hidden border (Put_proc m p Off 0) (within m refl)

taken_hidden : (border : Border) (owner : Option ℕ) (p : ℕ) (taken : Bool) → (taken ≡ true → (k : ℕ) → owner ≡ Some k → border.master k ≡ false) → IsUnseen border (if taken then off_by owner p else [])
taken_hidden border owner p true within = off_hidden border owner p (within refl)
taken_hidden border owner p false within = refl

-- the owner of each processor that is taken is within
abbrev TakesWithin : Border → Fixed → Scope → Type 0
TakesWithin border fixed scope = (q : ℕ) (proc : ProcDef) → slice_get fixed.topology.procs q ≡ Some proc → takes fixed scope q proc.node ≡ true
    → (k : ℕ) → owner_at fixed.object fixed.topology q ≡ Some k → border.master k ≡ false

offs_from_hidden : (border : Border) (fixed : Fixed) (scope : Scope) → TakesWithin border fixed scope → (p : ℕ) (procs : List ProcDef) → StandsFrom fixed.topology.procs p procs → IsUnseen border (offs_from fixed scope p procs)
offs_from_hidden border fixed scope within p [] stands = refl
offs_from_hidden border fixed scope within p (proc ∷ procs) stands =
    let first : List Prim = off_at fixed scope p proc.node in
    let later : List Prim = offs_from fixed scope (p + 1) procs in
    let here : slice_get fixed.topology.procs p ≡ Some proc = stands_first fixed.topology.procs p proc procs stands in
    filter-append (seen border) first later
    ∙ (ap (λ l. l ++ seen_part border later) (taken_hidden border (owner_at fixed.object fixed.topology p) p (takes fixed scope p proc.node) (within p proc here))
    ∙ offs_from_hidden border fixed scope within (p + 1) procs (stands_later fixed.topology.procs p proc procs stands))

offs_hidden : (border : Border) (fixed : Fixed) (scope : Scope) → TakesWithin border fixed scope → IsUnseen border (offs fixed scope)
offs_hidden border fixed scope within = offs_from_hidden border fixed scope within 0 fixed.topology.procs (stands_from_start fixed.topology.procs)

-- ---- rows that are cleared

cleared_hidden : (border : Border) (s : ℕ) (below : Bool) → (below ≡ true → border.used s ≡ false) → IsUnseen border (if below then Clear s ∷ [] else [])
cleared_hidden border s true unused = one_hidden border (Clear s) (unused refl)
cleared_hidden border s false unused = refl

-- no master beyond may use a slave below the forced node
abbrev ClearsUnused : Border → Fixed → NodeId → Type 0
ClearsUnused border fixed forced = (s : ℕ) (slave : SlaveDef) → slice_get fixed.topology.slaves s ≡ Some slave
    → is_slave_under fixed.topology (kind_of fixed.topology forced) slave.node ≡ true → border.used s ≡ false

clears_from_hidden : (border : Border) (fixed : Fixed) (forced : NodeId) → ClearsUnused border fixed forced → (s : ℕ) (slaves : List SlaveDef) → StandsFrom fixed.topology.slaves s slaves → IsUnseen border (clears_from fixed forced s slaves)
clears_from_hidden border fixed forced unused s [] stands = refl
clears_from_hidden border fixed forced unused s (slave ∷ slaves) stands =
    let first : List Prim = clear_at fixed forced s slave.node in
    let later : List Prim = clears_from fixed forced (s + 1) slaves in
    let here : slice_get fixed.topology.slaves s ≡ Some slave = stands_first fixed.topology.slaves s slave slaves stands in
    filter-append (seen border) first later
    ∙ (ap (λ l. l ++ seen_part border later) (cleared_hidden border s (is_slave_under fixed.topology (kind_of fixed.topology forced) slave.node) (unused s slave here))
    ∙ clears_from_hidden border fixed forced unused (s + 1) slaves (stands_later fixed.topology.slaves s slave slaves stands))

clears_hidden : (border : Border) (fixed : Fixed) (forced : NodeId) → ClearsUnused border fixed forced → IsUnseen border (clears fixed forced)
clears_hidden border fixed forced unused = clears_from_hidden border fixed forced unused 0 fixed.topology.slaves (stands_from_start fixed.topology.slaves)

-- ---- a force

pub force_hidden : (border : Border) (m ack : ℕ) (node : NodeId) (book : State) → HasClosed border book → border.master m ≡ false → AreHidden border (stages_of (called m (ForcePowerdown node ack) book))
force_hidden border m ack node book closed within =
    let fixed : Fixed = book.fixed in
    let kind : Kind = kind_of fixed.topology node in
    let call = force_powerdown (grants_in book) fixed m node ack in
    call_hides border call (λ all.
    let may : permits_force (grants_in book) m kind ≡ true = all.permitted in
    let takes_within : TakesWithin border fixed (Under node) = λ q proc here under k own.
    within_by (border.master k) (border.master m) (closed.closed.forces m k q proc kind here (by_one book (λ g. permits_force g m kind) closed.force may) under own) within
    in
    let unused : ClearsUnused border fixed node = λ s slave here under.
    within_by (border.used s) (border.master m) (λ used. let user = closed.closed.used s used in closed.closed.clears m user.0 s slave kind here (by_one book (λ g. permits_force g m kind) closed.force may) under user.2 user.1) within
    in
    (offs_hidden border fixed (Under node) takes_within, (clears_hidden border fixed node unused, tt)))

-- ---- a shutdown

own_takes : (border : Border) (fixed : Fixed) (m : ℕ) → border.master m ≡ false → TakesWithin border fixed (Own m)
own_takes border fixed m within =
    λ q proc here own k owner. ap border.master (placed_by m k (owner_at fixed.object fixed.topology q) own owner) ∙ within

starting_hidden : (border : Border) (m : ℕ) (first : Option ℕ) → border.master m ≡ false → IsUnseen border (starting m first)
starting_hidden border m None within = refl
starting_hidden border m (Some p) within = one_hidden border (Put_proc m p Active 0) within

own_hidden : (border : Border) (fixed : Fixed) (m : ℕ) (restarts : Bool) → border.master m ≡ false → AreHidden border (own_stages fixed m restarts)
own_hidden border fixed m false within = (offs_hidden border fixed (Own m) (own_takes border fixed m within), tt)
own_hidden border fixed m true within =
    (offs_hidden border fixed (Own m) (own_takes border fixed m within), (starting_hidden border m (first_own fixed m) within, tt))

all_takes : (border : Border) (fixed : Fixed) → HasSome border → border.some ≡ false → TakesWithin border fixed All
all_takes border fixed some none = λ q proc here taken k owner. within_by (border.master k) border.some (some k) none

all_hidden : (border : Border) (fixed : Fixed) (restarts : Bool) → HasSome border → border.some ≡ false → AreHidden border (all_stages fixed restarts)
all_hidden border fixed false some none = (offs_hidden border fixed All (all_takes border fixed some none), (one_hidden border Halt none, tt))
all_hidden border fixed true some none = (offs_hidden border fixed All (all_takes border fixed some none), (one_hidden border Reload none, tt))

-- the checks of a shutdown that is no scope: the caller may shut that much down
pub may_shut_down : (grants : Grants) (m shutdown_type subtype : ℕ) → (shutdown_type == 2) ≡ false → AllHold (system_shutdown_checks grants m shutdown_type subtype) → permits_shut grants m subtype ≡ true
may_shut_down grants m shutdown_type subtype no_scope all = sym (ap (λ b. b || permits_shut grants m subtype) no_scope) ∙ all.permitted

-- so no master is beyond if a master within may shut down more than itself
pub none_beyond : (border : Border) (book : State) (m subtype : ℕ) → HasClosed border book → border.master m ≡ false → (subtype == 0) ≡ false → permits_shut (grants_in book) m subtype ≡ true → border.some ≡ false
none_beyond border book m subtype closed within more may =
    within_by border.some (border.master m) (closed.closed.shuts m subtype more (by_one book (λ g. permits_shut g m subtype) closed.force may)) within

stages_hidden : (border : Border) (book : State) (m shutdown_type subtype : ℕ) (scope own restarts : Bool) → HasClosed border book → border.master m ≡ false → (shutdown_type == 2) ≡ scope → (subtype == 0) ≡ own → AllHold (system_shutdown_checks (grants_in book) m shutdown_type subtype)
    → AreHidden border (if scope then [] else if own then own_stages book.fixed m restarts else all_stages book.fixed restarts)
stages_hidden border book m shutdown_type subtype true own restarts closed within is_scope is_own all = tt
stages_hidden border book m shutdown_type subtype false true restarts closed within is_scope is_own all = own_hidden border book.fixed m restarts within
stages_hidden border book m shutdown_type subtype false false restarts closed within is_scope is_own all =
    all_hidden border book.fixed restarts closed.closed.some
    (none_beyond border book m subtype closed within is_own (may_shut_down (grants_in book) m shutdown_type subtype is_scope all))

pub shutdown_hidden : (border : Border) (m shutdown_type subtype : ℕ) (book : State) → HasClosed border book → border.master m ≡ false → AreHidden border (stages_of (called m (SystemShutdown shutdown_type subtype) book))
shutdown_hidden border m shutdown_type subtype book closed within =
    let call = system_shutdown (grants_in book) book.fixed m shutdown_type subtype in
    call_hides border call
    (stages_hidden border book m shutdown_type subtype (shutdown_type == 2) (subtype == 0) (shutdown_type == 1) closed within refl refl)
