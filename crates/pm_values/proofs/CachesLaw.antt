-- What is kept of a book is what the book has.
use Rattle.std.proofs.Common.{◌≡◌, ℕ, ◌+◌, ◌==◌, ◌||◌, Bool, true, false, cond, if◌then◌else◌, unwrap_or, List, [], ◌∷◌, ◌++◌, length, map, take, drop, slice_get, Option, Some, None, refl, arith, ap, sym, ◌∙◌, subst}
use Rattle.std.specs.Prelude.{option_map, unwrap_or}
use Rattle.std.specs.List.{list_any}
use Rattle.std.proofs.Math.Seq.{take-append_seam}
use Rattle.std.proofs.lemmas.Option.{slice_get-map}
use Rattle.pm_base.proofs.Booleans.{neither, equal}
use Rattle.pm_base.proofs.Searches.{position-first}
use Rattle.pm_base.proofs.Tests.{present_from}
use Rattle.pm_base.specs.declared.names.NodeId.{NodeId}
use Rattle.pm_base.specs.declared.names.Unit.{Unit}
use Rattle.pm_base.specs.declared.names.Unit.TheVariants.{Node, Line}
use Rattle.pm_topology.specs.declared.topology.LineDef.{LineDef}
use Rattle.pm_topology.specs.declared.topology.PowerDef.{PowerDef}
use Rattle.pm_topology.specs.declared.topology.ProcDef.{ProcDef}
use Rattle.pm_topology.specs.declared.topology.SlaveDef.{SlaveDef}
use Rattle.pm_topology.specs.declared.topology.Topology.{Topology}
use Rattle.pm_topology.specs.declared.places.Kind.{Kind}
use Rattle.pm_topology.specs.declared.places.Kind.TheVariants.{Proc, Slave, Power, Unknown}
use Rattle.pm_topology.specs.Places.{KindLaws, kind_of, line_place, IsKind}
use Rattle.pm_topology.specs.Units.{UnitLaws, same_unit, has_in, has_line, has_unit}
use Rattle.pm_topology.specs.UnitMap.{units_in, value_of, all_at}
use Rattle.pm_power.specs.declared.child.Child.{Child}
use Rattle.pm_power.specs.Forest.{Needs, ups}
use Rattle.pm_power.specs.Needs.{child, children_of, with_needs}
use Rattle.pm_base.specs.BoundedList.{Bounded}
use Rattle.pm_notify.specs.declared.notes.Waiting.{Waiting}
use Rattle.pm_values.specs.declared.starts.Start.{Start}
use Rattle.pm_values.specs.declared.caches.Caches.{Caches}
use Rattle.pm_values.specs.declared.caches.UnitKind.{UnitKind}
use Rattle.pm_values.specs.declared.caches.UnitKind.TheVariants.{Entry, Reset}
use Rattle.pm_values.specs.Caches.{AreKept, HasPlaces, HasRoom, IsChosen, idle, kind_of_unit, kind_value, moved_by, revalued, use_of, unit_value, valued, value_by, value_kept}
use Rattle.pm_state.specs.State.{Fixed, CoreHalf, State}
use Rattle.pm_procs.specs.declared.procs.Proc.{Proc as Processor}
use Rattle.pm_procs.specs.Modes.{is_awake}
use Rattle.pm_procs.specs.Procs.{mode_at}
use Rattle.pm_state.specs.Units.{units, moved}
use Rattle.pm_state.specs.Values.{placed, chosen, need_of, run_of, slave_child, proc_child, forest, line_at, state_at, value_at, value}
use Rattle.pm_values.proofs.MovesLemmas.{revalued_all, valued_same, moved_all}
use Rattle.pm_state.proofs.PlacedLemmas.{slice_get-placed, length-placed}
use Rattle.pm_state.specs.Talk.{Talk, talked}

-- ---- the value of a unit

pub chosen_or_0 : (core : CoreHalf) (s : ℕ) (slave : Option SlaveDef) → unwrap_or (option_map (chosen core s) slave) 0 ≡ state_at s slave core
chosen_or_0 core s None = refl
chosen_or_0 core s (Some slave) = refl

-- the value of a node by its kind, from what is kept of slaves and power nodes
kind_value_is : (fixed : Fixed) (core : CoreHalf) (states : List ℕ) (procs : List Processor) (up : List Bool) → states ≡ placed (chosen core) 0 fixed.topology.slaves → procs ≡ core.procs → up ≡ ups (forest fixed core) → (kind : Kind) → kind_value states procs up kind ≡ value_at kind fixed core
kind_value_is fixed core states procs up states_are procs_are ups_are (Slave s) =
    ap (λ xs. unwrap_or (slice_get xs s) 0) states_are
    ∙ (ap (λ o. unwrap_or o 0) (slice_get-placed (chosen core) 0 fixed.topology.slaves s s (omega arith))
    ∙ chosen_or_0 core s (slice_get fixed.topology.slaves s))
kind_value_is fixed core states procs up states_are procs_are ups_are (Power w) = ap (λ xs. cond (unwrap_or (slice_get xs w) false) 1 0) ups_are
kind_value_is fixed core states procs up states_are procs_are ups_are (Proc p) = ap (λ ps. cond (is_awake (mode_at p ps)) 1 0) procs_are
kind_value_is fixed core states procs up states_are procs_are ups_are Unknown = refl

pub unit_value_is : (fixed : Fixed) (core : CoreHalf) (states : List ℕ) (procs : List Processor) (up lines : List Bool) → states ≡ placed (chosen core) 0 fixed.topology.slaves → procs ≡ core.procs → up ≡ ups (forest fixed core) → lines ≡ core.lines → (kind : UnitKind) → unit_value states procs up lines kind ≡ value_by fixed core kind
unit_value_is fixed core states procs up lines states_are procs_are ups_are lines_are (Entry kind) = kind_value_is fixed core states procs up states_are procs_are ups_are kind
unit_value_is fixed core states procs up lines states_are procs_are ups_are lines_are (Reset place) = ap (line_at place) lines_are

pub value_by_is : (book : State) (u : Unit) → value_by book.fixed book.now.core (kind_of_unit book.fixed.topology u) ≡ value u book
value_by_is book (Node node) = refl
value_by_is book (Line line) = refl

entry_at : UnitLaws → (b : Bool) (u unit : Unit) (value_by : Unit → ℕ) (later : List (Unit × ℕ)) (rest : Bool) → same_unit u unit ≡ b → unwrap_or (value_of later unit) 0 ≡ (if rest then value_by unit else 0) → unwrap_or (if b then Some (value_by u) else value_of later unit) 0 ≡ (if (b || rest) then value_by unit else 0)
entry_at laws true u unit value_by later rest is kept = ap value_by (laws.same u unit is)
entry_at laws false u unit value_by later rest is kept = kept

entries_hold : UnitLaws → (value_by : Unit → ℕ) (us : List Unit) (unit : Unit) → value_kept unit (map (λ u. (u, value_by u)) us) ≡ (if has_in us unit then value_by unit else 0)
entries_hold laws value_by [] unit = refl
entries_hold laws value_by (u ∷ us) unit =
    entry_at laws (same_unit u unit) u unit value_by (map (λ u. (u, value_by u)) us) (has_in us unit) refl (entries_hold laws value_by us unit)

-- the unit at a place with its value, as it is kept
pub entry_kept : (book : State) (caches : Caches) (place : ℕ) → AreKept book caches → slice_get caches.values place ≡ option_map (λ u. (u, value u book)) (slice_get (units book) place)
entry_kept book caches place kept = ap (λ es. slice_get es place) kept.values ∙ slice_get-map (λ u. (u, value u book)) (units book) place

-- a unit that isn't there has the value 0
none_at : (book : State) (node : NodeId) (kind : Kind) → IsKind book.fixed.topology node kind → has_unit book.fixed.topology (Node node) ≡ false → value_at kind book.fixed book.now.core ≡ 0
none_at book node (Slave s) is none =
    let t : Topology = book.fixed.topology in
    let rest = neither (list_any (λ (p : PowerDef). p.node.0 == node.0) t.powers) _ none in
    let slaves = neither (list_any (λ (p : ProcDef). p.node.0 == node.0) t.procs) (list_any (λ (s : SlaveDef). s.node.0 == node.0) t.slaves) rest.1 in
    let there : list_any (λ (s : SlaveDef). s.node.0 == node.0) t.slaves ≡ true =
    present_from (λ (s : SlaveDef). s.node.0 == node.0) t.slaves s is.0 is.1 (equal is.0.node.0 node.0 is.2)
    in
    cc
none_at book node (Power w) is none =
    let t : Topology = book.fixed.topology in
    let rest = neither (list_any (λ (p : PowerDef). p.node.0 == node.0) t.powers) _ none in
    let there : list_any (λ (p : PowerDef). p.node.0 == node.0) t.powers ≡ true =
    present_from (λ (p : PowerDef). p.node.0 == node.0) t.powers w is.0 is.1 (equal is.0.node.0 node.0 is.2)
    in
    cc
none_at book node (Proc p) is none =
    let t : Topology = book.fixed.topology in
    let rest = neither (list_any (λ (p : PowerDef). p.node.0 == node.0) t.powers) _ none in
    let procs = neither (list_any (λ (p : ProcDef). p.node.0 == node.0) t.procs) (list_any (λ (s : SlaveDef). s.node.0 == node.0) t.slaves) rest.1 in
    let there : list_any (λ (p : ProcDef). p.node.0 == node.0) t.procs ≡ true =
    present_from (λ (p : ProcDef). p.node.0 == node.0) t.procs p is.0 is.1 (equal is.0.node.0 node.0 is.2)
    in
    cc
none_at book node Unknown is none = refl

or_none : (b : Bool) (n : ℕ) → (b ≡ false → n ≡ 0) → (if b then n else 0) ≡ n
or_none true n none = refl
or_none false n none = sym (none refl)

-- a line that isn't there has no place
no_place : (number : ℕ) (lines : List LineDef) (place : Option ℕ) → line_place lines number ≡ place → has_line number lines ≡ false → place ≡ None
no_place number lines None is none = refl
no_place number lines (Some l) is none =
    let first = position-first (λ (line : LineDef). line.line.0 == number) lines l is in
    let there : has_line number lines ≡ true = present_from (λ (line : LineDef). line.line.0 == number) lines l first.element first.here first.passes in
    cc

none_there : KindLaws → (book : State) (u : Unit) → has_unit book.fixed.topology u ≡ false → value u book ≡ 0
none_there laws book (Node node) none = none_at book node (kind_of book.fixed.topology node) (laws.is book.fixed.topology node) none
none_there laws book (Line line) none = ap (λ place. line_at place book.now.core.lines) (no_place line.0 book.fixed.topology.lines (line_place book.fixed.topology.lines line.0) refl none)

-- the value of a unit is what is kept of it
pub kept_value : UnitLaws → KindLaws → (book : State) (caches : Caches) (unit : Unit) → AreKept book caches → value_kept unit caches.values ≡ value unit book
kept_value units_hold kinds_hold book caches unit kept =
    ap (value_kept unit) kept.values
    ∙ (entries_hold units_hold (λ u. value u book) (units book) unit
    ∙ (ap (λ b. if b then value unit book else 0) (units_hold.found book.fixed.topology unit)
    ∙ or_none (has_unit book.fixed.topology unit) (value unit book) (none_there kinds_hold book unit)))

-- ---- the power nodes

idle_needs : (needs : List Bool) (cs : List Child) → with_needs needs cs ≡ with_needs needs (map idle cs)
idle_needs needs [] = refl
idle_needs [] (c ∷ cs) = ap (λ xs. child c.node c.parent false ∷ xs) (idle_needs [] cs)
idle_needs (need ∷ needs) (c ∷ cs) = ap (λ xs. child c.node c.parent need ∷ xs) (idle_needs needs cs)

slaves_need : (core : CoreHalf) (k : ℕ) (slaves : List SlaveDef) (more : List Bool) (rest : List Child) → with_needs (placed (need_of core) k slaves ++ more) (map (λ s. child s.node s.parent false) slaves ++ rest) ≡ placed (slave_child core) k slaves ++ with_needs more rest
slaves_need core k [] more rest = refl
slaves_need core k (x ∷ xs) more rest = ap (λ cs. slave_child core k x ∷ cs) (slaves_need core (k + 1) xs more rest)

procs_need : (core : CoreHalf) (k : ℕ) (procs : List ProcDef) → with_needs (placed (run_of core) k procs) (map (λ p. child p.node p.parent false) procs) ≡ placed (proc_child core) k procs
procs_need core k [] = refl
procs_need core k (x ∷ xs) = ap (λ cs. proc_child core k x ∷ cs) (procs_need core (k + 1) xs)

-- the power nodes, once the needs of all slaves and processors are set by the book
pub forest_is : (fixed : Fixed) (core : CoreHalf) (old : Needs) (needs running : List Bool) → needs ≡ placed (need_of core) 0 fixed.topology.slaves → running ≡ placed (run_of core) 0 fixed.topology.procs → old.powers ≡ fixed.topology.powers → map idle old.children ≡ children_of fixed.topology (λ _. false) → record old { children = with_needs (needs ++ running) old.children } ≡ forest fixed core
forest_is fixed core old needs running are run powers children =
    let t : Topology = fixed.topology in
    let idle_procs : List Child = map (λ p. child p.node p.parent false) t.procs in
    let all : with_needs (needs ++ running) old.children ≡ placed (slave_child core) 0 t.slaves ++ placed (proc_child core) 0 t.procs =
    idle_needs (needs ++ running) old.children
    ∙ (ap (with_needs (needs ++ running)) children
    ∙ (ap (λ ns. with_needs (ns ++ running) (children_of t (λ _. false))) are
    ∙ (ap (λ rs. with_needs (placed (need_of core) 0 t.slaves ++ rs) (children_of t (λ _. false))) run
    ∙ (slaves_need core 0 t.slaves (placed (run_of core) 0 t.procs) idle_procs
    ∙ ap (λ cs. placed (slave_child core) 0 t.slaves ++ cs) (procs_need core 0 t.procs)))))
    in
    cc

slaves_idle : (core : CoreHalf) (k : ℕ) (slaves : List SlaveDef) (rest : List Child) → map idle (placed (slave_child core) k slaves ++ rest) ≡ map (λ s. child s.node s.parent false) slaves ++ map idle rest
slaves_idle core k [] rest = refl
slaves_idle core k (x ∷ xs) rest = ap (λ cs. child x.node x.parent false ∷ cs) (slaves_idle core (k + 1) xs rest)

procs_idle : (core : CoreHalf) (k : ℕ) (procs : List ProcDef) → map idle (placed (proc_child core) k procs) ≡ map (λ p. child p.node p.parent false) procs
procs_idle core k [] = refl
procs_idle core k (x ∷ xs) = ap (λ cs. child x.node x.parent false ∷ cs) (procs_idle core (k + 1) xs)

idle_slaves : (slaves : List SlaveDef) (rest : List Child) → map idle (map (λ s. child s.node s.parent false) slaves ++ rest) ≡ map (λ s. child s.node s.parent false) slaves ++ map idle rest
idle_slaves [] rest = refl
idle_slaves (x ∷ xs) rest = ap (λ cs. child x.node x.parent false ∷ cs) (idle_slaves xs rest)

idle_procs : (procs : List ProcDef) → map idle (map (λ p. child p.node p.parent false) procs) ≡ map (λ p. child p.node p.parent false) procs
idle_procs [] = refl
idle_procs (x ∷ xs) = ap (λ cs. child x.node x.parent false ∷ cs) (idle_procs xs)

-- before any need is set
pub idle_is : (t : Topology) → map idle (children_of t (λ _. false)) ≡ children_of t (λ _. false)
idle_is t =
    idle_slaves t.slaves (map (λ p. child p.node p.parent false) t.procs)
    ∙ ap (λ cs. map (λ s. child s.node s.parent false) t.slaves ++ cs) (idle_procs t.procs)

pub forest_idle : (fixed : Fixed) (core : CoreHalf) → map idle (forest fixed core).children ≡ children_of fixed.topology (λ _. false)
forest_idle fixed core =
    slaves_idle core 0 fixed.topology.slaves (placed (proc_child core) 0 fixed.topology.procs)
    ∙ ap (λ cs. map (λ s. child s.node s.parent false) fixed.topology.slaves ++ cs) (procs_idle core 0 fixed.topology.procs)

-- ---- the tables

units_of_valued : (value_by : Unit → ℕ) (us : List Unit) → units_in (map (λ u. (u, value_by u)) us) ≡ us
units_of_valued value_by [] = refl
units_of_valued value_by (u ∷ us) = ap (λ xs. u ∷ xs) (units_of_valued value_by us)

pub length-units_in : (es : List (Unit × ℕ)) → length (units_in es) ≡ length es
length-units_in [] = refl
length-units_in (e ∷ es) = let later : length (units_in es) ≡ length es = length-units_in es in omega arith

pub zeros_units : (us : List Unit) → units_in {T = ℕ} (all_at 0 us) ≡ us
zeros_units us = units_of_valued (λ _. 0) us

-- what is kept of a book has the places of its chip
pub kept_places : (book : State) (caches : Caches) (t : Topology) → t ≡ book.fixed.topology → AreKept book caches → HasPlaces t caches
kept_places book caches t same kept =
    let P : Topology → Type 0 = λ t. HasPlaces t caches in
    subst P (sym same) (record {
      kinds = kept.kinds;
      states = ap length kept.states ∙ length-placed (chosen book.now.core) 0 book.fixed.topology.slaves;
      needs = ap length kept.needs ∙ length-placed (need_of book.now.core) 0 book.fixed.topology.slaves;
      runs = ap length kept.runs ∙ length-placed (run_of book.now.core) 0 book.fixed.topology.procs;
      used = ap length kept.used ∙ length-placed (use_of book.now.core) 0 book.fixed.topology.slaves;
      powers = ap (λ (n : Needs). n.powers) kept.power;
      children = ap (λ (n : Needs). map idle n.children) kept.power ∙ forest_idle book.fixed book.now.core;
      units = ap units_in kept.values ∙ units_of_valued (λ u. value u book) (units book);
    })

-- once the states are chosen and the power nodes are found, there are the same places and the same room
chosen_places : (book : State) (before after : Caches) → HasPlaces book.fixed.topology before → IsChosen book before after → HasPlaces book.fixed.topology after
chosen_places book before after places chosen_by = record {
  kinds = chosen_by.kinds ∙ places.kinds;
  states = ap length chosen_by.states ∙ length-placed (chosen book.now.core) 0 book.fixed.topology.slaves;
  needs = ap length chosen_by.needs ∙ length-placed (need_of book.now.core) 0 book.fixed.topology.slaves;
  runs = ap length chosen_by.runs ∙ length-placed (run_of book.now.core) 0 book.fixed.topology.procs;
  used = ap length chosen_by.used ∙ places.used;
  powers = ap (λ (n : Needs). n.powers) chosen_by.power;
  children = ap (λ (n : Needs). map idle n.children) chosen_by.power ∙ forest_idle book.fixed book.now.core;
  units = ap units_in chosen_by.values ∙ places.units;
}

pub chosen_room : (book : State) (before after : Caches) (moved : Bounded Unit) (starts : Bounded Start) (notices : Bounded Waiting) → HasRoom book.fixed.topology before moved starts notices → IsChosen book before after → HasRoom book.fixed.topology after moved starts notices
chosen_room book before after moved starts notices room chosen_by =
    let same : length after.values ≡ length before.values = ap length chosen_by.values in
    record {
      places = chosen_places book before after room.places chosen_by;
      room = omega (arith, same, room.room);
      none = room.none;
      procs = room.procs;
      few = omega (arith, same, room.few);
    }

-- each unit with its value, once the values are written by the kinds
pub valued_is : (book : State) (states : List ℕ) (procs : List Processor) (up lines : List Bool) (kinds : List UnitKind) (es : List (Unit × ℕ)) → states ≡ placed (chosen book.now.core) 0 book.fixed.topology.slaves → procs ≡ book.now.core.procs → up ≡ ups (forest book.fixed book.now.core) → lines ≡ book.now.core.lines → units_in es ≡ units book → kinds ≡ map (kind_of_unit book.fixed.topology) (units book) → revalued (unit_value states procs up lines) kinds es ≡ valued book
valued_is book states procs up lines kinds es states_are procs_are ups_are lines_are units_are kinds_are =
    let kind_in : Unit → UnitKind = kind_of_unit book.fixed.topology in
    let new : UnitKind → ℕ = unit_value states procs up lines in
    let kinds_in : kinds ≡ map kind_in (units_in es) = kinds_are ∙ ap (map kind_in) (sym units_are) in
    ap (λ ks. revalued new ks es) kinds_in
    ∙ (revalued_all new kind_in es
    ∙ (valued_same (λ u. new (kind_in u)) (λ u. value u book)
    (λ u. unit_value_is book.fixed book.now.core states procs up lines states_are procs_are ups_are lines_are (kind_in u) ∙ value_by_is book u) (units_in es)
    ∙ ap (map (λ u. (u, value u book))) units_are))

-- a slice of all of a list that was written is what was written
pub written_back : {X : Type 0} (new old : List X) (n : ℕ) → length new ≡ n → take n (new ++ drop (length new) old) ≡ new
written_back new old n places =
    ap (λ n. take n (new ++ drop (length new) old)) (sym places) ∙ take-append_seam new (drop (length new) old)

-- ---- what moves

-- the units that move from these values before to those of the book
pub moves_are : (book : State) (before : Unit → ℕ) (kinds : List UnitKind) (values : List (Unit × ℕ)) → kinds ≡ map (kind_of_unit book.fixed.topology) (units book) → values ≡ map (λ u. (u, before u)) (units book) → moved_by (value_by book.fixed book.now.core) kinds values ≡ moved before book
moves_are book before kinds values kinds_are values_are =
    let new : UnitKind → ℕ = value_by book.fixed book.now.core in
    ap (λ ks. moved_by new ks values) kinds_are
    ∙ (ap (moved_by new (map (kind_of_unit book.fixed.topology) (units book))) values_are
    ∙ moved_all new (kind_of_unit book.fixed.topology) before (λ u. value u book) (value_by_is book) (units book))

-- what is kept of the values stays right, whatever is told
pub kept_talked : (changes : List Talk) (book : State) (caches : Caches) → AreKept book caches → AreKept (talked changes book) caches
kept_talked changes book caches kept = record {
  kinds = kept.kinds;
  states = kept.states;
  needs = kept.needs;
  runs = kept.runs;
  used = kept.used;
  power = kept.power;
  values = kept.values;
}
