-- The processors that a step starts, place by place, all of them, and how many there are.
use Rattle.std.proofs.Common.{◌≡◌, ℕ, ◌+◌, ◌<◌, ◌≤◌, ◌==◌, ◌&&◌, ◌⊎◌, Bool, true, false, cond, if◌then◌else◌, List, [], ◌∷◌, ◌++◌, length, map, drop, length-append, slice_get, Some, refl, arith, ap, sym, ◌∙◌, append_assoc, inl, inr}
use Rattle.std.specs.Prelude.{count_by}
use Rattle.std.specs.List.{list_any, list_all}
use Rattle.std.proofs.lemmas.Bool.Decides.{nat_tests}
use Rattle.std.proofs.lemmas.Option.{slice_get_cases}
use Rattle.pm_base.proofs.Booleans.{both, either, equal}
use Rattle.pm_base.proofs.Counts.{count_by-cons, count_by_either}
use Rattle.pm_base.proofs.ListLemmas.{drop_found}
use Rattle.pm_base.proofs.Tests.{present_from}
use Rattle.pm_base.specs.declared.names.NodeId.{NodeId}
use Rattle.pm_base.specs.declared.names.Mode.TheVariants.{Active}
use Rattle.pm_base.specs.declared.names.Unit.{Unit}
use Rattle.pm_base.specs.declared.names.Unit.TheVariants.{Node, Line}
use Rattle.pm_topology.specs.declared.places.Kind.{Kind}
use Rattle.pm_topology.specs.declared.places.Kind.TheVariants.{Proc, Slave, Power, Unknown}
use Rattle.pm_topology.specs.declared.topology.ProcDef.{ProcDef}
use Rattle.pm_topology.specs.declared.topology.Topology.{Topology}
use Rattle.pm_topology.specs.Places.{KindLaws, IsKind, kind_of}
use Rattle.pm_topology.specs.Units.{UnitLaws, same_unit, is_before, rises, units_of}
use Rattle.pm_procs.specs.declared.procs.Proc.{Proc as Processor}
use Rattle.pm_procs.specs.Modes.{same_mode}
use Rattle.pm_procs.specs.Procs.{mode_at, proc_at}
use Rattle.pm_values.specs.declared.caches.UnitKind.{UnitKind}
use Rattle.pm_values.specs.declared.caches.UnitKind.TheVariants.{Entry, Reset}
use Rattle.pm_values.specs.declared.starts.Start.{Start}
use Rattle.pm_values.specs.Caches.{kind_of_unit, start_if, start_in, started_at, starts_by}
use Rattle.pm_values.specs.Along.{down_logged}
use Rattle.pm_values.specs.Starts.{start_of, start_by, starts_among}
use Rattle.pm_state.specs.State.{State}

-- ---- the turn of the loop at place k

starts_left : (downs : List Bool) (procs : List Processor) (kinds : List UnitKind) (k : ℕ) (kind : UnitKind) (es : List (Unit × ℕ)) → slice_get kinds k ≡ Some kind → k < length es → starts_by downs procs (drop k kinds) (drop k es) ≡ started_at downs procs kind (slice_get es k) ++ starts_by downs procs (drop (k + 1) kinds) (drop (k + 1) es)
starts_left downs procs kinds k kind es at within =
    elim ((slice_get_cases es k).1) [
      | inl here ↦
          ap (λ ks. starts_by downs procs ks (drop k es)) (drop_found kinds k kind at)
          ∙ (ap (starts_by downs procs (kind ∷ drop (k + 1) kinds)) (drop_found es k here.0 here.2)
          ∙ ap (λ o. started_at downs procs kind o ++ starts_by downs procs (drop (k + 1) kinds) (drop (k + 1) es)) (sym here.2))
      | inr past ↦ absurd (omega (arith, past.0))
    ]

pub starts_step : (downs : List Bool) (procs : List Processor) (kinds : List UnitKind) (k : ℕ) (kind : UnitKind) (es : List (Unit × ℕ)) (items new whole : List Start) → slice_get kinds k ≡ Some kind → k < length es → new ≡ items ++ started_at downs procs kind (slice_get es k) → items ++ starts_by downs procs (drop k kinds) (drop k es) ≡ whole → new ++ starts_by downs procs (drop (k + 1) kinds) (drop (k + 1) es) ≡ whole
starts_step downs procs kinds k kind es items new whole at within is before =
    ap (λ xs. xs ++ starts_by downs procs (drop (k + 1) kinds) (drop (k + 1) es)) is
    ∙ (append_assoc items (started_at downs procs kind (slice_get es k)) (starts_by downs procs (drop (k + 1) kinds) (drop (k + 1) es))
    ∙ (ap (λ xs. items ++ xs) (sym (starts_left downs procs kinds k kind es at within)) ∙ before))

-- there is room for the start at place k where all of them have room
pub starts_fit : (downs : List Bool) (procs : List Processor) (kinds : List UnitKind) (k : ℕ) (kind : UnitKind) (es : List (Unit × ℕ)) (items whole : List Start) (room : ℕ) → slice_get kinds k ≡ Some kind → k < length es → items ++ starts_by downs procs (drop k kinds) (drop k es) ≡ whole → length whole ≤ room → length items + length (started_at downs procs kind (slice_get es k)) ≤ room
starts_fit downs procs kinds k kind es items whole room at within before fits =
    let here : List Start = started_at downs procs kind (slice_get es k) in
    let later : List Start = starts_by downs procs (drop (k + 1) kinds) (drop (k + 1) es) in
    let left : starts_by downs procs (drop k kinds) (drop k es) ≡ here ++ later = starts_left downs procs kinds k kind es at within in
    let all : length items + length (here ++ later) ≡ length whole =
    sym (length-append items (here ++ later)) ∙ (ap (λ xs. length (items ++ xs)) (sym left) ∙ ap length before)
    in
    let both : length (here ++ later) ≡ length here + length later = length-append here later in
    omega arith

-- ---- how many there are

abbrev is_proc : Kind → Bool
is_proc (Proc p) = true
is_proc (Slave s) = false
is_proc (Power w) = false
is_proc Unknown = false

abbrev is_proc_unit : UnitKind → Bool
is_proc_unit (Entry kind) = is_proc kind
is_proc_unit (Reset place) = false

-- one of these processors is the unit
abbrev is_among : List ProcDef → Unit → Bool
is_among procs (Node node) = list_any (λ (p : ProcDef). p.node.0 == node.0) procs
is_among procs (Line line) = false

few_if : (b : Bool) (start : Start) → length (if b then start ∷ [] else []) ≤ 1
few_if true start = omega arith
few_if false start = omega arith

few_by : (down : Bool) (u : Unit) (proc : Processor) → length (start_if down u proc) ≤ 1
few_by down (Node node) proc = few_if (down && same_mode proc.mode Active) (record { proc = node; address = proc.address })
few_by down (Line line) proc = omega arith

few_in : (downs : List Bool) (procs : List Processor) (kind : Kind) (e : Unit × ℕ) → length (start_in downs procs kind e) ≤ cond (is_proc kind) 1 0
few_in downs procs (Proc p) e = few_by (down_logged p downs) e.0 (proc_at p procs)
few_in downs procs (Slave s) e = omega arith
few_in downs procs (Power w) e = omega arith
few_in downs procs Unknown e = omega arith

few_started : (downs : List Bool) (procs : List Processor) (kind : UnitKind) (e : Unit × ℕ) → length (started_at downs procs kind (Some e)) ≤ cond (is_proc_unit kind) 1 0
few_started downs procs (Entry kind) e = few_in downs procs kind e
few_started downs procs (Reset place) e = omega arith

few_starts : (downs : List Bool) (procs : List Processor) (kind_in : Unit → UnitKind) (us : List Unit) (es : List (Unit × ℕ)) → length (starts_by downs procs (map kind_in us) es) ≤ count_by (λ u. is_proc_unit (kind_in u)) us
few_starts downs procs kind_in [] es = omega arith
few_starts downs procs kind_in (u ∷ us) [] = omega arith
few_starts downs procs kind_in (u ∷ us) (e ∷ es) =
    let later : length (starts_by downs procs (map kind_in us) es) ≤ count_by (λ u. is_proc_unit (kind_in u)) us = few_starts downs procs kind_in us es in
    let here : length (started_at downs procs (kind_in u) (Some e)) ≤ cond (is_proc_unit (kind_in u)) 1 0 = few_started downs procs (kind_in u) e in
    let both : length (started_at downs procs (kind_in u) (Some e) ++ starts_by downs procs (map kind_in us) es) ≡ length (started_at downs procs (kind_in u) (Some e)) + length (starts_by downs procs (map kind_in us) es) = length-append (started_at downs procs (kind_in u) (Some e)) (starts_by downs procs (map kind_in us) es) in
    let counted : count_by (λ u. is_proc_unit (kind_in u)) (u ∷ us) ≡ cond (is_proc_unit (kind_in u)) 1 0 + count_by (λ u. is_proc_unit (kind_in u)) us = count_by-cons (λ u. is_proc_unit (kind_in u)) u us in
    omega arith

later_is : (a b : Unit) → is_before a b ≡ true → same_unit b a ≡ false
later_is (Node a) (Node b) e = grind (arith, nat_tests)
later_is (Node a) (Line b) e = refl
later_is (Line a) (Node b) e = refl
later_is (Line a) (Line b) e = grind (arith, nat_tests)

none_later : (v : Unit) (us : List Unit) → list_all (is_before v) us ≡ true → count_by (λ u. same_unit u v) us ≡ 0
none_later v [] all = refl
none_later v (u ∷ us) all =
    let parts = both (is_before v u) (list_all (is_before v) us) all in
    let later : count_by (λ u. same_unit u v) us ≡ 0 = none_later v us parts.1 in
    let none : same_unit u v ≡ false = later_is v u parts.0 in
    let nothing : cond {A = ℕ} (same_unit u v) 1 0 ≡ 0 = ap (λ b. cond b 1 0) none in
    let counted : count_by (λ u. same_unit u v) (u ∷ us) ≡ cond (same_unit u v) 1 0 + count_by (λ u. same_unit u v) us = count_by-cons (λ u. same_unit u v) u us in
    omega arith

one_at : UnitLaws → (b : Bool) (u v : Unit) (us : List Unit) → same_unit u v ≡ b → list_all (is_before u) us ≡ true → count_by (λ u. same_unit u v) us ≤ 1 → cond b 1 0 + count_by (λ u. same_unit u v) us ≤ 1
one_at laws true u v us is all few =
    let none : count_by (λ u. same_unit u v) us ≡ 0 = none_later v us (ap (λ w. list_all (is_before w) us) (sym (laws.same u v is)) ∙ all) in
    omega arith
one_at laws false u v us is all few = omega (arith, few)

-- in a rising list each unit stands once
one_same : UnitLaws → (v : Unit) (us : List Unit) → rises us ≡ true → count_by (λ u. same_unit u v) us ≤ 1
one_same laws v [] rising = omega arith
one_same laws v (u ∷ us) rising =
    let parts = both (list_all (is_before u) us) (rises us) rising in
    let few = one_at laws (same_unit u v) u v us refl parts.0 (one_same laws v us parts.1) in
    let counted : count_by (λ u. same_unit u v) (u ∷ us) ≡ cond (same_unit u v) 1 0 + count_by (λ u. same_unit u v) us = count_by-cons (λ u. same_unit u v) u us in
    omega arith

no_proc : (u : Unit) → cond {A = ℕ} (is_among [] u) 1 0 ≡ 0
no_proc (Node node) = refl
no_proc (Line line) = refl

among_none : (us : List Unit) → count_by (is_among []) us ≡ 0
among_none [] = refl
among_none (u ∷ us) =
    let later : count_by (is_among []) us ≡ 0 = among_none us in
    let nothing : cond {A = ℕ} (is_among [] u) 1 0 ≡ 0 = no_proc u in
    let counted : count_by (is_among []) (u ∷ us) ≡ cond (is_among [] u) 1 0 + count_by (is_among []) us = count_by-cons (is_among []) u us in
    omega arith

turned : (a b : ℕ) → (a == b) ≡ true → (b == a) ≡ true
turned a b is = grind (arith, nat_tests)

first_or_later : (p : ProcDef) (procs : List ProcDef) (u : Unit) → is_among (p ∷ procs) u ≡ true → (same_unit u (Node p.node) ≡ true) ⊎ (is_among procs u ≡ true)
first_or_later p procs (Node node) is =
    elim (either (p.node.0 == node.0) (list_any (λ (p : ProcDef). p.node.0 == node.0) procs) is) [
      | inl here ↦ inl (turned p.node.0 node.0 here)
      | inr later ↦ inr later
    ]
first_or_later p procs (Line line) is = cc

-- so among them there are no more processors than the table has
few_among : UnitLaws → (procs : List ProcDef) (us : List Unit) → rises us ≡ true → count_by (is_among procs) us ≤ length procs
few_among laws [] us rising = let none : count_by (is_among []) us ≡ 0 = among_none us in omega arith
few_among laws (p ∷ procs) us rising =
    let split : count_by (is_among (p ∷ procs)) us ≤ count_by (λ u. same_unit u (Node p.node)) us + count_by (is_among procs) us = count_by_either (is_among (p ∷ procs)) (λ u. same_unit u (Node p.node)) (is_among procs) (first_or_later p procs) us in
    let one : count_by (λ u. same_unit u (Node p.node)) us ≤ 1 = one_same laws (Node p.node) us rising in
    let later : count_by (is_among procs) us ≤ length procs = few_among laws procs us rising in
    omega arith

kind_among : (t : Topology) (node : NodeId) (kind : Kind) → IsKind t node kind → is_proc kind ≡ true → is_among t.procs (Node node) ≡ true
kind_among t node (Proc p) is one = present_from (λ (p : ProcDef). p.node.0 == node.0) t.procs p is.0 is.1 (equal is.0.node.0 node.0 is.2)
kind_among t node (Slave s) is one = cc
kind_among t node (Power w) is one = cc
kind_among t node Unknown is one = cc

proc_among : KindLaws → (t : Topology) (u : Unit) → is_proc_unit (kind_of_unit t u) ≡ true → is_among t.procs u ≡ true
proc_among laws t (Node node) is = kind_among t node (kind_of t node) (laws.is t node) is
proc_among laws t (Line line) is = cc

at_most : (a b : Bool) → (a ≡ true → b ≡ true) → cond a 1 0 ≤ cond b 1 0
at_most true true implies = omega arith
at_most true false implies = let no : false ≡ true = implies refl in cc
at_most false b implies = omega arith

fewer : (p q : Unit → Bool) → ((u : Unit) → p u ≡ true → q u ≡ true) → (us : List Unit) → count_by p us ≤ count_by q us
fewer p q implies [] = omega arith
fewer p q implies (u ∷ us) =
    let later : count_by p us ≤ count_by q us = fewer p q implies us in
    let here : cond (p u) 1 0 ≤ cond (q u) 1 0 = at_most (p u) (q u) (implies u) in
    let all_p : count_by p (u ∷ us) ≡ cond (p u) 1 0 + count_by p us = count_by-cons p u us in
    let all_q : count_by q (u ∷ us) ≡ cond (q u) 1 0 + count_by q us = count_by-cons q u us in
    omega arith

-- a step starts no more processors than the chip has
pub starts_few : UnitLaws → KindLaws → (t : Topology) (downs : List Bool) (procs : List Processor) (kinds : List UnitKind) (es : List (Unit × ℕ)) → kinds ≡ map (kind_of_unit t) (units_of t) → length (starts_by downs procs kinds es) ≤ length t.procs
starts_few units_hold kinds_hold t downs procs kinds es are =
    let same : length (starts_by downs procs kinds es) ≡ length (starts_by downs procs (map (kind_of_unit t) (units_of t)) es) = ap (λ ks. length (starts_by downs procs ks es)) are in
    let few : length (starts_by downs procs (map (kind_of_unit t) (units_of t)) es) ≤ count_by (λ u. is_proc_unit (kind_of_unit t u)) (units_of t) = few_starts downs procs (kind_of_unit t) (units_of t) es in
    let less : count_by (λ u. is_proc_unit (kind_of_unit t u)) (units_of t) ≤ count_by (is_among t.procs) (units_of t) = fewer (λ u. is_proc_unit (kind_of_unit t u)) (is_among t.procs) (proc_among kinds_hold t) (units_of t) in
    let most : count_by (is_among t.procs) (units_of t) ≤ length t.procs = few_among units_hold t.procs (units_of t) (units_hold.are t).rising in
    omega arith

-- ---- by what is logged, and by the modes along the step

-- what is logged of each processor of the chip is whether it was down
abbrev pub TellsDown : List Bool → (ℕ → Bool) → State → Type 0
TellsDown downs down after = (node : NodeId) (p : ℕ) → kind_of after.fixed.topology node ≡ Proc p → down_logged p downs ≡ down p

start_is : (downs : List Bool) (value : ℕ) (down : ℕ → Bool) (after : State) (node : NodeId) (kind : Kind) → kind_of after.fixed.topology node ≡ kind → TellsDown downs down after → start_in downs after.now.core.procs kind (Node node, value) ≡ start_by down after node kind
start_is downs value down after node (Proc p) is tells =
    ap (λ b. if b && same_mode (mode_at p after.now.core.procs) Active then record { proc = node; address = (proc_at p after.now.core.procs).address } ∷ [] else []) (tells node p is)
start_is downs value down after node (Slave s) is tells = refl
start_is downs value down after node (Power w) is tells = refl
start_is downs value down after node Unknown is tells = refl

unit_start : (downs : List Bool) (value : ℕ) (down : ℕ → Bool) (after : State) (u : Unit) → TellsDown downs down after → started_at downs after.now.core.procs (kind_of_unit after.fixed.topology u) (Some (u, value)) ≡ start_of down after u
unit_start downs value down after (Node node) tells = start_is downs value down after node (kind_of after.fixed.topology node) refl tells
unit_start downs value down after (Line line) tells = refl

pub starts_are : (downs : List Bool) (before : Unit → ℕ) (down : ℕ → Bool) (after : State) (us : List Unit) → TellsDown downs down after → starts_by downs after.now.core.procs (map (kind_of_unit after.fixed.topology) us) (map (λ u. (u, before u)) us) ≡ starts_among down after us
starts_are downs before down after [] tells = refl
starts_are downs before down after (u ∷ us) tells =
    ap (λ xs. xs ++ starts_by downs after.now.core.procs (map (kind_of_unit after.fixed.topology) us) (map (λ u. (u, before u)) us)) (unit_start downs (before u) down after u tells)
    ∙ ap (λ xs. start_of down after u ++ xs) (starts_are downs before down after us tells)
