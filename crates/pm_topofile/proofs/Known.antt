-- The topology that a text means keeps all rules, and its capabilities are known ones.
use Rattle.std.proofs.Common.{◌≡◌, ℕ, zero, suc, ◌+◌, ◌<◌, ◌≤◌, Bool, true, false, cond, nat_le, nat_lt, List, [], ◌∷◌, length, slice_get, Option, Some, None, option_and_then, Result, Ok, Err, refl, subst, arith}
use Rattle.std.specs.Prelude.{IfOk, ⊤}
use Rattle.std.specs.List.{AllByRecursion}
use Rattle.std.proofs.lemmas.Bool.Decides.{nat_tests}
use Rattle.pm_io.specs.Lines.{lines_of, is_readable}
use Rattle.pm_io.specs.Numbers.{number_of, at_most}
use Rattle.pm_io.specs.Words.{word_texts}
use Rattle.pm_base.specs.declared.names.NodeId.{NodeId}
use Rattle.pm_base.proofs.Elements.{AllByRecursion-append}
use Rattle.pm_topology.specs.declared.topology.SlaveState.{SlaveState}
use Rattle.pm_topology.specs.declared.topology.SlaveDef.{SlaveDef}
use Rattle.pm_topology.specs.declared.topology.Topology.{Topology}
use Rattle.pm_topology.specs.declared.faults.TopoFault.{TopoFault}
use Rattle.pm_topology.specs.FirstFault.{first_fault}
use Rattle.pm_topology.specs.WellFormed.{HasKnownCaps, IsSupported}
use Rattle.pm_topology.proofs.WellFormedLaw.{well_formed_from}
use Rattle.pm_topofile.specs.declared.fault.TopoTextCause.{TopoTextCause}
use Rattle.pm_topofile.specs.declared.fault.TopologyError.{TopologyError}
use Rattle.pm_topofile.specs.declared.table.Keyword.{Keyword}
use Rattle.pm_topofile.specs.declared.table.Keyword.TheVariants as keywords
use Rattle.pm_topofile.specs.declared.item.Item.{Item}
use Rattle.pm_topofile.specs.declared.item.Item.TheVariants.{Empty, Power, Proc, Slave, State, Line, Owner}
use Rattle.pm_topofile.specs.Answers.{Gives}
use Rattle.pm_topofile.specs.Reading.{power_with, proc_with, slave_with, state_with, line_with, owner_with, form_item, has_count, keyword_of, keyword_item, words_item, item_of}
use Rattle.pm_topology.specs.Places.{power_place}
use Rattle.pm_topofile.specs.Taking.{nothing, stands, optional_place, under, with_state, with_power, with_proc, with_slave, placed, taken}
use Rattle.pm_topofile.specs.Meaning.{at_line, item_taken, line_taken, lines_taken, unless_bad, unless_broken, checked, meaning, most_bytes}

-- ---- items

-- the capabilities of a state are known ones
abbrev IsKnown : Item → Type 0
IsKnown (State s) = s.caps.0 < 8
IsKnown item = ⊤

power_known : (a : Option NodeId) (b : Option (Option NodeId)) (c : Option Bool) (d e : Option ℕ) (item : Item) → power_with a b c d e ≡ Some item → IsKnown item
power_known (Some a) (Some b) (Some c) (Some d) (Some e) item is = subst IsKnown (the_item is) tt
  where
    the_item : {x : Item} → Some x ≡ Some item → x ≡ item
    the_item is = cc
power_known a b c d e item is = cc

proc_known : (a b : Option NodeId) (c d : Option ℕ) (item : Item) → proc_with a b c d ≡ Some item → IsKnown item
proc_known (Some a) (Some b) (Some c) (Some d) item is = subst IsKnown (the_item is) tt
  where
    the_item : {x : Item} → Some x ≡ Some item → x ≡ item
    the_item is = cc
proc_known a b c d item is = cc

slave_known : (a b : Option NodeId) (item : Item) → slave_with a b ≡ Some item → IsKnown item
slave_known (Some a) (Some b) item is = subst IsKnown (the_item is) tt
  where
    the_item : {x : Item} → Some x ≡ Some item → x ≡ item
    the_item is = cc
slave_known a b item is = cc

state_known : (a b : Option ℕ) (c : Option Bool) (d : Option ℕ) (item : Item) → ((n : ℕ) → a ≡ Some n → n < 8) → state_with a b c d ≡ Some item → IsKnown item
state_known (Some a) (Some b) (Some c) (Some d) item bound is = subst IsKnown (the_item is) (bound a refl)
  where
    the_item : {x : Item} → Some x ≡ Some item → x ≡ item
    the_item is = cc
state_known a b c d item bound is = cc

line_known : (a : Option ℕ) (b : Option (Option NodeId)) (item : Item) → line_with a b ≡ Some item → IsKnown item
line_known (Some a) (Some b) item is = subst IsKnown (the_item is) tt
  where
    the_item : {x : Item} → Some x ≡ Some item → x ≡ item
    the_item is = cc
line_known a b item is = cc

owner_known : (a : Option NodeId) (b : Option (List ℕ)) (item : Item) → owner_with a b ≡ Some item → IsKnown item
owner_known (Some a) (Some b) item is = subst IsKnown (the_item is) tt
  where
    the_item : {x : Item} → Some x ≡ Some item → x ≡ item
    the_item is = cc
owner_known a b item is = cc

at_most_bound : (most n : ℕ) (o : Option ℕ) → at_most most o ≡ Some n → n ≤ most
at_most_bound most n None is = cc
at_most_bound most n (Some m) is = at (nat_le m most) refl is
  where
    at : (b : Bool) → nat_le m most ≡ b → cond b (Some m) None ≡ Some n → n ≤ most
    at true fits is = let same : m ≡ n = cc in subst (λ k. k ≤ most) same (grind (arith, nat_tests))
    at false fits is = cc

number_bound : (most n : ℕ) (word : Option (List ℕ)) → option_and_then (λ w. at_most most (number_of w)) word ≡ Some n → n ≤ most
number_bound most n None is = cc
number_bound most n (Some w) is = at_most_bound most n (number_of w) is

form_known : (k : Keyword) (words : List (List ℕ)) (item : Item) → form_item k words ≡ Some item → IsKnown item
form_known keywords.Power words item is = power_known _ _ _ _ _ item is
form_known keywords.Proc words item is = proc_known _ _ _ _ item is
form_known keywords.Slave words item is = slave_known _ _ item is
form_known keywords.State words item is = state_known _ _ _ _ item (λ n found. let bound = number_bound 7 n (slice_get words 1) found in omega arith) is
form_known keywords.Line words item is = line_known _ _ item is
form_known keywords.Owner words item is = owner_known _ _ item is

pub if_some : {X : Type 0} (b : Bool) (o : Option X) (x : X) → cond b o None ≡ Some x → o ≡ Some x
if_some true o x is = is
if_some false o x is = cc

words_known : (words : List (List ℕ)) (first : Option (List ℕ)) (item : Item) → words_item first words ≡ Some item → IsKnown item
words_known words None item is = let same : Empty ≡ item = cc in subst IsKnown same tt
words_known words (Some first) item is = at (keyword_of first) is
  where
    at : (k : Option Keyword) → option_and_then (λ keyword. keyword_item keyword words) k ≡ Some item → IsKnown item
    at None is = cc
    at (Some k) is = form_known k words item (if_some (has_count k words) (form_item k words) item is)

item_known : (line : List ℕ) (item : Item) → item_of line ≡ Some item → IsKnown item
unfolding item_of
item_known line item is = words_known (word_texts line) (slice_get (word_texts line) 0) item (if_some (is_readable line) _ item is)

-- ---- topologies

abbrev AreKnown : List SlaveDef → Type 0
AreKnown slaves = AllByRecursion (λ s. AllByRecursion (λ (e : SlaveState). e.caps.0 < 8) s.states) slaves

state_taken : (state : SlaveState) (slaves : List SlaveDef) → state.caps.0 < 8 → AreKnown slaves → AreKnown (with_state state slaves)
state_taken state [] caps known = tt
state_taken state (s ∷ []) caps known = (AllByRecursion-append (λ (e : SlaveState). e.caps.0 < 8) s.states (state ∷ []) known.0 (caps, tt), tt)
state_taken state (s ∷ next ∷ slaves) caps known = (known.0, state_taken state (next ∷ slaves) caps known.1)

under_known : {P : Type 0} (parent : Option P) (made : P → Topology) (u : Topology) → ((p : P) → AreKnown (made p).slaves) → under parent made ≡ Ok u → AreKnown u.slaves
under_known None made u each is = cc
under_known (Some p) made u each is = let same : made p ≡ u = cc in subst (λ (t : Topology). AreKnown t.slaves) same (each p)

abbrev good : Topology → Result Topology TopoTextCause
good t = Ok t

same_known : (t u : Topology) → AreKnown t.slaves → good t ≡ Ok u → AreKnown u.slaves
same_known t u known is = let same : t ≡ u = cc in subst (λ (t : Topology). AreKnown t.slaves) same known

placed_known : (item : Item) (t u : Topology) → IsKnown item → AreKnown t.slaves → placed item t ≡ Ok u → AreKnown u.slaves
placed_known Empty t u item known is = same_known t u known is
placed_known (Power p) t u item known is = under_known (optional_place p.parent t.powers) (with_power p t) u (λ parent. known) is
placed_known (Proc p) t u item known is = under_known (power_place t.powers p.parent.0) (with_proc p t) u (λ parent. known) is
placed_known (Slave s) t u item known is = under_known (power_place t.powers s.parent.0) (with_slave s t) u (λ parent. AllByRecursion-append (λ (s : SlaveDef). AllByRecursion (λ (e : SlaveState). e.caps.0 < 8) s.states) t.slaves (record { node = s.node; parent = parent; states = [] } ∷ []) known (tt, tt)) is
placed_known (State s) t u item known is = same_known _ u (state_taken s t.slaves item known) is
placed_known (Line l) t u item known is = same_known _ u known is
placed_known (Owner node procs) t u item known is = same_known _ u known is

pub if_ok : {X E : Type 0} (b : Bool) (r : Result X E) (e : E) (x : X) → cond b r (Err e) ≡ Ok x → r ≡ Ok x
if_ok true r e x is = is
if_ok false r e x is = cc

taken_known : (item : Item) (t u : Topology) → IsKnown item → AreKnown t.slaves → taken item t ≡ Ok u → AreKnown u.slaves
unfolding taken
taken_known item t u item_is known is = placed_known item t u item_is known (if_ok (stands item t) (placed item t) _ u is)

pub good_line : (n : ℕ) (r : Result Topology TopoTextCause) (u : Topology) → at_line n r ≡ Ok u → r ≡ Ok u
good_line n (Ok t) u is = cc
good_line n (Err cause) u is = cc

line_taken_known : (n : ℕ) (text : List ℕ) (t u : Topology) → AreKnown t.slaves → line_taken n text t ≡ Ok u → AreKnown u.slaves
unfolding line_taken
line_taken_known n text t u known is = at (item_of text) refl (good_line n (item_taken (item_of text) t) u is)
  where
    at : (found : Option Item) → item_of text ≡ found → item_taken found t ≡ Ok u → AreKnown u.slaves
    at None none is = cc
    at (Some item) said is = taken_known item t u (item_known text item said) known is

-- what came before is there
pub good_before : (r : Result Topology TopologyError) (after : Topology → Result Topology TopologyError) (u : Topology) → unless_bad r after ≡ Ok u → (t : Topology) × (r ≡ Ok t) × (after t ≡ Ok u)
good_before (Ok t) after u is = (t, refl, is)
good_before (Err fault) after u is = cc

lines_known : (lines : List (List ℕ)) (n : ℕ) (t u : Topology) → AreKnown t.slaves → lines_taken n t lines ≡ Ok u → AreKnown u.slaves
lines_known [] n t u known is = let same : t ≡ u = cc in subst (λ (t : Topology). AreKnown t.slaves) same known
lines_known (text ∷ lines) n t u known is =
    let first = good_before (line_taken n text t) (λ next. lines_taken (n + 1) next lines) u is in
    lines_known lines (n + 1) first.0 u (line_taken_known n text t first.0 known first.1) first.2

each_at : {X : Type 0} (P : X → Type 0) (xs : List X) (k : ℕ) (x : X) → AllByRecursion P xs → slice_get xs k ≡ Some x → P x
each_at P [] k x all here = cc
each_at P (y ∷ xs) zero x all here = let same : y ≡ x = cc in subst P same all.0
each_at P (y ∷ xs) (suc k) x all here = each_at P xs k x all.1 here

known_caps : (t : Topology) → AreKnown t.slaves → HasKnownCaps t
known_caps t known k s here j e there =
    each_at (λ (e : SlaveState). e.caps.0 < 8) s.states j e (each_at (λ (s : SlaveDef). AllByRecursion (λ (e : SlaveState). e.caps.0 < 8) s.states) t.slaves k s known here) there

pub unbroken : (fault : Option TopoFault) (t u : Topology) → unless_broken fault t ≡ Ok u → (fault ≡ None) × (t ≡ u)
unbroken None t u is = (refl, cc)
unbroken (Some fault) t u is = cc

pub meaning_supported : (text : List ℕ) (t : Topology) → meaning text ≡ Ok t → IsSupported t
unfolding meaning
meaning_supported text t is =
    let read = good_before (lines_taken 1 nothing (lines_of text)) checked t (if_ok_not (nat_lt most_bytes (length text)) _ _ t is) in
    let good = unbroken (first_fault read.0) read.0 t read.2 in
    subst IsSupported good.1 (record { well_formed = well_formed_from read.0 good.0; known = known_caps read.0 (lines_known (lines_of text) 1 nothing read.0 tt read.1) })
  where
    if_ok_not : {X E : Type 0} (b : Bool) (e : E) (r : Result X E) (x : X) → cond b (Err e) r ≡ Ok x → r ≡ Ok x
    if_ok_not true e r x is = cc
    if_ok_not false e r x is = is

pub supported_where : (text : List ℕ) (result : Result Topology TopologyError) → Gives result (meaning text) → IfOk result IsSupported
supported_where text (Ok t) gives = meaning_supported text t gives
supported_where text (Err e) gives = tt
