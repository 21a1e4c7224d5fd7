-- What differs between a run and the run without the messages of a master is within its reach.
use Rattle.std.proofs.Common.{◌≡◌, ℕ, ◌<◌, ◌==◌, Bool, true, false, cond, suc, List, [], ◌∷◌, length, Option, Some, None, option_and_then, refl, sym, ◌∙◌, ap, subst, arith}
use Rattle.std.specs.Prelude.{filter, slice_get}
use Rattle.std.specs.List.{All, AllByRecursion as Each}
use Rattle.std.proofs.lemmas.Option.{slice_get_within}
use Rattle.pm_base.specs.declared.events.Event.{Event}
use Rattle.pm_base.specs.declared.names.LineId.{LineId}
use Rattle.pm_base.specs.declared.names.NodeId.{NodeId}
use Rattle.pm_base.specs.declared.names.Unit.{Unit}
use Rattle.pm_base.specs.declared.names.Unit.TheVariants.{Node, Line}
use Rattle.pm_base.proofs.Searches.{position-first}
use Rattle.pm_base.proofs.Tests.{present_from}
use Rattle.pm_object.specs.declared.object.MasterRec.{MasterRec}
use Rattle.pm_object.specs.declared.object.Object.{Object}
use Rattle.pm_perms.specs.Owner.{has_processor, owner}
use Rattle.pm_procs.specs.Modes.{mode_number}
use Rattle.pm_procs.specs.Procs.{mode_at}
use Rattle.pm_topology.specs.declared.places.Kind.{Kind}
use Rattle.pm_topology.specs.declared.places.Kind.TheVariants.{Proc, Slave, Power, Unknown}
use Rattle.pm_topology.specs.declared.topology.LineDef.{LineDef}
use Rattle.pm_topology.specs.declared.topology.ProcDef.{ProcDef}
use Rattle.pm_topology.specs.declared.topology.Topology.{Topology}
use Rattle.pm_topology.specs.Places.{IsKind, KindLaws, kind_of, line_place}
use Rattle.pm_topology.specs.Units.{UnitLaws, has_unit, same_unit, units_of}
use Rattle.pm_topology.specs.WellFormed.{IsWellFormed}
use Rattle.pm_reach.specs.declared.members.Member.{Member}
use Rattle.pm_reach.specs.declared.members.MemberKind.{MemberKind}
use Rattle.pm_reach.specs.declared.members.MemberKind.TheVariants as members
use Rattle.pm_reach.specs.Border.{IsIn}
use Rattle.pm_reach.specs.Leads.{node_at}
use Rattle.pm_reach.specs.Membership.{IsReach, members_of}
use Rattle.pm_state.specs.Members.{owner_at}
use Rattle.pm_run.specs.Run.{IsBookOf, Line as RunLine, Setup, fixed_of, run}
use Rattle.pm_state.specs.State.{Fixed, State, objects_of, usable_among}
use Rattle.pm_state.specs.Values.{point_at, shown, value, value_at}
use Rattle.pm_laws.specs.Agree.{Agree}
use Rattle.pm_laws.specs.Border.{AreObjects, Border, IsClosed, line_beyond, none_within, unit_beyond}
use Rattle.pm_laws.specs.Both.{Both}
use Rattle.pm_laws.specs.Quiet.{quiet}
use Rattle.pm_laws.specs.ReachBorder.{IsBorderOf, border_of, configured_place}
use Rattle.pm_laws.specs.Values.{is_beyond}
use Rattle.pm_laws.specs.Worlds.{AreWorldsAlike, IsLineAlike}
use Rattle.pm_isolate.specs.Listed.{AreListed, HasMember, IsKindListed, IsListed, IsOfMember}
use Rattle.pm_isolate.specs.Transitions.{changes, differs, history, transitions}
use Rattle.pm_isolate.proofs.HistoryLemmas.{differs_only, one}
use Rattle.pm_isolate.proofs.ListedLaw.{line_listed, master_listed, power_listed, slave_listed}

-- what is known of the reach of a master and of books that agree beyond it
pub record ReachLaws : Type 0 where
  pub closed : (fixed : Fixed) (m : NodeId) → AreObjects fixed → IsWellFormed fixed.topology → IsClosed fixed (border_of fixed m)
  pub exact : (fixed : Fixed) (m : NodeId) (from : ℕ) → configured_place fixed.object m ≡ Some from → IsBorderOf fixed from (border_of fixed m)
  pub values : (border : Border) (unit : Unit) (a b : State) → IsClosed a.fixed border → is_beyond a.fixed.object a.fixed.topology border unit ≡ true → Agree border a b → value unit a ≡ value unit b
  pub modes : (border : Border) (p : ℕ) (a b : State) → unit_beyond a.fixed.object a.fixed.topology border (Proc p) ≡ true → Agree border a b → mode_at p a.now.core.procs ≡ mode_at p b.now.core.procs
  pub alike : (c : Setup) (m : NodeId) (events : List Event) → AreObjects (fixed_of c) → IsWellFormed c.topology → AreWorldsAlike c m events
  pub books : (c : Setup) (events : List Event) → IsWellFormed c.topology → All (λ line. IsBookOf c line.after.book) (run c events)
  pub kinds : KindLaws
  pub units : UnitLaws

module _ (laws : ReachLaws) (border : Border) where
  -- ---- a unit beyond shows the same in two books that agree

  point_alike : (node : NodeId) (a b : State) (k : Kind) → kind_of a.fixed.topology node ≡ k → kind_of b.fixed.topology node ≡ k
      → unit_beyond a.fixed.object a.fixed.topology border k ≡ true → Agree border a b → value (Node node) a ≡ value (Node node) b
      → point_at k a.fixed a.now.core ≡ point_at k b.fixed b.now.core
  point_alike node a b (Proc p) ea eb beyond agree same = ap mode_number (laws.modes border p a b beyond agree)
  point_alike node a b (Slave s) ea eb beyond agree same =
      ap (λ (k : Kind). value_at k a.fixed a.now.core) (sym ea) ∙ same ∙ ap (λ (k : Kind). value_at k b.fixed b.now.core) eb
  point_alike node a b (Power w) ea eb beyond agree same =
      ap (λ (k : Kind). value_at k a.fixed a.now.core) (sym ea) ∙ same ∙ ap (λ (k : Kind). value_at k b.fixed b.now.core) eb
  point_alike node a b Unknown ea eb beyond agree same = refl

  shown_alike : (unit : Unit) (a b : State) → IsClosed a.fixed border → is_beyond a.fixed.object a.fixed.topology border unit ≡ true → Agree border a b → shown unit a ≡ shown unit b
  shown_alike (Line line) a b closed beyond agree = laws.values border (Line line) a b closed beyond agree
  shown_alike (Node node) a b closed beyond agree =
      let k : Kind = kind_of a.fixed.topology node in
      let other : kind_of b.fixed.topology node ≡ k = ap (λ (f : Fixed). kind_of f.topology node) (sym agree.fixed) in
      point_alike node a b k refl other beyond agree (laws.values border (Node node) a b closed beyond agree)
      ∙ ap (λ (kind : Kind). point_at kind b.fixed b.now.core) (sym other)

  shows : (fixed : Fixed) (unit : Unit) (a b : State) → IsClosed fixed border → is_beyond fixed.object fixed.topology border unit ≡ true → a.fixed ≡ fixed → Agree border a b → shown unit a ≡ shown unit b
  shows fixed unit a b closed beyond is agree =
      let P : Fixed → Type 0 = λ fixed. IsClosed fixed border in
      let Q : Fixed → Type 0 = λ fixed. is_beyond fixed.object fixed.topology border unit ≡ true in
      shown_alike unit a b (subst P (sym is) closed) (subst Q (sym is) beyond) agree

-- so its history is the same in two runs that are alike line by line
history_alike : (laws : ReachLaws) (c : Setup) (m : NodeId) (unit : Unit) → IsClosed (fixed_of c) (border_of (fixed_of c) m) → is_beyond c.object c.topology (border_of (fixed_of c) m) unit ≡ true → (xs ys : List RunLine) → All (λ line. IsBookOf c line.after.book) xs → Both (IsLineAlike c m) xs ys → history unit xs ≡ history unit ys
history_alike laws c m unit closed beyond [] [] books alike = refl
history_alike laws c m unit closed beyond [] (y ∷ ys) books alike = absurd alike
history_alike laws c m unit closed beyond (x ∷ xs) [] books alike = absurd alike
history_alike laws c m unit closed beyond (x ∷ xs) (y ∷ ys) books alike =
    let same : shown unit x.after.book ≡ shown unit y.after.book = shows laws (border_of (fixed_of c) m) (fixed_of c) unit x.after.book y.after.book closed beyond (books 0 x (omega arith)).fixed alike.0.books in
    ap (λ (n : ℕ). n ∷ history unit xs) same
    ∙ ap (λ (later : List ℕ). shown unit y.after.book ∷ later) (history_alike laws c m unit closed beyond xs ys (λ k d within. books (suc k) d (omega (arith, within))) alike.1)

-- a unit beyond the reach of a master doesn't differ
pub same_beyond : (laws : ReachLaws) (c : Setup) (m : NodeId) (events : List Event) (unit : Unit) → AreObjects (fixed_of c) → IsWellFormed c.topology → is_beyond c.object c.topology (border_of (fixed_of c) m) unit ≡ true → transitions unit (run c events) ≡ transitions unit (run c (quiet m events))
same_beyond laws c m events unit object chip beyond =
    ap (λ (values : List ℕ). changes 0 0 values) (history_alike laws c m unit (laws.closed (fixed_of c) m object chip) beyond (run c events) (run c (quiet m events)) (laws.books c events chip) (laws.alike c m events object chip))

-- ---- what isn't beyond is listed

-- nodes with one number are one
named : (a b : NodeId) → a.0 ≡ b.0 → a ≡ b
named a b is = let node : ℕ → NodeId = λ n. record { 0 = n } in ap node is

-- and so are reset lines
named_line : (a b : LineId) → a.0 ≡ b.0 → a ≡ b
named_line a b is = let line : ℕ → LineId = λ n. record { 0 = n } in ap line is

module _ (laws : ReachLaws) (fixed : Fixed) (m : NodeId) (found : List Member) (reach : IsReach (objects_of fixed) fixed.topology m found) where
  abbrev object : Object
  object = fixed.object

  abbrev others : List Object
  others = usable_among fixed.object fixed.attached

  abbrev t : Topology
  t = fixed.topology

  abbrev border : Border
  border = border_of fixed m

  edge : IsBorderOf fixed reach.from border
  edge = laws.exact fixed m reach.from reach.place

  in_found : (kind : MemberKind) (number : ℕ) → HasMember (members_of (object ∷ others) t reach.routes) kind number → HasMember found kind number
  in_found kind number has = subst (λ (list : List Member). HasMember list kind number) (sym reach.members) has

  proc_listed : (p : ℕ) (own : Option ℕ) → owner_at object t p ≡ own → unit_beyond object t border (Proc p) ≡ false → IsOfMember object t found p
  proc_listed p None own not =
      let clash : true ≡ false = sym (ap (none_within border) own) ∙ not in absurd cc
  proc_listed p (Some k) own not =
      let inside : k < length object.masters = owner_inside (slice_get t.procs p) k own in
      let master : border.master k ≡ false = sym (ap (none_within border) own) ∙ not in
      record {
        owner = k;
        owns = own;
        within = in_found members.Master (node_at (object ∷ others) k).0 (master_listed laws.units object others t reach.from reach.routes reach.least k inside ((edge.master k inside).0 master));
      }
    where
      owner_inside : (got : Option ProcDef) (k : ℕ) → option_and_then (λ (proc : ProcDef). owner object t proc.node) got ≡ Some k → k < length object.masters
      owner_inside None k is = cc
      owner_inside (Some proc) k is =
          let first = position-first (λ (r : MasterRec). has_processor t r.node proc.node) object.masters k is in
          slice_get_within object.masters k first.element first.here

  kind_listed : (node : NodeId) (k : Kind) → kind_of t node ≡ k → has_unit t (Node node) ≡ true → unit_beyond object t border k ≡ false → IsKindListed object t found k node.0
  kind_listed node (Proc p) is there not = proc_listed p (owner_at object t p) refl not
  kind_listed node (Slave s) is there not =
      let entry = subst (IsKind t node) is (laws.kinds.is t node) in
      let inside = (edge.slave s entry.0 entry.1).0 not in
      in_found members.Slave node.0 (slave_listed laws.units object others t reach.from reach.routes reach.least (Node node) there (subst (λ (n : NodeId). IsIn (object ∷ others) t reach.from members.Slave (Node n)) (named entry.0.node node entry.2) inside))
  kind_listed node (Power w) is there not =
      let entry = subst (IsKind t node) is (laws.kinds.is t node) in
      let inside = (edge.power w entry.0 entry.1).0 not in
      in_found members.Power node.0 (power_listed laws.units object others t reach.from reach.routes reach.least (Node node) there (subst (λ (n : NodeId). IsIn (object ∷ others) t reach.from members.Power (Node n)) (named entry.0.node node entry.2) inside))
  kind_listed node Unknown is there not = let clash : true ≡ false = not in absurd cc

  -- a reset line that isn't beyond is at a place of the table
  line_listed_at : (line : LineId) (at : Option ℕ) → line_place t.lines line.0 ≡ at → has_unit t (Line line) ≡ true → line_beyond border at ≡ false → HasMember found members.Line line.0
  line_listed_at line None is there not = let clash : true ≡ false = not in absurd cc
  line_listed_at line (Some k) is there not =
      let first = position-first (λ (l : LineDef). l.line.0 == line.0) t.lines k is in
      let inside : IsIn (object ∷ others) t reach.from members.Line (Line first.element.line) = (edge.line k first.element first.here).0 not in
      let same : first.element.line ≡ line = named_line first.element.line line (one first.element.line.0 line.0 first.passes) in
      in_found members.Line line.0 (line_listed laws.units object others t reach.from reach.routes reach.least (Line line) there (subst (λ (l : LineId). IsIn (object ∷ others) t reach.from members.Line (Line l)) same inside))

  listed : (unit : Unit) → has_unit t unit ≡ true → is_beyond object t border unit ≡ false → IsListed object t found unit
  listed (Line line) there not = line_listed_at line (line_place t.lines line.0) refl there not
  listed (Node node) there not = kind_listed node (kind_of t node) refl there not

pub differs_within : (laws : ReachLaws) (c : Setup) (m : NodeId) (events : List Event) (found : List Member) (unit : Unit) → AreObjects (fixed_of c) → IsWellFormed c.topology → IsReach (objects_of (fixed_of c)) c.topology m found → has_unit c.topology unit ≡ true → differs (run c events) (run c (quiet m events)) unit ≡ true → IsListed c.object c.topology found unit
differs_within laws c m events found unit object chip reach there differ = by (is_beyond c.object c.topology (border_of (fixed_of c) m) unit) refl
  where
    by : (b : Bool) → is_beyond c.object c.topology (border_of (fixed_of c) m) unit ≡ b → IsListed c.object c.topology found unit
    by true beyond = absurd (differs_only (run c events) (run c (quiet m events)) unit differ (same_beyond laws c m events unit object chip beyond))
    by false not = listed laws (fixed_of c) m found reach unit there not

-- ---- each of all that differ

each_at : {X : Type 0} (P : X → Type 0) (xs : List X) → ((k : ℕ) (x : X) → slice_get xs k ≡ Some x → P x) → Each P xs
each_at P [] holds = tt
each_at P (x ∷ xs) holds = (holds 0 x refl, each_at P xs (λ k y at. holds (suc k) y at))

each_filter : {X : Type 0} (P : X → Type 0) (p : X → Bool) (xs : List X) → Each (λ x. p x ≡ true → P x) xs → Each P (filter p xs)
each_filter P p [] all = tt
each_filter {X} P p (x ∷ xs) all = at (p x) refl (each_filter P p xs all.1)
  where
    at : (b : Bool) → p x ≡ b → Each P (filter p xs) → Each P (cond b (x ∷ filter p xs) (filter p xs))
    at true passes later = (all.0 passes, later)
    at false fails later = later

pub all_within : (laws : ReachLaws) (c : Setup) (m : NodeId) (events : List Event) (found : List Member) → AreObjects (fixed_of c) → IsWellFormed c.topology → IsReach (objects_of (fixed_of c)) c.topology m found → AreListed c m found events
all_within laws c m events found object chip reach =
    let differ : Unit → Bool = differs (run c events) (run c (quiet m events)) in
    let listed : Unit → Type 0 = IsListed c.object c.topology found in
    each_filter listed differ (units_of c.topology) (each_at (λ (unit : Unit). differ unit ≡ true → listed unit) (units_of c.topology) (λ k unit at.
    let there : has_unit c.topology unit ≡ true = sym (laws.units.found c.topology unit) ∙ present_from (λ (u : Unit). same_unit u unit) (units_of c.topology) k unit at (laws.units.itself unit) in
    differs_within laws c m events found unit object chip reach there))
