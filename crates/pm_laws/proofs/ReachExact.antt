-- The border of a reach is that of the reach: no narrower and no wider.
use Rattle.std.proofs.Common.{◌≡◌, ℕ, ◌<◌, ◌&&◌, Bool, true, false, not, slice_get, length, List, Option, Some, None, refl, ap, sym, ◌∙◌, subst, ◌↔◌, [], ◌∷◌}
use Rattle.std.specs.Option.{option_map}
use Rattle.std.proofs.lemmas.Bool.{lt-ltb}
use Rattle.pm_base.specs.declared.names.LineId.{LineId}
use Rattle.pm_laws.proofs.Common.{Border, IsAllBeyond, IsBorderOf, IsBorderOver, Node, NodeId, Object, State, Topology, border_of, brings_in, entry_beyond, is_within, master_beyond, master_place, configured_place, reset_beyond}
use Rattle.pm_base.specs.declared.names.Unit.TheVariants.{Line}
use Rattle.pm_topology.specs.declared.topology.LineDef.{LineDef}
use Rattle.pm_topology.specs.declared.topology.PowerDef.{PowerDef}
use Rattle.pm_topology.specs.declared.topology.SlaveDef.{SlaveDef}
use Rattle.pm_reach.specs.declared.members.MemberKind.{MemberKind}
use Rattle.pm_reach.specs.declared.members.MemberKind.TheVariants as members
use Rattle.pm_reach.specs.declared.members.Why.TheVariants.{Myself}
use Rattle.pm_reach.specs.Border.{IsIn}
use Rattle.pm_reach.specs.Paths.{start}
use Rattle.pm_reach.specs.Reached.{is_reached}
use Rattle.pm_state.specs.State.{Fixed, objects_of, usable_among}
use Rattle.pm_laws.proofs.ReachBorderLaw.{edge, place_starts}
use Rattle.pm_laws.proofs.WithinReach.{ReachLaws, Starts, beyond_parts}

not_beyond : (b : Bool) → not b ≡ false → b ≡ true
not_beyond true e = refl
not_beyond false e = cc

is_beyond : (b : Bool) → b ≡ true → not b ≡ false
is_beyond true e = refl
is_beyond false e = cc

module _ (laws : ReachLaws) (object : Object) (others : List Object) (t : Topology) (from : ℕ) (starts : from < length object.masters) where
  abbrev objects : List Object
  objects = object ∷ others

  abbrev border : Border
  border = edge object others t (Some from)

  there : (k : ℕ) → k < length object.masters → border.master k ≡ not (is_reached objects t from k)
  there k within = ap (λ b. b && not (is_reached objects t from k)) (lt-ltb k (length object.masters) within)

  entry_where : (kind : MemberKind) (got : Option NodeId) (node : NodeId) → got ≡ Some node
      → (entry_beyond objects t (Some from) kind got ≡ false) ↔ IsIn objects t from kind (Node node)
  entry_where kind got node is =
      let same = ap (entry_beyond objects t (Some from) kind) is in
      let test = laws.tests.units objects t from kind (Node node) starts in (
        λ e. test.0 (not_beyond (brings_in objects t (Some from) kind (Node node)) (sym same ∙ e)),
        λ within. same ∙ is_beyond (brings_in objects t (Some from) kind (Node node)) (test.1 within),
      )

  line_where : (got : Option LineId) (line : LineId) → got ≡ Some line
      → (reset_beyond objects t (Some from) got ≡ false) ↔ IsIn objects t from members.Line (Line line)
  line_where got line is =
      let same = ap (reset_beyond objects t (Some from)) is in
      let test = laws.tests.units objects t from members.Line (Line line) starts in (
        λ e. test.0 (not_beyond (brings_in objects t (Some from) members.Line (Line line)) (sym same ∙ e)),
        λ within. same ∙ is_beyond (brings_in objects t (Some from) members.Line (Line line)) (test.1 within),
      )

  pub edge_exact : IsBorderOver objects t from border
  edge_exact = record {
    master = λ k within. (
      λ e. (laws.tests.masters objects t from k starts).0 (not_beyond (is_reached objects t from k) (sym (there k within) ∙ e)),
      λ path. there k within ∙ is_beyond (is_reached objects t from k) ((laws.tests.masters objects t from k starts).1 path),
    );
    slave = λ k s is. entry_where members.Slave _ s.node (ap (λ o. option_map (λ (slave : SlaveDef). slave.node) o) is);
    power = λ k p is. entry_where members.Power _ p.node (ap (λ o. option_map (λ (power : PowerDef). power.node) o) is);
    line = λ k l is. line_where _ l.line (ap (λ o. option_map (λ (line : LineDef). line.line) o) is);
    configured = λ k e. (beyond_parts laws objects t (Some from) starts k e).0;
    some = λ e. let found = (laws.tests.some objects (master_beyond objects t (Some from))).0 e in (found.0, found.2);
  }

pub reach_exact : ReachLaws → (fixed : Fixed) (m : NodeId) (from : ℕ) → configured_place fixed.object m ≡ Some from → IsBorderOf fixed from (border_of fixed m)
reach_exact laws fixed m from is =
    let others : List Object = usable_among fixed.object fixed.attached in
    let P : Option ℕ → Type 0 = λ place. IsBorderOf fixed from (edge fixed.object others fixed.topology place) in
    subst P (sym is) (edge_exact laws fixed.object others fixed.topology from (place_starts fixed.object others m (Some from) is))

-- a master that isn't configured reaches nothing
unreached : (os : List Object) (t : Topology) (kind : MemberKind) (got : Option NodeId) → entry_beyond os t None kind got ≡ true
unreached os t kind None = refl
unreached os t kind (Some node) = refl

unset : (os : List Object) (t : Topology) (got : Option LineId) → reset_beyond os t None got ≡ true
unset os t None = refl
unset os t (Some line) = refl

pub all_beyond : (fixed : Fixed) (m : NodeId) → configured_place fixed.object m ≡ None → IsAllBeyond fixed.object (border_of fixed m)
all_beyond fixed m is =
    let t : Topology = fixed.topology in
    let P : Option ℕ → Type 0 = λ place. IsAllBeyond fixed.object (edge fixed.object (usable_among fixed.object fixed.attached) t place) in
    subst P (sym is) (record {
      masters = λ k within. ap (λ b. b && true) (lt-ltb k (length fixed.object.masters) within);
      slaves = λ s. unreached (objects_of fixed) t members.Slave (option_map (λ (slave : SlaveDef). slave.node) (slice_get t.slaves s));
      powers = λ w. unreached (objects_of fixed) t members.Power (option_map (λ (power : PowerDef). power.node) (slice_get t.powers w));
      lines = λ l. unset (objects_of fixed) t (option_map (λ (line : LineDef). line.line) (slice_get t.lines l));
    })

-- the master itself is within its reach
own_within : (laws : ReachLaws) (object : Object) (others : List Object) (t : Topology) (place : Option ℕ) → Starts (object ∷ others) place → is_within (edge object others t place) place ≡ true
own_within laws object others t None starts = refl
own_within laws object others t (Some from) starts =
    let one = (edge_exact laws object others t from starts).master from starts in
    let within : (edge object others t (Some from)).master from ≡ false = one.1 (_, Myself, start) in
    ap not within

pub caller_within : ReachLaws → (m : NodeId) (book : State) → is_within (border_of book.fixed m) (master_place m book) ≡ true
caller_within laws m book =
    let others : List Object = usable_among book.fixed.object book.fixed.attached in
    own_within laws book.fixed.object others book.fixed.topology (master_place m book) (place_starts book.fixed.object others m (master_place m book) refl)
