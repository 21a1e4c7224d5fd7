-- The border of a reach is closed: what a master within can change is within.
use Rattle.std.proofs.Common.{◌≡◌, ℕ, ◌<◌, ◌&&◌, ◌||◌, Bool, true, false, cond, Option, Some, None, List, [], ◌∷◌, ◌++◌, length, slice_get, find, refl, ap, sym, ◌∙◌}
use Rattle.std.specs.List.{list_any}
use Rattle.std.specs.Prelude.{is_some}
use Rattle.pm_base.specs.declared.names.NodeId.{NodeId}
use Rattle.pm_base.specs.declared.names.LineId.{LineId}
use Rattle.pm_base.specs.declared.names.Unit.TheVariants.{Node, Line}
use Rattle.pm_base.proofs.Booleans.{pair_of, first_passes, later_passes}
use Rattle.pm_base.proofs.Tests.{present_from}
use Rattle.pm_object.specs.declared.object.Object.{Object}
use Rattle.pm_topology.specs.declared.topology.SlaveDef.{SlaveDef}
use Rattle.pm_topology.specs.declared.topology.ProcDef.{ProcDef}
use Rattle.pm_topology.specs.declared.topology.LineDef.{LineDef}
use Rattle.pm_topology.specs.declared.topology.Topology.{Topology}
use Rattle.pm_topology.specs.declared.places.Kind.TheVariants as kinds
use Rattle.pm_topology.specs.Places.{is_below, kind_of}
use Rattle.pm_perms.specs.Several.{masters_of, some_may_use, some_may_suspend, some_may_wake, some_may_reset, some_may_shut, some_may_configure}
use Rattle.pm_reach.specs.declared.members.MemberKind.TheVariants as members
use Rattle.pm_reach.specs.declared.members.Why.{Why}
use Rattle.pm_reach.specs.declared.members.Why.TheVariants.{Suspend, Wake, Force, Reset, Shutdown, Config, Uses, Above}
use Rattle.pm_reach.specs.Leads.{node_at, targets, forces_above, forces_proc, forces_a_proc, leads_for, lead_reasons, has_processor_at}
use Rattle.pm_reach.specs.Brings.{brings_as_slave, brings_as_power, brings_slave, brings_slave_for, is_above_proc, is_above_slave}
use Rattle.pm_reach.specs.Paths.{step}
use Rattle.pm_reach.specs.Border.{Reaches, IsIn}

-- ---- an element that passes is found

find_first : {X : Type 0} (p : X → Bool) (x : X) (xs : List X) → p x ≡ true → find p (x ∷ xs) ≡ Some x
find_first p x xs here = rw here refl

some_found : {X : Type 0} (p : X → Bool) (xs : List X) → list_any p xs ≡ true → (y : X) × (find p xs ≡ Some y)
some_found p [] e = cc
some_found {X} p (x ∷ xs) e = at (p x) refl e (some_found p xs)
  where
    at : (b : Bool)
        → p x ≡ b
        → (b || list_any p xs) ≡ true
        → (list_any p xs ≡ true → (y : X) × (find p xs ≡ Some y))
        → (y : X) × (find p (x ∷ xs) ≡ Some y)
    at true here e later = (x, rw here refl)
    at false here e later = let found = later e in (found.0, rw here found.1)

pub yes : (b : Bool) (why : Why) → b ≡ true → cond b (Some why) None ≡ Some why
yes b why e = rw e refl

module _ (objects : List Object) (t : Topology) (from a : ℕ) (r : Reaches objects t from a) where
  -- ---- masters

  leads_on : (b k : ℕ) (why : Why)
      → b < length (masters_of objects)
      → slice_get lead_reasons k ≡ Some why
      → leads_for objects t a b why ≡ true
      → Reaches objects t from b
  leads_on b k why within is holds =
      let found = some_found (leads_for objects t a b) lead_reasons (present_from (leads_for objects t a b) lead_reasons k why is holds) in
      (r.0 ++ b ∷ [], found.0, step r.0 a b r.1 found.0 r.2 within found.1)

  pub to_suspended : (b : ℕ) → b < length (masters_of objects)
      → some_may_suspend objects t (node_at objects a) (node_at objects b) ≡ true
      → Reaches objects t from b
  to_suspended b within may = leads_on b 0 Suspend within refl may

  pub to_woken : (b : ℕ) → b < length (masters_of objects)
      → some_may_wake objects t (node_at objects a) (node_at objects b) ≡ true
      → Reaches objects t from b
  to_woken b within may = leads_on b 1 Wake within refl may

  pub to_forced_proc : (b : ℕ) → b < length (masters_of objects)
      → (k : ℕ) (p : ProcDef) → slice_get t.procs k ≡ Some p
      → has_processor_at objects t b p.node ≡ true
      → forces_proc objects t (node_at objects a) p.node ≡ true
      → Reaches objects t from b
  to_forced_proc b within k p is own may =
      let test : ProcDef → Bool = λ p. has_processor_at objects t b p.node && forces_proc objects t (node_at objects a) p.node in
      let some = present_from test t.procs k p is (pair_of (has_processor_at objects t b p.node) _ own may) in
      leads_on b 2 Force within refl (first_passes (forces_a_proc objects t (node_at objects a) b) _ some)

  pub to_forced_slave : (b : ℕ) → b < length (masters_of objects)
      → (k : ℕ) (s : SlaveDef) → slice_get t.slaves k ≡ Some s
      → some_may_use objects t (node_at objects b) s.node ≡ true
      → forces_above objects t (node_at objects a) s.node ≡ true
      → Reaches objects t from b
  to_forced_slave b within k s is uses may =
      let test : SlaveDef → Bool = λ s. some_may_use objects t (node_at objects b) s.node && forces_above objects t (node_at objects a) s.node in
      let some = present_from test t.slaves k s is (pair_of (some_may_use objects t (node_at objects b) s.node) _ uses may) in
      leads_on b 2 Force within refl (later_passes (forces_a_proc objects t (node_at objects a) b) _ some)

  pub to_reset : (b : ℕ) → b < length (masters_of objects)
      → (k : ℕ) (l : LineDef) → slice_get t.lines k ≡ Some l
      → targets objects t l b ≡ true
      → some_may_reset objects t (node_at objects a) l.line ≡ true
      → Reaches objects t from b
  to_reset b within k l is target may =
      let test : LineDef → Bool = λ l. targets objects t l b && some_may_reset objects t (node_at objects a) l.line in
      let some = present_from test t.lines k l is (pair_of (targets objects t l b) _ target may) in
      leads_on b 3 Reset within refl some

  pub to_all_shut : (b : ℕ) → b < length (masters_of objects)
      → (some_may_shut objects t (node_at objects a) 1 || some_may_shut objects t (node_at objects a) 2) ≡ true
      → Reaches objects t from b
  to_all_shut b within may = leads_on b 4 Shutdown within refl may

  pub to_all_configured : (b : ℕ) → b < length (masters_of objects)
      → some_may_configure objects t (node_at objects a) ≡ true
      → Reaches objects t from b
  to_all_configured b within may = leads_on b 5 Config within refl may

  -- ---- slaves, lines and power nodes

  pub to_used : (s : NodeId) (k : ℕ) → kind_of t s ≡ kinds.Slave k
      → some_may_use objects t (node_at objects a) s ≡ true
      → IsIn objects t from members.Slave (Node s)
  to_used s k kind may =
      let found = find_first (brings_slave_for objects t a s) Uses (Force ∷ Reset ∷ []) may in
      (a, Uses, r, ap (λ of. brings_as_slave objects t a s of) kind ∙ found)

  pub to_line : (l : LineId) → some_may_reset objects t (node_at objects a) l ≡ true → IsIn objects t from members.Line (Line l)
  to_line l may = (a, Reset, r, yes (some_may_reset objects t (node_at objects a) l) Reset may)

  pub to_power_above_proc : (n : NodeId) (w : ℕ) → kind_of t n ≡ kinds.Power w
      → (k : ℕ) (p : ProcDef) → slice_get t.procs k ≡ Some p
      → has_processor_at objects t a p.node ≡ true
      → is_below t w p.node ≡ true
      → IsIn objects t from members.Power (Node n)
  to_power_above_proc n w kind k p is own below =
      let test : ProcDef → Bool = λ p. has_processor_at objects t a p.node && is_below t w p.node in
      let some = present_from test t.procs k p is (pair_of (has_processor_at objects t a p.node) _ own below) in (
        a,
        Above,
        r,
        ap (λ of. brings_as_power objects t a of) kind
            ∙ yes (is_above_proc objects t a w || is_above_slave objects t a w) Above (first_passes (is_above_proc objects t a w) _ some),
      )

is_there : {X : Type 0} (o : Option X) (x : X) → o ≡ Some x → is_some o ≡ true
is_there o x e = rw e refl

-- a power node above a slave within
pub to_power_above_slave : (objects : List Object) (t : Topology) (from : ℕ) (n : NodeId) (w : ℕ) → kind_of t n ≡ kinds.Power w
    → (k : ℕ) (s : SlaveDef) (j : ℕ) → slice_get t.slaves k ≡ Some s
    → kind_of t s.node ≡ kinds.Slave j
    → IsIn objects t from members.Slave (Node s.node)
    → is_below t w s.node ≡ true
    → IsIn objects t from members.Power (Node n)
to_power_above_slave objects t from n w kind k s j is slave within below =
    let a = within.0 in
    let test : SlaveDef → Bool = λ s. is_some (brings_slave objects t a s.node) && is_below t w s.node in
    let brought : brings_slave objects t a s.node ≡ Some within.1 =
    ap (λ of. brings_as_slave objects t a s.node of) (sym slave) ∙ within.3 in
    let there = is_there (brings_slave objects t a s.node) within.1 brought in
    let some = present_from test t.slaves k s is (pair_of (is_some (brings_slave objects t a s.node)) _ there below) in (
      a,
      Above,
      within.2,
      ap (λ of. brings_as_power objects t a of) kind
          ∙ yes (is_above_proc objects t a w || is_above_slave objects t a w) Above (later_passes (is_above_proc objects t a w) _ some),
    )
