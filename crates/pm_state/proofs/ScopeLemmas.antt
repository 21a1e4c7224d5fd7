-- The processors of a scope go off one after another, and so are the rows on the slaves below a node cleared. A force of a
-- power node visits what is below it.
use Rattle.std.proofs.Common.{◌≡◌, ◌≢◌, ℕ, ◌+◌, ◌≤◌, ◌<◌, ◌==◌, Bool, true, false, if◌then◌else◌, List, [], ◌∷◌, ◌++◌, drop, length, slice_get, Option, Some, None, is_some, refl, sym, ap, ◌∙◌, inl, inr, arith}
use Rattle.std.proofs.lemmas.Option.{slice_get_within}
use Rattle.std.proofs.lemmas.Bool.{cases_Bool, eqb-true}
use Rattle.std.proofs.lemmas.List.{append-nil, drop_all}
use Rattle.std.specs.List.{flat_map}
use Rattle.pm_base.proofs.Booleans.{differs as differ, equal, unequal}
use Rattle.pm_base.proofs.ListLemmas.{drop_found}
use Rattle.pm_base.specs.declared.names.Mode.TheVariants.{Off}
use Rattle.pm_base.specs.declared.names.NodeId.{NodeId}
use Rattle.pm_topology.specs.declared.places.Kind.{Kind}
use Rattle.pm_topology.specs.declared.places.Kind.TheVariants.{Proc, Slave, Power, Unknown}
use Rattle.pm_topology.specs.declared.topology.Topology.{Topology}
use Rattle.pm_topology.specs.Places.{IsKind, is_below, kind_of}
use Rattle.pm_topology.specs.declared.topology.ProcDef.{ProcDef}
use Rattle.pm_topology.specs.declared.topology.SlaveDef.{SlaveDef}
use Rattle.pm_state.specs.declared.scope.Scope.{Scope}
use Rattle.pm_state.specs.declared.scope.Scope.TheVariants.{Under}
use Rattle.pm_base.specs.Places.{is_place}
use Rattle.pm_state.specs.Members.{owner_at, owns}
use Rattle.pm_state.specs.Prims.{Prim, Put_proc, changed, proc_put, with_proc}
use Rattle.pm_state.specs.Below.{passing}
use Rattle.pm_state.specs.Scope.{IsPlaced, clear, clears_from, is_slave_under, is_under, of_masters, off, off_at, off_by, off_of, offs_from}
use Rattle.pm_state.specs.State.{Fixed, State}
use Rattle.pm_state.proofs.FollowLemmas.{changed_step}

pub offs_step : (book next : State) (scope : Scope) (p : ℕ) (proc : ProcDef) (procs : List ProcDef) → slice_get procs p ≡ Some proc → next ≡ changed (off_at book.fixed scope p proc.node) book
    → changed (offs_from next.fixed scope (p + 1) (drop (p + 1) procs)) next ≡ changed (offs_from book.fixed scope p (drop p procs)) book
offs_step book next scope p proc procs found is =
    let rest : List ProcDef = drop (p + 1) procs in
    ap (λ (f : Fixed). changed (offs_from f scope (p + 1) rest) next) (ap (λ (b : State). b.fixed) is)
    ∙ (changed_step (off_at book.fixed scope p proc.node) (offs_from book.fixed scope (p + 1) rest) book next is
    ∙ ap (λ l. changed (offs_from book.fixed scope p l) book) (sym (drop_found procs p proc found)))

-- the next of these places is visited
pub visit_step : (f : ℕ → List Prim) (places : List ℕ) (k place : ℕ) (book next : State) → slice_get places k ≡ Some place → next ≡ changed (f place) book
    → changed (flat_map f (drop (k + 1) places)) next ≡ changed (flat_map f (drop k places)) book
visit_step f places k place book next found is =
    changed_step (f place) (flat_map f (drop (k + 1) places)) book next is
    ∙ ap (λ (l : List ℕ). changed (flat_map f l) book) (sym (drop_found places k place found))

-- none of them is left
pub visits_done : (f : ℕ → List Prim) (places : List ℕ) (k : ℕ) (book whole : State) → length places ≤ k → changed (flat_map f (drop k places)) book ≡ whole → book ≡ whole
visits_done f places k book whole end before =
    sym (ap (λ (l : List ℕ). changed (flat_map f l) book) (drop_all k places end)) ∙ before

-- ---- what a force visits

visited : (f : ℕ → List Prim) (b : Bool) (k : ℕ) (ks : List ℕ) (prims : List Prim) → prims ≡ flat_map f ks
    → (if b then f k else []) ++ prims ≡ flat_map f ((if b then k ∷ [] else []) ++ ks)
visited f true k ks prims is = ap (λ (l : List Prim). f k ++ l) is
visited f false k ks prims is = is

module _ (fixed : Fixed) (forced : NodeId) where
  abbrev t : Topology
  t = fixed.topology

  -- the slaves below a power node
  pub clears_power : (w s : ℕ) (slaves : List SlaveDef) → kind_of t forced ≡ Power w
      → clears_from fixed forced s slaves ≡ flat_map clear (passing (λ (slave : SlaveDef). is_below t w slave.node) s slaves)
  clears_power w s [] is = refl
  clears_power w s (slave ∷ slaves) is =
      ap (λ (kind : Kind). (if is_slave_under t kind slave.node then clear s else []) ++ clears_from fixed forced (s + 1) slaves) is
      ∙ visited clear (is_below t w slave.node) s (passing (λ (slave : SlaveDef). is_below t w slave.node) (s + 1) slaves)
      (clears_from fixed forced (s + 1) slaves) (clears_power w (s + 1) slaves is)

  -- no slave is below another node
  pub clears_none : (s : ℕ) (slaves : List SlaveDef) → ((node : NodeId) → is_slave_under t (kind_of t forced) node ≡ false) → clears_from fixed forced s slaves ≡ []
  clears_none s [] none = refl
  clears_none s (slave ∷ slaves) none =
      ap (λ (b : Bool). (if b then clear s else []) ++ clears_from fixed forced (s + 1) slaves) (none slave.node)
      ∙ clears_none (s + 1) slaves none

  -- the processors below a power node
  pub offs_power : (w p : ℕ) (procs : List ProcDef) → kind_of t forced ≡ Power w
      → offs_from fixed (Under forced) p procs ≡ flat_map (off fixed) (passing (λ (proc : ProcDef). is_below t w proc.node) p procs)
  offs_power w p [] is = refl
  offs_power w p (proc ∷ procs) is =
      ap (λ (kind : Kind). (if is_under t kind p proc.node then off fixed p else []) ++ offs_from fixed (Under forced) (p + 1) procs) is
      ∙ visited (off fixed) (is_below t w proc.node) p (passing (λ (proc : ProcDef). is_below t w proc.node) (p + 1) procs)
      (offs_from fixed (Under forced) (p + 1) procs) (offs_power w (p + 1) procs is)

  -- none of these processors is the forced node or is below it
  pub offs_none : (p : ℕ) (procs : List ProcDef) → ((k : ℕ) (node : NodeId) → p ≤ k → is_under t (kind_of t forced) k node ≡ false)
      → offs_from fixed (Under forced) p procs ≡ []
  offs_none p [] none = refl
  offs_none p (proc ∷ procs) none =
      ap (λ (b : Bool). (if b then off fixed p else []) ++ offs_from fixed (Under forced) (p + 1) procs) (none p proc.node (omega arith))
      ∙ offs_none (p + 1) procs (λ k node later. none k node (omega (arith, later)))

  -- a forced processor
  pub offs_proc : (q p : ℕ) (procs : List ProcDef) → kind_of t forced ≡ Proc q → p ≤ q → q < p + length procs
      → offs_from fixed (Under forced) p procs ≡ off fixed q
  offs_proc q p [] is from within = absurd (omega (arith, from, within))
  offs_proc q p (proc ∷ procs) is from within =
      let rest : List Prim = offs_from fixed (Under forced) (p + 1) procs in
      let under : is_under t (kind_of t forced) p proc.node ≡ (p == q) = ap (λ (kind : Kind). is_under t kind p proc.node) is in
      elim (cases_Bool (p == q)) [
        | inl same ↦ (
            let this : p ≡ q = eqb-true p q same in
            let none : rest ≡ [] =
            offs_none (p + 1) procs
            (λ k node later. ap (λ (kind : Kind). is_under t kind k node) is ∙ unequal k q (λ here. omega (arith, here, later, this)))
            in
            ap (λ (b : Bool). (if b then off fixed p else []) ++ rest) (under ∙ same)
            ∙ (ap (λ (l : List Prim). off fixed p ++ l) none ∙ (append-nil (off fixed p) ∙ ap (off fixed) this)))
        | inr differs ↦ (
            let apart : p ≢ q = differ p q differs in
            ap (λ (b : Bool). (if b then off fixed p else []) ++ rest) (under ∙ differs)
            ∙ offs_proc q (p + 1) procs is (omega (arith, from, apart)) (omega (arith, within)))
      ]

-- a kind that a node has is placed on the chip
pub placed_kind : (t : Topology) (n : NodeId) (kind : Kind) → IsKind t n kind → IsPlaced t kind
placed_kind t n (Power w) is = slice_get_within t.powers w is.0 is.1
placed_kind t n (Proc p) is = slice_get_within t.procs p is.0 is.1
placed_kind t n (Slave s) is = tt
placed_kind t n Unknown is = tt

module _ (book : State) (p : ℕ) where
  abbrev owner : Option ℕ
  owner = owner_at book.fixed.object book.fixed.topology p

  -- a processor that its own master's change puts off goes off
  own_put : (m : ℕ) → Some m ≡ owner → changed (Put_proc m p Off 0 ∷ []) book ≡ with_proc p Off 0 book
  own_put m is =
      let own : owns book.fixed.object book.fixed.topology m p ≡ true = ap (is_place m) (sym is) ∙ equal m m refl in
      ap (λ (b : Bool). record book {
        now = record book.now {
          core = if b then record book.now.core { procs = proc_put p Off 0 book.now.core.procs } else book.now.core;
        };
      }) own

  by_owner : (o : Option ℕ) → o ≡ owner → changed (off_by o p) book ≡ (if is_some o then with_proc p Off 0 book else book)
  by_owner None is = refl
  by_owner (Some m) is = own_put m is

  -- a processor goes off, once it is known whether a master has it
  pub off_is : changed (off book.fixed p) book ≡ (if is_some owner then with_proc p Off 0 book else book)
  off_is = by_owner owner refl

  one_own : (k : ℕ) (own : Bool) → Some k ≡ owner → changed (if own then off_by (Some k) p else []) book ≡ (if own then with_proc p Off 0 book else book)
  one_own k true is = own_put k is
  one_own k false is = refl

  by_own : (o : Option ℕ) (m : ℕ) → o ≡ owner
      → changed (if is_place m o then off_by o p else []) book ≡ (if is_place m o then with_proc p Off 0 book else book)
  by_own None m is = refl
  by_own (Some k) m is = one_own k (k == m) is

  -- one of a master's, once it is known whether that master has it
  pub off_of_is : (m : ℕ) → changed (off_of book.fixed (Some m) p) book ≡ (if owns book.fixed.object book.fixed.topology m p then with_proc p Off 0 book else book)
  off_of_is m = by_own owner m refl

-- one of the processors of a master or of all
pub off_at_is : (fixed : Fixed) (of : Option ℕ) (p : ℕ) (node : NodeId) → off_at fixed (of_masters of) p node ≡ off_of fixed of p
off_at_is fixed (Some m) p node = refl
off_at_is fixed None p node = refl
