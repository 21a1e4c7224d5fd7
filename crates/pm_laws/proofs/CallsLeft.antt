-- The events of a power call are all the master's whose messages it sends: its message, and its wait, since by the
-- rules on masters no other master has the processor.
use Rattle.std.proofs.Common.{◌≡◌, ◌≢◌, ℕ, ℤ, zero, suc, ◌==◌, ◌&&◌, ◌||◌, Bool, true, false, if◌then◌else◌, cond, is_some, length, nat_lt, List, [], ◌∷◌, Option, Some, None, find, position, refl, ap, sym, ◌∙◌, subst}
use Rattle.std.specs.Prelude.{slice_get}
use Rattle.std.specs.List.{list_any, position_or_len}
use Rattle.std.specs.Option.{option_map_or}
use Rattle.std.proofs.lemmas.Bool.{eqb-true}
use Rattle.pm_base.specs.declared.events.Event.{Event}
use Rattle.pm_base.specs.declared.events.Event.TheVariants.{Pass, Wfi}
use Rattle.pm_base.specs.declared.names.NodeId.{NodeId}
use Rattle.pm_base.proofs.Booleans.{both as both_pass, differs, equal, later_passes, pair_of, first_passes}
use Rattle.pm_object.specs.declared.object.MasterRec.{MasterRec}
use Rattle.pm_object.specs.declared.object.Object.{Object}
use Rattle.pm_perms.specs.Owner.{has_processor, owner}
use Rattle.pm_psci.specs.declared.calls.Function.{Function}
use Rattle.pm_psci.specs.declared.calls.Function.TheVariants.{CpuOn, CpuOff, AffinityInfo, SystemOff, SystemReset, Unknown}
use Rattle.pm_psci.specs.declared.calls.Smc.{Smc}
use Rattle.pm_psci.specs.Calls.{function_of}
use Rattle.pm_psci.specs.Lowering.{lowered, or_pass, sent, sent_by_master}
use Rattle.pm_psci.specs.Refusal.{denied, refusal}
use Rattle.pm_psci.specs.Targets.{is_target}
use Rattle.pm_topology.specs.Masters.{may_share, share}
use Rattle.pm_topology.specs.WellFormed.{ObeysMasterRules}
use Rattle.pm_topology.specs.declared.topology.MasterDef.{MasterDef}
use Rattle.pm_topology.specs.declared.topology.Topology.{Topology}
use Rattle.pm_laws.specs.Beside.{Beside, none, both, left, rest}
use Rattle.pm_laws.specs.ReachBorder.{configured_place}

-- ---- lists

-- an element that passes, and its place
pub record Passes {X : Type 0} (p : X → Bool) (xs : List X) : Type 0 where
  pub place : ℕ
  pub element : X
  pub here : slice_get xs place ≡ Some element
  pub passes : p element ≡ true

some_passes : {X : Type 0} (p : X → Bool) (xs : List X) → list_any p xs ≡ true → Passes p xs
some_passes p [] any = cc
some_passes p (x ∷ xs) any = by (p x) refl (some_passes p xs)
  where
    by : (b : Bool) → p x ≡ b → (list_any p xs ≡ true → Passes p xs) → Passes p (x ∷ xs)
    by true is onward = record { place = zero; element = x; here = refl; passes = is }
    by false is onward =
        let others : list_any p (x ∷ xs) ≡ list_any p xs = rw is refl in
        let later = onward (sym others ∙ any) in
        record { place = suc later.place; element = later.element; here = later.here; passes = later.passes }

any_at : {X : Type 0} (p : X → Bool) (xs : List X) (k : ℕ) (x : X) → slice_get xs k ≡ Some x → p x ≡ true → list_any p xs ≡ true
any_at p [] k x here is = cc
any_at p (y ∷ ys) zero x here is =
    let first : y ≡ x = cc in
    first_passes (p y) (list_any p ys) (ap p first ∙ is)
any_at p (y ∷ ys) (suc k) x here is = later_passes (p y) (list_any p ys) (any_at p ys k x here is)

-- two tests that agree find the same place
same_first : {X : Type 0} (p q : X → Bool) → ((x : X) → p x ≡ q x) → (xs : List X) → position_or_len p xs ≡ position_or_len q xs
same_first p q same [] = refl
same_first p q same (x ∷ xs) = rw (same x, same_first p q same xs) refl

same_place : {X : Type 0} (p q : X → Bool) → ((x : X) → p x ≡ q x) → (xs : List X) → position p xs ≡ position q xs
same_place p q same xs = ap (λ (k : ℕ). cond (nat_lt k (length xs)) (Some k) None) (same_first p q same xs)

-- ---- the master of a target

abbrev has : NodeId → MasterDef → Bool
has proc def = list_any (λ (p : NodeId). p.0 == proc.0) def.procs

-- the entry of a master that has one of the processors that the table gives it
given_by : (n : ℕ) (proc : NodeId) (defs : List MasterDef)
    → list_any (λ (p : NodeId). p.0 == proc.0) (option_map_or (λ (def : MasterDef). def.procs) (find (λ (def : MasterDef). def.node.0 == n) defs) []) ≡ true
    → Passes (λ (def : MasterDef). (def.node.0 == n) && has proc def) defs
given_by n proc [] any = cc
given_by n proc (def ∷ defs) any = by (def.node.0 == n) refl (given_by n proc defs)
  where
    by : (b : Bool) → (def.node.0 == n) ≡ b
        → (list_any (λ (p : NodeId). p.0 == proc.0) (option_map_or (λ (def : MasterDef). def.procs) (find (λ (def : MasterDef). def.node.0 == n) defs) []) ≡ true
        → Passes (λ (def : MasterDef). (def.node.0 == n) && has proc def) defs)
        → Passes (λ (def : MasterDef). (def.node.0 == n) && has proc def) (def ∷ defs)
    by true is onward =
        let first : find (λ (def : MasterDef). def.node.0 == n) (def ∷ defs) ≡ Some def = rw is refl in
        let P : Option MasterDef → Type 0 = λ found. list_any (λ (p : NodeId). p.0 == proc.0) (option_map_or (λ (def : MasterDef). def.procs) found []) ≡ true in
        record { place = zero; element = def; here = refl; passes = pair_of (def.node.0 == n) (has proc def) is (subst P first any) }
    by false is onward =
        let others : find (λ (def : MasterDef). def.node.0 == n) (def ∷ defs) ≡ find (λ (def : MasterDef). def.node.0 == n) defs = rw is refl in
        let P : Option MasterDef → Type 0 = λ found. list_any (λ (p : NodeId). p.0 == proc.0) (option_map_or (λ (def : MasterDef). def.procs) found []) ≡ true in
        let later = onward (subst P others any) in
        record { place = suc later.place; element = later.element; here = later.here; passes = later.passes }

module _ (t : Topology) (rules : ObeysMasterRules t) (proc : NodeId) (target : is_target t proc ≡ true) where
  own : Passes (λ (def : MasterDef). (def.node.0 == 1) && has proc def) t.masters
  own = given_by 1 proc t.masters target

  parts : ((own.element.node.0 == 1) ≡ true) × (has proc own.element ≡ true)
  parts = both_pass (own.element.node.0 == 1) (has proc own.element) own.passes

  -- two masters that both have it share it
  shared : (one other : MasterDef) → has proc one ≡ true → has proc other ≡ true → share one other ≡ true
  shared one other first second =
      let p = some_passes (λ (p : NodeId). p.0 == proc.0) one.procs first in
      let q = some_passes (λ (q : NodeId). q.0 == proc.0) other.procs second in
      let same : q.element.0 ≡ p.element.0 = eqb-true q.element.0 proc.0 q.passes ∙ sym (eqb-true p.element.0 proc.0 p.passes) in
      any_at (λ (p : NodeId). list_any (λ (q : NodeId). q.0 == p.0) other.procs) one.procs p.place p.element p.here
      (any_at (λ (q : NodeId). q.0 == p.element.0) other.procs q.place q.element q.here (equal q.element.0 p.element.0 same))

  -- master 1 shares with none
  and_false : (b : Bool) → (b && false) ≡ false
  and_false true = refl
  and_false false = refl

  alone : (one other : MasterDef) → one.node.0 ≡ 1 → may_share one other ≡ true → ⊥
  alone one other is may =
      let P : ℕ → Type 0 = λ n. (((other.node.0 == 6) && ((n == 7) || (n == 8))) || ((n == 6) && ((other.node.0 == 7) || (other.node.0 == 8)))) ≡ true in
      let at : ((other.node.0 == 6) && false) ≡ true = none_or ((other.node.0 == 6) && false) (subst P is may) in
      clash (sym (and_false (other.node.0 == 6)) ∙ at)
    where
      none_or : (b : Bool) → (b || false) ≡ true → b ≡ true
      none_or true is = refl
      none_or false is = cc

      clash : false ≡ true → ⊥
      clash e = cc

  has_one : (r : ℕ) (mine : Bool) → (r == 1) ≡ mine → has_processor t r proc ≡ mine
  has_one r true is =
      let number : r ≡ 1 = eqb-true r 1 is in
      let P : ℕ → Type 0 = λ r. has_processor t r proc ≡ true in
      subst P (sym number) (any_at (λ (def : MasterDef). (def.node.0 == 1) && has proc def) t.masters own.place own.element own.here own.passes)
  has_one r false is = by (has_processor t r proc) refl
    where
      by : (b : Bool) → has_processor t r proc ≡ b → b ≡ false
      by false has_it = refl
      by true has_it =
          let other = some_passes (λ (def : MasterDef). (def.node.0 == r) && has proc def) t.masters has_it in
          let second = both_pass (other.element.node.0 == r) (has proc other.element) other.passes in
          let one : own.element.node.0 ≡ 1 = eqb-true own.element.node.0 1 parts.0 in
          let apart : own.place ≢ other.place = λ same.
          let equal : Some own.element ≡ Some other.element = sym own.here ∙ ap (slice_get t.masters) same ∙ other.here in
          let is_same : own.element ≡ other.element = cc in
          differs r 1 is (sym (eqb-true other.element.node.0 r second.0) ∙ ap (λ (d : MasterDef). d.node.0) (sym is_same) ∙ one)
          in
          absurd (alone own.element other.element one
          (rules.apart own.place other.place own.element other.element own.here other.here apart (shared own.element other.element parts.1 second.1)))

  pub target_owner : (object : Object) (m : NodeId) → m.0 ≡ 1 → owner object t proc ≡ configured_place object m
  target_owner object m is =
      same_place (λ (r : MasterRec). has_processor t r.node proc) (λ (r : MasterRec). r.node == m.0)
      (λ r. has_one r.node (r.node == 1) refl ∙ ap (λ (n : ℕ). r.node == n) (sym is)) object.masters

-- ---- what a call comes to

module _ (object : Object) (t : Topology) (m : NodeId) (rules : ObeysMasterRules t) (is : m.0 ≡ 1) where
  own_message : (api : ℕ) (args : List ℕ) (es : List Event) → Beside object t m es (Pass ∷ []) → Beside object t m (sent_by_master api args ∷ es) (Pass ∷ [])
  own_message api args es later = left (sent_by_master api args) es (Pass ∷ []) (sym is) later

  sent_left : (smc : Smc) (function : Function) → is_target t smc.proc ≡ true → Beside object t m (or_pass (sent t smc function)) (Pass ∷ [])
  sent_left smc (CpuOn target entry) there = own_message _ _ [] (rest [] [] none)
  sent_left smc CpuOff there =
      own_message _ _ (Wfi smc.proc ∷ [])
      (left (Wfi smc.proc) [] (Pass ∷ []) (target_owner t rules smc.proc there object m is) (rest [] [] none))
  sent_left smc (AffinityInfo target level) there = own_message _ _ [] (rest [] [] none)
  sent_left smc SystemOff there = own_message _ _ [] (rest [] [] none)
  sent_left smc SystemReset there = own_message _ _ [] (rest [] [] none)
  sent_left smc Unknown there = both Pass [] [] none

  -- a call that isn't refused is of a processor of master 1
  is_there : (smc : Smc) → refusal t smc ≡ None → is_target t smc.proc ≡ true
  is_there smc not_refused = by (is_target t smc.proc) refl
    where
      by : (b : Bool) → is_target t smc.proc ≡ b → b ≡ true
      by true found = refl
      by false found =
          let refused : refusal t smc ≡ Some denied = rw found refl in
          cc

  pub calls_left : (smc : Smc) → Beside object t m (lowered t smc) (Pass ∷ [])
  calls_left smc = by (refusal t smc) refl
    where
      by : (found : Option ℤ) → refusal t smc ≡ found → Beside object t m (or_pass (if is_some found then [] else sent t smc (function_of smc))) (Pass ∷ [])
      by (Some code) refused = both Pass [] [] none
      by None not_refused = sent_left smc (function_of smc) (is_there smc not_refused)
