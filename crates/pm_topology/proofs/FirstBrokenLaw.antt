-- The first fault of a topology is that of the first entry that breaks a rule, and the first rule that it breaks.
use Rattle.std.proofs.Common.{◌≡◌, ℕ, zero, suc, ◌+◌, ◌<◌, ◌==◌, cond, false, true, Bool, Option, Some, None, List, [], ◌∷◌, length, slice_get, refl, sym, ap, subst, arith, ◌⊎◌, inl, inr, IfSome, Result, Err, MatchResult, ◌∙◌}
use Rattle.std.specs.List.{list_any}
use Rattle.std.proofs.lemmas.Option.{slice_get_within}
use Rattle.pm_topology.specs.declared.topology.MasterDef.{MasterDef}
use Rattle.pm_topology.specs.declared.topology.Topology.{Topology}
use Rattle.pm_topology.specs.declared.faults.TopoCause.{TopoCause}
use Rattle.pm_topology.specs.declared.faults.TopoCause.TheVariants.{Repeated, ParentLate, NoStates, LastNotFull, TooMany, BadTarget, BadMember, NoMaster, Overlap}
use Rattle.pm_topology.specs.declared.faults.TopoFault.{TopoFault}
use Rattle.std.specs.Option.{option_or}
use Rattle.pm_topology.specs.FirstFault.{fault_at, first_fault, power_cause, proc_cause, slave_cause, line_cause, master_cause, missing_master, has_all_masters, first_fault_from}
use Rattle.pm_base.specs.Masters.{master_numbers}
use Rattle.pm_topology.specs.Rules.{Entries, Powers, Procs, Slaves, Lines, Masters, list_turn, rule_turn, PowerObeys, ProcObeys, SlaveObeys, LineObeys, MasterObeys, NoneIsMissing, AfterMasters, Obeys, IsFirstBroken}
use Rattle.pm_topology.proofs.Entries.{faultless_at, number_from}
use Rattle.pm_topology.proofs.Causes.{all_from}
use Rattle.pm_topology.proofs.RulesLaw.{IsFirstRule, turn_of, power_rules, proc_rules, slave_rules, line_rules, master_rules, power_first, proc_first, slave_first, line_first, master_first}

-- ---- a list

-- an entry that has a fault, and none before it that has one
record FoundAt {X : Type 0} (cause_of : ℕ → X → Option TopoCause) (place : ℕ) (xs : List X) (f : TopoFault) : Type 0 where
  pub at : ℕ
  pub entry : X
  pub here : slice_get xs at ≡ Some entry
  pub is : place + at ≡ f.place
  pub told : cause_of f.place entry ≡ Some f.cause
  pub before : (k : ℕ) (x : X) (there : ℕ) → there < f.place → slice_get xs k ≡ Some x → there ≡ place + k → cause_of there x ≡ None

first_here : {X : Type 0} (cause_of : ℕ → X → Option TopoCause) (place : ℕ) (x : X) (xs : List X) (f : TopoFault) (cause : TopoCause)
    → cause_of place x ≡ Some cause → fault_at place (Some cause) ≡ Some f → FoundAt cause_of place (x ∷ xs) f
first_here cause_of place x xs f cause is e =
    let placed : place ≡ f.place = cc in
    let same : cause ≡ f.cause = cc in
    record {
      at = zero;
      entry = x;
      here = refl;
      is = omega arith;
      told = subst (λ n. cause_of n x ≡ Some f.cause) placed (is ∙ ap (λ (c : TopoCause). Some c) same);
      before = λ k y there less here at. absurd (omega arith);
    }

none_before : {X : Type 0} (cause_of : ℕ → X → Option TopoCause) (place : ℕ) (x : X) (xs : List X) (f : TopoFault)
    → cause_of place x ≡ None → FoundAt cause_of (place + 1) xs f
    → (k : ℕ) (y : X) (there : ℕ) → there < f.place → slice_get (x ∷ xs) k ≡ Some y → there ≡ place + k → cause_of there y ≡ None
none_before {X} cause_of place x xs f none found zero y there less here at =
    let same : x ≡ y = cc in
    let placed : place ≡ there = omega arith in
    subst (λ n. cause_of n y ≡ None) placed (subst (λ (z : X). cause_of place z ≡ None) same none)
none_before cause_of place x xs f none found (suc k) y there less here at = found.before k y there less here (omega arith)

found_at : {X : Type 0} (cause_of : ℕ → X → Option TopoCause) (place : ℕ) (xs : List X) (f : TopoFault)
    → first_fault_from cause_of place xs ≡ Some f → FoundAt cause_of place xs f
found_at cause_of place [] f e = absurd cc
found_at cause_of place (x ∷ xs) f e =
    found_from cause_of place x xs f (cause_of place x) refl e (λ later. found_at cause_of (place + 1) xs f later)
  where
    found_from : {X : Type 0} (cause_of : ℕ → X → Option TopoCause) (place : ℕ) (x : X) (xs : List X) (f : TopoFault) (cause : Option TopoCause)
        → cause_of place x ≡ cause → option_or (fault_at place cause) (first_fault_from cause_of (place + 1) xs) ≡ Some f
        → (first_fault_from cause_of (place + 1) xs ≡ Some f → FoundAt cause_of (place + 1) xs f)
        → FoundAt cause_of place (x ∷ xs) f
    found_from cause_of place x xs f (Some cause) is e rest = first_here cause_of place x xs f cause is e
    found_from cause_of place x xs f None is e rest =
        let found = rest e in
        record {
          at = suc found.at;
          entry = found.entry;
          here = found.here;
          is = omega (arith, found.is);
          told = found.told;
          before = none_before cause_of place x xs f is found;
        }

-- what the entry of a place keeps, if there is one
of_some : {X : Type 0} (entry : Option X) (P : X → Type 0) → ((x : X) → entry ≡ Some x → P x) → IfSome entry P
of_some None P each = tt
of_some (Some x) P each = each x refl

the_some : {X : Type 0} (entry : Option X) (P : X → Type 0) (x : X) → entry ≡ Some x → IfSome entry P → P x
the_some {X} entry P x here holds = subst (λ (e : Option X). IfSome e P) here holds

-- the first fault of a list by its rules
record IsFirstOf {X : Type 0} (Rule : TopoCause → ℕ → X → Type 0) (xs : List X) (f : TopoFault) : Type 0 where
  pub broken : IfSome (slice_get xs f.place) (Rule f.cause f.place) → ⊥
  pub rules : (cause : TopoCause) → rule_turn cause < rule_turn f.cause → IfSome (slice_get xs f.place) (Rule cause f.place)
  pub before : (k : ℕ) → k < f.place → (cause : TopoCause) → IfSome (slice_get xs k) (Rule cause k)

few_turns : (cause : TopoCause) → rule_turn cause < 9
few_turns Repeated = omega arith
few_turns ParentLate = omega arith
few_turns NoStates = omega arith
few_turns LastNotFull = omega arith
few_turns TooMany = omega arith
few_turns BadTarget = omega arith
few_turns BadMember = omega arith
few_turns NoMaster = omega arith
few_turns Overlap = omega arith

first_of : {X : Type 0} (Rule : TopoCause → ℕ → X → Type 0) (cause_of : ℕ → X → Option TopoCause)
    → ((k : ℕ) (x : X) (answer : Option TopoCause) → cause_of k x ≡ answer → (c : TopoCause) → rule_turn c < turn_of answer → Rule c k x)
    → ((k : ℕ) (x : X) (cause : TopoCause) → cause_of k x ≡ Some cause → IsFirstRule (λ c. Rule c k x) cause)
    → (xs : List X) (f : TopoFault) → first_fault_from cause_of 0 xs ≡ Some f → IsFirstOf Rule xs f
first_of {X} Rule cause_of keeps first xs f e =
    let found = found_at cause_of 0 xs f e in
    let here : slice_get xs f.place ≡ Some found.entry = subst (λ n. slice_get xs n ≡ Some found.entry) (let at = found.is in omega arith) found.here in
    let by = first f.place found.entry f.cause found.told in
    record {
      broken = λ holds. by.broken (the_some (slice_get xs f.place) (Rule f.cause f.place) found.entry here holds);
      rules = λ cause less. of_some (slice_get xs f.place) (Rule cause f.place) (λ x there. keeps f.place x (Some f.cause) (subst (λ (y : Option X). y ≡ Some x → cause_of f.place x ≡ Some f.cause) (sym here) (λ same. let entry : found.entry ≡ x = cc in subst (λ (z : X). cause_of f.place z ≡ Some f.cause) entry found.told) there) cause less);
      before = λ k less cause. of_some (slice_get xs k) (Rule cause k) (λ x there. keeps k x None (found.before k x k less there (omega arith)) cause (few_turns cause));
    }

-- a list without a fault keeps each rule
keep_all : {X : Type 0} (Rule : TopoCause → ℕ → X → Type 0) (cause_of : ℕ → X → Option TopoCause)
    → ((k : ℕ) (x : X) (answer : Option TopoCause) → cause_of k x ≡ answer → (c : TopoCause) → rule_turn c < turn_of answer → Rule c k x)
    → (xs : List X) → first_fault_from cause_of 0 xs ≡ None
    → (k : ℕ) (cause : TopoCause) → IfSome (slice_get xs k) (Rule cause k)
keep_all Rule cause_of keeps xs none k cause =
    of_some (slice_get xs k) (Rule cause k) (λ x here. keeps k x None (faultless_at cause_of 0 xs none k x k here (omega arith)) cause (few_turns cause))

-- ---- the lists one after the other

which : {X : Type 0} (a b : Option X) (x : X) → option_or a b ≡ Some x → (a ≡ Some x) ⊎ ((a ≡ None) × (b ≡ Some x))
which None b x e = inr (refl, e)
which (Some y) b x e = inl e

missing_at : (t : Topology) (all : Bool) (f : TopoFault) → has_all_masters t.masters ≡ all
    → cond all None (Some (record { cause = NoMaster; place = length t.masters })) ≡ Some f
    → (NoneIsMissing t → ⊥) × (f.cause ≡ NoMaster) × (f.place ≡ length t.masters)
missing_at t true f is e = absurd cc
missing_at t false f is e =
    let lacking : NoneIsMissing t → ⊥ = λ none. absurd (let all = all_from (λ (n : ℕ). list_any (λ (m : MasterDef). m.node.0 == n) t.masters) master_numbers (λ k n here. number_from (λ (m : MasterDef). m.node.0) t.masters n (none k n here)) in cc) in
    let fault : Some (record { cause = NoMaster; place = length t.masters }) ≡ Some f = e in
    (lacking, cc, cc)

-- a place of a master isn't the one after the last
not_after : (t : Topology) (cause : TopoCause) (k : ℕ) → k < length t.masters → AfterMasters t cause k
not_after t NoMaster k less = λ same. absurd (omega arith)
not_after t Repeated k less = tt
not_after t ParentLate k less = tt
not_after t NoStates k less = tt
not_after t LastNotFull k less = tt
not_after t TooMany k less = tt
not_after t BadTarget k less = tt
not_after t BadMember k less = tt
not_after t Overlap k less = tt

-- the rules of the entry are tried before that of the place after the last
before_missing : (t : Topology) (cause : TopoCause) (k : ℕ) → rule_turn cause < 8 → AfterMasters t cause k
before_missing t NoMaster k less = absurd (omega arith)
before_missing t Repeated k less = tt
before_missing t ParentLate k less = tt
before_missing t NoStates k less = tt
before_missing t LastNotFull k less = tt
before_missing t TooMany k less = tt
before_missing t BadTarget k less = tt
before_missing t BadMember k less = tt
before_missing t Overlap k less = tt

-- a fault of an entry of the masters
of_masters : (t : Topology) (f : TopoFault) → IsFirstOf (MasterObeys t) t.masters f
    → ((earlier : Entries) → list_turn earlier < 4 → (k : ℕ) (cause : TopoCause) → Obeys t earlier cause k)
    → f.place < length t.masters
    → IsFirstBroken t f
of_masters t f first lists within = record {
  entries = Masters;
  broken = λ obeys. first.broken obeys.0;
  rules = λ cause less. (first.rules cause less, not_after t cause f.place within);
  before = λ k less cause. (first.before k less cause, not_after t cause k (omega arith));
  lists = lists;
}

-- a master that is missing
of_missing : (t : Topology) (f : TopoFault)
    → ((k : ℕ) (cause : TopoCause) → IfSome (slice_get t.masters k) (MasterObeys t cause k))
    → ((earlier : Entries) → list_turn earlier < 4 → (k : ℕ) (cause : TopoCause) → Obeys t earlier cause k)
    → (NoneIsMissing t → ⊥) → f.cause ≡ NoMaster → f.place ≡ length t.masters
    → IsFirstBroken t f
of_missing t f keep lists lacking cause place =
    let turn : rule_turn f.cause ≡ 8 = ap rule_turn cause in
    let after : AfterMasters t f.cause f.place → ⊥ = subst (λ c. AfterMasters t c f.place → ⊥) (sym cause) (λ after. lacking (after place)) in
    record {
      entries = Masters;
      broken = λ obeys. after obeys.1;
      rules = λ c less. (keep f.place c, before_missing t c f.place (omega arith));
      before = λ k less c. (keep k c, not_after t c k (omega arith));
      lists = lists;
    }

none_earlier : (t : Topology) (earlier : Entries) → list_turn earlier < 0 → (k : ℕ) (cause : TopoCause) → Obeys t earlier cause k
none_earlier t earlier less k cause = absurd (omega arith)

-- what the lists before one keep
record AreKept (t : Topology) : Type 0 where
  pub powers : first_fault_from (power_cause t) 0 t.powers ≡ None
  pub procs : first_fault_from (proc_cause t) 0 t.procs ≡ None
  pub slaves : first_fault_from (slave_cause t) 0 t.slaves ≡ None
  pub lines : first_fault_from (line_cause t) 0 t.lines ≡ None

kept_powers : (t : Topology) → first_fault_from (power_cause t) 0 t.powers ≡ None → (k : ℕ) (cause : TopoCause) → Obeys t Powers cause k
kept_powers t none = keep_all (PowerObeys t) (power_cause t) (λ k p answer e c less. power_rules t k p answer e c less) t.powers none

kept_procs : (t : Topology) → first_fault_from (proc_cause t) 0 t.procs ≡ None → (k : ℕ) (cause : TopoCause) → Obeys t Procs cause k
kept_procs t none = keep_all (ProcObeys t) (proc_cause t) (λ k p answer e c less. proc_rules t k p answer e c less) t.procs none

kept_slaves : (t : Topology) → first_fault_from (slave_cause t) 0 t.slaves ≡ None → (k : ℕ) (cause : TopoCause) → Obeys t Slaves cause k
kept_slaves t none = keep_all (SlaveObeys t) (slave_cause t) (λ k s answer e c less. slave_rules t k s answer e c less) t.slaves none

kept_lines : (t : Topology) → first_fault_from (line_cause t) 0 t.lines ≡ None → (k : ℕ) (cause : TopoCause) → Obeys t Lines cause k
kept_lines t none = keep_all (LineObeys t) (line_cause t) (λ k l answer e c less. line_rules t k l answer e c less) t.lines none

before_procs : (t : Topology) → first_fault_from (power_cause t) 0 t.powers ≡ None
    → (earlier : Entries) → list_turn earlier < 1 → (k : ℕ) (cause : TopoCause) → Obeys t earlier cause k
before_procs t powers Powers less = kept_powers t powers
before_procs t powers Procs less = absurd (omega arith)
before_procs t powers Slaves less = absurd (omega arith)
before_procs t powers Lines less = absurd (omega arith)
before_procs t powers Masters less = absurd (omega arith)

before_slaves : (t : Topology) → first_fault_from (power_cause t) 0 t.powers ≡ None → first_fault_from (proc_cause t) 0 t.procs ≡ None
    → (earlier : Entries) → list_turn earlier < 2 → (k : ℕ) (cause : TopoCause) → Obeys t earlier cause k
before_slaves t powers procs Powers less = kept_powers t powers
before_slaves t powers procs Procs less = kept_procs t procs
before_slaves t powers procs Slaves less = absurd (omega arith)
before_slaves t powers procs Lines less = absurd (omega arith)
before_slaves t powers procs Masters less = absurd (omega arith)

before_lines : (t : Topology) → first_fault_from (power_cause t) 0 t.powers ≡ None → first_fault_from (proc_cause t) 0 t.procs ≡ None → first_fault_from (slave_cause t) 0 t.slaves ≡ None
    → (earlier : Entries) → list_turn earlier < 3 → (k : ℕ) (cause : TopoCause) → Obeys t earlier cause k
before_lines t powers procs slaves Powers less = kept_powers t powers
before_lines t powers procs slaves Procs less = kept_procs t procs
before_lines t powers procs slaves Slaves less = kept_slaves t slaves
before_lines t powers procs slaves Lines less = absurd (omega arith)
before_lines t powers procs slaves Masters less = absurd (omega arith)

before_masters : (t : Topology) → AreKept t
    → (earlier : Entries) → list_turn earlier < 4 → (k : ℕ) (cause : TopoCause) → Obeys t earlier cause k
before_masters t kept Powers less = kept_powers t kept.powers
before_masters t kept Procs less = kept_procs t kept.procs
before_masters t kept Slaves less = kept_slaves t kept.slaves
before_masters t kept Lines less = kept_lines t kept.lines
before_masters t kept Masters less = absurd (omega arith)

-- the fault of an entry stands within its list
within_list : {X : Type 0} (cause_of : ℕ → X → Option TopoCause) (xs : List X) (f : TopoFault) → first_fault_from cause_of 0 xs ≡ Some f → f.place < length xs
within_list cause_of xs f e =
    let found = found_at cause_of 0 xs f e in
    let within = slice_get_within xs found.at found.entry found.here in
    let at = found.is in
    omega arith

among_masters : (t : Topology) (f : TopoFault) → AreKept t
    → (first_fault_from (master_cause t) 0 t.masters ≡ Some f) ⊎ ((first_fault_from (master_cause t) 0 t.masters ≡ None) × (missing_master t.masters ≡ Some f))
    → IsFirstBroken t f
among_masters t f kept (inl e) =
    of_masters t f (first_of (MasterObeys t) (master_cause t) (λ k m answer e c less. master_rules t k m answer e c less) (λ k m cause e. master_first t k m cause e) t.masters f e)
    (before_masters t kept) (within_list (master_cause t) t.masters f e)
among_masters t f kept (inr e) =
    let missing = missing_at t (has_all_masters t.masters) f refl e.1 in
    of_missing t f (keep_all (MasterObeys t) (master_cause t) (λ k m answer e c less. master_rules t k m answer e c less) t.masters e.0)
    (before_masters t kept) missing.0 missing.1 missing.2

pub first_is_broken : (t : Topology) (f : TopoFault) → first_fault t ≡ Some f → IsFirstBroken t f
first_is_broken t f e =
    elim (which (first_fault_from (power_cause t) 0 t.powers) _ f e) [
      | inl here ↦
          let first = first_of (PowerObeys t) (power_cause t) (λ k p answer e c less. power_rules t k p answer e c less) (λ k p cause e. power_first t k p cause e) t.powers f here in
          record { entries = Powers; broken = first.broken; rules = first.rules; before = first.before; lists = none_earlier t }
      | inr powers ↦ elim (which (first_fault_from (proc_cause t) 0 t.procs) _ f powers.1) [
        | inl here ↦
            let first = first_of (ProcObeys t) (proc_cause t) (λ k p answer e c less. proc_rules t k p answer e c less) (λ k p cause e. proc_first t k p cause e) t.procs f here in
            record { entries = Procs; broken = first.broken; rules = first.rules; before = first.before; lists = before_procs t powers.0 }
        | inr procs ↦ elim (which (first_fault_from (slave_cause t) 0 t.slaves) _ f procs.1) [
          | inl here ↦
              let first = first_of (SlaveObeys t) (slave_cause t) (λ k s answer e c less. slave_rules t k s answer e c less) (λ k s cause e. slave_first t k s cause e) t.slaves f here in
              record { entries = Slaves; broken = first.broken; rules = first.rules; before = first.before; lists = before_slaves t powers.0 procs.0 }
          | inr slaves ↦ elim (which (first_fault_from (line_cause t) 0 t.lines) _ f slaves.1) [
            | inl here ↦
                let first = first_of (LineObeys t) (line_cause t) (λ k l answer e c less. line_rules t k l answer e c less) (λ k l cause e. line_first t k l cause e) t.lines f here in
                record { entries = Lines; broken = first.broken; rules = first.rules; before = first.before; lists = before_lines t powers.0 procs.0 slaves.0 }
            | inr lines ↦
                among_masters t f (record { powers = powers.0; procs = procs.0; slaves = slaves.0; lines = lines.0 })
                (which (first_fault_from (master_cause t) 0 t.masters) (missing_master t.masters) f lines.1)
          ]
        ]
      ]
    ]

-- an answer that is the first fault tells the first rule that is broken
pub answer_is_first : {T : Type 0} (t : Topology) (answer : Result T TopoFault)
    → MatchResult answer (λ _. first_fault t ≡ None) (λ fault. first_fault t ≡ Some fault)
    → (f : TopoFault) → answer ≡ Err f → IsFirstBroken t f
answer_is_first {T} t answer given f is =
    first_is_broken t f (subst (λ (a : Result T TopoFault). MatchResult a (λ _. first_fault t ≡ None) (λ fault. first_fault t ≡ Some fault)) is given)
