-- The cause that an entry is given is the first of the rules that it breaks.
use Rattle.std.proofs.Common.{◌≡◌, ℕ, ◌<◌, Bool, true, false, not, ◌||◌, ◌==◌, nat_le, nat_lt, cond, Option, Some, None, List, length, take, refl, ap, subst, arith, ◌⊎◌, inl, inr, IsTrue}
use Rattle.std.specs.List.{list_any}
use Rattle.pm_base.proofs.Booleans.{neither, none_of, differs, unequal}
use Rattle.pm_base.proofs.Tests.{absent_at, absent_from}
use Rattle.pm_topology.specs.declared.topology.SlaveDef.{SlaveDef}
use Rattle.pm_topology.specs.declared.topology.ProcDef.{ProcDef}
use Rattle.pm_topology.specs.declared.topology.PowerDef.{PowerDef}
use Rattle.pm_topology.specs.declared.topology.LineDef.{LineDef}
use Rattle.pm_topology.specs.declared.topology.MasterDef.{MasterDef}
use Rattle.pm_topology.specs.declared.topology.Topology.{Topology}
use Rattle.pm_topology.specs.declared.faults.TopoCause.{TopoCause}
use Rattle.pm_topology.specs.declared.faults.TopoCause.TheVariants.{Repeated, ParentLate, NoStates, LastNotFull, TooMany, BadTarget, BadMember, NoMaster, Overlap}
use Rattle.pm_topology.specs.FirstFault.{has_power, has_proc, has_slave, is_late, power_cause, proc_cause, slave_cause, last_is_full, is_bad_target, line_cause, has_bad_members, overlap, master_cause}
use Rattle.pm_topology.specs.Masters.{share, may_share}
use Rattle.pm_topology.specs.Rules.{rule_turn, HasNone, HasNoneBefore, PowerObeys, ProcObeys, SlaveObeys, LineObeys, MasterObeys}
use Rattle.pm_topology.specs.WellFormed.{EachEntry}
use Rattle.pm_topology.proofs.Entries.{absent_before, absent_before-from}
use Rattle.pm_topology.proofs.Causes.{below, not_at, earlier, not_late, some_of, not_none, denied, affirmed, upto, not_past, full_at, full_from, target_at, target_from}
use Rattle.pm_topology.proofs.MastersLaw.{members_where, members_from, may_where, no_overlap}

-- ---- a chain of tests

-- how many rules come before the one that is told, which is all of them if none is
abbrev pub turn_of : Option TopoCause → ℕ
turn_of None = 9
turn_of (Some cause) = rule_turn cause

-- a rule that comes before the one that is told isn't broken
past : (broken : Bool) (own : TopoCause) (rest : Option TopoCause) (answer : Option TopoCause)
    → cond broken (Some own) rest ≡ answer → rule_turn own < turn_of answer
    → (broken ≡ false) × (rest ≡ answer)
past true own rest answer e less = let same : turn_of (Some own) ≡ turn_of answer = ap turn_of e in absurd (omega arith)
past false own rest answer e less = (refl, e)

-- the rule that is told is this one, which is broken, or a later one
told : (broken : Bool) (own : TopoCause) (rest : Option TopoCause) (cause : TopoCause)
    → cond broken (Some own) rest ≡ Some cause
    → ((broken ≡ true) × (own ≡ cause)) ⊎ (rest ≡ Some cause)
told true own rest cause e = inl (refl, cc)
told false own rest cause e = inr e

clash : (b : Bool) → b ≡ true → b ≡ false → ⊥
clash true e f = cc
clash false e f = cc

-- ---- numbers

none_at : {X : Type 0} (number : X → ℕ) (xs : List X) (n : ℕ) → list_any (λ e. number e == n) xs ≡ false → HasNone number xs n
none_at {X} number xs n e k x here = differs (number x) n (absent_at (λ (e : X). number e == n) xs e k x here)

none_from : {X : Type 0} (number : X → ℕ) (xs : List X) (n : ℕ) → HasNone number xs n → list_any (λ e. number e == n) xs ≡ false
none_from {X} number xs n none = absent_from (λ (e : X). number e == n) xs (λ k x here. unequal (number x) n (none k x here))

new_at : {X : Type 0} (number : X → ℕ) (k : ℕ) (xs : List X) (n : ℕ)
    → list_any (λ e. number e == n) (take k xs) ≡ false → HasNoneBefore number k xs n
new_at {X} number k xs n e j x here within = differs (number x) n (absent_before (λ (e : X). number e == n) xs k e j x within here)

new_from : {X : Type 0} (number : X → ℕ) (k : ℕ) (xs : List X) (n : ℕ)
    → HasNoneBefore number k xs n → list_any (λ e. number e == n) (take k xs) ≡ false
new_from {X} number k xs n none =
    absent_before-from (λ (e : X). number e == n) xs k (λ j x within here. unequal (number x) n (none j x here within))

-- ---- what an entry is given

-- the cause is the first of the rules that are broken
pub record IsFirstRule (Rule : TopoCause → Type 0) (cause : TopoCause) : Type 0 where
  pub broken : Rule cause → ⊥
  pub rules : (c : TopoCause) → rule_turn c < rule_turn cause → Rule c

-- ---- power nodes

pub power_rules : (t : Topology) (k : ℕ) (p : PowerDef) (answer : Option TopoCause) → power_cause t k p ≡ answer
    → (c : TopoCause) → rule_turn c < turn_of answer → PowerObeys t c k p
power_rules t k p answer e TooMany less = below k 64 (past (nat_le 64 k) TooMany _ answer e less).0
power_rules t k p answer e Repeated less =
    let few = past (nat_le 64 k) TooMany _ answer e (omega arith) in
    new_at (λ (q : PowerDef). q.node.0) k t.powers p.node.0 (past (has_power p.node.0 (take k t.powers)) Repeated _ answer few.1 less).0
power_rules t k p answer e ParentLate less =
    let few = past (nat_le 64 k) TooMany _ answer e (omega arith) in
    let new = past (has_power p.node.0 (take k t.powers)) Repeated _ answer few.1 (omega arith) in
    earlier k p.parent (past (is_late k p.parent) ParentLate None answer new.1 less).0
power_rules t k p answer e NoStates less = tt
power_rules t k p answer e LastNotFull less = tt
power_rules t k p answer e BadTarget less = tt
power_rules t k p answer e BadMember less = tt
power_rules t k p answer e NoMaster less = tt
power_rules t k p answer e Overlap less = tt

power_broken : (t : Topology) (k : ℕ) (p : PowerDef) (cause : TopoCause) → power_cause t k p ≡ Some cause → PowerObeys t cause k p → ⊥
power_broken t k p cause e =
    elim (told (nat_le 64 k) TooMany _ cause e) [
      | inl here ↦ subst (λ c. PowerObeys t c k p → ⊥) here.1 (λ few. clash _ here.0 (not_at k 64 few))
      | inr later ↦ elim (told (has_power p.node.0 (take k t.powers)) Repeated _ cause later) [
        | inl here ↦ subst (λ c. PowerObeys t c k p → ⊥) here.1 (λ new. clash _ here.0 (new_from (λ (q : PowerDef). q.node.0) k t.powers p.node.0 new))
        | inr last ↦ elim (told (is_late k p.parent) ParentLate None cause last) [
          | inl here ↦ subst (λ c. PowerObeys t c k p → ⊥) here.1 (λ early. clash _ here.0 (not_late k p.parent early))
          | inr none ↦ absurd cc
        ]
      ]
    ]

pub power_first : (t : Topology) (k : ℕ) (p : PowerDef) (cause : TopoCause) → power_cause t k p ≡ Some cause → IsFirstRule (λ c. PowerObeys t c k p) cause
power_first t k p cause e = record { broken = power_broken t k p cause e; rules = power_rules t k p (Some cause) e }

-- ---- processors

pub proc_rules : (t : Topology) (k : ℕ) (p : ProcDef) (answer : Option TopoCause) → proc_cause t k p ≡ answer
    → (c : TopoCause) → rule_turn c < turn_of answer → ProcObeys t c k p
proc_rules t k p answer e TooMany less = below k 64 (past (nat_le 64 k) TooMany _ answer e less).0
proc_rules t k p answer e Repeated less =
    let few = past (nat_le 64 k) TooMany _ answer e (omega arith) in
    let new = past (has_power p.node.0 t.powers || has_proc p.node.0 (take k t.procs)) Repeated _ answer few.1 less in
    let two = neither (has_power p.node.0 t.powers) _ new.0 in
    (none_at (λ (q : PowerDef). q.node.0) t.powers p.node.0 two.0, new_at (λ (q : ProcDef). q.node.0) k t.procs p.node.0 two.1)
proc_rules t k p answer e ParentLate less =
    let few = past (nat_le 64 k) TooMany _ answer e (omega arith) in
    let new = past (has_power p.node.0 t.powers || has_proc p.node.0 (take k t.procs)) Repeated _ answer few.1 (omega arith) in
    below p.parent (length t.powers) (past (nat_le (length t.powers) p.parent) ParentLate None answer new.1 less).0
proc_rules t k p answer e NoStates less = tt
proc_rules t k p answer e LastNotFull less = tt
proc_rules t k p answer e BadTarget less = tt
proc_rules t k p answer e BadMember less = tt
proc_rules t k p answer e NoMaster less = tt
proc_rules t k p answer e Overlap less = tt

proc_broken : (t : Topology) (k : ℕ) (p : ProcDef) (cause : TopoCause) → proc_cause t k p ≡ Some cause → ProcObeys t cause k p → ⊥
proc_broken t k p cause e =
    elim (told (nat_le 64 k) TooMany _ cause e) [
      | inl here ↦ subst (λ c. ProcObeys t c k p → ⊥) here.1 (λ few. clash _ here.0 (not_at k 64 few))
      | inr later ↦ elim (told (has_power p.node.0 t.powers || has_proc p.node.0 (take k t.procs)) Repeated _ cause later) [
        | inl here ↦ subst (λ c. ProcObeys t c k p → ⊥) here.1 (λ own. clash _ here.0
            (none_of _ _ (none_from (λ (q : PowerDef). q.node.0) t.powers p.node.0 own.0) (new_from (λ (q : ProcDef). q.node.0) k t.procs p.node.0 own.1)))
        | inr last ↦ elim (told (nat_le (length t.powers) p.parent) ParentLate None cause last) [
          | inl here ↦ subst (λ c. ProcObeys t c k p → ⊥) here.1 (λ early. clash _ here.0 (not_at p.parent (length t.powers) early))
          | inr none ↦ absurd cc
        ]
      ]
    ]

pub proc_first : (t : Topology) (k : ℕ) (p : ProcDef) (cause : TopoCause) → proc_cause t k p ≡ Some cause → IsFirstRule (λ c. ProcObeys t c k p) cause
proc_first t k p cause e = record { broken = proc_broken t k p cause e; rules = proc_rules t k p (Some cause) e }

-- ---- slaves

-- the tests on a slave, in their order
abbrev many : ℕ → SlaveDef → Bool
many k s = nat_le 512 k || nat_lt 4 (length s.states)

abbrev repeated : Topology → ℕ → SlaveDef → Bool
repeated t k s = has_power s.node.0 t.powers || (has_proc s.node.0 t.procs || has_slave s.node.0 (take k t.slaves))

abbrev late : Topology → SlaveDef → Bool
late t s = nat_le (length t.powers) s.parent

pub slave_rules : (t : Topology) (k : ℕ) (s : SlaveDef) (answer : Option TopoCause) → slave_cause t k s ≡ answer
    → (c : TopoCause) → rule_turn c < turn_of answer → SlaveObeys t c k s
slave_rules t k s answer e TooMany less =
    let two = neither (nat_le 512 k) _ (past (many k s) TooMany _ answer e less).0 in
    (below k 512 two.0, upto (length s.states) 4 two.1)
slave_rules t k s answer e Repeated less =
    let few = past (many k s) TooMany _ answer e (omega arith) in
    let new = past (repeated t k s) Repeated _ answer few.1 less in
    let others = neither (has_power s.node.0 t.powers) _ new.0 in
    let units = neither (has_proc s.node.0 t.procs) _ others.1 in (
      none_at (λ (q : PowerDef). q.node.0) t.powers s.node.0 others.0,
      none_at (λ (q : ProcDef). q.node.0) t.procs s.node.0 units.0,
      new_at (λ (q : SlaveDef). q.node.0) k t.slaves s.node.0 units.1,
    )
slave_rules t k s answer e ParentLate less =
    let few = past (many k s) TooMany _ answer e (omega arith) in
    let new = past (repeated t k s) Repeated _ answer few.1 (omega arith) in
    below s.parent (length t.powers) (past (late t s) ParentLate _ answer new.1 less).0
slave_rules t k s answer e NoStates less =
    let few = past (many k s) TooMany _ answer e (omega arith) in
    let new = past (repeated t k s) Repeated _ answer few.1 (omega arith) in
    let early = past (late t s) ParentLate _ answer new.1 (omega arith) in
    some_of (length s.states) (past (length s.states == 0) NoStates _ answer early.1 less).0
slave_rules t k s answer e LastNotFull less =
    let few = past (many k s) TooMany _ answer e (omega arith) in
    let new = past (repeated t k s) Repeated _ answer few.1 (omega arith) in
    let early = past (late t s) ParentLate _ answer new.1 (omega arith) in
    let some = past (length s.states == 0) NoStates _ answer early.1 (omega arith) in
    let full = past (not (last_is_full s.states)) LastNotFull None answer some.1 less in
    let limits = neither (nat_le 512 k) _ few.0 in
    full_at s.states _ refl (some_of (length s.states) some.0) (upto (length s.states) 4 limits.1) (denied (last_is_full s.states) full.0)
slave_rules t k s answer e BadTarget less = tt
slave_rules t k s answer e BadMember less = tt
slave_rules t k s answer e NoMaster less = tt
slave_rules t k s answer e Overlap less = tt

slave_broken : (t : Topology) (k : ℕ) (s : SlaveDef) (cause : TopoCause) → slave_cause t k s ≡ Some cause → SlaveObeys t cause k s → ⊥
slave_broken t k s cause e =
    elim (told (many k s) TooMany _ cause e) [
      | inl here ↦ subst (λ c. SlaveObeys t c k s → ⊥) here.1 (λ few. clash _ here.0 (none_of _ _ (not_at k 512 few.0) (not_past (length s.states) 4 few.1)))
      | inr fewer ↦ elim (told (repeated t k s) Repeated _ cause fewer) [
        | inl here ↦ subst (λ c. SlaveObeys t c k s → ⊥) here.1 (λ own. clash _ here.0
            (none_of _ _ (none_from (λ (q : PowerDef). q.node.0) t.powers s.node.0 own.0)
            (none_of _ _ (none_from (λ (q : ProcDef). q.node.0) t.procs s.node.0 own.1) (new_from (λ (q : SlaveDef). q.node.0) k t.slaves s.node.0 own.2))))
        | inr newer ↦ elim (told (late t s) ParentLate _ cause newer) [
          | inl here ↦ subst (λ c. SlaveObeys t c k s → ⊥) here.1 (λ early. clash _ here.0 (not_at s.parent (length t.powers) early))
          | inr sooner ↦ elim (told (length s.states == 0) NoStates _ cause sooner) [
            | inl here ↦ subst (λ c. SlaveObeys t c k s → ⊥) here.1 (λ some. clash _ here.0 (not_none (length s.states) some))
            | inr last ↦ elim (told (not (last_is_full s.states)) LastNotFull None cause last) [
              | inl here ↦ subst (λ c. SlaveObeys t c k s → ⊥) here.1 (λ full. clash _ here.0 (affirmed (last_is_full s.states) (full_from s.states _ refl full)))
              | inr none ↦ absurd cc
            ]
          ]
        ]
      ]
    ]

pub slave_first : (t : Topology) (k : ℕ) (s : SlaveDef) (cause : TopoCause) → slave_cause t k s ≡ Some cause → IsFirstRule (λ c. SlaveObeys t c k s) cause
slave_first t k s cause e = record { broken = slave_broken t k s cause e; rules = slave_rules t k s (Some cause) e }

-- ---- reset lines

pub line_rules : (t : Topology) (k : ℕ) (l : LineDef) (answer : Option TopoCause) → line_cause t k l ≡ answer
    → (c : TopoCause) → rule_turn c < turn_of answer → LineObeys t c k l
line_rules t k l answer e TooMany less = below k 1024 (past (nat_le 1024 k) TooMany _ answer e less).0
line_rules t k l answer e Repeated less =
    let few = past (nat_le 1024 k) TooMany _ answer e (omega arith) in
    new_at (λ (q : LineDef). q.line.0) k t.lines l.line.0 (past (list_any (λ e. e.line.0 == l.line.0) (take k t.lines)) Repeated _ answer few.1 less).0
line_rules t k l answer e ParentLate less = tt
line_rules t k l answer e NoStates less = tt
line_rules t k l answer e LastNotFull less = tt
line_rules t k l answer e BadTarget less =
    let few = past (nat_le 1024 k) TooMany _ answer e (omega arith) in
    let new = past (list_any (λ e. e.line.0 == l.line.0) (take k t.lines)) Repeated _ answer few.1 (omega arith) in
    target_at t l.target (past (is_bad_target t l.target) BadTarget None answer new.1 less).0
line_rules t k l answer e BadMember less = tt
line_rules t k l answer e NoMaster less = tt
line_rules t k l answer e Overlap less = tt

line_broken : (t : Topology) (k : ℕ) (l : LineDef) (cause : TopoCause) → line_cause t k l ≡ Some cause → LineObeys t cause k l → ⊥
line_broken t k l cause e =
    elim (told (nat_le 1024 k) TooMany _ cause e) [
      | inl here ↦ subst (λ c. LineObeys t c k l → ⊥) here.1 (λ few. clash _ here.0 (not_at k 1024 few))
      | inr later ↦ elim (told (list_any (λ e. e.line.0 == l.line.0) (take k t.lines)) Repeated _ cause later) [
        | inl here ↦ subst (λ c. LineObeys t c k l → ⊥) here.1 (λ new. clash _ here.0 (new_from (λ (q : LineDef). q.line.0) k t.lines l.line.0 new))
        | inr last ↦ elim (told (is_bad_target t l.target) BadTarget None cause last) [
          | inl here ↦ subst (λ c. LineObeys t c k l → ⊥) here.1 (λ good. clash _ here.0 (target_from t l.target good))
          | inr none ↦ absurd cc
        ]
      ]
    ]

pub line_first : (t : Topology) (k : ℕ) (l : LineDef) (cause : TopoCause) → line_cause t k l ≡ Some cause → IsFirstRule (λ c. LineObeys t c k l) cause
line_first t k l cause e = record { broken = line_broken t k l cause e; rules = line_rules t k l (Some cause) e }

-- ---- masters

apart_at : (t : Topology) (k : ℕ) (m : MasterDef) → list_any (overlap m) (take k t.masters) ≡ false
    → EachEntry t.masters (λ j n. j < k → IsTrue (share m n) → IsTrue (may_share m n))
apart_at t k m e j n here within = may_where (share m n) (may_share m n) (absent_before (overlap m) t.masters k e j n within here)

apart_from : (t : Topology) (k : ℕ) (m : MasterDef)
    → EachEntry t.masters (λ j n. j < k → IsTrue (share m n) → IsTrue (may_share m n))
    → list_any (overlap m) (take k t.masters) ≡ false
apart_from t k m apart =
    absent_before-from (overlap m) t.masters k (λ j n within here. no_overlap (share m n) (may_share m n) (apart j n here within))

pub master_rules : (t : Topology) (k : ℕ) (m : MasterDef) (answer : Option TopoCause) → master_cause t k m ≡ answer
    → (c : TopoCause) → rule_turn c < turn_of answer → MasterObeys t c k m
master_rules t k m answer e TooMany less = below k 4 (past (nat_le 4 k) TooMany _ answer e less).0
master_rules t k m answer e Repeated less =
    let few = past (nat_le 4 k) TooMany _ answer e (omega arith) in
    new_at (λ (n : MasterDef). n.node.0) k t.masters m.node.0 (past (list_any (λ e. e.node.0 == m.node.0) (take k t.masters)) Repeated _ answer few.1 less).0
master_rules t k m answer e ParentLate less = tt
master_rules t k m answer e NoStates less = tt
master_rules t k m answer e LastNotFull less = tt
master_rules t k m answer e BadTarget less = tt
master_rules t k m answer e BadMember less =
    let few = past (nat_le 4 k) TooMany _ answer e (omega arith) in
    let new = past (list_any (λ e. e.node.0 == m.node.0) (take k t.masters)) Repeated _ answer few.1 (omega arith) in
    members_where t m (past (has_bad_members t m) BadMember _ answer new.1 less).0
master_rules t k m answer e NoMaster less = tt
master_rules t k m answer e Overlap less =
    let few = past (nat_le 4 k) TooMany _ answer e (omega arith) in
    let new = past (list_any (λ e. e.node.0 == m.node.0) (take k t.masters)) Repeated _ answer few.1 (omega arith) in
    let good = past (has_bad_members t m) BadMember _ answer new.1 (omega arith) in
    apart_at t k m (past (list_any (overlap m) (take k t.masters)) Overlap None answer good.1 less).0

master_broken : (t : Topology) (k : ℕ) (m : MasterDef) (cause : TopoCause) → master_cause t k m ≡ Some cause → MasterObeys t cause k m → ⊥
master_broken t k m cause e =
    elim (told (nat_le 4 k) TooMany _ cause e) [
      | inl here ↦ subst (λ c. MasterObeys t c k m → ⊥) here.1 (λ few. clash _ here.0 (not_at k 4 few))
      | inr fewer ↦ elim (told (list_any (λ e. e.node.0 == m.node.0) (take k t.masters)) Repeated _ cause fewer) [
        | inl here ↦ subst (λ c. MasterObeys t c k m → ⊥) here.1 (λ new. clash _ here.0 (new_from (λ (n : MasterDef). n.node.0) k t.masters m.node.0 new))
        | inr newer ↦ elim (told (has_bad_members t m) BadMember _ cause newer) [
          | inl here ↦ subst (λ c. MasterObeys t c k m → ⊥) here.1 (λ good. clash _ here.0 (members_from t m good))
          | inr last ↦ elim (told (list_any (overlap m) (take k t.masters)) Overlap None cause last) [
            | inl here ↦ subst (λ c. MasterObeys t c k m → ⊥) here.1 (λ apart. clash _ here.0 (apart_from t k m apart))
            | inr none ↦ absurd cc
          ]
        ]
      ]
    ]

pub master_first : (t : Topology) (k : ℕ) (m : MasterDef) (cause : TopoCause) → master_cause t k m ≡ Some cause → IsFirstRule (λ c. MasterObeys t c k m) cause
master_first t k m cause e = record { broken = master_broken t k m cause e; rules = master_rules t k m (Some cause) e }
