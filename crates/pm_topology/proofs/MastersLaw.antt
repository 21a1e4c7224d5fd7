-- What the entry of a master without a cause keeps, and the other way round; and so for the rules on all masters.
use Rattle.std.proofs.Common.{◌≡◌, ◌≢◌, ℕ, ◌<◌, Bool, true, false, not, ◌&&◌, ◌||◌, ◌==◌, nat_le, IsTrue, Some, None, List, [], ◌∷◌, length, take, slice_get, refl, zero, suc, sym, ap, ◌∙◌, arith, cond, ◌⊎◌, inl, inr}
use Rattle.std.specs.List.{list_any}
use Rattle.std.proofs.lemmas.Bool.{eqb-true}
use Rattle.pm_base.specs.declared.names.NodeId.{NodeId}
use Rattle.pm_base.proofs.Booleans.{neither, none_of, first_passes, later_passes, differs, unequal, equal}
use Rattle.pm_base.proofs.Tests.{absent_at, absent_from, present_at, present_from}
use Rattle.pm_topology.specs.declared.topology.ProcDef.{ProcDef}
use Rattle.pm_topology.specs.declared.topology.MasterDef.{MasterDef}
use Rattle.pm_topology.specs.declared.topology.Topology.{Topology}
use Rattle.pm_topology.specs.declared.faults.TopoCause.TheVariants.{Repeated, TooMany, BadMember, Overlap}
use Rattle.pm_topology.specs.declared.faults.TopoFault.{TopoFault}
use Rattle.pm_topology.specs.FirstFault.{has_proc, is_bad_member, has_bad_members, overlap, master_cause, has_all_masters, missing_master}
use Rattle.pm_base.specs.Masters.{is_half_of, is_master_number, master_numbers}
use Rattle.pm_topology.specs.Masters.{may_have, has_twice, share, may_share}
use Rattle.pm_topology.specs.Rules.{HasGoodMembers}
use Rattle.pm_topology.specs.WellFormed.{EachEntry, AreDistinct, IsProc, ObeysMasterRules}
use Rattle.pm_topology.proofs.Entries.{pass, passed, absent_before, absent_before-from, number_at, number_from}
use Rattle.pm_topology.proofs.Causes.{below, not_at, some_of, not_none, denied, affirmed, all_at, all_from}

-- ---- no processor twice

distinct_where : (nodes : List NodeId) → has_twice nodes ≡ false → AreDistinct (λ p. p.0) nodes
distinct_where [] e j k x y here there same = cc
distinct_where (p ∷ ps) e zero zero x y here there same = refl
distinct_where (p ∷ ps) e zero (suc k) x y here there same =
    let parts = neither (list_any (λ (q : NodeId). q.0 == p.0) ps) (has_twice ps) e in
    let first : p ≡ x = cc in
    let other = absent_at (λ (q : NodeId). q.0 == p.0) ps parts.0 k y there in
    absurd (differs y.0 p.0 other (sym same ∙ ap (λ (n : NodeId). n.0) (sym first)))
distinct_where (p ∷ ps) e (suc j) zero x y here there same =
    let parts = neither (list_any (λ (q : NodeId). q.0 == p.0) ps) (has_twice ps) e in
    let first : p ≡ y = cc in
    let other = absent_at (λ (q : NodeId). q.0 == p.0) ps parts.0 j x here in
    absurd (differs x.0 p.0 other (same ∙ ap (λ (n : NodeId). n.0) (sym first)))
distinct_where (p ∷ ps) e (suc j) (suc k) x y here there same =
    let parts = neither (list_any (λ (q : NodeId). q.0 == p.0) ps) (has_twice ps) e in
    ap (λ (n : ℕ). suc n) (distinct_where ps parts.1 j k x y here there same)

once_where : (nodes : List NodeId) → AreDistinct (λ p. p.0) nodes → has_twice nodes ≡ false
once_where [] distinct = refl
once_where (p ∷ ps) distinct =
    none_of (list_any (λ (q : NodeId). q.0 == p.0) ps) (has_twice ps)
    (absent_from (λ (q : NodeId). q.0 == p.0) ps
    (λ k q here. unequal q.0 p.0 (λ same. let at = distinct (suc k) zero q p here refl same in absurd (omega arith))))
    (once_where ps (λ j k x y here there same. let at = distinct (suc j) (suc k) x y here there same in omega arith))

-- ---- no processor of two masters that may not share it

or_back : (a b : Bool) → (a || b) ≡ true → (b || a) ≡ true
or_back true b e = later_passes b true refl
or_back false b e = first_passes b false e

share_back : (m n : MasterDef) → share m n ≡ true → share n m ≡ true
share_back m n shares =
    let one = present_at (λ (p : NodeId). list_any (λ (q : NodeId). q.0 == p.0) n.procs) m.procs shares in
    let p : NodeId = one.1 in
    let other = present_at (λ (q : NodeId). q.0 == p.0) n.procs one.3 in
    let q : NodeId = other.1 in
    present_from (λ (q : NodeId). list_any (λ (p : NodeId). p.0 == q.0) m.procs) n.procs other.0 q other.2
    (present_from (λ (x : NodeId). x.0 == q.0) m.procs one.0 p one.2 (equal p.0 q.0 (sym (eqb-true q.0 p.0 other.3))))

pub may_where : (shared may : Bool) → (shared && not may) ≡ false → shared ≡ true → may ≡ true
may_where true true e shares = refl
may_where true false e shares = cc
may_where false may e shares = cc

pub no_overlap : (shared may : Bool) → (shared ≡ true → may ≡ true) → (shared && not may) ≡ false
no_overlap true may f = affirmed may (f refl)
no_overlap false may f = refl

order : (j k : ℕ) → j ≢ k → (j < k) ⊎ (k < j)
order zero zero other = absurd (other refl)
order zero (suc k) other = inl (omega arith)
order (suc j) zero other = inr (omega arith)
order (suc j) (suc k) other =
    elim (order j k (λ same. other (ap (λ (n : ℕ). suc n) same))) [
      | inl less ↦ inl (omega arith)
      | inr more ↦ inr (omega arith)
    ]

apart_where : (masters : List MasterDef)
    → EachEntry masters (λ k m. list_any (overlap m) (take k masters) ≡ false)
    → (j k : ℕ) (m n : MasterDef)
    → slice_get masters j ≡ Some m
    → slice_get masters k ≡ Some n
    → j ≢ k
    → IsTrue (share m n)
    → IsTrue (may_share m n)
apart_where masters each j k m n here there other shares =
    elim (order j k other) [
      | inl before ↦
          or_back (is_half_of n.node.0 m.node.0) (is_half_of m.node.0 n.node.0) (may_where (share n m) (may_share n m)
          (absent_before (overlap n) masters k (each k n there) j m before here) (share_back m n shares))
      | inr after ↦
          may_where (share m n) (may_share m n)
          (absent_before (overlap m) masters j (each j m here) k n after there) shares
    ]

pub none_overlaps : (t : Topology) → ObeysMasterRules t
    → EachEntry t.masters (λ k m. list_any (overlap m) (take k t.masters) ≡ false)
none_overlaps t rules k m here =
    absent_before-from (overlap m) t.masters k (λ j n within there.
    no_overlap (share m n) (may_share m n)
    (λ shares. rules.apart k j m n here there (λ same. absurd (omega arith)) shares))

-- ---- an entry

pub record MasterKeeps (t : Topology) (k : ℕ) (m : MasterDef) : Type 0 where
  pub within : k < 4
  pub new : list_any (λ e. e.node.0 == m.node.0) (take k t.masters) ≡ false
  pub number : IsTrue (is_master_number m.node.0)
  pub some : 0 < length m.procs
  pub members : EachEntry m.procs (λ _ n. IsProc t n)
  pub own : EachEntry m.procs (λ _ p. IsTrue (may_have m.node.0 p.0))
  pub once : AreDistinct (λ p. p.0) m.procs
  pub apart : list_any (overlap m) (take k t.masters) ≡ false

pub members_where : (t : Topology) (m : MasterDef) → has_bad_members t m ≡ false → HasGoodMembers t m
members_where t m good =
    let number = neither (not (is_master_number m.node.0)) _ good in
    let some = neither (length m.procs == 0) _ number.1 in
    let each = neither (list_any (is_bad_member t m.node.0) m.procs) (has_twice m.procs) some.1 in
    let member : EachEntry m.procs (λ _ n. is_bad_member t m.node.0 n ≡ false) = absent_at (is_bad_member t m.node.0) m.procs each.0 in
    record {
      number = denied _ number.0;
      some = some_of (length m.procs) some.0;
      members = λ j n here. number_at (λ (p : ProcDef). p.node.0) t.procs n.0 (denied _ ((neither (not (has_proc n.0 t.procs)) _ (member j n here)).0));
      own = λ j n here. denied _ ((neither (not (has_proc n.0 t.procs)) _ (member j n here)).1);
      once = distinct_where m.procs each.1;
    }

pub members_from : (t : Topology) (m : MasterDef) → HasGoodMembers t m → has_bad_members t m ≡ false
members_from t m good =
    none_of _ _ (affirmed _ good.number)
    (none_of _ _ (not_none (length m.procs) good.some)
    (none_of _ _
    (absent_from (is_bad_member t m.node.0) m.procs (λ j n here.
    none_of _ _
    (affirmed _ (number_from (λ (p : ProcDef). p.node.0) t.procs n.0 (good.members j n here)))
    (affirmed _ (good.own j n here))))
    (once_where m.procs good.once)))

pub master_keeps : (t : Topology) (k : ℕ) (m : MasterDef) → master_cause t k m ≡ None → MasterKeeps t k m
master_keeps t k m e =
    let few = pass (nat_le 4 k) TooMany _ e in
    let new = pass (list_any (λ e. e.node.0 == m.node.0) (take k t.masters)) Repeated _ few.1 in
    let good = pass (has_bad_members t m) BadMember _ new.1 in
    let apart = pass (list_any (overlap m) (take k t.masters)) Overlap None good.1 in
    let members = members_where t m good.0 in
    record {
      within = below k 4 few.0;
      new = new.0;
      number = members.number;
      some = members.some;
      members = members.members;
      own = members.own;
      once = members.once;
      apart = apart.0;
    }

pub master_kept : (t : Topology) (k : ℕ) (m : MasterDef) → MasterKeeps t k m → master_cause t k m ≡ None
master_kept t k m keeps =
    passed _ TooMany _ (not_at k 4 keeps.within)
    (passed _ Repeated _ keeps.new
    (passed _ BadMember _
    (members_from t m (record { number = keeps.number; some = keeps.some; members = keeps.members; own = keeps.own; once = keeps.once }))
    (passed _ Overlap _ keeps.apart refl)))

-- ---- all masters

all_where : (all : Bool) (fault : TopoFault) → cond all None (Some fault) ≡ None → all ≡ true
all_where true fault e = refl
all_where false fault e = cc

missing_where : (all : Bool) (fault : TopoFault) → all ≡ true → cond all None (Some fault) ≡ None
missing_where true fault e = refl
missing_where false fault e = cc

-- where each entry keeps its rules and none is missing, the masters obey the rules
pub rules_from : (t : Topology) → EachEntry t.masters (MasterKeeps t) → missing_master t.masters ≡ None → ObeysMasterRules t
rules_from t keep none =
    let all = all_where (has_all_masters t.masters) _ none in
    record {
      numbers = λ k m here. (keep k m here).number;
      all = λ k n here. number_at (λ (m : MasterDef). m.node.0) t.masters n (all_at (λ (n : ℕ). list_any (λ (m : MasterDef). m.node.0 == n) t.masters) master_numbers all k n here);
      own = λ k m here. (keep k m here).own;
      once = λ k m here. (keep k m here).once;
      apart = apart_where t.masters (λ k m here. (keep k m here).apart);
    }

pub none_missing : (t : Topology) → ObeysMasterRules t → missing_master t.masters ≡ None
none_missing t rules =
    missing_where (has_all_masters t.masters) _
    (all_from (λ (n : ℕ). list_any (λ (m : MasterDef). m.node.0 == n) t.masters) master_numbers
    (λ k n here. number_from (λ (m : MasterDef). m.node.0) t.masters n (rules.all k n here)))
