-- What an entry without a cause keeps, and the other way round.
use Rattle.std.proofs.Common.{◌≡◌, ℕ, ◌-◌, ◌<◌, ◌≤◌, Bool, true, false, not, ◌||◌, ◌==◌, nat_le, nat_lt, Option, Some, None, List, [], ◌∷◌, length, take, slice_get, refl, zero, suc, subst, arith, ap, sym, ◌∙◌, ◌⊎◌, inl, inr, IfSome, bit_and}
use Rattle.std.specs.List.{list_any, list_all}
use Rattle.std.specs.Option.{option_map_or}
use Rattle.std.proofs.lemmas.Bool.{eqb-true}
use Rattle.std.proofs.lemmas.Bool.Decides.{nat_tests}
use Rattle.pm_base.specs.declared.names.NodeId.{NodeId}
use Rattle.pm_base.proofs.Booleans.{neither, none_of, either, first_passes, later_passes, both, pair_of, equal}
use Rattle.pm_topology.specs.declared.topology.SlaveState.{SlaveState}
use Rattle.pm_topology.specs.declared.topology.SlaveDef.{SlaveDef}
use Rattle.pm_topology.specs.declared.topology.ProcDef.{ProcDef}
use Rattle.pm_topology.specs.declared.topology.PowerDef.{PowerDef}
use Rattle.pm_topology.specs.declared.topology.LineDef.{LineDef}
use Rattle.pm_topology.specs.declared.topology.Topology.{Topology}
use Rattle.pm_topology.specs.declared.faults.TopoCause.TheVariants.{Repeated, ParentLate, NoStates, LastNotFull, TooMany, BadTarget}
use Rattle.pm_topology.specs.FirstFault.{has_power, has_proc, has_slave, is_late, power_cause, proc_cause, slave_cause, covers, is_full, last_is_full, is_bad_target, line_cause}
use Rattle.pm_topology.specs.WellFormed.{EachEntry, HasFullLast, IsProc, IsSlave}
use Rattle.pm_topology.proofs.Entries.{pass, passed, number_at, number_from}

pub below : (a b : ℕ) → nat_le b a ≡ false → a < b
below a b e = grind (arith, nat_tests)

pub not_at : (a b : ℕ) → a < b → nat_le b a ≡ false
not_at a b e = grind (arith, nat_tests)

pub upto : (a b : ℕ) → nat_lt b a ≡ false → a ≤ b
upto a b e = grind (arith, nat_tests)

pub not_past : (a b : ℕ) → a ≤ b → nat_lt b a ≡ false
not_past a b e = grind (arith, nat_tests)

pub some_of : (a : ℕ) → (a == 0) ≡ false → 0 < a
some_of a e = grind (arith, nat_tests)

pub not_none : (a : ℕ) → 0 < a → (a == 0) ≡ false
not_none a e = grind (arith, nat_tests)

pub denied : (b : Bool) → not b ≡ false → b ≡ true
denied true e = refl
denied false e = cc

pub affirmed : (b : Bool) → b ≡ true → not b ≡ false
affirmed true e = refl
affirmed false e = cc

pub all_at : {X : Type 0} (p : X → Bool) (xs : List X) → list_all p xs ≡ true → EachEntry xs (λ _ x. p x ≡ true)
all_at p [] e k x here = cc
all_at p (y ∷ ys) e zero x here = let same : y ≡ x = cc in ap p (sym same) ∙ (both (p y) _ e).0
all_at p (y ∷ ys) e (suc k) x here = all_at p ys ((both (p y) _ e).1) k x here

pub all_from : {X : Type 0} (p : X → Bool) (xs : List X) → EachEntry xs (λ _ x. p x ≡ true) → list_all p xs ≡ true
all_from p [] each = refl
all_from p (y ∷ ys) each = pair_of (p y) _ (each 0 y refl) (all_from p ys (λ k x here. each (suc k) x here))

pub record PowerKeeps (t : Topology) (k : ℕ) (p : PowerDef) : Type 0 where
  pub within : k < 64
  pub new : has_power p.node.0 (take k t.powers) ≡ false
  pub early : is_late k p.parent ≡ false

pub power_keeps : (t : Topology) (k : ℕ) (p : PowerDef) → power_cause t k p ≡ None → PowerKeeps t k p
power_keeps t k p e =
    let few = pass (nat_le 64 k) TooMany _ e in
    let new = pass (has_power p.node.0 (take k t.powers)) Repeated _ few.1 in
    let early = pass (is_late k p.parent) ParentLate None new.1 in
    record { within = below k 64 few.0; new = new.0; early = early.0 }

pub power_kept : (t : Topology) (k : ℕ) (p : PowerDef) → PowerKeeps t k p → power_cause t k p ≡ None
power_kept t k p keeps =
    passed _ TooMany _ (not_at k 64 keeps.within)
    (passed _ Repeated _ keeps.new (passed _ ParentLate _ keeps.early refl))

pub earlier : (k : ℕ) (parent : Option ℕ) → is_late k parent ≡ false → IfSome parent (λ w. w < k)
earlier k None e = tt
earlier k (Some w) e = below w k e

pub not_late : (k : ℕ) (parent : Option ℕ) → IfSome parent (λ w. w < k) → is_late k parent ≡ false
not_late k None e = refl
not_late k (Some w) e = not_at w k e

pub record ProcKeeps (t : Topology) (k : ℕ) (p : ProcDef) : Type 0 where
  pub within : k < 64
  pub no_power : has_power p.node.0 t.powers ≡ false
  pub new : has_proc p.node.0 (take k t.procs) ≡ false
  pub parent : p.parent < length t.powers

pub proc_keeps : (t : Topology) (k : ℕ) (p : ProcDef) → proc_cause t k p ≡ None → ProcKeeps t k p
proc_keeps t k p e =
    let few = pass (nat_le 64 k) TooMany _ e in
    let new = pass (has_power p.node.0 t.powers || has_proc p.node.0 (take k t.procs)) Repeated _ few.1 in
    let early = pass (nat_le (length t.powers) p.parent) ParentLate None new.1 in
    let two = neither (has_power p.node.0 t.powers) _ new.0 in
    record { within = below k 64 few.0; no_power = two.0; new = two.1; parent = below p.parent (length t.powers) early.0 }

pub proc_kept : (t : Topology) (k : ℕ) (p : ProcDef) → ProcKeeps t k p → proc_cause t k p ≡ None
proc_kept t k p keeps =
    passed _ TooMany _ (not_at k 64 keeps.within)
    (passed _ Repeated _ (none_of _ _ keeps.no_power keeps.new)
    (passed _ ParentLate _ (not_at p.parent (length t.powers) keeps.parent) refl))

pub full_at : (states : List SlaveState) (last : Option SlaveState)
    → slice_get states (length states - 1) ≡ last
    → 0 < length states → length states ≤ 4
    → option_map_or (is_full states) last false ≡ true
    → HasFullLast states
full_at states None is some few e = cc
full_at states (Some last) is some few e =
    let two = both (last.latency == 0) _ e in
    record {
      some = some;
      few = few;
      last = last;
      is_last = is;
      at_once = eqb-true last.latency 0 two.0;
      full = λ k s here. eqb-true (bit_and last.caps.0 s.caps.0) s.caps.0 (all_at (covers last) states two.1 k s here);
    }

pub full_from : (states : List SlaveState) (last : Option SlaveState)
    → slice_get states (length states - 1) ≡ last
    → HasFullLast states
    → option_map_or (is_full states) last false ≡ true
full_from states None is full = let e = full.is_last in cc
full_from states (Some last) is full =
    let e : full.last ≡ last = let f = full.is_last in cc in
    let P : SlaveState → Type 0 = λ l. is_full states l ≡ true in
    subst P e (pair_of _ _ (equal full.last.latency 0 full.at_once) (all_from (covers full.last) states (λ k s here. equal _ _ (full.full k s here))))

pub record SlaveKeeps (t : Topology) (k : ℕ) (s : SlaveDef) : Type 0 where
  pub within : k < 512
  pub no_power : has_power s.node.0 t.powers ≡ false
  pub no_proc : has_proc s.node.0 t.procs ≡ false
  pub new : has_slave s.node.0 (take k t.slaves) ≡ false
  pub parent : s.parent < length t.powers
  pub states : HasFullLast s.states

pub slave_keeps : (t : Topology) (k : ℕ) (s : SlaveDef) → slave_cause t k s ≡ None → SlaveKeeps t k s
slave_keeps t k s e =
    let few = pass (nat_le 512 k || nat_lt 4 (length s.states)) TooMany _ e in
    let new = pass (has_power s.node.0 t.powers || (has_proc s.node.0 t.procs || has_slave s.node.0 (take k t.slaves))) Repeated _ few.1 in
    let early = pass (nat_le (length t.powers) s.parent) ParentLate _ new.1 in
    let some = pass (length s.states == 0) NoStates _ early.1 in
    let full = pass (not (last_is_full s.states)) LastNotFull None some.1 in
    let limits = neither (nat_le 512 k) _ few.0 in
    let others = neither (has_power s.node.0 t.powers) _ new.0 in
    let units = neither (has_proc s.node.0 t.procs) _ others.1 in
    record {
      within = below k 512 limits.0;
      no_power = others.0;
      no_proc = units.0;
      new = units.1;
      parent = below s.parent (length t.powers) early.0;
      states = full_at s.states _ refl (some_of (length s.states) some.0) (upto (length s.states) 4 limits.1) (denied (last_is_full s.states) full.0);
    }

pub slave_kept : (t : Topology) (k : ℕ) (s : SlaveDef) → SlaveKeeps t k s → slave_cause t k s ≡ None
slave_kept t k s keeps =
    passed _ TooMany _ (none_of _ _ (not_at k 512 keeps.within) (not_past (length s.states) 4 keeps.states.few))
    (passed _ Repeated _ (none_of _ _ keeps.no_power (none_of _ _ keeps.no_proc keeps.new))
    (passed _ ParentLate _ (not_at s.parent (length t.powers) keeps.parent)
    (passed _ NoStates _ (not_none (length s.states) keeps.states.some)
    (passed _ LastNotFull _ (affirmed (last_is_full s.states) (full_from s.states _ refl keeps.states)) refl))))

pub target_at : (t : Topology) (target : Option NodeId) → is_bad_target t target ≡ false → IfSome target (λ n. IsProc t n ⊎ IsSlave t n)
target_at t None e = tt
target_at t (Some n) e =
    elim (either (has_proc n.0 t.procs) _ (denied _ e)) [
      | inl proc ↦ inl (number_at (λ (p : ProcDef). p.node.0) t.procs n.0 proc)
      | inr slave ↦ inr (number_at (λ (s : SlaveDef). s.node.0) t.slaves n.0 slave)
    ]

pub target_from : (t : Topology) (target : Option NodeId) → IfSome target (λ n. IsProc t n ⊎ IsSlave t n) → is_bad_target t target ≡ false
target_from t None e = refl
target_from t (Some n) e =
    affirmed _ (elim e as (λ _. (has_proc n.0 t.procs || has_slave n.0 t.slaves) ≡ true) [
      | inl proc ↦ first_passes _ _ (number_from (λ (p : ProcDef). p.node.0) t.procs n.0 proc)
      | inr slave ↦ later_passes _ _ (number_from (λ (s : SlaveDef). s.node.0) t.slaves n.0 slave)
    ])

pub record LineKeeps (t : Topology) (k : ℕ) (l : LineDef) : Type 0 where
  pub within : k < 1024
  pub new : list_any (λ e. e.line.0 == l.line.0) (take k t.lines) ≡ false
  pub target : IfSome l.target (λ n. IsProc t n ⊎ IsSlave t n)

pub line_keeps : (t : Topology) (k : ℕ) (l : LineDef) → line_cause t k l ≡ None → LineKeeps t k l
line_keeps t k l e =
    let few = pass (nat_le 1024 k) TooMany _ e in
    let new = pass (list_any (λ e. e.line.0 == l.line.0) (take k t.lines)) Repeated _ few.1 in
    let good = pass (is_bad_target t l.target) BadTarget None new.1 in
    record { within = below k 1024 few.0; new = new.0; target = target_at t l.target good.0 }

pub line_kept : (t : Topology) (k : ℕ) (l : LineDef) → LineKeeps t k l → line_cause t k l ≡ None
line_kept t k l keeps =
    passed _ TooMany _ (not_at k 1024 keeps.within)
    (passed _ Repeated _ keeps.new (passed _ BadTarget _ (target_from t l.target keeps.target) refl))
