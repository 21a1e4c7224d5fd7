use Rattle.std.proofs.Common.{◌≡◌, ◌∙◌, [], ℕ, List, Result, Ok, length, ap, subst, sym}
use Rattle.std.specs.Prelude.{IfOk}
use Rattle.pm_base.specs.BoundedList.{Bounded}
use Rattle.pm_topology.specs.Units.{units_of}
use Rattle.pm_record.specs.Record.{IsRecordOf, IsAtZero, Kept}
use Rattle.pm_record.specs.Marks.{LagsWithin}
use Rattle.pm_record.proofs.ListedLemmas.{none_listed}
use Rattle.pm_record.proofs.kept.Kept.load.Goals as goal

-- what holds of a value if there is one holds of this one
of_ok : {X : Type 0} {E : Type 0} (P : X → Type 0) (made : Result X E) (x : X) → made ≡ Ok x → IfOk made P → P x
of_ok {X = X} {E = E} P made x is holds = let Q : Result X E → Type 0 = λ made. IfOk made P in subst Q is holds

pub invariant_of-result : goal.invariant_of-result
invariant_of-result c =
    let first = c.in_ok-values.ensures in
    let is = c.in_ok-values-2.ensures.0 in
    let marked = of_ok _ _ _ c.in_ok-values-2.ensures.1 c.parts_of-parts.ensures.marked in
    let spare = of_ok _ _ _ c.in_ok-values-2.ensures.1 c.parts_of-parts.ensures.spare in
    let P : List ℕ → Type 0 = λ items. LagsWithin items c.in_ok-values-2.values in
    let Q : Kept → Type 0 = λ kept. LagsWithin [] kept in
    record {
      marks = record {
        lags = subst P (sym (ap (λ (p : Bounded ℕ). p.items) marked)) (subst Q (sym (is ∙ first)) (none_listed (units_of c.args.t.now)));
        room = ap (λ (p : Bounded ℕ). p.room) marked ∙ ap (λ (kept : Kept). length kept) (sym is);
        other = ap (λ (p : Bounded ℕ). p.room) spare ∙ ap (λ (kept : Kept). length kept) (sym is);
      };
    }

pub returns-clause-first : goal.returns-clause-first
returns-clause-first c = c.in_ok-values-2.ensures.0 ∙ c.in_ok-values.ensures

pub returns-clause-record : goal.returns-clause-record
returns-clause-record c = subst (IsRecordOf c.args.t.now) (sym (c.in_ok-values-2.ensures.0 ∙ c.in_ok-values.ensures)) (c.at_zero_is_a_record.ensures.«record» c.args.t.now)

pub returns-clause-idle : goal.returns-clause-idle
returns-clause-idle c =
    let P : Kept → Type 0 = λ kept. IsAtZero kept in
    subst P (sym (c.in_ok-values-2.ensures.0 ∙ c.in_ok-values.ensures)) (c.at_zero_is_a_record.ensures.idle c.args.t.now)
