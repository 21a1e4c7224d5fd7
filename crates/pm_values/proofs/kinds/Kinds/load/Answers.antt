use Rattle.std.proofs.Common.{◌≡◌, ◌∙◌, ℕ, List, ap, map, sym, subst}
use Rattle.std.proofs.lemmas.Result.{IfOk-at_ok}
use Rattle.pm_topology.specs.Units.{units_of}
use Rattle.pm_values.specs.declared.caches.UnitKind.{UnitKind}
use Rattle.pm_values.specs.Caches.{kind_of_unit}
use Rattle.pm_values.specs.Kinds.{AreApart, AreIndexed}
use Rattle.pm_values.proofs.KindsLaw.{are_apart}
use Rattle.pm_values.proofs.kinds.Kinds.load.Goals as goal

-- each slave of the chip has one unit
pub beside_of-beside-requires : goal.beside_of-beside-requires
beside_of-beside-requires c =
    let t = c.args.t.now in
    let kinds = c.deref.result.now in
    let are : kinds ≡ map (kind_of_unit t) (units_of t) = c.deref.ensures.value ∙ c.in_ok-kinds.ensures in
    let P : ℕ → Type 0 = λ n. AreApart n kinds in
    subst P (sym c.len.ensures) (are_apart c.units_stand_in_order.ensures c.kinds_are_exact.ensures t kinds are)

pub returns : goal.returns
returns c = ap (λ k. k.items) c.in_ok-kinds-2.ensures.0 ∙ c.in_ok-kinds.ensures

pub invariant_of-result : goal.invariant_of-result
invariant_of-result c =
    let found = c.in_ok-kinds-2 in
    let Over : List UnitKind → Type 0 = λ kinds. AreIndexed kinds found.homes.items found.others.items found.awake in
    let same : c.deref.result.now ≡ found.kinds.items = c.deref.ensures.value ∙ ap (λ k. k.items) (sym found.ensures.0) in
    subst Over same (IfOk-at_ok (λ b. AreIndexed c.deref.result.now b.0.items b.1.0.items b.1.1) found.ensures.1 c.beside_of-beside.ensures)
