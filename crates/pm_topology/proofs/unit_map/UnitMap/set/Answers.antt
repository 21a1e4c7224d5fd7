-- A unit stands at one place alone.
use Rattle.std.proofs.Common.{◌≡◌, Some, None, ◌∙◌}
use Rattle.pm_topology.specs.UnitMap.{place_of}
use Rattle.pm_topology.proofs.UnitMapLaw.{set_at_place, set_nowhere, set_none, sets_by, there-set, value_of-set}
use Rattle.pm_topology.proofs.unit_map.UnitMap.set.Goals as goal

pub returns-in-Some-clause-entries : goal.returns-in-Some-clause-entries
returns-in-Some-clause-entries g c =
    let here : place_of c.args.self.now c.args.unit ≡ Some c.in-Some.place = cc in
    c.set_at.ensures.entries ∙ set_at_place c.args.unit c.args.value c.args.self.now c.in-Some.place c.place.ensures.rising here

pub returns-in-Some-clause-values : goal.returns-in-Some-clause-values
returns-in-Some-clause-values g c =
    let here : place_of c.args.self.now c.args.unit ≡ Some c.in-Some.place = cc in
    let set = c.set_at.ensures.entries ∙ set_at_place c.args.unit c.args.value c.args.self.now c.in-Some.place c.place.ensures.rising here in
    λ other. value_of-set c.args.unit c.args.value c.args.self.now c.set_at.new.self other set

pub returns-in-Some-clause-there : goal.returns-in-Some-clause-there
returns-in-Some-clause-there g c =
    let here : place_of c.args.self.now c.args.unit ≡ Some c.in-Some.place = cc in
    let set = c.set_at.ensures.entries ∙ set_at_place c.args.unit c.args.value c.args.self.now c.in-Some.place c.place.ensures.rising here in
    λ other. there-set c.args.unit c.args.value c.args.self.now c.set_at.new.self other set

pub returns-in-Some-clause-same : goal.returns-in-Some-clause-same
returns-in-Some-clause-same g c =
    let here : place_of c.args.self.now c.args.unit ≡ Some c.in-Some.place = cc in
    let set = c.set_at.ensures.entries ∙ set_at_place c.args.unit c.args.value c.args.self.now c.in-Some.place c.place.ensures.rising here in
    set_none c.args.unit c.args.value c.args.self.now c.set_at.new.self set

pub returns-in-Some-clause-one : goal.returns-in-Some-clause-one
returns-in-Some-clause-one g c =
    let here : place_of c.args.self.now c.args.unit ≡ Some c.in-Some.place = cc in
    let set = c.set_at.ensures.entries ∙ set_at_place c.args.unit c.args.value c.args.self.now c.in-Some.place c.place.ensures.rising here in
    λ there. sets_by c.args.unit c.args.value c.args.self.now c.set_at.new.self set c.place.ensures.rising there

pub returns-in_default-clause-one : goal.returns-in_default-clause-one
returns-in_default-clause-one g c =
    let none : place_of c.args.self.now c.args.unit ≡ None = cc in
    let same = set_nowhere c.args.unit c.args.value c.args.self.now c.place.ensures.rising none in
    λ there. sets_by c.args.unit c.args.value c.args.self.now c.args.self.now same c.place.ensures.rising there

pub returns-in_default-clause-entries : goal.returns-in_default-clause-entries
returns-in_default-clause-entries g c =
    let none : place_of c.args.self.now c.args.unit ≡ None = cc in
    set_nowhere c.args.unit c.args.value c.args.self.now c.place.ensures.rising none

pub returns-in_default-clause-values : goal.returns-in_default-clause-values
returns-in_default-clause-values g c =
    let none : place_of c.args.self.now c.args.unit ≡ None = cc in
    λ other. value_of-set c.args.unit c.args.value c.args.self.now c.args.self.now other
    (set_nowhere c.args.unit c.args.value c.args.self.now c.place.ensures.rising none)
