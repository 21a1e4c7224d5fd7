use Rattle.std.proofs.Common.{◌≡◌, ◌∙◌, ℕ, IsTrue, List, ap, map, subst, sym}
use Rattle.std.specs.List.{list_all}
use Rattle.std.proofs.lemmas.Result.{IfOk-at_ok}
use Rattle.pm_object.specs.declared.object.Object.{Object}
use Rattle.pm_topology.specs.declared.topology.Topology.{Topology}
use Rattle.pm_rows.specs.Counted.{is_placed_seed}
use Rattle.pm_state.specs.declared.pairs.Permitted.{Permitted}
use Rattle.pm_state.specs.declared.policies.Policy.{Policy}
use Rattle.pm_state.specs.Pairs.{permitted_in, seed_at_load}
use Rattle.pm_state.specs.Policies.{policies_of}
use Rattle.pm_state.proofs.KeptLemmas.{load_placed, loaded_first, policy_is}
use Rattle.pm_state.proofs.load.ruled_of.Goals as goal

-- the pairs that the loaded object permits are on slaves of the chip
pub load_rows-rows-requires-clause-placed : goal.load_rows-rows-requires-clause-placed
load_rows-rows-requires-clause-placed c =
    let first : ℕ = c.active_at_load-first.result in
    let slaves : ℕ = c.len-3.result in
    let t : Topology = c.args.t.now in
    let object : Object = c.args.object.now in
    let objects : List Object = c.as_slice.result.now in
    let found : c.in_ok-objects-2.policies ≡ policies_of t objects =
    IfOk-at_ok (λ (policies : List Policy). policies ≡ policies_of t objects) c.in_ok-objects-2.ensures.1 c.policies_of-policies.ensures
    in
    let own = policy_is t objects c.in_ok-objects-2.policies 0 object c.get.result.now found
    (loaded_first object c.args.attached.now objects (c.as_slice.ensures ∙ c.in_ok-objects.ensures)) c.get.ensures
    in
    let pairs : c.as_slice-pairs.result.now ≡ permitted_in object t = c.as_slice-pairs.ensures ∙ ap (λ (p : Policy). p.pairs) own in
    let P : List Permitted → Type 0 = λ ps. IsTrue (list_all (is_placed_seed slaves) (map (seed_at_load first) ps)) in
    subst P (sym pairs) (load_placed first object t slaves c.len-3.ensures)
