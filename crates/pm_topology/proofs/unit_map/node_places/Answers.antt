-- The next place is the one by hash.
use Rattle.std.proofs.Common.{◌+◌, ap, ◌∙◌}
use Rattle.std.proofs.lemmas.List.{length-append}
use Rattle.pm_topology.proofs.UnitMapLaw.{one_more_place, place_of-is}
use Rattle.pm_topology.proofs.unit_map.node_places.Goals as goal

pub loop-number-preserved : goal.loop-number-preserved
loop-number-preserved g c =
    rw c.in_ok-push.ensures.ok
    (record {
      count = length-append c.loop-number.places _ ∙ ap (λ n. n + 1) c.loop-number.invariant.count;
      places = one_more_place c.args.entries.now.entries c.loop-number.places c.loop-number.number c.get_index_of-place.result
          c.loop-number.invariant.count
          c.loop-number.invariant.places
          (c.get_index_of-place.ensures.index ∙ place_of-is _ c.args.entries.now.entries);
    })
