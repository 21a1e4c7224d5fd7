use Rattle.std.proofs.Common.{arith, ◌≡◌}
use Rattle.pm_objtext.specs.Groups.{last_recs}
use Rattle.pm_objtext.proofs.GroupsLemmas.{last_recs_at}
use Rattle.pm_objtext.proofs.groups.Groups.has_node.Goals as goal

pub returns-in-len1-up : goal.returns-in-len1-up
returns-in-len1-up c =
    let last : last_recs c.as_slice.result.now ≡ c.group-item.result.recs = last_recs_at c.as_slice.result.now c.group-item.result (omega arith) c.group-item.is in
    cc
