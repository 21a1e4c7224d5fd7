use Rattle.std.proofs.Common.{rules, ◌≡◌, List, [], ◌++◌, map, false}
use Rattle.pm_power.specs.declared.child.Child.{Child}
use Rattle.pm_power.specs.Needs.{child}
use Rattle.pm_power.proofs.child.idle_children.Goals as goal

joined : (front back none first whole : List Child) → none ≡ [] → first ≡ none ++ front → whole ≡ first ++ back → whole ≡ front ++ back
joined front back none first whole empty put more = cc

pub returns : goal.returns
returns c =
    joined (map (λ s. child s.node s.parent false) c.args.t.now.slaves) (map (λ p. child p.node p.parent false) c.args.t.now.procs)
    c.new-children.result.items c.push_slaves.new.children.items c.push_procs.new.children.items
    c.new-children.ensures.items
    (search rules)
    (search rules)
