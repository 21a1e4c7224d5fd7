use Rattle.std.proofs.Common.{◌≡◌, ◌++◌, [], length, drop, sym, ◌∙◌, ap, arith}
use Rattle.std.proofs.lemmas.List.{append-nil, drop_all}
use Rattle.pm_state.specs.Members.{members_from}
use Rattle.pm_state.proofs.MembersLaw.{members_count}
use Rattle.pm_state.proofs.members.members_of.Goals as goal

pub returns-clause-count : goal.returns-clause-count
returns-clause-count c =
    let masters = c.args.object.now.masters in
    let none : drop c.loop-m.m masters ≡ [] = drop_all c.loop-m.m masters (omega (arith, c.loop-m-test.false, ap length c.as_slice-master-items.ensures)) in
    let whole = sym (append-nil c.loop-m.members) ∙ (ap (λ left. c.loop-m.members ++ members_from c.args.object.now c.args.t.now c.loop-m.m left) (sym none) ∙ c.loop-m.invariant) in
    ap length whole ∙ members_count c.args.object.now c.args.t.now 0 masters
