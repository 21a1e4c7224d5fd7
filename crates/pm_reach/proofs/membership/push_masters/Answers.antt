use Rattle.std.proofs.Common.{◌<◌, length, arith, sym, ◌∙◌}
use Rattle.pm_perms.specs.Several.{masters_of}
use Rattle.pm_reach.specs.Membership.{master_member}
use Rattle.pm_reach.proofs.MembershipLaw.{puts, puts_none}
use Rattle.pm_reach.proofs.membership.push_masters.Goals as goal
use Rattle.pm_reach.proofs.membership.push_masters.Goals.{in-Some+in_ok-push, in_default}

pub loop-place-preserved : goal.loop-place-preserved
loop-place-preserved c =
    let less : c.loop-place.place < length (masters_of c.args.objects.now) = omega arith in
    elim c.match-branch-2.branch [
      | in-Some+in_ok-push w ↦ puts (master_member c.args.objects.now c.args.routes.now) c.loop-place.members c.match-branch-2.members _ c.loop-place.place _ _
          less c.loop-place.invariant (sym c.in_ok-member.ensures ∙ w.in-Some.is) (w.members-is ∙ w.in_ok-push.ensures.ok)
      | in_default w ↦ puts_none (master_member c.args.objects.now c.args.routes.now) c.loop-place.members c.match-branch-2.members _ c.loop-place.place _
          less c.loop-place.invariant (sym c.in_ok-member.ensures ∙ w.in_default.is) w.members-is
    ]
