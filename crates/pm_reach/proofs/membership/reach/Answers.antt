use Rattle.std.proofs.Common.{◌==◌, ap, sym, ◌∙◌}
use Rattle.pm_object.specs.declared.object.MasterRec.{MasterRec}
use Rattle.pm_perms.specs.Several.{masters_of}
use Rattle.pm_reach.specs.Membership.{members_of}
use Rattle.pm_reach.proofs.MembershipLaw.{is_there}
use Rattle.pm_reach.proofs.membership.reach.Goals as goal

pub returns-in_ok-members-in-Some : goal.returns-in_ok-members-in-Some
returns-in_ok-members-in-Some c = record {
  from = c.in-Some.from;
  place = sym c.in-Some.ensures;
  routes = c.in_ok-routes-in-Some.routes;
  least = c.in_ok-routes-in-Some.ensures;
  members = c.in_ok-members-in-Some.ensures ∙ ap (λ routes. members_of c.args.objects.now c.args.t.now routes) c.as_slice.ensures;
}

pub returns-in-None : goal.returns-in-None
returns-in-None c =
    absurd (is_there {X = MasterRec} (λ (r : MasterRec). r.node == c.args.m.0) (masters_of c.args.objects.now) c.requires (sym c.in-None.ensures))
