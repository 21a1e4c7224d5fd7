use Rattle.std.proofs.Common.{◌≡◌, ◌≤◌, ◌∷◌, [], length, ap, sym, arith, List, subst}
use Rattle.pm_reach.specs.declared.routes.Route.{Route}
use Rattle.pm_reach.specs.Search.{IsSearch}
use Rattle.pm_reach.proofs.SearchLaw.{begins, ends_least}
use Rattle.pm_reach.proofs.routes.least_routes.Goals as goal

pub loop-next-init : goal.loop-next-init
loop-next-init c =
    let r : Route = c.in_ok-start.field-0 in
    let one : c.push.new.self ≡ r ∷ [] = cc (c.in_ok-push.ensures.ok, c.new-routes.ensures) in
    let is = c.in_ok-start.ensures in
    let P : List Route → Type 0 = λ routes. IsSearch c.args.objects.now c.args.t.now c.args.from routes 0 0 in
    subst P (sym one) (
    begins c.args.objects.now c.args.t.now c.args.from r (ap (λ (x : Route). x.end) is) (ap (λ (x : Route). x.why) is) (ap (λ (x : Route). x.path) is) c.requires
    )

pub returns : goal.returns
returns c =
    let past : length c.loop-next.routes ≤ c.loop-next.next = omega arith in
    ends_least c.args.objects.now c.args.t.now c.args.from c.loop-next.routes c.loop-next.next past c.loop-next.invariant
