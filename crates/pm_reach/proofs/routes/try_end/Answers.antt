use Rattle.std.proofs.Common.{◌+◌, List, sym, ◌∙◌, subst}
use Rattle.pm_reach.specs.declared.routes.Route.{Route}
use Rattle.pm_reach.specs.Search.{IsSearch}
use Rattle.pm_reach.proofs.SearchLaw.{tries_new, tries_none}
use Rattle.pm_reach.proofs.routes.try_end.Goals as goal

pub returns-in_ok-push-clause-search : goal.returns-in_ok-push-clause-search
returns-in_ok-push-clause-search c = λ from s.
    let P : List Route → Type 0 = λ routes. IsSearch c.args.objects.now c.args.t.now from routes c.args.next (c.args.end + 1) in
    subst P (sym c.in_ok-push.ensures.ok) (
    tries_new c.args.objects.now c.args.t.now from c.args.routes.now c.args.next c.args.end c.get.result.now c.in-Some.route
    c.get.ensures c.requires.end (sym c.in-Some.is ∙ c.in_ok-route.ensures) s
    )

pub returns-in_default-clause-search : goal.returns-in_default-clause-search
returns-in_default-clause-search c = λ from s.
    tries_none c.args.objects.now c.args.t.now from c.args.routes.now c.args.next c.args.end c.get.result.now
    c.get.ensures (sym c.in_default.is ∙ c.in_ok-route.ensures) s
