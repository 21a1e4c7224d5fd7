use Rattle.std.proofs.Common.{sym}
use Rattle.pm_reach.proofs.SearchLaw.{new_route}
use Rattle.pm_reach.proofs.routes.longer_if_new.Goals as goal

pub returns-in_ok-longer-in-Some : goal.returns-in_ok-longer-in-Some
returns-in_ok-longer-in-Some c =
    new_route c.args.objects.now c.args.t.now c.args.routes.now c.args.from.now c.args.end c.in-Some.why c.in_ok-longer-in-Some.field-0
    (cc (c.if-is_found.ensures, c.as_slice.ensures)) (sym c.in-Some.ensures)
    (cc (c.in_ok-longer-in-Some.ensures, c.as_slice-in-Some.ensures))
