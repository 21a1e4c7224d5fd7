use Rattle.std.proofs.Common.{◌≡◌, ℕ, length, arith, subst}
use Rattle.pm_perms.specs.Several.{masters_of}
use Rattle.pm_reach.specs.Search.{IsSearch}
use Rattle.pm_reach.proofs.SearchLaw.{goes_on}
use Rattle.pm_reach.proofs.routes.try_all.Goals as goal

pub loop-end-preserved : goal.loop-end-preserved
loop-end-preserved c = record {
  inside = omega (arith, c.in_ok-try_end.ensures.longer);
  search = λ from s. c.in_ok-try_end.ensures.search from (c.loop-end.invariant.search from s);
}

pub returns : goal.returns
returns c = λ from s.
    let all : c.loop-end.end ≡ length (masters_of c.args.objects.now) = omega arith in
    let P : ℕ → Type 0 = λ end. IsSearch c.args.objects.now c.args.t.now from c.loop-end.routes c.args.next end in
    goes_on c.args.objects.now c.args.t.now from c.loop-end.routes c.args.next (subst P all (c.loop-end.invariant.search from s))
