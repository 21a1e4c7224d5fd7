use Rattle.std.proofs.Common.{◌≡◌, ◌∙◌, false, true, sym, arith}
use Rattle.pm_object.specs.Attached.{have_same_masters, is_same_master}
use Rattle.pm_object.proofs.AttachedLemmas.{like_here, none_left, unlike_here, unlike_many}
use Rattle.pm_object.proofs.attached.have_same_masters.Goals as goal

pub returns-then-a-b : goal.returns-then-a-b
returns-then-a-b c = sym (unlike_many c.args.a.now c.args.b.now (λ same. omega (arith, same, c.if-a-b.true)))

pub returns-then-not-is_same_master : goal.returns-then-not-is_same_master
returns-then-not-is_same_master c =
    let other : is_same_master c.master_at-one.result c.master_at-other.result ≡ false = cc in
    sym (unlike_here c.args.a.now c.args.b.now c.loop-k.k c.master_at-one.result c.master_at-other.result c.master_at-one.ensures c.master_at-other.ensures other) ∙ c.loop-k.invariant

pub loop-k-preserved : goal.loop-k-preserved
loop-k-preserved c =
    let same : is_same_master c.master_at-one.result c.master_at-other.result ≡ true = cc in
    sym (like_here c.args.a.now c.args.b.now c.loop-k.k c.master_at-one.result c.master_at-other.result c.master_at-one.ensures c.master_at-other.ensures same) ∙ c.loop-k.invariant
