use Rattle.std.proofs.Common.{◌+◌, ◌∙◌, ℕ, List, ap, drop, sym}
use Rattle.std.proofs.lemmas.Option.{slice_get-get_or}
use Rattle.pm_base.proofs.ListLemmas.{drop_found}
use Rattle.pm_isolate.specs.Marks.{Marks}
use Rattle.pm_isolate.specs.Within.{compared_along}
use Rattle.pm_isolate.proofs.marks.log_along.Goals as goal

pub loop-place-preserved : goal.loop-place-preserved
loop-place-preserved c =
    let a = c.args.loud.now in
    let b = c.args.quiet.now in
    let places = c.args.places.now in
    let k = c.loop-place.place-index in
    let at = slice_get-get_or places k _ c.loop-place-test.true in
    ap (λ (marks : Marks). compared_along a b (drop (k + 1) places) marks) c.log_at.ensures
    ∙ sym (ap (λ (js : List ℕ). compared_along a b js c.loop-place.marks) (drop_found places k _ at))
    ∙ c.loop-place.invariant
