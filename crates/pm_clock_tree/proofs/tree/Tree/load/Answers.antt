use Rattle.std.proofs.Common.{Bool, List, ◌∙◌, ap, length, arith}
use Rattle.std.specs.List.{list_any}
use Rattle.pm_base.specs.BoundedList.{Bounded}
use Rattle.pm_clock_tree.specs.Tree as spec
use Rattle.pm_clock_tree.proofs.HolderLemmas.{idle_enables}
use Rattle.pm_clock_tree.proofs.tree.Tree.load.Goals as goal

pub invariant_of-result : goal.invariant_of-result
invariant_of-result g c = (
  record {
    settings = ap length c.in_ok-first_settings.ensures;
    roots = ap (λ (it : Bounded Bool). length it.items) c.see_roots.ensures;
  },
  grind (arith, ap (λ (it : Bounded Bool). it.room) c.see_roots.ensures, c.in_ok-seen.ensures, c.roots.ensures),
  (λ no.
      ap (λ (holders : List spec.Holder). list_any (λ (holder : spec.Holder). list_any (λ on. on) holder.enables) holders) c.in_ok-holders_of.ensures
      ∙ idle_enables c.args.masters.now),
)
