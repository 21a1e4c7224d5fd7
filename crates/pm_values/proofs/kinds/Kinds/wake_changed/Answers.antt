use Rattle.std.proofs.Common.{List, length, subst, ◌∙◌}
use Rattle.pm_values.specs.declared.kinds.Other.{Other}
use Rattle.pm_values.specs.Caches.{ListedStay}
use Rattle.pm_values.proofs.OthersLaw.{have_stayed}
use Rattle.pm_values.proofs.kinds.Kinds.wake_changed.Goals as goal

pub returns-clause-stay : goal.returns-clause-stay
returns-clause-stay c =
    let others = c.self.inside.others.items in
    let P : List Other → Type 0 = λ os. ListedStay c.args.along.now.downs c.args.procs.now.procs c.args.ups.now c.wake_changed.new.awake os (length os) c.args.values.now in
    have_stayed c.args.along.now.downs c.args.procs.now.procs c.args.ups.now c.self.inside.kinds.items others c.wake_changed.new.awake c.args.values.now
    c.self.invariant.listed (subst P c.deref.ensures.value c.wake_changed.ensures.stay)

pub invariant_of-self : goal.invariant_of-self
invariant_of-self c = record {
  home = c.self.invariant.home;
  listed = c.self.invariant.listed;
  places = c.wake_changed.ensures.places ∙ c.self.invariant.places;
}
