use Rattle.pm_state.specs.Values.{value}
use Rattle.pm_record.proofs.Below.{ChipLaws}
use Rattle.pm_apply.proofs.GapLemmas.{idle_gap}
use Rattle.pm_apply.proofs.LeftLemmas.{Passes-gap}
use Rattle.pm_apply.proofs.carrying.Carrying.skip.Goals as goal

pub returns-then-not-self : goal.returns-then-not-self
returns-then-not-self c =
    let t = c.args.book.now.fixed.topology in
    let laws : ChipLaws = record { units = c.units_stand_in_order.ensures; kinds = c.kinds_are_exact.ensures; table = c.unit_maps.ensures } in
    Passes-gap t c.args.pulse (λ u. value u c.args.book.now) c.args.kept.now c.args.self.now c.next_visited-self.result c.if-not-self.true
    (idle_gap laws t (λ u. value u c.args.book.now) c.args.pulse c.args.kept.now c.requires.ready c.args.self.now.place c.next_visited-self.result c.next_visited-self.ensures.from c.next_visited-self.ensures.idle)
