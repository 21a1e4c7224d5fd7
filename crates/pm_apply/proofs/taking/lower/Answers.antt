use Rattle.std.proofs.Common.{◌≡◌, ◌-◌, ℕ, Option, length, sym, ap, subst, ◌∙◌, arith}
use Rattle.std.specs.Prelude.{flat_map, reverse}
use Rattle.pm_base.specs.declared.names.LineId.{LineId}
use Rattle.pm_base.specs.declared.names.Unit.{Unit}
use Rattle.pm_state.specs.Values.{value}
use Rattle.pm_apply.specs.declared.turns.Turn.TheVariants.{PowerOff}
use Rattle.pm_apply.specs.Left.{IsFollowed}
use Rattle.pm_apply.specs.Plan.{power_places, with_pulse}
use Rattle.pm_record.proofs.Below.{ChipLaws}
use Rattle.pm_apply.proofs.TakingLemmas.{KeepsRest-refl, most_alone, none_take, none_fall, none_lowers, part_end, part_followed, part_next, part_room, part_start}
use Rattle.pm_apply.proofs.TurnsLemmas.{lowers, length-lowers, lower_at}
use Rattle.pm_apply.proofs.taking.lower.Goals as goal

pub returns-then-not-lagging : goal.returns-then-not-lagging
returns-then-not-lagging g c =
    let t = c.args.book.now.fixed.topology in
    let values : Unit → ℕ = λ u. value u c.args.book.now in
    let laws : ChipLaws = record { units = c.units_stand_in_order.ensures; kinds = c.kinds_are_exact.ensures; table = c.unit_maps.ensures } in
    record {
      takes = none_take g.D.Device.Does t values c.args.kept.now c.args.out.now.done.items c.args.dev.now (flat_map (with_pulse c.args.out.now.pulse) (lowers t))
          (none_fall laws t values c.args.out.now.pulse c.args.kept.now c.requires.followed c.stays_sound.ensures.formed (c.requires.rests c.if-not-lagging.true) (reverse (power_places t)));
      rest = KeepsRest-refl c.args.out.now;
    }

pub loop-k-init : goal.loop-k-init
loop-k-init g c = part_start g.D.Device.Does c.args.book.now.fixed.topology (λ u. value u c.args.book.now) (lowers c.args.book.now.fixed.topology) c.args.kept.now c.args.out.now c.args.dev.now

pub lower_one-requires-clause-followed : goal.lower_one-requires-clause-followed
lower_one-requires-clause-followed g c =
    let t = c.args.book.now.fixed.topology in
    let values : Unit → ℕ = λ u. value u c.args.book.now in
    let laws : ChipLaws = record { units = c.units_stand_in_order.ensures; kinds = c.kinds_are_exact.ensures; table = c.unit_maps.ensures } in
    let P : Option LineId → Type 0 = λ pulse. IsFollowed t values pulse c.loop-k.kept in
    subst P (sym c.loop-k.invariant.rest.pulse)
    (part_followed g.D.Device.Does t values (lowers t) c.args.kept.now c.args.out.now c.args.dev.now laws c.loop-k.k c.loop-k.kept c.loop-k.out c.loop-k.dev (none_lowers t) c.requires.followed c.loop-k.invariant)

pub lower_one-requires-clause-room : goal.lower_one-requires-clause-room
lower_one-requires-clause-room g c =
    let t = c.args.book.now.fixed.topology in
    let values : Unit → ℕ = λ u. value u c.args.book.now in
    let powers : c.len-powers.result ≡ length t.powers = c.len-powers.ensures ∙ ap (λ t. length t.powers) c.topology.ensures.topology in
    let here = lower_at t c.loop-k.k (c.len-powers.result - 1 - c.loop-k.k) (omega (arith, powers)) in
    let room = part_room g.D.Device.Does t values (lowers t) c.args.kept.now c.args.out.now c.args.dev.now c.loop-k.k (PowerOff (c.len-powers.result - 1 - c.loop-k.k)) c.loop-k.kept c.loop-k.out c.loop-k.dev here c.requires.room c.loop-k.invariant in
    omega (arith, room, most_alone t values (PowerOff (c.len-powers.result - 1 - c.loop-k.k)))

pub loop-k-preserved : goal.loop-k-preserved
loop-k-preserved g c =
    let t = c.args.book.now.fixed.topology in
    let values : Unit → ℕ = λ u. value u c.args.book.now in
    let powers : c.len-powers.result ≡ length t.powers = c.len-powers.ensures ∙ ap (λ t. length t.powers) c.topology.ensures.topology in
    let here = lower_at t c.loop-k.k (c.len-powers.result - 1 - c.loop-k.k) (omega (arith, powers)) in
    part_next g.D.Device.Does t values (lowers t) c.args.kept.now c.args.out.now c.args.dev.now c.loop-k.k (PowerOff (c.len-powers.result - 1 - c.loop-k.k)) c.loop-k.kept c.lower_one.new.kept c.loop-k.out c.lower_one.new.out c.loop-k.dev c.lower_one.new.dev here
    c.loop-k.invariant c.lower_one.ensures.takes c.lower_one.ensures.rest

pub returns : goal.returns
returns g c =
    let t = c.args.book.now.fixed.topology in
    let powers : c.len-powers.result ≡ length t.powers = c.len-powers.ensures ∙ ap (λ t. length t.powers) c.topology.ensures.topology in
    record {
      takes = part_end g.D.Device.Does t (λ u. value u c.args.book.now) (lowers t) c.args.kept.now c.args.out.now c.args.dev.now c.loop-k.k c.loop-k.kept c.loop-k.out c.loop-k.dev (omega (arith, powers, length-lowers t)) c.loop-k.invariant;
      rest = c.loop-k.invariant.rest;
    }
