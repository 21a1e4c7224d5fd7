use Rattle.std.proofs.Common.{◌≡◌, ℕ, Option, length, sym, ap, subst, ◌∙◌, arith}
use Rattle.std.specs.Prelude.{flat_map}
use Rattle.pm_base.specs.declared.names.LineId.{LineId}
use Rattle.pm_base.specs.declared.names.Unit.{Unit}
use Rattle.pm_state.specs.Values.{value}
use Rattle.pm_apply.specs.declared.turns.Turn.TheVariants.{PowerOn}
use Rattle.pm_apply.specs.Left.{IsFollowed}
use Rattle.pm_apply.specs.Plan.{power_places, with_pulse}
use Rattle.pm_record.proofs.Below.{ChipLaws}
use Rattle.pm_apply.proofs.TakingLemmas.{KeepsRest-refl, most_alone, none_take, none_rise, none_raises, part_end, part_followed, part_next, part_room, part_start}
use Rattle.pm_apply.proofs.TurnsLemmas.{raises, length-raises, raise_at}
use Rattle.pm_apply.proofs.taking.raise.Goals as goal

pub returns-then-not-lagging : goal.returns-then-not-lagging
returns-then-not-lagging g c =
    let t = c.args.book.now.fixed.topology in
    let values : Unit → ℕ = λ u. value u c.args.book.now in
    let laws : ChipLaws = record { units = c.units_stand_in_order.ensures; kinds = c.kinds_are_exact.ensures; table = c.unit_maps.ensures } in
    record {
      takes = none_take g.D.Device.Does t values c.args.kept.now c.args.out.now.done.items c.args.dev.now (flat_map (with_pulse c.args.out.now.pulse) (raises t))
          (none_rise laws t values c.args.out.now.pulse c.args.kept.now c.requires.followed c.stays_sound.ensures.formed (c.requires.rests c.if-not-lagging.true) (power_places t));
      rest = KeepsRest-refl c.args.out.now;
    }

pub loop-place-init : goal.loop-place-init
loop-place-init g c = part_start g.D.Device.Does c.args.book.now.fixed.topology (λ u. value u c.args.book.now) (raises c.args.book.now.fixed.topology) c.args.kept.now c.args.out.now c.args.dev.now

pub raise_one-requires-clause-followed : goal.raise_one-requires-clause-followed
raise_one-requires-clause-followed g c =
    let t = c.args.book.now.fixed.topology in
    let values : Unit → ℕ = λ u. value u c.args.book.now in
    let laws : ChipLaws = record { units = c.units_stand_in_order.ensures; kinds = c.kinds_are_exact.ensures; table = c.unit_maps.ensures } in
    let P : Option LineId → Type 0 = λ pulse. IsFollowed t values pulse c.loop-place.kept in
    subst P (sym c.loop-place.invariant.rest.pulse)
    (part_followed g.D.Device.Does t values (raises t) c.args.kept.now c.args.out.now c.args.dev.now laws c.loop-place.place c.loop-place.kept c.loop-place.out c.loop-place.dev (none_raises t) c.requires.followed c.loop-place.invariant)

pub raise_one-requires-clause-room : goal.raise_one-requires-clause-room
raise_one-requires-clause-room g c =
    let t = c.args.book.now.fixed.topology in
    let values : Unit → ℕ = λ u. value u c.args.book.now in
    let powers : c.len-place-end.result ≡ length t.powers = c.len-place-end.ensures ∙ ap (λ t. length t.powers) c.topology.ensures.topology in
    let here = raise_at t c.loop-place.place (omega (arith, powers)) in
    let room = part_room g.D.Device.Does t values (raises t) c.args.kept.now c.args.out.now c.args.dev.now c.loop-place.place (PowerOn c.loop-place.place) c.loop-place.kept c.loop-place.out c.loop-place.dev here c.requires.room c.loop-place.invariant in
    omega (arith, room, most_alone t values (PowerOn c.loop-place.place))

pub loop-place-preserved : goal.loop-place-preserved
loop-place-preserved g c =
    let t = c.args.book.now.fixed.topology in
    let values : Unit → ℕ = λ u. value u c.args.book.now in
    let powers : c.len-place-end.result ≡ length t.powers = c.len-place-end.ensures ∙ ap (λ t. length t.powers) c.topology.ensures.topology in
    let here = raise_at t c.loop-place.place (omega (arith, powers)) in
    part_next g.D.Device.Does t values (raises t) c.args.kept.now c.args.out.now c.args.dev.now c.loop-place.place (PowerOn c.loop-place.place) c.loop-place.kept c.raise_one.new.kept c.loop-place.out c.raise_one.new.out c.loop-place.dev c.raise_one.new.dev here
    c.loop-place.invariant c.raise_one.ensures.takes c.raise_one.ensures.rest

pub returns : goal.returns
returns g c =
    let t = c.args.book.now.fixed.topology in
    let powers : c.len-place-end.result ≡ length t.powers = c.len-place-end.ensures ∙ ap (λ t. length t.powers) c.topology.ensures.topology in
    record {
      takes = part_end g.D.Device.Does t (λ u. value u c.args.book.now) (raises t) c.args.kept.now c.args.out.now c.args.dev.now c.loop-place.place c.loop-place.kept c.loop-place.out c.loop-place.dev (omega (arith, powers, length-raises t)) c.loop-place.invariant;
      rest = c.loop-place.invariant.rest;
    }
