use Rattle.std.proofs.Common.{◌≡◌, Some, false, length, sym, ap, ◌∙◌, inl, inr}
use Rattle.pm_topology.specs.declared.topology.Topology.{Topology}
use Rattle.pm_apply.specs.declared.turns.Turn.TheVariants.{PowerOn, PowerOff}
use Rattle.pm_apply.specs.Visits.{power_lags}
use Rattle.pm_record.proofs.Below.{ChipLaws}
use Rattle.pm_apply.proofs.VisitsLemmas.{idle_at, idle_power}
use Rattle.pm_apply.proofs.turns.is_visited.Goals as goal

pub returns-then-k-powers-2 : goal.returns-then-k-powers-2
returns-then-k-powers-2 c =
    λ no.
    let t = c.args.book.now.fixed.topology in
    let powers : c.len-powers.result ≡ length t.powers = c.len-powers.ensures ∙ ap (λ t. length t.powers) c.topology-t.ensures.topology in
    idle_at c.units_stand_in_order.ensures t c.args.kept.now c.args.k c.len-powers.result c.requires.units powers c.if-k-powers.true (c.lags_at.ensures no)

pub returns-in-PowerOn : goal.returns-in-PowerOn
returns-in-PowerOn c =
    λ no.
    let laws : ChipLaws = record { units = c.units_stand_in_order.ensures; kinds = c.kinds_are_exact.ensures; table = c.unit_maps.ensures } in
    let t = c.args.book.now.fixed.topology in
    let kept = c.args.kept.now in
    let place = c.in-PowerOn.place in
    let well = c.stays_sound.ensures.formed in
    let lags : power_lags t kept place ≡ false = ap (λ (t : Topology). power_lags t kept place) (sym c.topology-t.ensures.topology) ∙ (sym c.power_lags.ensures ∙ no) in
    elim c.in-PowerOn.is [
      | inl is ↦ record { turn = PowerOn place; here = c.turn_at.ensures ∙ ap Some is; idle = idle_power laws t kept well c.requires.units place lags }
      | inr is ↦ record { turn = PowerOff place; here = c.turn_at.ensures ∙ ap Some is; idle = idle_power laws t kept well c.requires.units place lags }
    ]
