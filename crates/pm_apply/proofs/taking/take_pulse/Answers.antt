use Rattle.std.proofs.Common.{◌≡◌, ℕ, List, [], ◌∷◌, sym, ap, subst, ◌∙◌, arith}
use Rattle.pm_base.specs.declared.names.Unit.{Unit}
use Rattle.pm_state.specs.Values.{value}
use Rattle.std.specs.Prelude.{option_to_list}
use Rattle.pm_apply.specs.declared.turns.Turn.{Turn}
use Rattle.pm_apply.specs.Carried.{Takes}
use Rattle.pm_apply.specs.Plan.{pulse_turn}
use Rattle.pm_apply.specs.Room.{most_of}
use Rattle.pm_apply.proofs.TakesLemmas.{Takes-refl}
use Rattle.pm_apply.proofs.TakingLemmas.{KeepsRest-refl, most_alone}
use Rattle.pm_apply.proofs.taking.take_pulse.Goals as goal

pub take_turn-requires-clause-room : goal.take_turn-requires-clause-room
take_turn-requires-clause-room g c =
    let t = c.args.book.now.fixed.topology in
    let values : Unit → ℕ = λ u. value u c.args.book.now in
    let is : c.in-Some.turn ∷ [] ≡ pulse_turn c.args.out.now.pulse c.args.unit = ap option_to_list (sym c.in-Some.is) ∙ c.pulse_turn.ensures in
    let most = ap (most_of t values) is in
    omega (arith, most, most_alone t values c.in-Some.turn, c.requires.room)

pub returns-in-Some : goal.returns-in-Some
returns-in-Some g c =
    let t = c.args.book.now.fixed.topology in
    let values : Unit → ℕ = λ u. value u c.args.book.now in
    let is : c.in-Some.turn ∷ [] ≡ pulse_turn c.args.out.now.pulse c.args.unit = ap option_to_list (sym c.in-Some.is) ∙ c.pulse_turn.ensures in
    let P : List Turn → Type 0 = λ turns. Takes g.D.Device.Does t values turns c.args.kept.now c.take_turn.new.kept c.args.out.now.done.items c.take_turn.new.out.done.items c.args.dev.now c.take_turn.new.dev in
    record { takes = subst P is c.take_turn.ensures.takes; rest = c.take_turn.ensures.rest }

pub returns-in_default : goal.returns-in_default
returns-in_default g c =
    let t = c.args.book.now.fixed.topology in
    let values : Unit → ℕ = λ u. value u c.args.book.now in
    let is : [] ≡ pulse_turn c.args.out.now.pulse c.args.unit = ap option_to_list (sym c.in_default.is) ∙ c.pulse_turn.ensures in
    let P : List Turn → Type 0 = λ turns. Takes g.D.Device.Does t values turns c.args.kept.now c.args.kept.now c.args.out.now.done.items c.args.out.now.done.items c.args.dev.now c.args.dev.now in
    record { takes = subst P is (Takes-refl g.D.Device.Does t values c.args.kept.now c.args.out.now.done.items c.args.dev.now); rest = KeepsRest-refl c.args.out.now }
