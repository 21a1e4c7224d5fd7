use Rattle.std.proofs.Common.{ℕ, refl}
use Rattle.pm_base.specs.declared.names.Unit.{Unit}
use Rattle.pm_state.specs.Values.{value}
use Rattle.pm_apply.proofs.FailingLemmas.{told_then}
use Rattle.pm_apply.proofs.commands.carry_on.Goals as goal

pub take_turns-requires-clause-ready : goal.take_turns-requires-clause-ready
take_turns-requires-clause-ready g c = c.begin-left.ensures.followed.ready

pub end_at_places-out-requires-clause-stands : goal.end_at_places-out-requires-clause-stands
end_at_places-out-requires-clause-stands g c = c.take_turns.ensures.followed.ready.stands

pub end_at_places-out-requires-clause-units : goal.end_at_places-out-requires-clause-units
end_at_places-out-requires-clause-units g c = c.take_turns.ensures.followed.units

pub returns : goal.returns
returns g c =
    let values : Unit → ℕ = λ u. value u c.args.book.now in
    record {
      start = c.begin-left.new.kept;
      left = c.take_turns.new.kept;
      alike = c.begin-left.ensures.alike;
      takes = c.take_turns.ensures.takes;
      marks = c.end_at_places-out.ensures.kept;
      answer = told_then values c.args.out.now c.take_turns.new.out c.end_at_places-out.result c.end_at_places-out.new.kept c.take_turns.ensures.rest c.end_at_places-out.ensures.answer;
      rest = record {
        room = c.take_turns.ensures.rest.room;
        moved = c.take_turns.ensures.rest.moved;
        pulse = c.take_turns.ensures.rest.pulse;
        starts = c.take_turns.ensures.rest.starts;
        late = c.take_turns.ensures.rest.late;
        callbacks = c.take_turns.ensures.rest.callbacks;
        answer = refl;
      };
    }
