use Rattle.std.proofs.Common.{Option, sym, ap, subst, ◌∙◌, arith}
use Rattle.pm_base.specs.declared.names.LineId.{LineId}
use Rattle.pm_state.specs.Values.{value}
use Rattle.pm_core.specs.Outbox.{Outputs, outputs_in}
use Rattle.pm_apply.specs.Left.{turns_left}
use Rattle.pm_apply.specs.Plan.{plan}
use Rattle.pm_apply.proofs.CountLemmas.{most_of_step}
use Rattle.pm_controller.specs.Controls.{part_with}
use Rattle.pm_controller.specs.Stands.{IsUnderWay}
use Rattle.pm_controller.proofs.WayLemmas.{comes_answered, outputs_same, room_now, way_answered}
use Rattle.pm_controller.proofs.controller.answer.Goals as goal

pub command_done-requires : goal.command_done-requires
command_done-requires c =
    let book = c.args.book.now in
    let out = c.args.out.now in
    let fits = most_of_step book.fixed.topology (λ u. value u book) c.units_stand_in_order.ensures out.pulse in
    room_now book out.pulse c.args.kept.now out.done.items c.args.left.now out.done.room c.args.command (omega (arith, fits, c.requires.room.done)) c.requires.asking

pub returns : goal.returns
returns c =
    let book = c.args.book.now in
    let out = c.args.out.now in
    let after = c.command_done.new.out in
    let given = c.command_done.ensures.answers in
    let way = way_answered book out.pulse c.args.kept.now c.command_done.new.kept out.done.items after.done.items c.args.left.now c.command_done.new.self c.args.command c.args.ok c.requires.asking given in
    let P : Option LineId → Type 0 = λ pulse. IsUnderWay book c.command_done.new.kept pulse after.done.items c.command_done.new.self in
    record {
      way = subst P (sym c.command_done.ensures.rest.pulse) way;
      comes = λ answers.
          ap (λ (outputs : Outputs). part_with book outputs after.done.items (plan book.fixed.topology (λ u. value u book) (turns_left book.fixed.topology outputs.pulse c.command_done.new.self) c.command_done.new.kept answers)) (outputs_same out after c.command_done.ensures.rest)
          ∙ comes_answered book out.pulse (outputs_in out) c.args.kept.now c.command_done.new.kept out.done.items after.done.items c.args.left.now c.command_done.new.self c.args.command c.args.ok c.requires.asking given answers;
      done = given.done;
      rest = c.command_done.ensures.rest;
    }
