use Rattle.std.proofs.Common.{◌≡◌, Bool, Option, List, [], refl, subst}
use Rattle.std.specs.Prelude.{IfNone, IfSome}
use Rattle.pm_base.specs.declared.names.Command.{Command}
use Rattle.pm_state.specs.Values.{value}
use Rattle.pm_core.specs.Outbox.{Outputs, outputs_in}
use Rattle.pm_apply.specs.Left.{Waits, turns_left}
use Rattle.pm_apply.specs.Part.{part_of}
use Rattle.pm_record.specs.Record.{IsRecordOf, Kept}
use Rattle.pm_record.proofs.Below.{ChipLaws}
use Rattle.pm_controller.specs.Stands.{IsAtRest}
use Rattle.pm_controller.proofs.WayLemmas.{comes_end, comes_on, followed_now, rests, way_on}
use Rattle.pm_controller.proofs.controller.find.Goals as goal

pub next_command-requires : goal.next_command-requires
next_command-requires c =
    let laws : ChipLaws = record { units = c.units_stand_in_order.ensures; kinds = c.kinds_are_exact.ensures; table = c.unit_maps.ensures } in
    followed_now c.args.book.now c.args.out.now.pulse laws c.args.kept.now c.args.out.now.done.items c.args.left.now c.requires

pub end-out-requires : goal.end-out-requires
end-out-requires c =
    let laws : ChipLaws = record { units = c.units_stand_in_order.ensures; kinds = c.kinds_are_exact.ensures; table = c.unit_maps.ensures } in
    (followed_now c.args.book.now c.args.out.now.pulse laws c.args.kept.now c.args.out.now.done.items c.args.left.now c.requires).ready.stands

pub returns-in-Some : goal.returns-in-Some
returns-in-Some c =
    let book = c.args.book.now in
    let out = c.args.out.now in
    let kept = c.args.kept.now in
    record {
      stands = record {
        way = way_on book out.pulse kept out.done.items c.args.left.now c.next_command.new.self c.requires c.next_command.ensures.passes;
        waits =
            let P : Option Command → Type 0 = λ found. IfSome found (Waits book.fixed.topology (λ u. value u book) out.pulse kept c.next_command.new.self) in
            subst P c.in-Some.is c.next_command.ensures.some;
      };
      comes = comes_on book out.pulse (outputs_in out) kept out.done.items c.args.left.now c.next_command.new.self c.next_command.ensures.passes;
      rest = refl;
    }

pub returns-in-None : goal.returns-in-None
returns-in-None c =
    let book = c.args.book.now in
    let out = c.args.out.now in
    let kept = c.args.kept.now in
    let t = book.fixed.topology in
    let safe : (kept : Kept) (answers : List Bool) (outputs : Outputs) → IsRecordOf t kept → IsAtRest book (part_of kept answers book outputs).kept = λ kept answers outputs known. record {
      known = c.each_part_is_safe.ensures.«record» kept answers book outputs c.stays_sound.ensures.formed known;
      marks = c.each_part_is_safe.ensures.marks kept answers book outputs c.stays_sound.ensures.formed known;
    } in
    let P : Option Command → Type 0 = λ found. IfNone found (turns_left t out.pulse c.next_command.new.self ≡ []) in
    let over : turns_left t out.pulse c.next_command.new.self ≡ [] = subst P c.in-None.is c.next_command.ensures.none in
    let way = way_on book out.pulse kept out.done.items c.args.left.now c.next_command.new.self c.requires c.next_command.ensures.passes in
    record {
      stands = rests book out.pulse safe (outputs_in out) kept c.end-out.new.kept out.done.items c.next_command.new.self way over refl c.end-out.ensures.kept;
      comes = comes_end book out.pulse (outputs_in out) kept c.end-out.new.kept out.done.items c.end-out.result c.args.left.now c.next_command.new.self
          c.next_command.ensures.passes over c.end-out.ensures.kept c.end-out.ensures.answer;
      rest = refl;
    }
