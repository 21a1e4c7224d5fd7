use Rattle.std.proofs.Common.{List, refl, map}
use Rattle.pm_object.specs.declared.attached.Attached.{Attached}
use Rattle.pm_object.specs.declared.object.Object.{Object}
use Rattle.pm_state.specs.State.{Fixed}
use Rattle.pm_laws.specs.ReachBorder.{border_of}
use Rattle.test_two_runs.specs.Sides.{at_4096}
use Rattle.test_books.specs.SmallTable.{small}
use Rattle.test_two_runs.proofs.SidesLaw.{objects_formed, sides_at_load}
use Rattle.test_books.proofs.SmallTableLaw.{small_sound}
use Rattle.test_two_runs.proofs.sides.sides_over.Goals as goal

pub returns : goal.returns
returns c =
    let object : Object = c.args.object.now in
    let attached : List Attached = map at_4096 c.args.others.now in
    let fixed : Fixed = record { object = object; topology = small; attached = attached } in
    let are = objects_formed object c.args.others.now attached small c.requires.formed c.requires.others refl in
    let closed = c.reach_is_closed.ensures.closed fixed c.args.m are small_sound in
    sides_at_load c.args.m object attached small c.in_ok-loud.loud.value.book c.in_ok-quiet.quiet.value.book are c.requires.named
    (c.books_agree.ensures.load (border_of fixed c.args.m) fixed object 0 refl closed) c.in_ok-loud.ensures c.in_ok-quiet.ensures
