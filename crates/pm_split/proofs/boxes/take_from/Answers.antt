use Rattle.std.proofs.Common.{◌≡◌, ◌<◌, ◌+◌, ◌∷◌, List, None, Some, length, slice_index_or, ap, subst, sym, ◌∙◌}
use Rattle.std.specs.Prelude.{slice_get}
use Rattle.std.proofs.lemmas.Option.{slice_get-get_or}
use Rattle.pm_base.specs.declared.events.Event.TheVariants.{Ipi}
use Rattle.pm_ipi.specs.Mail.{box_at}
use Rattle.pm_object.specs.declared.object.MasterRec.{MasterRec}
use Rattle.pm_split.specs.Boxes.{Boxes, waiting_from}
use Rattle.pm_split.proofs.Lists.{empty_stays}
use Rattle.pm_split.proofs.WaitingLaw.{pass_empty, pass_full}
use Rattle.pm_split.proofs.boxes.take_from.Goals as goal

pub returns-in-None-clause-taken : goal.returns-in-None-clause-taken
returns-in-None-clause-taken c =
    let m = c.in_ok-m.m in
    let boxes : Boxes = c.args.boxes.now in
    let empty : box_at m boxes ≡ None = sym c.in-None.ensures.taken in (
      c.take.ensures.boxes ∙ empty_stays m boxes empty,
      pass_empty c.args.object.now boxes c.args.bit m c.requires.bit (sym c.in_ok-m.ensures.place) empty,
    )

pub returns-in-Some-clause-taken : goal.returns-in-Some-clause-taken
returns-in-Some-clause-taken c =
    let m = c.in_ok-m.m in
    let object = c.args.object.now in
    let boxes : Boxes = c.args.boxes.now in
    let none : MasterRec = record { node = 0; mask = 0; timeout = 0; suspend = 0; wake = 0 } in
    let master : MasterRec = slice_index_or c.as_slice.result.now m none in
    let within : m < length c.as_slice.result.now = subst (λ (masters : List MasterRec). m < length masters) (sym c.as_slice.ensures) c.in_ok-m.ensures.within in
    let there : slice_get object.masters m ≡ Some master =
    ap (λ (masters : List MasterRec). slice_get masters m) (sym c.as_slice.ensures) ∙ slice_get-get_or c.as_slice.result.now m none within
    in
    pass_full object boxes c.args.bit m master c.in-Some.message c.requires.bit (sym c.in_ok-m.ensures.place) there (sym c.in-Some.ensures.taken)
    ∙ ap (λ (b : Boxes). Ipi (record { 0 = master.node }) c.in-Some.message ∷ waiting_from object b (c.args.bit + 1)) (sym c.take.ensures.boxes)
