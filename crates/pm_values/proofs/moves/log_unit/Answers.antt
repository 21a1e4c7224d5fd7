use Rattle.std.proofs.Common.{◌++◌, List, append-nil, sym, ◌∙◌, ap}
use Rattle.pm_base.specs.declared.names.Unit.{Unit}
use Rattle.pm_base.specs.BoundedList.{Bounded}
use Rattle.pm_notify.specs.declared.notes.Waiting.{Waiting}
use Rattle.pm_values.proofs.SettledLaw.{found_settled}
use Rattle.pm_values.proofs.moves.log_unit.Goals as goal

pub returns-then-is_settled-clause-values : goal.returns-then-is_settled-clause-values
returns-then-is_settled-clause-values c =
    sym (found_settled c.args.k c.args.value c.args.freed c.is_settled.result c.args.values.now c.entry-entry.result c.entry-entry.ensures c.is_settled.ensures c.if-is_settled.true).values

pub returns-then-is_settled-clause-moved : goal.returns-then-is_settled-clause-moved
returns-then-is_settled-clause-moved c =
    let nothing = found_settled c.args.k c.args.value c.args.freed c.is_settled.result c.args.values.now c.entry-entry.result c.entry-entry.ensures c.is_settled.ensures c.if-is_settled.true in
    let moved_to : List Unit → Bounded Unit = λ items. record c.args.moved.now { items = items } in
    sym (ap (λ us. moved_to (c.args.moved.now.items ++ us)) nothing.moved ∙ ap moved_to (append-nil c.args.moved.now.items))

pub returns-then-is_settled-clause-notices : goal.returns-then-is_settled-clause-notices
returns-then-is_settled-clause-notices c =
    let nothing = found_settled c.args.k c.args.value c.args.freed c.is_settled.result c.args.values.now c.entry-entry.result c.entry-entry.ensures c.is_settled.ensures c.if-is_settled.true in
    let noticed_to : List Waiting → Bounded Waiting = λ items. record c.args.notices.now { items = items } in
    sym (ap (λ ws. noticed_to (c.args.notices.now.items ++ ws)) nothing.noticed ∙ ap noticed_to (append-nil c.args.notices.now.items))
