use Rattle.std.proofs.Common.{◌≡◌, true, sym, ◌∙◌, ap}
use Rattle.pm_base.specs.declared.names.Mode.{Mode}
use Rattle.pm_procs.specs.Modes.{same_mode}
use Rattle.pm_state.specs.Members.{mode_of_master}
use Rattle.pm_values.specs.Along.{mode_logged}
use Rattle.pm_values.proofs.AlongLaw.{turns_stay}
use Rattle.pm_values.proofs.along.add_turns.Goals as goal

pub returns-then-same_mode : goal.returns-then-same_mode
returns-then-same_mode c =
    let m = c.args.m in
    let book = c.args.tables.now in
    let before : Mode = mode_logged c.args.modes.now m in
    let now : Mode = mode_of_master book.fixed book.now.core m in
    let same : same_mode before now ≡ true =
    ap (λ (a : Mode). same_mode a now) (sym c.at_or-before.ensures)
    ∙ (ap (λ (b : Mode). same_mode c.at_or-before.result b) (sym c.mode_of_master-now.ensures) ∙ (sym c.same_mode.ensures ∙ c.if-same_mode.true))
    in
    turns_stay c.args.turns.now m before now c.requires same
