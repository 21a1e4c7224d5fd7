use Rattle.std.proofs.lemmas.List.Elements.{recursion_from_All}
use Rattle.pm_rows.specs.Sound.{IsLoadable, IsRemadeRight}
use Rattle.pm_rows.proofs.Changed.{change_keeps}
use Rattle.pm_rows.proofs.Kept.{settle_keeps, drop_keeps, clear_keeps}
use Rattle.pm_rows.proofs.Loaded.{load_sound, remade_sound}
use Rattle.pm_rows.proofs.Shifted.{shift_keeps}
use Rattle.pm_rows.proofs.There.{there_exactly}
use Rattle.pm_rows.proofs.Wants.{HasAll, wanted_able}
use Rattle.pm_rows.proofs.laws.rows_stay_sound.Goals as goal

pub returns-clause-load : goal.returns-clause-load
returns-clause-load c masters slaves boot room seeds distinct each =
    load_sound masters slaves boot room seeds distinct (recursion_from_All (IsLoadable masters boot) seeds each)

pub returns-clause-change : goal.returns-clause-change
returns-clause-change c = change_keeps

pub returns-clause-shift : goal.returns-clause-shift
returns-clause-shift c = shift_keeps

pub returns-clause-settle : goal.returns-clause-settle
returns-clause-settle c = settle_keeps

pub returns-clause-drop_slave : goal.returns-clause-drop_slave
returns-clause-drop_slave c = drop_keeps

pub returns-clause-clear : goal.returns-clause-clear
returns-clause-clear c = clear_keeps

pub returns-clause-remade : goal.returns-clause-remade
returns-clause-remade c seeds rows right =
    remade_sound seeds rows right.once (recursion_from_All (IsRemadeRight rows.known) seeds right.each) right.one_taker

pub returns-clause-there : goal.returns-clause-there
returns-clause-there c = there_exactly

pub returns-clause-wanted : goal.returns-clause-wanted
returns-clause-wanted c permitted rows s all sound have =
    wanted_able permitted rows s all sound (recursion_from_All (HasAll all s) permitted have)
