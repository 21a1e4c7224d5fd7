use Rattle.std.proofs.Common.{get_or, arith}
use Rattle.std.proofs.lemmas.List.{get_or_default}
use Rattle.pm_base.proofs.InPlace.{map_step}
use Rattle.pm_values.specs.Along.{forgotten, no_turns}
use Rattle.pm_values.proofs.along.forget.Goals as goal

pub loop-turn-preserved : goal.loop-turn-preserved
loop-turn-preserved c =
    let was = get_or c.loop-turn.turns c.loop-turn.turn-index no_turns in
    map_step forgotten c.args.turns.now c.loop-turn.turns c.loop-turn.turn-index was _ (omega arith)
    c.loop-turn.invariant
    (get_or_default c.loop-turn.turns c.loop-turn.turn-index no_turns was (omega arith))
    c.none.ensures
