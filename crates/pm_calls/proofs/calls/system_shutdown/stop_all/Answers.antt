use Rattle.std.proofs.Common.{◌≡◌, List, [], ◌∷◌, ◌∙◌, ap}
use Rattle.pm_state.specs.declared.scope.Scope.TheVariants.{All}
use Rattle.pm_state.specs.Prims.{Prim, Halt, changed}
use Rattle.pm_state.specs.Scope.{offs}
use Rattle.pm_state.specs.Stages.{after_stage, followed}
use Rattle.pm_state.specs.State.{Fixed, State}
use Rattle.pm_values.proofs.AlongLaw.{next_places}
use Rattle.pm_calls.proofs.BetweenLaw.{between_trailed, between_still}
use Rattle.pm_calls.proofs.StagesWritten.{stage_writes, twice_written}
use Rattle.pm_calls.proofs.calls.system_shutdown.stop_all.Goals as goal

pub log_between-requires : goal.log_between-requires
log_between-requires c =
    let mid : c.follow.new.self ≡ after_stage (offs c.args.tables.now.fixed All) c.args.tables.now =
    c.follow.ensures.book ∙ ap followed c.take_off.ensures.book
    in
    next_places c.args.tables.now c.follow.new.self c.args.along.now c.requires.along (ap (λ (b : State). b.fixed) mid)

pub returns-clause-along : goal.returns-clause-along
returns-clause-along c =
    let book = c.args.tables.now in
    let first = offs book.fixed All in
    let later : List Prim = Halt ∷ [] in
    let mid : c.follow.new.self ≡ after_stage first book = c.follow.ensures.book ∙ ap followed c.take_off.ensures.book in
    between_trailed first later book c.follow.new.self c.follow-2.new.self
    c.args.changes.now c.follow.new.changes c.args.along.now c.log_between.new.along mid
    (stage_writes first book c.take_off.new.self c.args.changes.now c.take_off.new.changes c.follow.new.changes
    c.take_off.ensures.book c.take_off.ensures.written c.follow.ensures.written)
    c.requires.places c.requires.along c.log_between.ensures
    (c.follow-2.ensures.book ∙ (ap followed c.halt.ensures.book ∙ ap (λ (b : State). followed (changed later b)) mid))

pub returns-clause-still : goal.returns-clause-still
returns-clause-still c = λ none.
    let later : List Prim = Halt ∷ [] in
    between_still later c.follow.new.self c.follow.new.changes c.follow-2.new.changes
    c.args.along.now c.log_between.new.along
    (stage_writes later c.follow.new.self c.halt.new.self
    c.follow.new.changes c.halt.new.changes c.follow-2.new.changes
    c.halt.ensures.book c.halt.ensures.written c.follow-2.ensures.written) c.log_between.ensures none

pub returns-clause-written : goal.returns-clause-written
returns-clause-written c =
    let book = c.args.tables.now in
    twice_written (offs book.fixed All) (λ (fixed : Fixed). Halt ∷ [])
    book c.take_off.new.self c.follow.new.self c.halt.new.self
    c.args.changes.now c.take_off.new.changes c.follow.new.changes c.halt.new.changes c.follow-2.new.changes
    c.take_off.ensures.book c.take_off.ensures.written c.follow.ensures.book c.follow.ensures.written
    c.halt.ensures.book c.halt.ensures.written c.follow-2.ensures.written
