use Rattle.std.proofs.Common.{◌≡◌, [], ◌∷◌, refl, sym, ◌∙◌, ap, subst, Bool}
use Rattle.pm_state.specs.declared.scope.Scope.TheVariants.{Own}
use Rattle.pm_values.specs.Along.{Completes}
use Rattle.pm_state.specs.Changes.{written_along}
use Rattle.pm_state.specs.Prims.{Prim, changed}
use Rattle.pm_state.specs.Scope.{offs}
use Rattle.pm_state.specs.Stages.{after_stage, followed, path_from}
use Rattle.pm_state.specs.State.{Fixed, State}
use Rattle.pm_state.specs.Members.{first_own}
use Rattle.pm_calls.specs.calls.SystemShutdown.{own_stages, starting}
use Rattle.pm_values.proofs.AlongLaw.{next_places, once_trailed}
use Rattle.pm_calls.proofs.BetweenLaw.{between_trailed, between_still}
use Rattle.pm_calls.proofs.StagesWritten.{once_written, stage_writes, twice_written}
use Rattle.pm_calls.proofs.calls.system_shutdown.shut_own.Goals as goal

pub log_between-requires : goal.log_between-requires
log_between-requires c =
    let mid : c.follow.new.self ≡ after_stage (offs c.args.tables.now.fixed (Own c.args.m)) c.args.tables.now =
    c.follow.ensures.book ∙ ap followed c.take_off.ensures.book
    in
    next_places c.args.tables.now c.follow.new.self c.args.along.now c.requires.along (ap (λ (b : State). b.fixed) mid)

pub returns-then-restarts-clause-along : goal.returns-then-restarts-clause-along
returns-then-restarts-clause-along c =
    let book = c.args.tables.now in
    let m = c.args.m in
    let first = offs book.fixed (Own m) in
    let later = starting m (first_own book.fixed m) in
    let new = c.follow-then-restarts.new.self in
    let mid : c.follow.new.self ≡ after_stage first book = c.follow.ensures.book ∙ ap followed c.take_off.ensures.book in
    let P : Bool → Type 0 = λ restarts. Completes book (path_from (own_stages book.fixed m restarts) book) new c.log_between.new.along in
    subst P (sym c.if-restarts.true)
    (between_trailed first later book c.follow.new.self new
    c.args.changes.now c.follow.new.changes c.args.along.now c.log_between.new.along mid
    (stage_writes first book c.take_off.new.self c.args.changes.now c.take_off.new.changes c.follow.new.changes
    c.take_off.ensures.book c.take_off.ensures.written c.follow.ensures.written)
    c.requires.places c.requires.along c.log_between.ensures
    (c.follow-then-restarts.ensures.book
    ∙ (ap followed c.start_own.ensures.book ∙ ap (λ (b : State). followed (changed (starting m (first_own b.fixed m)) b)) mid)))

pub returns-then-restarts-clause-still : goal.returns-then-restarts-clause-still
returns-then-restarts-clause-still c = λ none.
    let later = starting c.args.m (first_own c.follow.new.self.fixed c.args.m) in
    between_still later c.follow.new.self c.follow.new.changes c.follow-then-restarts.new.changes
    c.args.along.now c.log_between.new.along
    (stage_writes later c.follow.new.self c.start_own.new.tables
    c.follow.new.changes c.start_own.new.changes c.follow-then-restarts.new.changes
    c.start_own.ensures.book c.start_own.ensures.written c.follow-then-restarts.ensures.written) c.log_between.ensures none

pub returns-else-restarts-clause-along : goal.returns-else-restarts-clause-along
returns-else-restarts-clause-along c =
    let book = c.args.tables.now in
    let m = c.args.m in
    let first = offs book.fixed (Own m) in
    let mid : c.follow.new.self ≡ after_stage first book = c.follow.ensures.book ∙ ap followed c.take_off.ensures.book in
    let P : Bool → Type 0 = λ restarts. Completes book (path_from (own_stages book.fixed m restarts) book) c.follow.new.self c.args.along.now in
    subst P (sym c.if-restarts.false)
    (once_trailed (first ∷ []) book c.follow.new.self c.args.along.now refl c.requires.along mid)

pub returns-then-restarts-clause-written : goal.returns-then-restarts-clause-written
returns-then-restarts-clause-written c =
    let book = c.args.tables.now in
    let m = c.args.m in
    let new = c.follow-then-restarts.new.changes in
    let P : Bool → Type 0 = λ restarts. new ≡ written_along (own_stages book.fixed m restarts) book c.args.changes.now in
    subst P (sym c.if-restarts.true)
    (twice_written (offs book.fixed (Own m)) (λ (fixed : Fixed). starting m (first_own fixed m))
    book c.take_off.new.self c.follow.new.self c.start_own.new.tables
    c.args.changes.now c.take_off.new.changes c.follow.new.changes c.start_own.new.changes new
    c.take_off.ensures.book c.take_off.ensures.written c.follow.ensures.book c.follow.ensures.written
    c.start_own.ensures.book c.start_own.ensures.written c.follow-then-restarts.ensures.written)

pub returns-else-restarts-clause-written : goal.returns-else-restarts-clause-written
returns-else-restarts-clause-written c =
    let book = c.args.tables.now in
    let m = c.args.m in
    let new = c.follow.new.changes in
    let P : Bool → Type 0 = λ restarts. new ≡ written_along (own_stages book.fixed m restarts) book c.args.changes.now in
    subst P (sym c.if-restarts.false)
    (once_written (offs book.fixed (Own m)) book c.take_off.new.self
    c.args.changes.now c.take_off.new.changes new
    c.take_off.ensures.book c.take_off.ensures.written c.follow.ensures.written)
