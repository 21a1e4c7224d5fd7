use Rattle.std.proofs.Common.{◌∙◌, ap}
use Rattle.pm_state.specs.State.{State}
use Rattle.pm_tell.specs.Opening.{ends, forgets_from, lower_by, sweep_by, say_by}
use Rattle.pm_tell.specs.Served.{says_in}
use Rattle.pm_state.specs.Talk.{talked}
use Rattle.pm_tell.specs.Telling.{turns_in}
use Rattle.pm_tell.proofs.TalkLemmas.{opens}
use Rattle.pm_tell.proofs.opening.open.Goals as goal

pub returns : goal.returns
returns c =
    let book = c.args.tables.now in
    let telling = c.args.telling.now in
    let says = says_in c.args.served.now in
    opens (sweep_by says) (forgets_from (turns_in telling) 0 book.fixed.object.masters) (say_by says) (lower_by c.args.count) (ends telling.ended.items)
    book c.renew.new.tables c.forget.new.tables c.say.new.tables c.pass_time.new.tables c.end_requests.new.tables
    (c.renew.ensures ∙ ap (λ says. talked (sweep_by says) book) c.says_in.ensures)
    (c.forget.ensures ∙ ap (λ (b : State). talked (forgets_from (turns_in telling) 0 b.fixed.object.masters) c.renew.new.tables) c.renew.ensures)
    (c.say.ensures ∙ ap (λ says. talked (say_by says) c.forget.new.tables) c.says_in-2.ensures)
    c.pass_time.ensures
    (c.end_requests.ensures ∙ ap (λ es. talked (ends es) c.pass_time.new.tables) c.ended.ensures)
