use Rattle.std.proofs.Common.{◌≡◌, not, [], None, sym, ◌∙◌, ap}
use Rattle.pm_state.specs.Talk.{talked}
use Rattle.pm_tell.specs.declared.telling.Telling.{Telling}
use Rattle.pm_tell.specs.Opening.{forgets_from, talk_of}
use Rattle.pm_tell.specs.Served.{says_in}
use Rattle.pm_tell.specs.Telling.{IsFresh, opening_in, turns_in, with_news}
use Rattle.pm_tell.proofs.StillLaw.{none_ends, none_forget, none_is}
use Rattle.pm_tell.proofs.talk.open_step.Goals as goal

-- no processor moves, nothing is said, and no time passes
fresh : (c : goal.After-clear_news) → IsFresh c.args.tables.now c.args.telling.now
fresh c = c.requires.fresh c.if-not-telling.true

silent : (c : goal.After-clear_news) → says_in c.args.served.now ≡ None
silent c = sym c.says_in-says.ensures ∙ none_is c.says_in-says.result (c.is_none.ensures ∙ ap not c.if-is_none.true)

timeless : (c : goal.After-clear_news) → c.args.count ≡ None
timeless c = none_is c.args.count (c.is_none-then-is_none.ensures ∙ ap not c.if-is_none-2.true)

pub returns-then-is_none-2-clause-news : goal.returns-then-is_none-2-clause-news
returns-then-is_none-2-clause-news c =
    let book = c.args.tables.now in
    let before = c.args.telling.now in
    c.clear_news.ensures
    ∙ (ap (λ ended. record before { asks = None; ended = record before.ended { items = ended } }) (sym (none_ends book before (fresh c)))
    ∙ (ap (λ count. with_news None count book before) (sym (timeless c))
    ∙ ap (λ says. with_news says c.args.count book before) (sym (silent c))))

pub returns-then-is_none-2-clause-book : goal.returns-then-is_none-2-clause-book
returns-then-is_none-2-clause-book c =
    let book = c.args.tables.now in
    let before = c.args.telling.now in
    let none : opening_in c.clear_news.new.self (says_in c.args.served.now) c.args.count book ≡ [] =
    ap (λ (t : Telling). opening_in t (says_in c.args.served.now) c.args.count book) c.clear_news.ensures
    ∙ (ap (λ says. talk_of says (forgets_from (turns_in before) 0 book.fixed.object.masters) c.args.count []) (silent c)
    ∙ (ap (λ forgets. talk_of None forgets c.args.count []) (none_forget book before (fresh c))
    ∙ ap (λ count. talk_of None [] count []) (timeless c)))
    in
    ap (λ first. talked first book) (sym none)
