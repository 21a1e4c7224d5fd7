use Rattle.std.proofs.Common.{◌≡◌, ℕ, ◌==◌, true, List, [], length, arith, ap, subst, sym, ◌∙◌}
use Rattle.std.specs.Prelude.{flat_map}
use Rattle.std.proofs.lemmas.Bool.Decides.{nat_tests}
use Rattle.std.proofs.lemmas.List.{nil_from_length}
use Rattle.pm_notify.specs.declared.notes.Waiting.{Waiting}
use Rattle.pm_notify.specs.Notify.{NoneAsks, notes_for}
use Rattle.pm_tell.specs.Callbacks.{noticed_by}
use Rattle.pm_tell.proofs.QuietLaw.{none_noticed}
use Rattle.pm_tell.proofs.telling.Telling.has_no_notice.Goals as goal

is_same : (a b : ℕ) → (a == b) ≡ true → a ≡ b
is_same a b is = grind (arith, nat_tests)

empty : (xs : List Waiting) → (length xs == 0) ≡ true → xs ≡ []
empty xs is = nil_from_length xs (is_same (length xs) 0 is)

pub returns-then-may_ask : goal.returns-then-may_ask
returns-then-may_ask c = λ is k.
    ap (flat_map (noticed_by (notes_for k c.args.tables.now.now.talk.notes)))
    (sym c.notices.ensures ∙ empty c.notices.result.now (sym c.is_empty.ensures ∙ is))

pub returns-else-may_ask : goal.returns-else-may_ask
returns-else-may_ask c = λ is k.
    none_noticed c.args.tables.now.now.talk.notes (subst NoneAsks c.notify.ensures (c.may_ask.ensures c.if-may_ask.false)) k c.args.self.now.notices.items
