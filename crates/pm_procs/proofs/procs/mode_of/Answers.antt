use Rattle.std.proofs.Common.{ℕ, refl, sym, ◌∙◌, true, false}
use Rattle.pm_base.specs.declared.names.Mode.{Mode}
use Rattle.pm_base.specs.declared.names.Mode.TheVariants.{Active, Asleep, Suspending}
use Rattle.pm_procs.specs.Procs.{mode_at}
use Rattle.pm_procs.proofs.ModeLemmas.{has_by}
use Rattle.pm_procs.proofs.procs.mode_of.Goals as goal

pub returns-then-one_has_mode : goal.returns-then-one_has_mode
returns-then-one_has_mode c =
    let is = has_by Active (λ p. mode_at p c.args.procs.now) c.args.places.now true (sym c.one_has_mode.ensures ∙ c.if-one_has_mode.true) in
    rw is refl

pub returns-then-one_has_mode-2 : goal.returns-then-one_has_mode-2
returns-then-one_has_mode-2 c =
    let mode_of : ℕ → Mode = λ p. mode_at p c.args.procs.now in
    let first = has_by Active mode_of c.args.places.now false (sym c.one_has_mode.ensures ∙ c.if-one_has_mode.false) in
    let second = has_by Suspending mode_of c.args.places.now true (sym c.one_has_mode-else-one_has_mode.ensures ∙ c.if-one_has_mode-2.true) in
    rw (first, second) refl

pub returns-then-one_has_mode-3 : goal.returns-then-one_has_mode-3
returns-then-one_has_mode-3 c =
    let mode_of : ℕ → Mode = λ p. mode_at p c.args.procs.now in
    let first = has_by Active mode_of c.args.places.now false (sym c.one_has_mode.ensures ∙ c.if-one_has_mode.false) in
    let second = has_by Suspending mode_of c.args.places.now false (sym c.one_has_mode-else-one_has_mode.ensures ∙ c.if-one_has_mode-2.false) in
    let third = has_by Asleep mode_of c.args.places.now true (sym c.one_has_mode-else-one_has_mode-2.ensures ∙ c.if-one_has_mode-3.true) in
    rw (first, second, third) refl

pub returns-else-one_has_mode-3 : goal.returns-else-one_has_mode-3
returns-else-one_has_mode-3 c =
    let mode_of : ℕ → Mode = λ p. mode_at p c.args.procs.now in
    let first = has_by Active mode_of c.args.places.now false (sym c.one_has_mode.ensures ∙ c.if-one_has_mode.false) in
    let second = has_by Suspending mode_of c.args.places.now false (sym c.one_has_mode-else-one_has_mode.ensures ∙ c.if-one_has_mode-2.false) in
    let third = has_by Asleep mode_of c.args.places.now false (sym c.one_has_mode-else-one_has_mode-2.ensures ∙ c.if-one_has_mode-3.false) in
    rw (first, second, third) refl
