use Rattle.std.proofs.Common.{◌≡◌, ◌⊎◌, true, false, ap, subst, sym, ◌∙◌, inl, inr, arith}
use Rattle.pm_host.specs.Gathering.{Gathering, IsSound}
use Rattle.pm_host.specs.declared.writer.Handed.TheVariants.{All}
use Rattle.pm_host.proofs.sink.HostSink.finish.Goals as goal

pub returns-then-was_lost-clause-cause : goal.returns-then-was_lost-clause-cause
returns-then-was_lost-clause-cause g c =
    let sound : IsSound c.args.self.now = subst IsSound c.self.view_is c.self.invariant in
    let lost : c.args.self.now.lost ≡ true = sym (ap (λ (h : Gathering). h.lost) c.self.view_is) ∙ c.if-was_lost.true in
    λ _. inr (c.hand_on-count.ensures.hands.still (sound.broke (inl lost)))

pub returns-then-count-before-clause-cause : goal.returns-then-count-before-clause-cause
returns-then-count-before-clause-cause g c = λ _. inr (by c.hand_on-count.ensures.broke)
  where
    by : (c.hand_on-count.result.1 ≡ All) ⊎ (c.hand_on-count.new.self.out.broken ≡ true) → c.hand_on-count.new.self.out.broken ≡ true
    by (inl all) =
        let sound : IsSound c.args.self.now = subst IsSound c.self.view_is c.self.invariant in
        let kept : c.args.self.now.lost ≡ false = sym (ap (λ (h : Gathering). h.lost) c.self.view_is) ∙ c.if-was_lost.false in
        let whole = c.hand_on-count.ensures.all all in
        let due = sound.due kept in
        let before = ap (λ (h : Gathering). h.before) c.self.view_is in
        absurd (omega (arith, whole, due, before, c.if-count-before.true))
    by (inr broken) = broken
