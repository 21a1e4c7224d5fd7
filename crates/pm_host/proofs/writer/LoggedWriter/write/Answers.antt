use Rattle.std.proofs.Common.{◌≡◌, ◌⊎◌, ℕ, [], true, ap, subst, take, Some, None, inl, inr}
use Rattle.pm_host.specs.Written.{Hands, Written, is_broken, written_of}
use Rattle.pm_host.proofs.WrittenLemmas.{stuck_breaks, stuck_hands, took_breaks, took_hands}
use Rattle.pm_host.proofs.writer.LoggedWriter.write.Goals as goal

pub returns-in-Ok-clause-hands : goal.returns-in-Ok-clause-hands
returns-in-Ok-clause-hands g c =
    let later = written_of c.then-self-inside.result.calls (g.W.Write.contents c.write.new.self) in
    subst (λ (w : Written). Hands (take c.in-Ok.count c.args.piece.now) w later) c.self.view_is
    (took_hands c.self.inside.writes.calls c.then-self-inside.result.calls (take c.in-Ok.count c.args.piece.now) (g.W.Write.contents c.self.inside.writer) (g.W.Write.contents c.write.new.self) c.then-self-inside.ensures c.in-Ok.ensures.bytes)

pub returns-in-Ok-clause-broke : goal.returns-in-Ok-clause-broke
returns-in-Ok-clause-broke g c = by_count
  where
    empty : (count : ℕ) → Some count ≡ Some 0 → take count c.args.piece.now ≡ []
    empty count is = ap (λ (n : ℕ). take n c.args.piece.now) (let zero : count ≡ 0 = cc in zero)

    by_count : (Some c.in-Ok.count ≡ None) ⊎ (Some c.in-Ok.count ≡ Some 0) → is_broken c.then-self-inside.result.calls ≡ true
    by_count (inl none) = cc
    by_count (inr is) = took_breaks c.self.inside.writes.calls c.then-self-inside.result.calls (take c.in-Ok.count c.args.piece.now) c.then-self-inside.ensures (empty c.in-Ok.count is)

pub returns-in-Err-clause-hands : goal.returns-in-Err-clause-hands
returns-in-Err-clause-hands g c =
    let later = written_of c.then-self-inside-in-Err.result.calls (g.W.Write.contents c.write.new.self) in
    subst (λ (w : Written). Hands [] w later) c.self.view_is
    (stuck_hands c.self.inside.writes.calls c.then-self-inside-in-Err.result.calls (g.W.Write.contents c.self.inside.writer) (g.W.Write.contents c.write.new.self) c.then-self-inside-in-Err.ensures c.in-Err.ensures.bytes)

pub returns-in-Err-clause-broke : goal.returns-in-Err-clause-broke
returns-in-Err-clause-broke g c = λ _. stuck_breaks c.self.inside.writes.calls c.then-self-inside-in-Err.result.calls c.then-self-inside-in-Err.ensures
