use Rattle.std.proofs.Common.{◌≡◌, ℕ, ◌+◌, ◌++◌, ◌<◌, ◌≤◌, List, length, drop, sym, ◌∙◌, ap, append_assoc, arith}
use Rattle.std.proofs.lemmas.List.{length-append}
use Rattle.pm_procs.specs.Pending.{pending_at}
use Rattle.pm_tell.specs.declared.ended.Ended.{Ended}
use Rattle.pm_tell.specs.declared.telling.Telling.{Telling}
use Rattle.pm_values.specs.declared.turns.Turns.{Turns}
use Rattle.pm_tell.specs.Ended.{ended_at, ended_from}
use Rattle.pm_values.specs.Along.{Trail, turns_logged}
use Rattle.pm_tell.specs.Telling.{turns_in}
use Rattle.pm_calls.specs.Verdict.{aborted_by, asked_by}
use Rattle.pm_tell.proofs.EndedLemmas.{ended_few, ended_step}
use Rattle.pm_tell.proofs.telling.Telling.log_ended.Goals as goal

pub loop-m-preserved : goal.loop-m-preserved
loop-m-preserved c =
    let after = c.args.tables.now in
    let pending = after.now.talk.pending in
    let m = c.loop-m.m in
    let old = c.args.self.now in
    let turns : ℕ → Turns = turns_in old in
    let aborts = aborted_by c.args.says in
    let count = c.args.count in
    let put : List Ended → Telling = λ es. record old { asks = asked_by c.args.says; ended = record old.ended { items = es } } in
    let within : m < length pending = omega (arith, c.requires.each, c.masters-m-end.ensures, c.loop-m-test.true) in
    let end = ended_at (turns m) aborts count m (pending_at m pending) in
    let put_at : _ → Telling = λ es. record c.loop-m.self { ended = record c.loop-m.self.ended { items = c.loop-m.self.ended.items ++ es } } in
    let logged : c.log_end.new.self ≡ put (c.loop-m.self.ended.items ++ end) =
    c.log_end.ensures
    ∙ (ap (λ own. put_at (ended_at (turns_logged m c.loop-m.self.along.turns) own count m (pending_at m pending))) c.aborted_by-aborts.ensures
    ∙ (ap (λ (n : Trail). put_at (ended_at (turns_logged m n.turns) aborts count m (pending_at m pending))) (ap (λ (t : Telling). t.along) c.loop-m.invariant.news)
    ∙ ap (λ (t : Telling). record t { ended = record t.ended { items = c.loop-m.self.ended.items ++ end } }) c.loop-m.invariant.news))
    in
    let found : c.log_end.new.self.ended.items ≡ c.loop-m.self.ended.items ++ end = ap (λ (t : Telling). t.ended.items) logged in
    let few : length end ≤ 1 = ended_few (turns m) aborts count m (pending_at m pending) in
    let counted = ap length found ∙ length-append c.loop-m.self.ended.items end in
    record {
      news = logged ∙ ap put (sym found);
      few = omega (arith, counted, few, c.loop-m.invariant.few);
      ended =
          ap (λ es. es ++ ended_from turns aborts count (m + 1) (drop (m + 1) pending)) found
          ∙ (append_assoc c.loop-m.self.ended.items end (ended_from turns aborts count (m + 1) (drop (m + 1) pending))
          ∙ (ap (λ es. c.loop-m.self.ended.items ++ es) (sym (ended_step turns aborts count m pending within))
          ∙ c.loop-m.invariant.ended));
    }
