use Rattle.std.proofs.Common.{◌≡◌, ◌≤◌, ℕ, List, Option, Some, ◌+◌, ◌∙◌, ap, sym, subst, arith, drop, length, take}
use Rattle.std.proofs.lemmas.Grind.{common_steps}
use Rattle.std.specs.Prelude.{⊤}
use Rattle.pm_io.specs.Inputs.{Took}
use Rattle.pm_io.specs.OneInput.{OneContent, moment_of}
use Rattle.pm_io.proofs.OneInputLemmas.{one_taken}
use Rattle.pm_io.proofs.one_input.OneInput.take_next.Goals as goal

pub returns-clause-taken : goal.returns-clause-taken
returns-clause-taken c =
    let place = c.in-Some.place in
    let count = c.copy_from-count.result in
    let bytes = c.self.inside.content.items in
    let held : OneContent = record { bytes = bytes; place = c.self.inside.place; calls = c.self.inside.log.calls } in
    let shown : c.as_slice.result.now ≡ bytes = c.as_slice.ensures.value in
    let front : take count c.copy_from-count.new.buf ≡ take count (drop place bytes) = c.copy_from-count.ensures.front ∙ ap (λ (l : List ℕ). take count (drop place l)) shown in
    let few : count ≤ length (drop place bytes) = subst (λ (l : List ℕ). count ≤ length (drop place l)) shown (let is = c.copy_from-count.ensures.count in grind arith) in
    subst (λ (s : OneContent). Took ⊤ c.args.id (take count c.copy_from-count.new.buf) (moment_of s) (moment_of (record held { place = Some (place + count) }))) c.self.view_is
    (one_taken c.args.id place count (take count c.copy_from-count.new.buf) held (sym c.in-Some.ensures) few front)
