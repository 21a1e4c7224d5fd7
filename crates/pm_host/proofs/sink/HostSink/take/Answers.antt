use Rattle.std.proofs.Common.{◌≡◌, ℕ, ◌+◌, ◌≤◌, List, ◌++◌, ◌∙◌, ap, length, take, arith}
use Rattle.std.proofs.lemmas.Grind.{common_steps}
use Rattle.std.proofs.lemmas.List.{length-append, length-take-le}
use Rattle.pm_io.specs.Given.{given}
use Rattle.pm_host.specs.Gathering.{Gathering}
use Rattle.pm_host.proofs.GatheringLemmas.{accepts_all, given_then, room_put, sound_put}
use Rattle.pm_host.proofs.sink.HostSink.take.Goals as goal

pub invariant_of-self : goal.invariant_of-self
invariant_of-self g c =
    let piece = c.args.piece.now in
    let from = c.self.inside.gathered in
    let room = c.put_behind.new.room in
    let items = c.self.inside.room.items in
    let old : Gathering = record { out = c.self.inside.out; pending = take from items; accepted = given 0 c.self.inside.accepted.calls; before = c.self.inside.before; lost = c.self.inside.lost; faults = c.self.inside.faults; stalls = c.self.inside.stalls } in
    let within : from + length piece ≤ length room = grind (arith, common_steps) in
    let fits : from + length piece ≤ c.self.inside.room.len = grind (arith, common_steps) in
    let held : from ≤ length items = grind (arith, common_steps) in
    let front : take from c.as_mut_slice.result.now ≡ take from items = grind (arith, common_steps) in
    let pending = room_put (from + length piece) c.self.inside.room.len room items within fits ∙ (c.put_behind.ensures ∙ ap (λ (xs : List ℕ). xs ++ piece) front) in
    let size : length (take from items ++ piece) ≡ from + length piece = omega (arith, length-append (take from items) piece, length-take-le from items held) in
    sound_put old _ _ piece from c.self.invariant (given_then c.self.inside.accepted.calls c.then-self-inside.result.calls piece c.then-self-inside.ensures) pending
    (λ kept. omega (arith, ap length pending, size))

pub returns-clause-accepted : goal.returns-clause-accepted
returns-clause-accepted g c =
    accepts_all c.self.inside.accepted.calls c.then-self-inside.result.calls c.args.piece.now c.args.self.now.accepted c.then-self-inside.ensures (ap (λ (h : Gathering). h.accepted) c.self.view_is)
