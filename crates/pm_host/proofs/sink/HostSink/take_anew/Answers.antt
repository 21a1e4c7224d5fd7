use Rattle.std.proofs.Common.{◌≡◌, ℕ, ◌+◌, ◌≤◌, List, ◌++◌, ◌∙◌, ap, length, take, drop, arith, sym, refl}
use Rattle.std.proofs.lemmas.Grind.{common_steps}
use Rattle.pm_io.specs.Given.{given}
use Rattle.pm_host.specs.Gathering.{Gathering}
use Rattle.pm_host.proofs.GatheringLemmas.{accepts, accepts_all, given_then, room_put, shows, shows_both, shows_end, sound_put, sound_written}
use Rattle.pm_host.proofs.sink.HostSink.take_anew.Goals as goal

pub returns-in-Stalled-clause-shows : goal.returns-in-Stalled-clause-shows
returns-in-Stalled-clause-shows g c = shows _ _ c.args.self.now.out c.hand_on.new.self.out refl c.hand_on.ensures.hands

pub returns-in-Failed-clause-shows : goal.returns-in-Failed-clause-shows
returns-in-Failed-clause-shows g c = shows _ _ c.args.self.now.out c.hand_on.new.self.out refl c.hand_on.ensures.hands

pub returns-in_err-count-clause-shows : goal.returns-in_err-count-clause-shows
returns-in_err-count-clause-shows g c =
    shows_both _ _ _ c.args.self.now.out c.hand_on.new.self.out c.self.inside.out c.write.new.self refl (ap (λ (h : Gathering). h.out) c.self.view_is) c.hand_on.ensures.hands c.write.ensures.hands

pub invariant_of-self-then-piece-len : goal.invariant_of-self-then-piece-len
invariant_of-self-then-piece-len g c =
    let none = ap (λ (h : Gathering). h.pending) c.self.view_is ∙ c.hand_on.ensures.pending in
    let old : Gathering = record { out = c.self.inside.out; pending = take c.self.inside.gathered c.self.inside.room.items; accepted = given 0 c.self.inside.accepted.calls; before = c.self.inside.before; lost = c.self.inside.lost; faults = c.self.inside.faults; stalls = c.self.inside.stalls } in
    sound_written old c.write.new.self _ (take c.in_ok-count.count c.args.piece.now) c.self.invariant none c.in_ok-count.ensures.hands
    (given_then c.self.inside.accepted.calls c.then-self-inside.result.calls (take c.in_ok-count.count c.args.piece.now) c.then-self-inside.ensures)

pub returns-then-piece-len-clause-accepted : goal.returns-then-piece-len-clause-accepted
returns-then-piece-len-clause-accepted g c =
    accepts c.self.inside.accepted.calls c.then-self-inside.result.calls (take c.in_ok-count.count c.args.piece.now) c.args.self.now.accepted c.then-self-inside.ensures
    (ap (λ (h : Gathering). h.accepted) c.self.view_is ∙ c.hand_on.ensures.accepted)

pub returns-then-piece-len-clause-shows : goal.returns-then-piece-len-clause-shows
returns-then-piece-len-clause-shows g c =
    shows_both _ _ _ c.args.self.now.out c.hand_on.new.self.out c.self.inside.out c.write.new.self refl (ap (λ (h : Gathering). h.out) c.self.view_is) c.hand_on.ensures.hands c.write.ensures.hands

pub invariant_of-self-2 : goal.invariant_of-self-2
invariant_of-self-2 g c =
    let piece = c.args.piece.now in
    let room = c.put_behind.new.room in
    let items = c.self.inside.room.items in
    let none = ap (λ (h : Gathering). h.pending) c.self.view_is ∙ c.hand_on.ensures.pending in
    let old : Gathering = record { out = c.self.inside.out; pending = take c.self.inside.gathered items; accepted = given 0 c.self.inside.accepted.calls; before = c.self.inside.before; lost = c.self.inside.lost; faults = c.self.inside.faults; stalls = c.self.inside.stalls } in
    let within : length piece ≤ length room = grind (arith, common_steps) in
    let fits : length piece ≤ c.self.inside.room.len = grind (arith, common_steps) in
    let front : length piece ≡ 0 + length piece = omega arith in
    let pending : take (length piece) (take c.self.inside.room.len (room ++ drop (length room) items)) ≡ take c.self.inside.gathered items ++ piece =
    room_put (length piece) c.self.inside.room.len room items within fits ∙ (ap (λ (n : ℕ). take n room) front ∙ (c.put_behind.ensures ∙ ap (λ (xs : List ℕ). xs ++ piece) (sym none)))
    in
    let empty : length (take c.self.inside.gathered items) ≡ 0 = ap (λ (xs : List ℕ). length xs) none in
    sound_put old _ _ piece c.self.inside.before c.self.invariant (given_then c.self.inside.accepted.calls c.then-self-inside-2.result.calls piece c.then-self-inside-2.ensures) pending
    (λ kept. let due = c.self.invariant.due kept in omega (arith, due, empty))

pub returns-clause-accepted : goal.returns-clause-accepted
returns-clause-accepted g c =
    accepts_all c.self.inside.accepted.calls c.then-self-inside-2.result.calls c.args.piece.now c.args.self.now.accepted c.then-self-inside-2.ensures
    (ap (λ (h : Gathering). h.accepted) c.self.view_is ∙ c.hand_on.ensures.accepted)

pub returns-clause-shows : goal.returns-clause-shows
returns-clause-shows g c =
    shows_end _ _ c.args.self.now.out c.hand_on.new.self.out c.self.inside.out refl (ap (λ (h : Gathering). h.out) c.self.view_is) c.hand_on.ensures.hands
