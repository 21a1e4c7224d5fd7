use Rattle.std.proofs.Common.{◌≡◌, ◌+◌, length, drop, sym, ◌∙◌, ap, arith, inl}
use Rattle.std.proofs.lemmas.List.{length-take-le}
use Rattle.pm_reader.specs.Reader.{Held}
use Rattle.pm_reader.proofs.HeldLemmas.{feed_at, gave_by_feed}
use Rattle.pm_reader.proofs.reader.LineReader.give.Goals as goal

pub slice_bounds-put-end : goal.slice_bounds-put-end
slice_bounds-put-end c =
    let feed = feed_at c.args.self.now c.within-text.result.now c.front.result.now c.in-Some.at c.within-text.ensures c.front.ensures (sym c.first_feed.ensures ∙ c.in-Some.is) in
    sym (length-take-le c.in-Some.at c.within-text.result.now (omega (arith, feed.inside)))

pub put-requires-clause-room : goal.put-requires-clause-room
put-requires-clause-room c =
    let feed = feed_at c.args.self.now c.within-text.result.now c.front.result.now c.in-Some.at c.within-text.ensures c.front.ensures (sym c.first_feed.ensures ∙ c.in-Some.is) in
    let size = length-take-le c.in-Some.at c.within-text.result.now (omega (arith, feed.inside)) in
    omega (arith, size, feed.short)

pub overflow_add-at : goal.overflow_add-at
overflow_add-at c =
    let feed = feed_at c.args.self.now c.within-text.result.now c.front.result.now c.in-Some.at c.within-text.ensures c.front.ensures (sym c.first_feed.ensures ∙ c.in-Some.is) in
    omega (arith, feed.short)

pub consume-requires : goal.consume-requires
consume-requires c =
    let feed = feed_at c.args.self.now c.within-text.result.now c.front.result.now c.in-Some.at c.within-text.ensures c.front.ensures (sym c.first_feed.ensures ∙ c.in-Some.is) in
    let size : length c.self.inside.window ≡ length c.args.self.now.bytes = ap (λ (h : Held). length h.bytes) c.self.view_is in
    omega (arith, feed.fits, size)

pub returns-in-Some-clause-gives : goal.returns-in-Some-clause-gives
returns-in-Some-clause-gives c =
    let feed = feed_at c.args.self.now c.within-text.result.now c.front.result.now c.in-Some.at c.within-text.ensures c.front.ensures (sym c.first_feed.ensures ∙ c.in-Some.is) in
    inl (gave_by_feed c.args.self.now _ c.within-text.result.now c.put.new.line.items c.in-Some.at c.within-text.ensures feed.found c.put.ensures
    (c.consume.ensures ∙ ap (λ (h : Held). drop (c.in-Some.at + 1) h.bytes) c.self.view_is)
    (ap (λ (h : Held). h.credit) c.self.view_is)
    (ap (λ (h : Held). h.ended) c.self.view_is))
