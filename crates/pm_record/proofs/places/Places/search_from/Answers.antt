use Rattle.std.proofs.Common.{◌≡◌, ◌<◌, ◌≤◌, ℕ, slice_get, subst, sym, ap, ◌∙◌}
use Rattle.std.specs.Prelude.{unwrap_or}
use Rattle.pm_base.specs.BoundedList.{Bounded}
use Rattle.pm_record.specs.Places.{RiseWithin}
use Rattle.pm_record.proofs.PlacesLemmas.{next_at}
use Rattle.pm_record.proofs.places.Places.search_from.Goals as goal

pub returns-in-Err-clause-end : goal.returns-in-Err-clause-end
returns-in-Err-clause-end c =
    let P : Bounded ℕ → Type 0 = λ places. RiseWithin 0 places.room places.items in
    let next = next_at c.args.self.now.room c.args.self.now.items c.args.from c.in-Err.i c.requires (subst P c.self.view_is c.self.invariant.rise) c.in-Err.ensures in
    let room : c.self.inside.end ≡ c.args.self.now.room = ap (λ (places : Bounded ℕ). places.room) c.self.view_is in
    let is : c.unwrap_or.result ≡ unwrap_or (slice_get c.args.self.now.items c.in-Err.i) c.args.self.now.room = c.unwrap_or.ensures ∙ (ap (λ found. unwrap_or found c.self.inside.end) c.get.ensures ∙ ap (unwrap_or (slice_get c.args.self.now.items c.in-Err.i)) room) in
    subst (λ n. n ≤ c.args.self.now.room) (sym is) next.within

pub returns-in-Err-clause-none : goal.returns-in-Err-clause-none
returns-in-Err-clause-none c =
    let P : Bounded ℕ → Type 0 = λ places. RiseWithin 0 places.room places.items in
    let next = next_at c.args.self.now.room c.args.self.now.items c.args.from c.in-Err.i c.requires (subst P c.self.view_is c.self.invariant.rise) c.in-Err.ensures in
    let room : c.self.inside.end ≡ c.args.self.now.room = ap (λ (places : Bounded ℕ). places.room) c.self.view_is in
    let is : c.unwrap_or.result ≡ unwrap_or (slice_get c.args.self.now.items c.in-Err.i) c.args.self.now.room = c.unwrap_or.ensures ∙ (ap (λ found. unwrap_or found c.self.inside.end) c.get.ensures ∙ ap (unwrap_or (slice_get c.args.self.now.items c.in-Err.i)) room) in
    λ k after before. next.none k after (subst (λ n. k < n) is before)
