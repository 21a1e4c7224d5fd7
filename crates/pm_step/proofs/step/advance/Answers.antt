use Rattle.std.proofs.Common.{◌≡◌, ℕ, ◌==◌, Bool, true, false, not, List, [], length, refl, sym, ◌∙◌, ap, subst, arith}
use Rattle.std.proofs.lemmas.Bool.{eqb-true}
use Rattle.std.proofs.lemmas.List.{nil_from_length}
use Rattle.pm_step.specs.Step.{stages}
use Rattle.pm_state.specs.Changes.{Written, written_along}
use Rattle.pm_state.specs.Prims.{Prim}
use Rattle.pm_state.specs.State.{Fixed, State}
use Rattle.pm_state.specs.Units.{units}
use Rattle.pm_values.specs.Along.{HasPlaces as HasTrail, Trail}
use Rattle.pm_values.proofs.AlongLaw.{trailed_places}
use Rattle.pm_calls.proofs.StaysLaw.{LeavesProcs, none_written, stays_fresh, stays_logged}
use Rattle.pm_step.proofs.step.advance.Goals as goal

-- the places of the trail stay while it is logged
pub log-requires : goal.log-requires
log-requires c =
    let Q : Fixed → Type 0 = λ f. HasTrail (length f.object.masters) (length f.topology.procs) c.take.new.along in
    subst Q (sym (ap (λ (b : State). b.fixed) c.take.ensures.book)) c.take.ensures.along.places

pub returns-then-telling-clause-places : goal.returns-then-telling-clause-places
returns-then-telling-clause-places c =
    let old = c.args.tables.now in
    let mid = c.take.new.tables in
    let count : length mid.fixed.object.masters ≡ length old.fixed.object.masters = ap (λ (b : State). length b.fixed.object.masters) c.take.ensures.book in
    let all : length (units mid) ≡ length (units old) = ap (λ (b : State). length (units b)) c.take.ensures.book in
    let Q : Trail → Type 0 = λ n. HasTrail (length mid.fixed.object.masters) (length mid.fixed.topology.procs) n in
    record {
      modes = c.requires.places.modes ∙ sym count;
      along = subst Q (sym c.log.ensures) (trailed_places mid c.take.new.along);
      ended = omega (arith, count, c.requires.places.ended);
      notices = omega (arith, all, c.requires.places.notices);
    }

-- ---- no processor is written down

none_of : (xs : List ℕ) (empty : Bool) → empty ≡ (length xs == 0) → not empty ≡ false → xs ≡ []
none_of xs true is none = nil_from_length xs (eqb-true (length xs) 0 (sym is))
none_of xs false is none = cc

leaves_by : (steps : List (List Prim)) (book : State) (before after : Written) → before.procs.count ≡ length book.now.core.procs → after ≡ written_along steps book before → after.procs.list ≡ [] → LeavesProcs book steps
leaves_by steps book before after each is none =
    none_written steps book before each (sym (ap (λ (w : Written). w.procs.list) is) ∙ none)

pub returns-else-telling-clause-along : goal.returns-else-telling-clause-along
returns-else-telling-clause-along c =
    let old = c.args.tables.now in
    let steps = stages c.args.event.now old in
    let none : c.take.new.changes.procs.list ≡ [] =
    none_of c.take.new.changes.procs.list c.is_empty.result (c.is_empty.ensures ∙ ap (λ xs. length xs == 0) c.procs.ensures) c.if-telling.false
    in
    let leaves = leaves_by steps old c.args.changes.now c.take.new.changes c.requires.procs c.take.ensures.written none in
    stays_logged steps old c.take.new.along leaves (c.take.ensures.still none ∙ c.requires.fresh.along)

pub returns-else-telling-clause-fresh : goal.returns-else-telling-clause-fresh
returns-else-telling-clause-fresh c =
    let old = c.args.tables.now in
    let steps = stages c.args.event.now old in
    let none : c.take.new.changes.procs.list ≡ [] =
    none_of c.take.new.changes.procs.list c.is_empty.result (c.is_empty.ensures ∙ ap (λ xs. length xs == 0) c.procs.ensures) c.if-telling.false
    in
    let leaves = leaves_by steps old c.args.changes.now c.take.new.changes c.requires.procs c.take.ensures.written none in
    let same = stays_fresh steps old c.take.new.tables leaves c.take.ensures.book in
    λ still. record {
      modes = c.requires.fresh.modes ∙ sym (ap (λ (t : Trail). t.modes) same);
      along = c.take.ensures.still none ∙ (c.requires.fresh.along ∙ sym same);
    }
