use Rattle.std.proofs.Common.{◌≡◌, ◌⊎◌, ℕ, Bool, false, true, List, slice_get, refl, subst, sym, ◌∙◌, ap}
use Rattle.pm_state.specs.Changes.{is_in}
use Rattle.pm_state.specs.Values.{placed, chosen, need_of}
use Rattle.pm_values.specs.Behind.{is_as_kept, renewed_on}
use Rattle.pm_values.specs.declared.caches.UnitKind.{UnitKind}
use Rattle.pm_values.proofs.BringLaw.{chosen_same, found_anew, needed_same}
use Rattle.pm_values.proofs.CachesLaw.{written_back}
use Rattle.pm_values.proofs.FollowLaw.{followed_is}
use Rattle.pm_values.proofs.caches.Caches.choose_written.Goals as goal

pub returns-clause-chosen : goal.returns-clause-chosen
returns-clause-chosen c =
    let book = c.args.tables.now in
    let core = book.now.core in
    let slaves = book.fixed.topology.slaves in
    let behind = c.requires.behind in
    let before = behind.before in
    let kept = behind.kept in
    let w = c.args.changes.now in
    let inside = c.args.self.now in
    let anew = c.choose_on in
    let runs = c.follow_runs in
    let states : anew.new.states ≡ placed (chosen core) 0 slaves =
    anew.ensures.states
    ∙ (ap (λ (ps : List ℕ). renewed_on ps chosen book c.deref_mut.result.now) c.slaves.ensures
    ∙ found_anew chosen w book before c.deref_mut.result.now behind.places (c.deref_mut.ensures.value ∙ kept.states) (chosen_same w before core behind.keeps))
    in
    let needs : anew.new.needs ≡ placed (need_of core) 0 slaves =
    anew.ensures.needs
    ∙ (ap (λ (ps : List ℕ). renewed_on ps need_of book c.deref_mut-2.result.now) c.slaves.ensures
    ∙ found_anew need_of w book before c.deref_mut-2.result.now behind.places (c.deref_mut-2.ensures.value ∙ kept.needs) (needed_same w before core behind.keeps))
    in
    record {
      states = written_back anew.new.states inside.states.items inside.states.len (anew.auto.states ∙ c.deref_mut.ensures.len) ∙ states;
      needs = written_back anew.new.needs inside.needs.items inside.needs.len (anew.auto.needs ∙ c.deref_mut-2.ensures.len) ∙ needs;
      runs = written_back runs.new.runs inside.runs.items inside.runs.len (runs.auto.runs ∙ c.deref_mut-3.ensures.len) ∙ runs.ensures.runs;
      power = followed_is book.fixed before core inside.power anew.new.power runs.new.power
          c.deref_mut-2.result.now anew.new.needs c.deref_mut-3.result.now runs.new.runs
          kept.power (c.deref_mut-2.ensures.value ∙ kept.needs) (c.deref_mut-3.ensures.value ∙ kept.runs) anew.ensures.power runs.ensures.power
          needs runs.ensures.runs;
      kinds = anew.ensures.kinds;
      used = refl;
      values = refl;
    }

pub returns-clause-rests : goal.returns-clause-rests
returns-clause-rests c = λ k s there is.
    let list = c.args.changes.now.slaves.list in
    let Right : List ℕ → List ℕ → List Bool → Type 0 = λ ps ss us. (is_in s ps ≡ false) ⊎ (is_as_kept ss us s c.args.tables.now ≡ true) in
    let Places : List ℕ → Type 0 = λ ps. Right ps c.args.self.now.states.items c.args.self.now.used.items in
    let Kept : List Bool → Type 0 = λ us. Right c.slaves.result.now c.args.self.now.states.items us in
    let States : List ℕ → Type 0 = λ ss. Right c.slaves.result.now ss c.deref.result.now in
    subst Places c.slaves.ensures
    (subst Kept c.deref.ensures.value
    (subst States c.deref_mut.ensures.value
    (c.choose_on.ensures.rests k s (ap (λ (ks : List UnitKind). slice_get ks k) (sym c.choose_on.ensures.kinds) ∙ there) is)))
