-- Where nothing happened to a unit, nothing is written of it.
use Rattle.std.proofs.Common.{◌≡◌, ℕ, ◌==◌, Bool, true, false, not, if◌then◌else◌, List, [], ◌∷◌, drop, slice_get, Option, Some, None, refl, zero, suc, sym, ◌∙◌, ap}
use Rattle.std.proofs.lemmas.Bool.{eqb-true}
use Rattle.pm_base.proofs.Booleans.{both}
use Rattle.pm_base.specs.declared.names.Unit.{Unit}
use Rattle.pm_base.specs.declared.names.Unit.TheVariants.{Node, Line}
use Rattle.pm_topology.specs.UnitMap.{with_value_at}
use Rattle.pm_topology.specs.declared.places.Kind.TheVariants.{Proc, Slave, Power, Unknown}
use Rattle.pm_procs.specs.declared.procs.Proc.{Proc as Processor}
use Rattle.pm_values.specs.declared.caches.UnitKind.{UnitKind}
use Rattle.pm_values.specs.declared.caches.UnitKind.TheVariants.{Entry, Reset}
use Rattle.pm_values.specs.Caches.{is_settled, moved_at, noticed_at, started_at}
use Rattle.pm_values.specs.Kinds.{is_slave_or_line}
use Rattle.pm_values.specs.Notifications.{notes_about}
use Rattle.pm_values.proofs.MovesLemmas.{same_written}

pub record Settles (k value : ℕ) (freed : Bool) (es : List (Unit × ℕ)) : Type 0 where
  pub values : with_value_at k value es ≡ es
  pub moved : moved_at value (slice_get es k) ≡ []
  pub noticed : noticed_at value freed (slice_get es k) ≡ []

none_about : (u : Unit) → notes_about false false u ≡ []
none_about (Node node) = refl
none_about (Line line) = refl

not_so : (b : Bool) → not b ≡ true → b ≡ false
not_so true is = cc
not_so false is = refl

pub settles : (k value : ℕ) (freed : Bool) (es : List (Unit × ℕ)) (entry : Option (Unit × ℕ)) → slice_get es k ≡ entry → is_settled value freed entry ≡ true → Settles k value freed es
settles k value freed es None here is = cc
settles k value freed es (Some e) here is =
    let parts = both (e.1 == value) (not freed) is in
    let kept : freed ≡ false = not_so freed parts.1 in
    record {
      values = same_written k value es e here (eqb-true _ _ parts.0);
      moved = ap (moved_at value) here ∙ ap (λ b. if b then [] else e.0 ∷ []) parts.0;
      noticed = ap (noticed_at value freed) here
          ∙ (ap (λ b. notes_about (not b) freed e.0) parts.0 ∙ (ap (λ f. notes_about false f e.0) kept ∙ none_about e.0));
    }

-- the same by what was found of it
pub found_settled : (k value : ℕ) (freed found : Bool) (es : List (Unit × ℕ)) (entry : Option (Unit × ℕ)) → entry ≡ slice_get es k → found ≡ is_settled value freed entry → found ≡ true → Settles k value freed es
found_settled k value freed found es entry here is so = settles k value freed es entry (sym here) (sym is ∙ so)

-- ---- units that rest

get_drop : {X : Type 0} (xs : List X) (k : ℕ) → slice_get xs k ≡ slice_get (drop k xs) 0
get_drop xs zero = refl
get_drop [] (suc k) = refl
get_drop (x ∷ xs) (suc k) = get_drop xs k

-- what is left of two lists from a place on begins alike
pub same_ahead : {X : Type 0} (xs ys : List X) (k : ℕ) → drop k xs ≡ drop k ys → slice_get xs k ≡ slice_get ys k
same_ahead xs ys k same = get_drop xs k ∙ (ap (λ zs. slice_get zs 0) same ∙ sym (get_drop ys k))

-- a unit that may rest doesn't start
pub rest_starts : (downs : List Bool) (procs : List Processor) (kind : UnitKind) (entry : Option (Unit × ℕ)) → is_slave_or_line kind ≡ true → started_at downs procs kind entry ≡ []
rest_starts downs procs kind None is = refl
rest_starts downs procs (Entry (Slave s)) (Some e) is = refl
rest_starts downs procs (Entry (Proc p)) (Some e) is = cc
rest_starts downs procs (Entry (Power w)) (Some e) is = refl
rest_starts downs procs (Entry Unknown) (Some e) is = refl
rest_starts downs procs (Reset place) (Some e) is = refl
