-- The units that are no slave and no reset line, and whether they rest.
use Rattle.std.proofs.Common.{◌≡◌, ℕ, ◌+◌, ◌<◌, ◌==◌, ◌&&◌, Bool, true, false, not, if◌then◌else◌, List, [], ◌∷◌, ◌++◌, length, slice_get, Option, Some, None, refl, zero, suc, arith, ap, sym, ◌∙◌}
use Rattle.std.proofs.lemmas.Bool.{eqb-true}
use Rattle.std.proofs.lemmas.Option.{slice_get_within}
use Rattle.pm_base.proofs.Booleans.{both}
use Rattle.pm_base.specs.declared.names.Mode.TheVariants.{Active}
use Rattle.pm_base.specs.declared.names.Unit.{Unit}
use Rattle.pm_base.specs.declared.names.Unit.TheVariants.{Node, Line}
use Rattle.pm_procs.specs.declared.procs.Proc.{Proc as Processor}
use Rattle.pm_procs.specs.Modes.{same_mode}
use Rattle.pm_procs.specs.Procs.{mode_at, proc_at}
use Rattle.pm_rows.specs.Rows.{Rows}
use Rattle.pm_topology.specs.declared.places.Kind.TheVariants.{Proc, Slave, Power, Unknown}
use Rattle.pm_values.specs.declared.caches.UnitKind.{UnitKind}
use Rattle.pm_values.specs.declared.caches.UnitKind.TheVariants.{Entry, Reset}
use Rattle.pm_values.specs.declared.kinds.Other.{Other}
use Rattle.pm_values.specs.Along.{down_logged}
use Rattle.pm_values.specs.Caches.{HaveStayed, ListedStay, freed_by, has_stayed, is_settled, kind_value, start_if, started_at, unit_value}
use Rattle.pm_values.specs.Kinds.{AreListed, RestLess, StandsIn, is_slave_or_line, rests_at, woken_at}
use Rattle.pm_values.proofs.KindsLaw.{earlier, woken_here, woken_other}

-- ---- the list of these units, unit by unit

last_at : {X : Type 0} (xs : List X) (x : X) → slice_get (xs ++ x ∷ []) (length xs) ≡ Some x
last_at [] x = refl
last_at (y ∷ ys) x = last_at ys x

front_at : {X : Type 0} (xs ys : List X) (k : ℕ) (x : X) → slice_get xs k ≡ Some x → slice_get (xs ++ ys) k ≡ Some x
front_at [] ys k x at = cc
front_at (y ∷ xs) ys zero x at = at
front_at (y ∷ xs) ys (suc k) x at = front_at xs ys k x at

pub listed_start : (kinds : List UnitKind) (others : List Other) → AreListed kinds 0 others
listed_start kinds others = λ k kind within at may. absurd (omega (arith, within))

pub listed_next : (kinds : List UnitKind) (k : ℕ) (kind : UnitKind) (may : Bool) (others after : List Other) → may ≡ is_slave_or_line kind → slice_get kinds k ≡ Some kind
    → after ≡ (if may then others else others ++ record { unit = k; kind = kind } ∷ []) → AreListed kinds k others → AreListed kinds (k + 1) after
listed_next kinds k kind true others after may at is before = λ j next within there other. by j next within there other (j == k) refl
  where
    by : (j : ℕ) (next : UnitKind) → j < k + 1 → slice_get kinds j ≡ Some next → is_slave_or_line next ≡ false → (b : Bool) → (j == k) ≡ b → StandsIn j next after
    by j next within there other true own =
        let same : j ≡ k = eqb-true j k own in
        let both_here : Some kind ≡ Some next = sym at ∙ (ap (slice_get kinds) (sym same) ∙ there) in
        let alike : kind ≡ next = cc in
        let no : true ≡ false = may ∙ (ap is_slave_or_line alike ∙ other) in
        cc
    by j next within there other false own =
        let stands = before j next (earlier j k own within) there other in
        record {
          place = stands.place;
          other = stands.other;
          at = ap (λ os. slice_get os stands.place) is ∙ stands.at;
          number = stands.number;
          alike = stands.alike;
        }
listed_next kinds k kind false others after may at is before = λ j next within there other. by j next within there other (j == k) refl
  where
    by : (j : ℕ) (next : UnitKind) → j < k + 1 → slice_get kinds j ≡ Some next → is_slave_or_line next ≡ false → (b : Bool) → (j == k) ≡ b → StandsIn j next after
    by j next within there other true own =
        let same : j ≡ k = eqb-true j k own in
        let both_here : Some kind ≡ Some next = sym at ∙ (ap (slice_get kinds) (sym same) ∙ there) in
        let alike : kind ≡ next = cc in
        let put : Other = record { unit = k; kind = kind } in
        record {
          place = length others;
          other = put;
          at = ap (λ os. slice_get os (length others)) is ∙ last_at others put;
          number = sym same;
          alike = alike;
        }
    by j next within there other false own =
        let stands = before j next (earlier j k own within) there other in
        record {
          place = stands.place;
          other = stands.other;
          at = ap (λ os. slice_get os stands.place) is ∙ front_at others _ stands.place stands.other stands.at;
          number = stands.number;
          alike = stands.alike;
        }

-- ---- those that don't rest from now on, unit by unit

pub less_unless : (stays : Bool) (u : ℕ) (awake after : List Bool) → after ≡ (if stays then awake else woken_at u awake) → RestLess awake after
less_unless true u awake after is = λ k rests. ap (λ (marks : List Bool). rests_at marks k) (sym is) ∙ rests
less_unless false u awake after is = λ k rests. woken_other awake u k (ap (λ (marks : List Bool). rests_at marks k) (sym is) ∙ rests)

module _ (downs : List Bool) (procs : List Processor) (ups : List Bool) (others : List Other) (entries : List (Unit × ℕ)) where
  pub stay_start : (awake : List Bool) → ListedStay downs procs ups awake others 0 entries
  stay_start awake = λ i other within at rests. absurd (omega (arith, within))

  stays_so : (stays : Bool) (other : Other) (awake after : List Bool) → stays ≡ has_stayed downs procs ups other.kind (slice_get entries other.unit)
      → after ≡ (if stays then awake else woken_at other.unit awake) → rests_at after other.unit ≡ true
      → has_stayed downs procs ups other.kind (slice_get entries other.unit) ≡ true
  stays_so true other awake after found is rests = sym found
  stays_so false other awake after found is rests =
      let no : false ≡ true = sym (woken_here awake other.unit) ∙ (ap (λ (marks : List Bool). rests_at marks other.unit) (sym is) ∙ rests) in
      cc

  pub stay_next : (i : ℕ) (one : Other) (stays : Bool) (awake after : List Bool) → slice_get others i ≡ Some one
      → stays ≡ has_stayed downs procs ups one.kind (slice_get entries one.unit) → after ≡ (if stays then awake else woken_at one.unit awake)
      → ListedStay downs procs ups awake others i entries → ListedStay downs procs ups after others (i + 1) entries
  stay_next i one stays awake after at found is before = λ j next within there rests. by j next within there rests (j == i) refl
    where
      by : (j : ℕ) (next : Other) → j < i + 1 → slice_get others j ≡ Some next → rests_at after next.unit ≡ true → (b : Bool) → (j == i) ≡ b
          → has_stayed downs procs ups next.kind (slice_get entries next.unit) ≡ true
      by j next within there rests true own =
          let same : j ≡ i = eqb-true j i own in
          let both_here : Some one ≡ Some next = sym at ∙ (ap (slice_get others) (sym same) ∙ there) in
          let alike : one ≡ next = cc in
          ap (λ (o : Other). has_stayed downs procs ups o.kind (slice_get entries o.unit)) (sym alike)
          ∙ stays_so stays one awake after found is (ap (λ (o : Other). rests_at after o.unit) alike ∙ rests)
      by j next within there rests false own =
          before j next (earlier j i own within) there (less_unless stays one.unit awake after is next.unit rests)

-- ---- all of them

pub have_stayed : (downs : List Bool) (procs : List Processor) (ups : List Bool) (kinds : List UnitKind) (others : List Other) (awake : List Bool) (entries : List (Unit × ℕ))
    → AreListed kinds (length kinds) others → ListedStay downs procs ups awake others (length others) entries → HaveStayed downs procs ups awake kinds entries
have_stayed downs procs ups kinds others awake entries listed stay = λ k kind at may rests.
    let stands = listed k kind (slice_get_within kinds k kind at) at may in
    let so = stay stands.place stands.other (slice_get_within others stands.place stands.other stands.at) stands.at (ap (rests_at awake) stands.number ∙ rests) in
    sym (ap (λ n. has_stayed downs procs ups stands.other.kind (slice_get entries n)) stands.number
    ∙ ap (λ kd. has_stayed downs procs ups kd (slice_get entries k)) stands.alike)
    ∙ so

-- ---- a unit that stayed

not_so : (b : Bool) → not b ≡ true → b ≡ false
not_so true is = cc
not_so false is = refl

no_start : (downs : List Bool) (procs : List Processor) (p : ℕ) (u : Unit) → (down_logged p downs && same_mode (mode_at p procs) Active) ≡ false
    → start_if (down_logged p downs) u (proc_at p procs) ≡ []
no_start downs procs p (Node node) is = ap (λ b. if b then record { proc = node; address = (proc_at p procs).address } ∷ [] else []) is
no_start downs procs p (Line line) is = refl

-- it doesn't start, and nothing happened to it
pub stayed : (downs : List Bool) (procs : List Processor) (ups lines used : List Bool) (rows : Rows) (values : List ℕ) (kind : UnitKind) (entry : Option (Unit × ℕ))
    → has_stayed downs procs ups kind entry ≡ true
    → (started_at downs procs kind entry ≡ []) × (is_settled (unit_value values procs ups lines kind) (freed_by used rows kind) entry ≡ true)
stayed downs procs ups lines used rows values (Entry (Proc p)) None so = cc
stayed downs procs ups lines used rows values (Entry (Proc p)) (Some e) so =
    let parts = both (is_settled (kind_value [] procs ups (Proc p)) false (Some e)) (not (down_logged p downs && same_mode (mode_at p procs) Active)) so in
    (no_start downs procs p e.0 (not_so _ parts.1), parts.0)
stayed downs procs ups lines used rows values (Entry (Power w)) None so = cc
stayed downs procs ups lines used rows values (Entry (Power w)) (Some e) so = (refl, so)
stayed downs procs ups lines used rows values (Entry (Slave s)) entry so = cc
stayed downs procs ups lines used rows values (Entry Unknown) entry so = cc
stayed downs procs ups lines used rows values (Reset place) entry so = cc
