-- What putting a row in place of another costs.
use Rattle.std.proofs.Common.{◌≡◌, ℕ, ◌+◌, ◌<◌, Bool, true, false, ◌==◌, cond, length, Option, Some, None, refl, sym, ◌∙◌, ap, subst, arith}
use Rattle.std.specs.Prelude.{slice_get, slice_set}
use Rattle.std.proofs.lemmas.Bool.{eqb-true, eq-eqb}
use Rattle.pm_base.specs.declared.caps.Caps.{Caps}
use Rattle.pm_rows.specs.Cost.{caps_cost, is_same_limit, limit_cost, moves, put_cost}
use Rattle.pm_base.specs.declared.names.Mode.{Mode}
use Rattle.pm_rows.specs.declared.row.Entry.{Entry}
use Rattle.pm_rows.specs.declared.row.Row.{Row}
use Rattle.pm_rows.specs.Counted.{Counted, Table, counted_in, has, moved, permitted_on}
use Rattle.pm_rows.specs.Passing.{IsPut}
use Rattle.pm_rows.specs.Wanted.{limit_by, required_by}

moves_none : (b : Bool) → moves b b ≡ 0
moves_none true = refl
moves_none false = refl

-- a test that is passed as before moves no count
pub moves_alike : (a b : Bool) → b ≡ a → moves a b ≡ 0
moves_alike a b is = ap (moves a) is ∙ moves_none a

-- nothing is counted where the same is required
pub caps_free : (a b : Caps) → b ≡ a → caps_cost a b ≡ 0
caps_free a b is =
    ap (caps_cost a) is ∙ (let x = moves_none (has 0 a) in let y = moves_none (has 1 a) in let z = moves_none (has 2 a) in omega (arith, x, y, z))

same_limit : (a : Option ℕ) → is_same_limit a a ≡ true
same_limit None = refl
same_limit (Some a) = eq-eqb a a refl

-- no row is read where the latency stays
pub limit_free : (a b : Option ℕ) (n : ℕ) → b ≡ a → limit_cost a b n ≡ 0
limit_free a b n is = ap (λ (l : Option ℕ). limit_cost a l n) is ∙ ap (λ (t : Bool). cond t 0 n) (same_limit a)

apart_limits : (a b : Option ℕ) → (a ≡ b → ⊥) → is_same_limit a b ≡ false
apart_limits None None apart = absurd (apart refl)
apart_limits None (Some b) apart = refl
apart_limits (Some a) None apart = refl
apart_limits (Some a) (Some b) apart = at (a == b) refl
  where
    at : (t : Bool) → (a == b) ≡ t → (a == b) ≡ false
    at true is = absurd (apart (ap Some (eqb-true a b is)))
    at false is = is

-- each row on the slave is where it doesn't
pub limit_paid : (a b : Option ℕ) (n : ℕ) → (a ≡ b → ⊥) → limit_cost a b n ≡ n
limit_paid a b n apart = ap (λ (t : Bool). cond t 0 n) (apart_limits a b apart)

-- a row that wants the same, is used as before and allows the same latency costs nothing
pub alike_free : (x y : Counted) (n : ℕ) → required_by y.mode y.entry ≡ required_by x.mode x.entry
    → y.entry.row.used ≡ x.entry.row.used → limit_by y.entry ≡ limit_by x.entry → put_cost x y n ≡ 0
alike_free x y n caps used limit =
    omega (
      arith,
      caps_free (required_by x.mode x.entry) (required_by y.mode y.entry) caps,
      moves_alike x.entry.row.used y.entry.row.used used,
      limit_free (limit_by x.entry) (limit_by y.entry) n limit,
    )

-- a row that was read is put in place of itself, where its modes and the new row are told of the one that was read
pub was_put : (k : ℕ) (from to : Mode) (row : Row) (F T : Entry → Mode) (R : Entry → Row) (x e : Entry) (before after : Table) (start read steps : ℕ)
    → slice_get before.entries k ≡ Some x → slice_get before.entries k ≡ Some e
    → from ≡ F e → to ≡ T e → row ≡ R e
    → e.seed.slave < length before.tally.users
    → after.entries ≡ slice_set before.entries k (record e { row = row })
    → after.tally ≡ moved (counted_in from e) (counted_in to (record e { row = row })) after.entries before.tally
    → after.slaves ≡ before.slaves → after.room ≡ before.room → read ≡ start + 1
    → steps ≡ read + put_cost (counted_in from e) (counted_in to (record e { row = row })) (permitted_on e.seed.slave before.entries)
    → IsPut k (counted_in (F x) x) (counted_in (T x) (record x { row = R x })) before start after steps
was_put k from to row F T R x e before after start read steps at here from_is to_is row_is placed entries tally slaves room reads costs =
    let both : Some e ≡ Some x = sym here ∙ at in
    let same : e ≡ x = cc in
    let many : ℕ = permitted_on e.seed.slave before.entries in
    let P : Entry → Type 0 = λ y. IsPut k (counted_in (F y) y) (counted_in (T y) (record y { row = R y })) before start after steps in
    subst P same (record {
      placed = placed;
      entries = entries ∙ ap (λ (r : Row). slice_set before.entries k (record e { row = r })) row_is;
      tally =
          tally
          ∙ (ap (λ (m : Mode). moved (counted_in m e) (counted_in to (record e { row = row })) after.entries before.tally) from_is
          ∙ (ap (λ (m : Mode). moved (counted_in (F e) e) (counted_in m (record e { row = row })) after.entries before.tally) to_is
          ∙ ap (λ (r : Row). moved (counted_in (F e) e) (counted_in (T e) (record e { row = r })) after.entries before.tally) row_is));
      slaves = slaves;
      room = room;
      cost =
          costs
          ∙ (ap (λ (n : ℕ). n + put_cost (counted_in from e) (counted_in to (record e { row = row })) many) reads
          ∙ (ap (λ (m : Mode). start + 1 + put_cost (counted_in m e) (counted_in to (record e { row = row })) many) from_is
          ∙ (ap (λ (m : Mode). start + 1 + put_cost (counted_in (F e) e) (counted_in m (record e { row = row })) many) to_is
          ∙ ap (λ (r : Row). start + 1 + put_cost (counted_in (F e) e) (counted_in (T e) (record e { row = r })) many) row_is)));
    })
