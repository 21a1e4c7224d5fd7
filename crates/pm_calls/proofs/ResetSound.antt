-- The reset of a line keeps the book sound: only a line that a master may reset is asserted.
use Rattle.std.proofs.Common.{◌≡◌, ◌≢◌, ℕ, ◌==◌, Bool, true, false, true≢false, if◌then◌else◌, List, [], ◌++◌, Option, Some, None, refl, sym, ◌∙◌, ap, inl, inr}
use Rattle.std.specs.Prelude.{slice_set}
use Rattle.std.proofs.lemmas.Bool.{cases_eq}
use Rattle.std.proofs.lemmas.List.{get_or-set_other, length-set}
use Rattle.std.proofs.lemmas.Option.{unwrap_or-slice_get}
use Rattle.pm_base.specs.declared.names.LineId.{LineId}
use Rattle.pm_base.specs.declared.names.Mode.TheVariants.{Off}
use Rattle.pm_grants.specs.declared.grants.Grants.{Grants}
use Rattle.pm_grants.specs.Grants.{permits_reset}
use Rattle.pm_resets.specs.Resets.{is_asserted, with_line}
use Rattle.pm_calls.specs.declared.reset_lines.LineView.{LineView}
use Rattle.pm_calls.specs.declared.reset_lines.OwnedProc.{OwnedProc}
use Rattle.pm_calls.specs.ResetLines.{can_reset, line_view, reset_at}
use Rattle.pm_state.specs.Members.{owns}
use Rattle.pm_calls.specs.Checks.{AllHold}
use Rattle.pm_state.specs.Prims.{Put_line, applies, apply, changed}
use Rattle.pm_state.specs.Sound.{IsSound, may_be_reset}
use Rattle.pm_state.specs.Stages.{after_stage}
use Rattle.pm_state.specs.State.{Fixed, Now, State, grants_in, in_force}
use Rattle.pm_state.specs.Values.{line_place}
use Rattle.pm_calls.specs.calls.ResetAssert.{line_put, reset_changes, reset_checks, stopped, stopped_by}
use Rattle.pm_state.proofs.ObjectsLaw.{permitted_by_some}
use Rattle.pm_state.proofs.RowLaws.{RowLaws}
use Rattle.pm_state.proofs.StageLaw.{IsWithin, within, put_keeps, followed_sound}

-- some object of the run lets the master at place m reset the line at place l
abbrev MayReset : Fixed → ℕ → ℕ → Type 0
MayReset fixed m l = may_be_reset fixed m l ≡ true

-- a line that the object in force permits
in_force_permits : (book : State) (m l : ℕ) → IsSound book → permits_reset (grants_in book) m l ≡ true → MayReset book.fixed m l
in_force_permits book m l sound may =
    permitted_by_some (λ (grants : Grants). permits_reset grants m l) book.fixed sound.force.place (in_force book) sound.force.there may

other_line : (lines : List Bool) (l k : ℕ) (asserted : Bool) → k ≢ l → is_asserted k (with_line l asserted lines) ≡ is_asserted k lines
other_line lines l k asserted other =
    unwrap_or-slice_get (slice_set lines l asserted) k false ∙ (get_or-set_other lines l k asserted false other ∙ sym (unwrap_or-slice_get lines k false))

-- a line that a master may reset may be asserted
pub put_line_keeps : (fixed : Fixed) (now : Now) (m l : ℕ) (asserted : Bool) → MayReset fixed m l → IsWithin fixed now → IsWithin fixed (apply fixed (Put_line l asserted) now)
put_line_keeps fixed now m l asserted may of = record {
  force = record { place = of.force.place; there = of.force.there };
  room = record { slaves = of.room.slaves; room = of.room.room };
  rows = of.rows;
  each = of.each;
  procs = record { each = of.procs.each; nobodys = of.procs.nobodys };
  lines = record {
    each = length-set now.core.lines l asserted ∙ of.lines.each;
    nobodys = λ k nobody. elim (cases_eq k l) [
      | inl own ↦ absurd (true≢false (sym may ∙ (ap (may_be_reset fixed m) (sym own) ∙ nobody m)))
      | inr other ↦ other_line now.core.lines l k asserted other ∙ of.lines.nobodys k nobody
    ];
  };
  armed = of.armed;
  pending = of.pending;
  notes = of.notes;
}

-- a processor that a line stops keeps the book within its bounds
stopped_keeps : (fixed : Fixed) (target : Option OwnedProc) (now : Now) → IsWithin fixed now → IsWithin fixed (applies fixed (stopped target) now)
stopped_keeps fixed None now of = of
stopped_keeps fixed (Some target) now of =
    put_keeps fixed now target.owner target.proc Off 0 (owns fixed.object fixed.topology target.owner target.proc) refl of

stops_keep : (fixed : Fixed) (release : Bool) (target : Option OwnedProc) (now : Now) → IsWithin fixed now → IsWithin fixed (applies fixed (if release then [] else stopped target) now)
stops_keep fixed true target now of = of
stops_keep fixed false target now of = stopped_keeps fixed target now of

reset_within : (m action : ℕ) (book : State) (place : Option ℕ) (target : Option OwnedProc) → can_reset m place book ≡ true → IsSound book → IsWithin book.fixed (applies book.fixed (line_put place (action == 1) ++ stopped_by action target) book.now)
reset_within m action book None target may sound = stops_keep book.fixed (action == 0) target book.now (within book sound)
reset_within m action book (Some l) target may sound =
    stops_keep book.fixed (action == 0) target (apply book.fixed (Put_line l (action == 1)) book.now)
    (put_line_keeps book.fixed book.now m l (action == 1) (in_force_permits book m l sound may) (within book sound))

-- the call that resets a line
pub reset_keeps : RowLaws → (m : ℕ) (line : LineId) (action : ℕ) (book : State) → IsSound book → AllHold (reset_checks action (line_view m line book)) → IsSound (after_stage (reset_changes action (line_view m line book)) book)
reset_keeps laws m line action book sound all =
    let view : LineView = line_view m line book in
    followed_sound laws (changed (reset_changes action view) book)
    (reset_within m action book (line_place line book.fixed) (reset_at (line_place line book.fixed) book.fixed) all.permitted sound)
