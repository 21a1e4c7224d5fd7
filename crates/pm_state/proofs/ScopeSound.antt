-- Changes that fit every book: a processor goes to a mode, rows are cleared, the book is halted or is as at load, or another
-- object is in force. Stages of such changes keep the book sound.
use Rattle.std.proofs.Common.{◌≡◌, ℕ, ◌+◌, Bool, true, false, if◌then◌else◌, List, [], ◌∷◌, length, Option, Some, None, refl, sym, ◌∙◌, ap, subst}
use Rattle.std.specs.Prelude.{⊤, unwrap_or}
use Rattle.std.specs.List.{AllByRecursion as Each}
use Rattle.pm_base.specs.declared.names.NodeId.{NodeId}
use Rattle.pm_object.specs.declared.object.Object.{Object}
use Rattle.pm_procs.specs.declared.procs.Proc.{Proc}
use Rattle.pm_procs.specs.Procs.{all_off, all_turned_off}
use Rattle.pm_base.specs.declared.names.Mode.{Mode}
use Rattle.pm_base.specs.declared.names.Mode.TheVariants.{Off}
use Rattle.pm_object.specs.declared.object.MasterRec.{MasterRec}
use Rattle.pm_procs.specs.Modes.{same_mode}
use Rattle.pm_rows.specs.declared.row.Pair.{Pair}
use Rattle.pm_rows.specs.declared.row.RowSeed.{RowSeed}
use Rattle.pm_rows.specs.Rows.{Rows, loaded_rows, mode_of, remade}
use Rattle.pm_rows.specs.Sound.{AreRemadeRight, AreSound}
use Rattle.pm_topology.specs.declared.topology.ProcDef.{ProcDef}
use Rattle.pm_topology.specs.declared.topology.SlaveDef.{SlaveDef}
use Rattle.pm_topology.specs.declared.topology.Topology.{Topology}
use Rattle.pm_topology.specs.Places.{kind_of}
use Rattle.pm_state.specs.declared.scope.Scope.{Scope}
use Rattle.pm_state.specs.Boot.{boot_master, boot_proc}
use Rattle.pm_state.specs.Load.{load_in}
use Rattle.pm_state.specs.Members.{mode_of_master, owner_at, owns}
use Rattle.pm_state.specs.declared.pairs.Permitted.{Permitted}
use Rattle.pm_state.specs.Pairs.{pairs_of, permitted_in, seeds_anew, seeds_at_load}
use Rattle.pm_state.specs.Policies.{most_pairs}
use Rattle.pm_state.specs.Prims.{Prim, At_row, Settle, Put_proc, Put_line, Shift, Clear, Halt, Reload, Enforce, apply, applies, changed, enforced, force_after, procs_with, reloaded}
use Rattle.pm_state.specs.Scope.{clear_at, clears, clears_from, is_slave_under, off_at, off_by, offs, offs_from, takes}
use Rattle.pm_state.specs.Sound.{IsSound}
use Rattle.pm_state.specs.Stages.{after_stage, after_stages, follow, follow_at, follow_from}
use Rattle.pm_state.specs.State.{Fixed, CoreHalf, Now, State, object_at, objects_of}
use Rattle.pm_notify.specs.Laws.{OrderLaws}
use Rattle.pm_resets.specs.Resets.{all_released}
use Rattle.pm_state.proofs.AnewLaw.{anew_pairs, anew_right}
use Rattle.pm_state.proofs.ArmedLaw.{clear_arms, drop_arms, load_arms}
use Rattle.pm_state.proofs.Each.{Each-append}
use Rattle.pm_state.proofs.LoadLaw.{ModeLaws, load_sound}
use Rattle.pm_state.proofs.ObjectsLaw.{masters_same}
use Rattle.pm_state.proofs.PendingLaw.{RequestLaws}
use Rattle.pm_state.proofs.RowLaws.{RowLaws}
use Rattle.pm_state.proofs.StageLaw.{IsWithin, followed_sound, put_keeps, within}

-- what keeps a book sound
pub record KeepLaws : Type 0 where
  pub rows : RowLaws
  pub modes : ModeLaws
  pub requests : RequestLaws
  pub orders : OrderLaws

-- ---- the core half as at load

-- in place of what it was, the core half of a sound book becomes that at load with the object in force
pub reload_is : ModeLaws → (fixed : Fixed) (now : Now) → IsWithin fixed now → reloaded fixed now.force now.core ≡ (load_in fixed now.force).now.core
reload_is modes fixed now of =
    let t : Topology = fixed.topology in
    let boot : ℕ = boot_master fixed.object t in
    let rows_with : ℕ → ℕ → ℕ → Rows = λ masters slaves room. loaded_rows masters slaves boot room (seeds_at_load boot now.force t) in
    let masters : ℕ = length fixed.object.masters in
    let same_rows : rows_with (length now.core.rows.known) now.core.rows.slaves now.core.rows.room ≡ rows_with masters (length t.slaves) (most_pairs t (objects_of fixed)) =
    ap (λ n. rows_with n now.core.rows.slaves now.core.rows.room) of.each
    ∙ (ap (λ n. rows_with masters n now.core.rows.room) of.room.slaves ∙ ap (rows_with masters (length t.slaves)) of.room.room)
    in
    let same_procs : all_turned_off now.core.procs ≡ all_off (length t.procs) = modes.restart now.core.procs ∙ ap all_off of.procs.each in
    let core : Rows → List Proc → ℕ → CoreHalf = λ r ps n. record { rows = r; procs = procs_with (boot_proc fixed.object t) ps; lines = all_released n; halted = false } in
    let loaded : Rows = rows_with masters (length t.slaves) (most_pairs t (objects_of fixed)) in
    ap (λ r. core r (all_turned_off now.core.procs) (length now.core.lines)) same_rows
    ∙ (ap (λ (ps : List Proc). core loaded ps (length now.core.lines)) same_procs
    ∙ ap (core loaded (all_off (length t.procs))) of.lines.each)

reload_within : KeepLaws → (fixed : Fixed) (now : Now) → IsWithin fixed now → IsWithin fixed (record now { core = reloaded fixed now.force now.core })
reload_within laws fixed now of =
    let loaded : IsSound (load_in fixed now.force) = load_sound laws.rows laws.modes laws.requests laws.orders fixed now.force of.force.place of.force.there in
    let P : CoreHalf → Type 0 = λ core. IsWithin fixed (record now { core = core }) in
    subst P (sym (reload_is laws.modes fixed now of)) (record {
      force = record { place = of.force.place; there = of.force.there };
      room = record { slaves = loaded.room.slaves; room = loaded.room.room };
      rows = loaded.rows;
      each = loaded.knows.each;
      procs = record { each = loaded.procs.each; nobodys = loaded.procs.nobodys };
      lines = record { each = loaded.lines.each; nobodys = loaded.lines.nobodys };
      armed = loaded.armed;
      pending = of.pending;
      notes = of.notes;
    })

-- ---- another object is in force

enforce_within : KeepLaws → (fixed : Fixed) (now : Now) (k : ℕ) (o : Option Object) → object_at fixed k ≡ o → IsWithin fixed now → IsWithin fixed (record now { force = unwrap_or o now.force; core = enforced fixed o now.core })
enforce_within laws fixed now k None is of = record {
  force = record { place = of.force.place; there = of.force.there };
  room = record { slaves = of.room.slaves; room = of.room.room };
  rows = of.rows;
  each = of.each;
  procs = record { each = of.procs.each; nobodys = of.procs.nobodys };
  lines = of.lines;
  armed = of.armed;
  pending = of.pending;
  notes = of.notes;
}
enforce_within laws fixed now k (Some object) is of =
    let t : Topology = fixed.topology in
    let known : List Mode = now.core.rows.known in
    let all : List Permitted = permitted_in object t in
    let seeds : List RowSeed = seeds_anew object t known in
    let right : AreRemadeRight known seeds = anew_right object t known (masters_same fixed k object is ∙ sym of.each) in
    let P : List Pair → Type 0 = λ ps. AreSound ps (remade seeds now.core.rows) in
    record {
      force = record { place = k; there = is };
      room = record { slaves = of.room.slaves; room = of.room.room };
      rows = subst P (anew_pairs known all all) (laws.rows.remade seeds now.core.rows right);
      each = of.each;
      procs = record { each = of.procs.each; nobodys = of.procs.nobodys };
      lines = of.lines;
      armed = load_arms fixed seeds;
      pending = of.pending;
      notes = of.notes;
    }

-- ---- one change

-- a change that fits every book
abbrev pub IsFree : Prim → Type 0
IsFree (At_row m s by) = ⊥
IsFree (Settle m) = ⊥
IsFree (Put_proc m p mode address) = ⊤
IsFree (Put_line l asserted) = ⊥
IsFree (Shift m mode) = ⊥
IsFree (Clear s) = ⊤
IsFree Halt = ⊤
IsFree Reload = ⊤
IsFree (Enforce k) = ⊤

free_keeps : KeepLaws → (fixed : Fixed) (prim : Prim) (now : Now) → IsFree prim → IsWithin fixed now → IsWithin fixed (apply fixed prim now)
free_keeps laws fixed (At_row m s by) now free of = absurd free
free_keeps laws fixed (Settle m) now free of = absurd free
free_keeps laws fixed (Put_line l asserted) now free of = absurd free
free_keeps laws fixed (Shift m mode) now free of = absurd free
free_keeps laws fixed (Put_proc m p mode address) now free of =
    put_keeps fixed now m p mode address (owns fixed.object fixed.topology m p) refl of
free_keeps laws fixed (Clear s) now free of = record {
  rows = laws.rows.drop_slave (pairs_of now.force fixed.topology) now.core.rows s of.rows;
  force = record { place = of.force.place; there = of.force.there };
  room = record { slaves = of.room.slaves; room = of.room.room };
  each = of.each;
  procs = record { each = of.procs.each; nobodys = of.procs.nobodys };
  lines = of.lines;
  armed = drop_arms fixed s now.core.rows.entries of.armed;
  pending = of.pending;
  notes = of.notes;
}
free_keeps laws fixed Halt now free of = record {
  rows = laws.rows.clear (pairs_of now.force fixed.topology) now.core.rows of.rows;
  force = record { place = of.force.place; there = of.force.there };
  room = record { slaves = of.room.slaves; room = of.room.room };
  each = of.each;
  procs = record { each = of.procs.each; nobodys = of.procs.nobodys };
  lines = of.lines;
  armed = clear_arms fixed now.core.rows.entries of.armed;
  pending = of.pending;
  notes = of.notes;
}
free_keeps laws fixed Reload now free of = reload_within laws fixed now of
free_keeps laws fixed (Enforce k) now free of = enforce_within laws fixed now k (object_at fixed k) refl of

pub frees_keep : KeepLaws → (fixed : Fixed) (prims : List Prim) (now : Now) → Each IsFree prims → IsWithin fixed now → IsWithin fixed (applies fixed prims now)
frees_keep laws fixed [] now free of = of
frees_keep laws fixed (prim ∷ prims) now free of =
    frees_keep laws fixed prims (apply fixed prim now) free.1 (free_keeps laws fixed prim now free.0 of)

-- ---- stages

pub stage_kept : KeepLaws → (stage : List Prim) (book : State) → Each IsFree stage → IsSound book → IsSound (after_stage stage book)
stage_kept laws stage book free sound =
    followed_sound laws.rows (changed stage book) (frees_keep laws book.fixed stage book.now free (within book sound))

pub stages_kept : KeepLaws → (stages : List (List Prim)) (book : State) → Each (Each IsFree) stages → IsSound book → IsSound (after_stages stages book)
stages_kept laws [] book free sound = sound
stages_kept laws (stage ∷ later) book free sound =
    stages_kept laws later (after_stage stage book) free.1 (stage_kept laws stage book free.0 sound)

-- ---- what is taken down

-- what holds of each processor that goes off
module _ (P : Prim → Type 0) (goes_off : (m p : ℕ) → P (Put_proc m p Off 0)) where
  off_by_each : (owner : Option ℕ) (p : ℕ) → Each P (off_by owner p)
  off_by_each None p = tt
  off_by_each (Some m) p = (goes_off m p, tt)

  off_each : (fixed : Fixed) (p : ℕ) (taken : Bool) → Each P (if taken then off_by (owner_at fixed.object fixed.topology p) p else [])
  off_each fixed p true = off_by_each (owner_at fixed.object fixed.topology p) p
  off_each fixed p false = tt

  offs_from_each : (fixed : Fixed) (scope : Scope) (p : ℕ) (procs : List ProcDef) → Each P (offs_from fixed scope p procs)
  offs_from_each fixed scope p [] = tt
  offs_from_each fixed scope p (proc ∷ procs) =
      Each-append P (off_at fixed scope p proc.node) (offs_from fixed scope (p + 1) procs) (off_each fixed p (takes fixed scope p proc.node))
      (offs_from_each fixed scope (p + 1) procs)

pub offs_free : (fixed : Fixed) (scope : Scope) → Each IsFree (offs fixed scope)
offs_free fixed scope = offs_from_each IsFree (λ m p. tt) fixed scope 0 fixed.topology.procs

clear_free : (s : ℕ) (below : Bool) → Each IsFree (if below then Clear s ∷ [] else [])
clear_free s true = (tt, tt)
clear_free s false = tt

clears_from_free : (fixed : Fixed) (forced : NodeId) (s : ℕ) (slaves : List SlaveDef) → Each IsFree (clears_from fixed forced s slaves)
clears_from_free fixed forced s [] = tt
clears_from_free fixed forced s (slave ∷ slaves) =
    Each-append IsFree (clear_at fixed forced s slave.node) (clears_from fixed forced (s + 1) slaves)
    (clear_free s (is_slave_under fixed.topology (kind_of fixed.topology forced) slave.node))
    (clears_from_free fixed forced (s + 1) slaves)

pub clears_free : (fixed : Fixed) (forced : NodeId) → Each IsFree (clears fixed forced)
clears_free fixed forced = clears_from_free fixed forced 0 fixed.topology.slaves

-- ---- the object in force stays

-- a change that puts no other object in force
abbrev pub Stays : Prim → Type 0
Stays (Enforce k) = ⊥
Stays _ = ⊤

one_stays : (fixed : Fixed) (prim : Prim) (force : Object) → Stays prim → force_after fixed prim force ≡ force
one_stays fixed (Enforce k) force stays = absurd stays
one_stays fixed _ force stays = refl

applies_stay : (fixed : Fixed) (prims : List Prim) (now : Now) → Each Stays prims → (applies fixed prims now).force ≡ now.force
applies_stay fixed [] now each = refl
applies_stay fixed (prim ∷ prims) now each =
    applies_stay fixed prims (apply fixed prim now) each.1 ∙ one_stays fixed prim now.force each.0

shift_stays : (m : ℕ) (mode : Mode) (same : Bool) → Each Stays (if same then [] else Shift m mode ∷ [])
shift_stays m mode true = tt
shift_stays m mode false = (tt, tt)

follow_stays : (fixed : Fixed) (core : CoreHalf) (m : ℕ) (masters : List MasterRec) → Each Stays (follow_from fixed core m masters)
follow_stays fixed core m [] = tt
follow_stays fixed core m (x ∷ xs) =
    Each-append Stays (follow_at fixed core m) (follow_from fixed core (m + 1) xs)
    (shift_stays m (mode_of_master fixed core m) (same_mode (mode_of m core.rows) (mode_of_master fixed core m)))
    (follow_stays fixed core (m + 1) xs)

-- after a stage of such changes the same object is in force
pub stage_force : (stage : List Prim) (book : State) → Each Stays stage → (after_stage stage book).now.force ≡ book.now.force
stage_force stage book each =
    let mid : State = changed stage book in
    applies_stay book.fixed (follow mid) mid.now (follow_stays book.fixed mid.now.core 0 book.fixed.object.masters)
    ∙ applies_stay book.fixed stage book.now each

pub offs_stay : (fixed : Fixed) (scope : Scope) → Each Stays (offs fixed scope)
offs_stay fixed scope = offs_from_each Stays (λ m p. tt) fixed scope 0 fixed.topology.procs
