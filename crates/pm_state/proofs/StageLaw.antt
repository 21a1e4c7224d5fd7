-- A stage keeps the book sound: its changes keep the rows and the processors so, and then the rows follow the masters.
use Rattle.std.proofs.Common.{◌≡◌, ◌≢◌, ℕ, ◌+◌, ◌<◌, Bool, true, false, if◌then◌else◌, List, [], ◌∷◌, ◌++◌, length, Option, Some, None, refl, sym, ◌∙◌, ap, subst, arith, inl, inr}
use Rattle.std.specs.Prelude.{slice_set}
use Rattle.std.proofs.lemmas.Bool.{cases_eq}
use Rattle.std.proofs.lemmas.List.{get_or-set_other, get_or-set_same, length-set}
use Rattle.std.proofs.lemmas.Option.{unwrap_or-slice_get}
use Rattle.pm_base.specs.declared.names.Mode.{Mode}
use Rattle.pm_base.specs.declared.names.Mode.TheVariants.{Off, Active, Asleep, Suspending}
use Rattle.pm_object.specs.declared.object.MasterRec.{MasterRec}
use Rattle.pm_procs.specs.declared.procs.Proc.{Proc}
use Rattle.pm_procs.specs.Modes.{same_mode}
use Rattle.pm_procs.specs.Procs.{gone, mode_at, off}
use Rattle.pm_rows.specs.declared.row.Entry.{Entry}
use Rattle.pm_rows.specs.declared.row.Change.{Change}
use Rattle.pm_rows.specs.Modes.{mode_in}
use Rattle.pm_rows.specs.Rows.{mode_of, entry_at}
use Rattle.pm_rows.specs.Sound.{IsFit}
use Rattle.pm_base.specs.Places.{is_place}
use Rattle.pm_state.specs.Members.{mode_of_master, owner_at, owns}
use Rattle.pm_state.specs.Pairs.{pairs_of}
use Rattle.pm_state.specs.Prims.{Prim, At_row, Settle, Put_proc, Shift, applies, changed, proc_put}
use Rattle.pm_state.specs.Sound.{AreLines, AreNotes, AreNamed, ArmsOwn, HasProcs, HasRoomForRows, HasSoundRows, IsOfRun, IsSound}
use Rattle.pm_state.specs.Stages.{after_stage, follow_at, follow_from, followed}
use Rattle.pm_state.specs.State.{Fixed, Now, State, in_force}
use Rattle.pm_state.proofs.ArmedLaw.{MayArm, change_arms, settle_arms, shift_arms}
use Rattle.pm_state.proofs.FollowLemmas.{Leaves, follow_leaves, other_mode, same_later, applies_append}
use Rattle.pm_state.proofs.PairsLaw.{pairs_once}
use Rattle.pm_state.proofs.RowLaws.{RowLaws}

-- what holds of a book within a stage: all but what the rows know of the modes
pub record IsWithin (fixed : Fixed) (now : Now) : Type 0 where
  pub force : IsOfRun (record { fixed = fixed; now = now })
  pub room : HasRoomForRows (record { fixed = fixed; now = now })
  pub rows : HasSoundRows (record { fixed = fixed; now = now })
  pub each : length now.core.rows.known ≡ length fixed.object.masters
  pub procs : HasProcs (record { fixed = fixed; now = now })
  pub lines : AreLines fixed now.core.lines
  pub armed : ArmsOwn (record { fixed = fixed; now = now })
  pub pending : AreNamed fixed now.talk.pending
  pub notes : AreNotes fixed.topology (length fixed.object.masters) now.talk.notes

pub within : (book : State) → IsSound book → IsWithin book.fixed book.now
within book sound = record { force = sound.force; room = sound.room; rows = sound.rows; each = sound.knows.each; procs = sound.procs; lines = sound.lines; armed = sound.armed; pending = sound.pending; notes = sound.notes }

-- ---- the rows follow

same_is : (a b : Mode) → same_mode a b ≡ true → a ≡ b
same_is Off Off is = refl
same_is Off Active is = cc
same_is Off Asleep is = cc
same_is Off Suspending is = cc
same_is Active Off is = cc
same_is Active Active is = refl
same_is Active Asleep is = cc
same_is Active Suspending is = cc
same_is Asleep Off is = cc
same_is Asleep Active is = cc
same_is Asleep Asleep is = refl
same_is Asleep Suspending is = cc
same_is Suspending Off is = cc
same_is Suspending Active is = cc
same_is Suspending Asleep is = cc
same_is Suspending Suspending is = refl

own_mode : (modes : List Mode) (m : ℕ) (to : Mode) → m < length modes → mode_in m (slice_set modes m to) ≡ to
own_mode modes m to there = unwrap_or-slice_get (slice_set modes m to) m Off ∙ get_or-set_same modes m to Off there

-- one master has followed: all is kept, and the rows know its mode
record Follows (fixed : Fixed) (m : ℕ) (to : Mode) (now : Now) : Type 0 where
  pub all : IsWithin fixed now
  pub knows : mode_of m now.core.rows ≡ to

follows_by : RowLaws → (fixed : Fixed) (now : Now) (m : ℕ) (to : Mode) (same : Bool) → same ≡ same_mode (mode_of m now.core.rows) to → m < length fixed.object.masters → IsWithin fixed now → Follows fixed m to (applies fixed (if same then [] else Shift m to ∷ []) now)
follows_by laws fixed now m to true is there of = record { all = of; knows = same_is (mode_of m now.core.rows) to (sym is) }
follows_by laws fixed now m to false is there of = record {
  all = record {
    rows = laws.shift (pairs_of now.force fixed.topology) now.core.rows m to (λ m s. pairs_once m s now.force fixed.topology) of.rows;
    force = record { place = of.force.place; there = of.force.there };
    room = record { slaves = of.room.slaves; room = of.room.room };
    each = length-set now.core.rows.known m to ∙ of.each;
    procs = record { each = of.procs.each; nobodys = of.procs.nobodys };
    lines = of.lines;
    armed = shift_arms laws fixed m (mode_of m now.core.rows) to now.core.rows.entries of.armed;
    pending = of.pending;
    notes = of.notes;
  };
  knows = own_mode now.core.rows.known m to (omega (arith, there, of.each));
}

one_follows : RowLaws → (fixed : Fixed) (now : Now) (m : ℕ) → m < length fixed.object.masters → IsWithin fixed now → Follows fixed m (mode_of_master fixed now.core m) (applies fixed (follow_at fixed now.core m) now)
one_follows laws fixed now m there of =
    follows_by laws fixed now m (mode_of_master fixed now.core m) (same_mode (mode_of m now.core.rows) (mode_of_master fixed now.core m)) refl there of

-- the rows know the modes of the masters before place m
abbrev KnowsBefore : ℕ → Fixed → Now → Type 0
KnowsBefore m fixed now = (k : ℕ) → k < m → mode_of k now.core.rows ≡ mode_of_master fixed now.core k

pub earlier_stay : (fixed : Fixed) (now : Now) (m k : ℕ) (to : Mode) (same : Bool) → k ≢ m → mode_of k (applies fixed (if same then [] else Shift m to ∷ []) now).core.rows ≡ mode_of k now.core.rows
earlier_stay fixed now m k to true other = refl
earlier_stay fixed now m k to false other = other_mode now.core.rows.known m k to other

knows_more : (fixed : Fixed) (now next : Now) (m k : ℕ) → next ≡ applies fixed (follow_at fixed now.core m) now → KnowsBefore m fixed now → mode_of m next.core.rows ≡ mode_of_master fixed now.core m → next.core.procs ≡ now.core.procs → k < m + 1 → mode_of k next.core.rows ≡ mode_of_master fixed next.core k
knows_more fixed now next m k is before here procs below =
    let same : mode_of_master fixed next.core k ≡ mode_of_master fixed now.core k = cc in
    elim (cases_eq k m) [
      | inl own ↦ let at : mode_of k next.core.rows ≡ mode_of_master fixed now.core k = rw own here in at ∙ sym same
      | inr other ↦
          let stays : mode_of k (applies fixed (follow_at fixed now.core m) now).core.rows ≡ mode_of k now.core.rows =
          earlier_stay fixed now m k (mode_of_master fixed now.core m) (same_mode (mode_of m now.core.rows) (mode_of_master fixed now.core m)) other
          in
          ap (λ (n : Now). mode_of k n.core.rows) is ∙ (stays ∙ (before k (omega (arith, below, other)) ∙ sym same))
    ]

-- all masters from place m on follow
follow_keeps : RowLaws → (fixed : Fixed) (m : ℕ) (masters : List MasterRec) (now : Now) → m + length masters ≡ length fixed.object.masters → IsWithin fixed now → KnowsBefore m fixed now → IsSound (record { fixed = fixed; now = applies fixed (follow_from fixed now.core m masters) now })
follow_keeps laws fixed m [] now count of before =
    record { force = of.force; room = of.room; rows = of.rows; knows = record { each = of.each; right = λ k there. before k (omega (arith, count, there)) }; procs = of.procs; lines = of.lines; armed = of.armed; pending = of.pending; notes = of.notes }
follow_keeps laws fixed m (x ∷ xs) now count of before =
    let first = follow_at fixed now.core m in
    let next : Now = applies fixed first now in
    let leaves : Leaves m now.core next.core = follow_leaves fixed now m in
    let one : Follows fixed m (mode_of_master fixed now.core m) next = one_follows laws fixed now m (omega (arith, count)) of in
    let same : follow_from fixed next.core (m + 1) xs ≡ follow_from fixed now.core (m + 1) xs = same_later fixed m (m + 1) now.core next.core xs leaves (omega arith) in
    let rest : IsSound (record { fixed = fixed; now = applies fixed (follow_from fixed next.core (m + 1) xs) next }) =
    follow_keeps laws fixed (m + 1) xs next (omega (arith, count)) one.all (λ k below. knows_more fixed now next m k refl before one.knows leaves.procs below)
    in
    let whole : applies fixed (first ++ follow_from fixed now.core (m + 1) xs) now ≡ applies fixed (follow_from fixed next.core (m + 1) xs) next =
    applies_append fixed first (follow_from fixed now.core (m + 1) xs) now ∙ ap (λ prims. applies fixed prims next) (sym same)
    in
    let P : Now → Type 0 = λ n. IsSound (record { fixed = fixed; now = n }) in
    subst P (sym whole) rest

-- what follows a change that keeps the rows and the processors is a sound book
pub followed_sound : RowLaws → (book : State) → IsWithin book.fixed book.now → IsSound (followed book)
followed_sound laws book of =
    follow_keeps laws book.fixed 0 book.fixed.object.masters book.now (omega arith) of (λ k none. absurd (omega (arith, none)))

-- ---- the changes of a stage

-- a change of a row that is there and that fits, dropped holds, and a processor that goes to a mode
pub data Fits (book : State) : Prim → Type 0 where
  row : (m s : ℕ) (by : Change) (entry : Entry) → entry_at m s book.now.core.rows ≡ Some entry → IsFit m s by entry book.now.core.rows → MayArm book.fixed entry.seed.master by → Fits book (At_row entry.seed.master entry.seed.slave by)
  settle : (m : ℕ) → Fits book (Settle m)
  put : (m p : ℕ) (mode : Mode) (address : ℕ) → Fits book (Put_proc m p mode address)

owner_is : (m : ℕ) (owner : Option ℕ) → is_place m owner ≡ true → owner ≡ None → ⊥
owner_is m None is none = cc
owner_is m (Some k) is none = cc

put_other : (procs : List Proc) (p q : ℕ) (proc : Proc) → q ≢ p → mode_at q (slice_set procs p proc) ≡ mode_at q procs
put_other procs p q proc other =
    ap (λ (x : Proc). x.mode)
    (unwrap_or-slice_get (slice_set procs p proc) q off ∙ (get_or-set_other procs p q proc off other ∙ sym (unwrap_or-slice_get procs q off)))

pub put_keeps : (fixed : Fixed) (now : Now) (m p : ℕ) (mode : Mode) (address : ℕ) (own : Bool) → own ≡ owns fixed.object fixed.topology m p → IsWithin fixed now → IsWithin fixed (record now { core = if own then record now.core { procs = proc_put p mode address now.core.procs } else now.core })
put_keeps fixed now m p mode address false is of = of
put_keeps fixed now m p mode address true is of = record {
  rows = of.rows;
  force = record { place = of.force.place; there = of.force.there };
  room = record { slaves = of.room.slaves; room = of.room.room };
  each = of.each;
  procs = record {
    each = length-set now.core.procs p (gone mode (record { mode = mode; address = address })) ∙ of.procs.each;
    nobodys = λ q nobody. elim (cases_eq q p) [
      | inl own ↦ absurd (owner_is m (owner_at fixed.object fixed.topology p) (sym is) (rw (← own) nobody))
      | inr other ↦ put_other now.core.procs p q (gone mode (record { mode = mode; address = address })) other ∙ of.procs.nobodys q nobody
    ];
  };
  lines = of.lines;
  armed = of.armed;
  pending = of.pending;
  notes = of.notes;
}

pub change_within : RowLaws → (book : State) (prim : Prim) → IsSound book → Fits book prim → IsWithin book.fixed (changed (prim ∷ []) book).now
change_within laws book _ sound (row m s by entry found fit may) = record {
  armed = change_arms book.fixed entry.seed.master entry.seed.slave by book.now.core.rows.entries may sound.armed;
  rows = laws.change (pairs_of (in_force book) book.fixed.topology) book.now.core.rows m s by entry (λ m s. pairs_once m s (in_force book) book.fixed.topology) sound.rows found fit;
  force = record { place = sound.force.place; there = sound.force.there };
  room = record { slaves = sound.room.slaves; room = sound.room.room };
  each = sound.knows.each;
  procs = record { each = sound.procs.each; nobodys = sound.procs.nobodys };
  lines = sound.lines;
  pending = sound.pending;
  notes = sound.notes;
}
change_within laws book _ sound (settle m) = record {
  armed = settle_arms book.fixed m book.now.core.rows.entries sound.armed;
  rows = laws.settle (pairs_of (in_force book) book.fixed.topology) book.now.core.rows m sound.rows;
  force = record { place = sound.force.place; there = sound.force.there };
  room = record { slaves = sound.room.slaves; room = sound.room.room };
  each = sound.knows.each;
  procs = record { each = sound.procs.each; nobodys = sound.procs.nobodys };
  lines = sound.lines;
  pending = sound.pending;
  notes = sound.notes;
}
change_within laws book _ sound (put m p mode address) =
    put_keeps book.fixed book.now m p mode address (owns book.fixed.object book.fixed.topology m p) refl (within book sound)

-- a stage of one change that fits keeps the book sound, and so does one without a change
pub stage_keeps : RowLaws → (book : State) (prim : Prim) → IsSound book → Fits book prim → IsSound (after_stage (prim ∷ []) book)
stage_keeps laws book prim sound fits = followed_sound laws (changed (prim ∷ []) book) (change_within laws book prim sound fits)

pub empty_keeps : RowLaws → (book : State) → IsSound book → IsSound (after_stage [] book)
empty_keeps laws book sound = followed_sound laws book (within book sound)
