-- A step that writes no processor down leaves all of them as they are, at each moment of it.
use Rattle.std.proofs.Common.{◌≡◌, ℕ, zero, suc, ◌+◌, ◌≤◌, ◌||◌, Bool, true, false, not, nat_lt, if◌then◌else◌, List, [], ◌∷◌, ◌++◌, length, Option, Some, None, refl, arith, sym, ap, ◌∙◌}
use Rattle.std.specs.Prelude.{slice_set}
use Rattle.std.proofs.lemmas.Bool.Decides.{nat_tests}
use Rattle.pm_object.specs.declared.object.Object.{Object}
use Rattle.pm_procs.specs.declared.procs.Proc.{Proc}
use Rattle.pm_procs.specs.Procs.{all_turned_off, gone}
use Rattle.pm_rows.specs.Rows.{Rows, mode_of}
use Rattle.pm_state.specs.Boot.{boot_proc}
use Rattle.pm_state.specs.Changes.{Listed, Written, all_listed, is_in, is_listed, listed, listed_from, with_master, with_masters, writes, written, written_by, written_stage}
use Rattle.pm_state.specs.Members.{owns}
use Rattle.pm_state.specs.Prims.{Prim, At_row, Settle, Put_proc, Put_line, Shift, Clear, Halt, Reload, Enforce, apply, applies, apply_core, changed, procs_with}
use Rattle.pm_state.specs.Stages.{after_stage, follow}
use Rattle.pm_state.specs.State.{CoreHalf, Fixed, Now, State, object_at}

-- ---- places of which none is written down after more were

none_behind : (xs : List ℕ) (k : ℕ) → xs ++ k ∷ [] ≡ [] → ⊥
none_behind [] k is = absurd cc
none_behind (x ∷ xs) k is = absurd cc

past_by : (k count : ℕ) (below : Bool) → nat_lt k count ≡ below → (not below || false) ≡ true → count ≤ k
past_by k count true is past = cc
past_by k count false is past = grind (arith, nat_tests, is)

-- so there is no such place
listed_by : (k : ℕ) (places : Listed) (there : Bool) → is_listed k places ≡ there
    → (if there then places else record places { list = places.list ++ k ∷ [] }).list ≡ []
    → ((if there then places else record places { list = places.list ++ k ∷ [] }) ≡ places) × (places.count ≤ k)
listed_by k places true is none =
    (refl, past_by k places.count (nat_lt k places.count) refl (sym (ap (λ list. not (nat_lt k places.count) || is_in k list) none) ∙ is))
listed_by k places false is none = absurd (none_behind places.list k none)

none_listed : (k : ℕ) (places : Listed) → (listed k places).list ≡ [] → (listed k places ≡ places) × (places.count ≤ k)
none_listed k places none = listed_by k places (is_listed k places) refl none

none_from : (count k : ℕ) (places : Listed) → (listed_from count k places).list ≡ [] → listed_from count k places ≡ places
none_from zero k places none = refl
none_from (suc count) k places none =
    let later = none_from count (k + 1) (listed k places) none in
    later ∙ (none_listed k places (sym (ap (λ (l : Listed). l.list) later) ∙ none)).0

-- nor is there any
no_places : (count : ℕ) (places : Listed) → places.count ≡ count → (listed_from count 0 places).list ≡ [] → count ≡ 0
no_places zero places is none = refl
no_places (suc count) places is none =
    let later = none_from count 1 (listed 0 places) none in
    let first = none_listed 0 places (sym (ap (λ (l : Listed). l.list) later) ∙ none) in
    absurd (omega (arith, is, first.1))

-- ---- one change

-- these places stay, and where there is one for each processor the processors stay
pub record Stays (places next : Listed) (before after : List Proc) : Type 0 where
  pub same : next ≡ places
  pub procs : places.count ≡ length before → after ≡ before

put_past : {X : Type 0} (xs : List X) (k : ℕ) (x : X) → length xs ≤ k → slice_set xs k x ≡ xs
put_past [] k x past = refl
put_past (y ∷ xs) zero x past = absurd (omega (arith, past))
put_past (y ∷ xs) (suc k) x past = ap (λ ys. y ∷ ys) (put_past xs k x (omega (arith, past)))

none_active : (boots : Option ℕ) (procs : List Proc) → length procs ≡ 0 → procs_with boots (all_turned_off procs) ≡ procs
none_active None [] none = refl
none_active (Some p) [] none = refl
none_active boots (x ∷ procs) none = absurd (omega (arith, none))

masters_stay : (count m : ℕ) (rows : Rows) (w : Written) → (with_masters count m rows w).procs ≡ w.procs
masters_stay zero m rows w = refl
masters_stay (suc count) m rows w = masters_stay count (m + 1) rows (with_master m (mode_of m rows) w)

put_stays : (own : Bool) (p : ℕ) (proc : Proc) (procs : List Proc) (places : Listed) → (if own then listed p places else places).list ≡ []
    → Stays places (if own then listed p places else places) procs (if own then slice_set procs p proc else procs)
put_stays true p proc procs places none =
    let same = none_listed p places none in
    record { same = same.0; procs = λ each. put_past procs p proc (omega (arith, each, same.1)) }
put_stays false p proc procs places none = record { same = refl; procs = λ each. refl }

-- the places of processors after a change, and the processors
proc_places : (own : Bool) (p : ℕ) (w : Written) → (if own then record w { procs = listed p w.procs } else w).procs ≡ (if own then listed p w.procs else w.procs)
proc_places true p w = refl
proc_places false p w = refl

proc_procs : (own : Bool) (p : ℕ) (proc : Proc) (core : CoreHalf) → (if own then record core { procs = slice_set core.procs p proc } else core).procs ≡ (if own then slice_set core.procs p proc else core.procs)
proc_procs true p proc core = refl
proc_procs false p proc core = refl

alike : (places next next' : Listed) (before after after' : List Proc) → next' ≡ next → after' ≡ after → Stays places next before after → Stays places next' before after'
alike places next next' before after after' same so stays =
    record { same = same ∙ stays.same; procs = λ each. so ∙ stays.procs each }

enforce_stays : (fixed : Fixed) (force : Object) (k : ℕ) (core : CoreHalf) (w : Written) (object : Option Object) → object_at fixed k ≡ object
    → Stays w.procs (written fixed force (Enforce k) core w).procs core.procs (apply_core fixed force (Enforce k) core).procs
enforce_stays fixed force k core w None is = rw (is) (record { same = refl; procs = λ each. refl })
enforce_stays fixed force k core w (Some object) is = rw (is) (record { same = refl; procs = λ each. refl })

prim_stays : (fixed : Fixed) (force : Object) (prim : Prim) (core : CoreHalf) (w : Written) → (written fixed force prim core w).procs.list ≡ []
    → Stays w.procs (written fixed force prim core w).procs core.procs (apply_core fixed force prim core).procs
prim_stays fixed force (Put_proc m p mode address) core w none =
    let own : Bool = owns fixed.object fixed.topology m p in
    let proc : Proc = gone mode (record { mode = mode; address = address }) in
    let is = proc_places own p w in
    alike w.procs (if own then listed p w.procs else w.procs) _ core.procs (if own then slice_set core.procs p proc else core.procs) _
    is (proc_procs own p proc core)
    (put_stays own p proc core.procs w.procs (sym (ap (λ (l : Listed). l.list) is) ∙ none))
prim_stays fixed force Reload core w none =
    let units : Written = record w { procs = all_listed w.procs; lines = all_listed w.lines } in
    let is : (with_masters w.masters.count 0 core.rows units).procs ≡ all_listed w.procs = masters_stay w.masters.count 0 core.rows units in
    let empty : (all_listed w.procs).list ≡ [] = sym (ap (λ (l : Listed). l.list) is) ∙ none in
    record {
      same = is ∙ none_from w.procs.count 0 w.procs empty;
      procs = λ each.
          none_active (boot_proc fixed.object fixed.topology) core.procs (sym each ∙ no_places w.procs.count w.procs refl empty);
    }
prim_stays fixed force (Enforce k) core w none = enforce_stays fixed force k core w (object_at fixed k) refl
prim_stays fixed force (At_row m s by) core w none = record { same = refl; procs = λ each. refl }
prim_stays fixed force (Settle m) core w none = record { same = refl; procs = λ each. refl }
prim_stays fixed force (Put_line l asserted) core w none = record { same = refl; procs = λ each. refl }
prim_stays fixed force (Shift m mode) core w none = record { same = refl; procs = λ each. refl }
prim_stays fixed force (Clear s) core w none = record { same = refl; procs = λ each. refl }
prim_stays fixed force Halt core w none = record { same = refl; procs = λ each. refl }

-- ---- changes one after another

then_stays : (one two three : Listed) (a b c : List Proc) → Stays two three b c → (two.list ≡ [] → Stays one two a b) → three.list ≡ [] → Stays one three a c
then_stays one two three a b c later first none =
    let here = first (sym (ap (λ (l : Listed). l.list) later.same) ∙ none) in
    record {
      same = later.same ∙ here.same;
      procs = λ each.
          let same = here.procs each in
          later.procs (ap (λ (l : Listed). l.count) here.same ∙ (each ∙ sym (ap length same))) ∙ same;
    }

prims_stay : (fixed : Fixed) (prims : List Prim) (now : Now) (w : Written) → (writes fixed prims now w).procs.list ≡ []
    → Stays w.procs (writes fixed prims now w).procs now.core.procs (applies fixed prims now).core.procs
prims_stay fixed [] now w none = record { same = refl; procs = λ each. refl }
prims_stay fixed (prim ∷ prims) now w none =
    then_stays w.procs (written fixed now.force prim now.core w).procs (writes fixed (prim ∷ prims) now w).procs now.core.procs
    (apply fixed prim now).core.procs (applies fixed (prim ∷ prims) now).core.procs
    (prims_stay fixed prims (apply fixed prim now) (written fixed now.force prim now.core w) none)
    (λ empty. prim_stays fixed now.force prim now.core w empty) none

pub stage_stays : (stage : List Prim) (book : State) (w : Written) → (written_stage stage book w).procs.list ≡ []
    → Stays w.procs (written_stage stage book w).procs book.now.core.procs (after_stage stage book).now.core.procs
stage_stays stage book w none =
    let mid : State = changed stage book in
    then_stays w.procs (written_by stage book w).procs (written_stage stage book w).procs book.now.core.procs mid.now.core.procs
    (after_stage stage book).now.core.procs
    (prims_stay book.fixed (follow mid) mid.now (written_by stage book w) none)
    (λ empty. prims_stay book.fixed stage book.now w empty) none
