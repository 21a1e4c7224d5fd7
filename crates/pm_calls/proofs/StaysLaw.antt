-- A step that writes no processor down leaves what was logged before it: the modes are as they were, nothing became of them,
-- and the processors were down that are down.
use Rattle.std.proofs.Common.{◌≡◌, ℕ, ◌<◌, ◌||◌, Bool, true, false, not, List, [], ◌∷◌, length, slice_get, unwrap_or, refl, arith, inl, inr, sym, ap, ◌∙◌, subst}
use Rattle.std.specs.Prelude.{option_map, replicate}
use Rattle.std.proofs.lemmas.List.{get_or-replicate}
use Rattle.std.proofs.lemmas.Option.{slice_get_cases, unwrap_or-slice_get}
use Rattle.pm_base.specs.declared.names.Mode.{Mode}
use Rattle.pm_base.specs.declared.names.Mode.TheVariants.{Off, Active, Asleep, Suspending}
use Rattle.pm_object.specs.declared.object.MasterRec.{MasterRec}
use Rattle.pm_procs.specs.declared.procs.Proc.{Proc}
use Rattle.pm_procs.specs.Modes.{is_awake}
use Rattle.pm_procs.specs.Procs.{master_mode_in, mode_at}
use Rattle.pm_topology.specs.declared.topology.ProcDef.{ProcDef}
use Rattle.pm_state.specs.Changes.{Listed, Written, written_along, written_stage}
use Rattle.pm_state.specs.Members.{members_of, mode_of_master}
use Rattle.pm_state.specs.Prims.{Prim}
use Rattle.pm_state.specs.Stages.{after_stage, after_stages, path_from}
use Rattle.pm_state.specs.State.{Now, State}
use Rattle.pm_state.specs.Values.{placed}
use Rattle.pm_state.proofs.PlacedLemmas.{slice_get-placed}
use Rattle.pm_state.proofs.UnmovedLaw.{stage_stays}
use Rattle.pm_values.specs.Along.{IsTrail, Trail, down_in, is_down, no_turns, trail_from}
use Rattle.pm_values.specs.Starts.{was_down}
use Rattle.pm_values.specs.Turns.{modes_along, turns_along, turns_of}

-- these stages leave all processors as they are, at each moment
pub record LeavesProcs (book : State) (stages : List (List Prim)) : Type 0 where
  pub procs : (after_stages stages book).now.core.procs ≡ book.now.core.procs
  pub turns : (m : ℕ) → turns_along book (path_from stages book) m ≡ no_turns
  pub downs : (p : ℕ) → was_down (book ∷ path_from stages book) p ≡ is_down book p

or_false : (b : Bool) → (b || false) ≡ b
or_false true = refl
or_false false = refl

pub or_same : (b : Bool) → (b || b) ≡ b
or_same true = refl
or_same false = refl

-- nothing becomes of a mode that stays
stays_turn : (mode : Mode) (modes : List Mode) → turns_of mode (mode ∷ modes) ≡ turns_of mode modes
stays_turn Off modes = refl
stays_turn Active modes = refl
stays_turn Asleep modes = refl
stays_turn Suspending modes = refl

pub turn_past : (a b : Mode) (modes : List Mode) → b ≡ a → turns_of a (b ∷ modes) ≡ turns_of b modes
turn_past a b modes same = subst (λ (x : Mode). turns_of x (b ∷ modes) ≡ turns_of b modes) same (stays_turn b modes)

stage_leaves : (stage : List Prim) (stages : List (List Prim)) (book : State) → (after_stage stage book).now.core.procs ≡ book.now.core.procs → LeavesProcs (after_stage stage book) stages → LeavesProcs book (stage ∷ stages)
stage_leaves stage stages book here later =
    let next : State = after_stage stage book in
    record {
      procs = later.procs ∙ here;
      turns = λ m.
          turn_past (mode_of_master book.fixed book.now.core m) (mode_of_master next.fixed next.now.core m) (modes_along m (path_from stages next))
          (ap (λ ps. master_mode_in m (members_of book.fixed.object book.fixed.topology) ps) here)
          ∙ later.turns m;
      downs = λ p.
          ap (λ b. is_down book p || b) (later.downs p ∙ ap (λ ps. not (is_awake (mode_at p ps))) here) ∙ or_same (is_down book p);
    }

-- where no processor is written down, the stages leave all of them
record StaysAlong (places next : Listed) (book : State) (stages : List (List Prim)) : Type 0 where
  same : next ≡ places
  leaves : places.count ≡ length book.now.core.procs → LeavesProcs book stages

stages_stay : (stages : List (List Prim)) (book : State) (w : Written) → (written_along stages book w).procs.list ≡ [] → StaysAlong w.procs (written_along stages book w).procs book stages
stages_stay [] book w none = record {
  same = refl;
  leaves = λ each. record { procs = refl; turns = λ m. refl; downs = λ p. or_false (is_down book p) };
}
stages_stay (stage ∷ stages) book w none =
    let next : State = after_stage stage book in
    let later = stages_stay stages next (written_stage stage book w) none in
    let here = stage_stays stage book w (sym (ap (λ (l : Listed). l.list) later.same) ∙ none) in
    record {
      same = later.same ∙ here.same;
      leaves = λ each.
          let same = here.procs each in
          stage_leaves stage stages book same
          (later.leaves (ap (λ (l : Listed). l.count) here.same ∙ (each ∙ sym (ap length same))));
    }

pub none_written : (stages : List (List Prim)) (book : State) (w : Written) → w.procs.count ≡ length book.now.core.procs → (written_along stages book w).procs.list ≡ [] → LeavesProcs book stages
none_written stages book w each none = (stages_stay stages book w none).leaves each

-- ---- what was logged before it

at_place : {X Y : Type 0} (f : ℕ → X → Y) (g : ℕ → Y) (xs : List X) (m : ℕ) (d : Y) → ((x : X) → f m x ≡ g m) → m < length xs → unwrap_or (slice_get (placed f 0 xs) m) d ≡ g m
at_place f g xs m d same within = elim ((slice_get_cases xs m).1) [
  | inl here ↦
      ap (λ o. unwrap_or o d) (slice_get-placed f 0 xs m m (omega arith) ∙ ap (option_map (f m)) here.2) ∙ same here.0
  | inr past ↦ absurd (omega (arith, within, past.0))
]

first_is : (stages : List (List Prim)) (book : State) → LeavesProcs book stages → IsTrail book (path_from stages book) (trail_from book)
first_is stages book leaves = record {
  turns = λ m within.
      let count : ℕ = length book.fixed.object.masters in
      unwrap_or-slice_get (replicate count no_turns) m no_turns ∙ (get_or-replicate count m no_turns no_turns within ∙ sym (leaves.turns m));
  downs = λ p within. at_place (down_in book) (is_down book) book.fixed.topology.procs p true (λ x. refl) within ∙ sym (leaves.downs p);
}

-- what is begun with a book is begun with one in which the processors are the same
pub same_trail : (book : State) (now : Now) → now.core.procs ≡ book.now.core.procs → trail_from (record book { now = now }) ≡ trail_from book
same_trail book now same =
    let fixed = book.fixed in
    let members : List (List ℕ) = members_of fixed.object fixed.topology in
    let first_by : List Proc → Trail = λ ps. record {
      modes = placed (λ m (x : MasterRec). master_mode_in m members ps) 0 fixed.object.masters;
      turns = replicate (length fixed.object.masters) no_turns;
      downs = placed (λ p (x : ProcDef). not (is_awake (mode_at p ps))) 0 fixed.topology.procs;
    } in
    ap first_by same

pub stays_fresh : (stages : List (List Prim)) (book new : State) → LeavesProcs book stages → new ≡ after_stages stages book → trail_from new ≡ trail_from book
stays_fresh stages book new leaves is = ap trail_from is ∙ same_trail book (after_stages stages book).now leaves.procs

-- it is what is logged of the step
pub stays_logged : (stages : List (List Prim)) (book : State) (along : Trail) → LeavesProcs book stages → along ≡ trail_from book → IsTrail book (path_from stages book) along
stays_logged stages book along leaves first =
    subst (λ (t : Trail). IsTrail book (path_from stages book) t) (sym first) (first_is stages book leaves)
