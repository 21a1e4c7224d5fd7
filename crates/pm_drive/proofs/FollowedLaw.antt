-- The clocks along a run stand over each of its books.
use Rattle.std.proofs.Common.{◌≡◌, ℕ, Bool, true, false, List, [], ◌∷◌, length, Option, Some, None, refl, ◌∙◌}
use Rattle.std.specs.Prelude.{if◌then◌else◌, is_some, slice_get, slice_set}
use Rattle.std.specs.Option.{option_map_or}
use Rattle.std.proofs.lemmas.List.{length-map, length-set, length-replicate}
use Rattle.pm_base.specs.declared.names.NodeId.{NodeId}
use Rattle.pm_state.specs.Load.{load_of}
use Rattle.pm_state.specs.State.{State}
use Rattle.pm_clock_tree.specs.declared.calls.ClockAct.{ClockAct}
use Rattle.pm_clock_tree.specs.declared.calls.ClockAct.TheVariants.{Enable, Disable, SetDivider, SetParent, State as Asked, Divider, Parent}
use Rattle.pm_clock_tree.specs.declared.calls.ClockCall.{ClockCall}
use Rattle.pm_clock_tree.specs.declared.tree.Setting.{Setting}
use Rattle.pm_clock_tree.specs.Followed.{Stands, after_step, followed}
use Rattle.pm_clock_tree.specs.Laws.{RunByTheirParents, StandAfterSteps}
use Rattle.pm_clock_tree.specs.Served.{changed, changed_at, refused, served, with_divider, with_index, with_setting}
use Rattle.pm_clock_tree.specs.Table.{clock_count, clock_place, roots}
use Rattle.pm_clock_tree.specs.Tree.{HasAllPlaces, Seen, Tree, first_setting, loaded}
use Rattle.pm_clocks.specs.Clocked.{made, masters_of, view_of, tree_after_core}
use Rattle.pm_run.specs.Run.{Core, Setup}
use Rattle.pm_drive.specs.Clocks.{first_tree}
use Rattle.pm_drive.specs.Drive.{Driven, Given}
use Rattle.pm_drive.specs.Followed.{ClocksStand, IsTreeOf, StandAlong}
use Rattle.pm_drive.specs.Lowered.{given_in}

-- ---- a tree keeps its places

setting_count : (change : Setting → Setting) (k : ℕ) (settings : List Setting) → length (with_setting change k settings) ≡ length settings
setting_count change k settings = by (slice_get settings k)
  where
    by : (at : Option Setting) → length (option_map_or (λ setting. slice_set settings k (change setting)) at settings) ≡ length settings
    by None = refl
    by (Some setting) = length-set settings k (change setting)

with_settings : (tree : Tree) (settings : List Setting) → HasAllPlaces tree → length settings ≡ length tree.settings → HasAllPlaces (record tree { settings = settings })
with_settings tree settings places same = record { settings = same ∙ places.settings; roots = places.roots }

places_changed : (master : NodeId) (act : ClockAct) (k : ℕ) (tree : Tree) → HasAllPlaces tree → HasAllPlaces (changed master act k tree)
places_changed master Enable k tree places = record { settings = places.settings; roots = places.roots }
places_changed master Disable k tree places = record { settings = places.settings; roots = places.roots }
places_changed master (SetDivider divider) k tree places = with_settings tree (with_setting (with_divider divider) k tree.settings) places (setting_count (with_divider divider) k tree.settings)
places_changed master (SetParent index) k tree places = with_settings tree (with_setting (with_index index) k tree.settings) places (setting_count (with_index index) k tree.settings)
places_changed master Asked k tree places = places
places_changed master Divider k tree places = places
places_changed master Parent k tree places = places

places_at : (master : NodeId) (act : ClockAct) (at : Option ℕ) (tree : Tree) → HasAllPlaces tree → HasAllPlaces (changed_at master act at tree)
places_at master act None tree places = places
places_at master act (Some k) tree places = places_changed master act k tree places

places_served : (seen : Seen) (master : NodeId) (call : ClockCall) (tree : Tree) → HasAllPlaces tree → HasAllPlaces (served seen master call tree)
places_served seen master call tree places = by (is_some (refused seen master call tree))
  where
    by : (is : Bool) → HasAllPlaces (if is then tree else changed_at master call.act (clock_place call.clock) tree)
    by true = places
    by false = places_at master call.act (clock_place call.clock) tree places

places_followed : (seen : Seen) (tree : Tree) → HasAllPlaces tree → HasAllPlaces (followed seen tree)
places_followed seen tree places = record { settings = places.settings; roots = length-map roots seen.is_on }

places_after : (seen : Seen) (call : Option (NodeId × ClockCall)) (tree : Tree) → HasAllPlaces tree → HasAllPlaces (after_step seen call tree)
places_after seen None tree places = places_followed seen tree places
places_after seen (Some call) tree places =
    places_followed seen (served seen call.0 call.1 tree) (places_served seen call.0 call.1 tree places)

places_loaded : (masters : List NodeId) (seen : Seen) → HasAllPlaces (loaded masters seen)
places_loaded masters seen = record { settings = length-replicate clock_count first_setting; roots = length-map roots seen.is_on }

-- ---- and stands over each book

module _ (stand : StandAfterSteps) (runs : RunByTheirParents) where
  stands_after : (seen : Seen) (call : Option (NodeId × ClockCall)) (tree : Tree) → Stands seen (after_step seen call tree)
  stands_after seen None tree = stand.followed seen tree
  stands_after seen (Some call) tree = stand.followed seen (served seen call.0 call.1 tree)

  after_core : (core : Core) (tree : Tree) → HasAllPlaces tree → IsTreeOf core.after (tree_after_core core tree)
  after_core core tree places =
      let call : Option (NodeId × ClockCall) = made core.event core.outputs.answer in
      let seen : Seen = view_of core.after in
      let all : HasAllPlaces (after_step seen call tree) = places_after seen call tree places in
      record { stands = stands_after seen call tree; places = all; runs = runs (after_step seen call tree) all }

  along : (tree : Tree) (given : List Given) → HasAllPlaces tree → StandAlong tree given
  along tree [] places = tt
  along tree (g ∷ given) places =
      let one = after_core g.core tree places in
      (one, along (tree_after_core g.core tree) given one.places)

  pub clocks_stand : (c : Setup) (xs : List Driven) → ClocksStand c xs
  clocks_stand c xs =
      let book : State = load_of c.object c.attached c.topology in
      let places : HasAllPlaces (first_tree c) = places_loaded (masters_of book) (view_of book) in
      record {
        load = record { stands = stand.loaded (masters_of book) (view_of book); places = places; runs = runs (first_tree c) places };
        steps = along (first_tree c) (given_in xs) places;
      }
