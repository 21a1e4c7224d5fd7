-- Clocks of two runs beside one another: beyond the reach of a master they are equal after each core step.
use Rattle.std.proofs.Common.{◌≡◌, ℕ, zero, suc, Bool, true, false, ◌&&◌, ◌==◌, List, [], ◌∷◌, length, map, Some, None, Option, refl, ap, ◌∙◌, sym, subst}
use Rattle.std.specs.Prelude.{find, if◌then◌else◌, is_some, not, slice_get, slice_index, slice_set, unwrap_or}
use Rattle.std.specs.Option.{option_map, option_map_or}
use Rattle.std.proofs.lemmas.Bool.{eqb-true}
use Rattle.pm_base.proofs.Booleans.{both, equal}
use Rattle.pm_base.proofs.ListLemmas.{find-None}
use Rattle.pm_base.proofs.Searches.{position-first}
use Rattle.pm_base.specs.declared.events.Event.{Event}
use Rattle.pm_base.specs.declared.events.Event.TheVariants.{Ipi, Pass, Wfi}
use Rattle.pm_base.specs.declared.events.Message.{Message}
use Rattle.pm_base.specs.declared.names.Mode.TheVariants.{Off}
use Rattle.pm_base.specs.declared.names.NodeId.{NodeId}
use Rattle.pm_base.specs.declared.names.Unit.TheVariants.{Node}
use Rattle.pm_ipi.specs.Calls.{call_of, calls_by, row_of}
use Rattle.pm_ipi.specs.declared.calls.Call.{Call}
use Rattle.pm_ipi.specs.declared.calls.Call.TheVariants.{Unknown}
use Rattle.pm_object.specs.declared.object.MasterRec.{MasterRec}
use Rattle.pm_object.specs.declared.object.Object.{Object}
use Rattle.pm_topology.specs.declared.topology.Topology.{Topology}
use Rattle.pm_topology.specs.declared.places.Kind.{Kind}
use Rattle.pm_topology.specs.declared.places.Kind.TheVariants.{Proc, Slave, Power, Unknown}
use Rattle.pm_topology.specs.Places.{kind_of, slave_place}
use Rattle.pm_topology.specs.WellFormed.{IsWellFormed}
use Rattle.pm_perms.specs.Permits.{master_record, may_use, may_use_by, slave_record}
use Rattle.pm_procs.specs.Modes.{same_mode}
use Rattle.pm_state.specs.Members.{mode_of_master}
use Rattle.pm_state.specs.Nodes.{master_mode, master_mode_at}
use Rattle.pm_state.specs.Sound.{IsSound}
use Rattle.pm_object.specs.declared.attached.Attached.{Attached}
use Rattle.pm_state.proofs.ObjectsLaw.{of_run, place_same}
use Rattle.pm_state.specs.State.{Fixed, State, in_force}
use Rattle.pm_state.specs.Values.{master_place, value}
use Rattle.pm_core.specs.declared.replies.Answer.{Answer}
use Rattle.pm_core.specs.declared.replies.Answer.TheVariants.{Silent, Drop, Reply, Ack}
use Rattle.pm_core.specs.Step.{effect, outputs}
use Rattle.pm_run.specs.Run.{book_after, core_of, cores_of}
use Rattle.pm_laws.specs.Agree.{Agree, IsAmong}
use Rattle.pm_laws.specs.Answers.{message_beyond, names_beyond}
use Rattle.pm_laws.specs.Beside.{Beside, IsOwn, none, both as in_both, left, rest}
use Rattle.pm_laws.specs.Border.{AreObjects, Border, IsBeyond, none_within, unit_beyond}
use Rattle.pm_laws.specs.Hidden.{is_within}
use Rattle.pm_laws.specs.Left.{border_in}
use Rattle.pm_laws.specs.ReachBorder.{border_of, configured_place}
use Rattle.pm_laws.specs.Told.{SameTold, TellsNothing}
use Rattle.pm_laws.specs.Values.{IsValueAlike, is_beyond}
use Rattle.pm_clock_tree.specs.declared.calls.ClockAct.{ClockAct}
use Rattle.pm_clock_tree.specs.declared.calls.ClockAct.TheVariants as act
use Rattle.pm_clock_tree.specs.declared.calls.ClockCall.{ClockCall}
use Rattle.pm_clock_tree.specs.declared.table.ClockDef.{ClockDef}
use Rattle.pm_clock_tree.specs.declared.tree.Setting.{Setting}
use Rattle.pm_clock_tree.specs.Calls.{act_by, act_of, clock_call}
use Rattle.pm_clock_tree.specs.Followed.{served_by}
use Rattle.pm_clock_tree.specs.Laws.{RunByTheirParents, StandAfterSteps}
use Rattle.pm_clock_tree.specs.Served.{changed, changed_at, refused, response, served, with_setting}
use Rattle.pm_clock_tree.specs.Table.{clocks, clock_place, roots}
use Rattle.pm_clock_tree.specs.Tree.{HasAllPlaces, Seen, Tree}
use Rattle.pm_clocks.specs.Clocked.{answered, clock_answer, is_on, is_slave, made, node_of, tree_after, view_of, tree_after_core}
use Rattle.pm_clock_laws.specs.Column.{column, stays}
use Rattle.pm_clock_laws.specs.Reach.{IsClockBeyond}
use Rattle.pm_clock_laws.specs.Reach.IsClockWithin.{root as root_within, used as used_within, driven as driven_within}
use Rattle.pm_clock_laws.specs.Same.{IsTreeOver, SameClocks, tree_along}
use Rattle.pm_clock_laws.proofs.ColumnLemmas.{followed_alike, served_alike, served_barred, served_other}
use Rattle.pm_clock_laws.proofs.RunsLemmas.{HaveSame, responses_alike}

-- the laws of books, of their steps and of clocks from the crates below
pub record Below : Type 0 where
  pub values : (m : NodeId) (a b : State) → AreObjects a.fixed → IsWellFormed a.fixed.topology
      → Agree (border_in a m) a b → IsValueAlike a.fixed.object a.fixed.topology (border_in a m) a b
  pub both : (m : NodeId) (event : Event) (a b : State) → AreObjects a.fixed → IsWellFormed a.fixed.topology
      → IsSound a → IsSound b → Agree (border_in a m) a b
      → Agree (border_in a m) (effect event a) (effect event b)
      × SameTold a.fixed.object a.fixed.topology (border_in a m) (core_of event a) (core_of event b)
  pub left : (m : NodeId) (event : Event) (a b : State) → IsOwn a.fixed.object a.fixed.topology m event
      → AreObjects a.fixed → IsWellFormed a.fixed.topology → IsSound a → IsSound b → Agree (border_in a m) a b
      → Agree (border_in a m) (effect event a) b
      × TellsNothing a.fixed.object a.fixed.topology (border_in a m) (core_of event a)
  pub rest : (m : NodeId) (a b : State) → AreObjects a.fixed → IsWellFormed a.fixed.topology
      → IsSound a → IsSound b → Agree (border_in a m) a b
      → Agree (border_in a m) a (effect Pass b)
      × TellsNothing a.fixed.object a.fixed.topology (border_in a m) (core_of Pass b)
  pub mode : (border : Border) (m : ℕ) (a b : State) → IsBeyond border m → Agree border a b
      → mode_of_master a.fixed a.now.core m ≡ mode_of_master b.fixed b.now.core m
  pub own : (m : NodeId) (book : State)
      → is_within (border_of book.fixed m) (master_place m book) ≡ true
  pub sound : (event : Event) (book : State) → IsSound book → IsSound (effect event book)
  pub stand : StandAfterSteps

-- ---- small facts

clash : true ≡ false → ⊥
clash e = cc

no_some : {X : Type 0} (x : X) → None ≡ Some x → ⊥
no_some x e = cc

some_same : {X : Type 0} (a b : X) → Some a ≡ Some b → a ≡ b
some_same a b same = ap (λ found. unwrap_or found a) same

and_false : (on : Bool) → (on && false) ≡ false
and_false true = refl
and_false false = refl

-- ---- places for each clock

set_long : {X : Type 0} (xs : List X) (k : ℕ) (x : X) → length (slice_set xs k x) ≡ length xs
set_long [] k x = refl
set_long (y ∷ xs) zero x = refl
set_long (y ∷ xs) (suc k) x = ap suc (set_long xs k x)

setting_long : (change : Setting → Setting) (k : ℕ) (settings : List Setting) → length (with_setting change k settings) ≡ length settings
setting_long change k settings = by (slice_get settings k)
  where
    by : (found : Option Setting) → length (option_map_or (λ setting. slice_set settings k (change setting)) found settings) ≡ length settings
    by None = refl
    by (Some setting) = set_long settings k (change setting)

changed_long : (master : NodeId) (a : ClockAct) (k : ℕ) (tree : Tree) → length (changed master a k tree).settings ≡ length tree.settings
changed_long master act.Enable k tree = refl
changed_long master act.Disable k tree = refl
changed_long master act.State k tree = refl
changed_long master (act.SetDivider divider) k tree = setting_long _ k tree.settings
changed_long master act.Divider k tree = refl
changed_long master (act.SetParent index) k tree = setting_long _ k tree.settings
changed_long master act.Parent k tree = refl

changed_at_long : (master : NodeId) (a : ClockAct) (place : Option ℕ) (tree : Tree) → length (changed_at master a place tree).settings ≡ length tree.settings
changed_at_long master a None tree = refl
changed_at_long master a (Some k) tree = changed_long master a k tree

served_long : (seen : Seen) (made : Option (NodeId × ClockCall)) (tree : Tree) → length (served_by seen made tree).settings ≡ length tree.settings
served_long seen None tree = refl
served_long seen (Some made) tree = by (is_some (refused seen made.0 made.1 tree))
  where
    by : (refuses : Bool) → length (if refuses then tree else changed_at made.0 made.1.act (clock_place made.1.clock) tree).settings ≡ length tree.settings
    by true = refl
    by false = changed_at_long made.0 made.1.act (clock_place made.1.clock) tree

-- the tree after a core step fits the book after it
tree_over : StandAfterSteps → (event : Event) (answer : Answer) (book : State) (tree : Tree) → HasAllPlaces tree → IsTreeOver book (tree_after event answer book tree)
tree_over laws event answer book tree places = record {
  stands = laws.followed (view_of book) (served_by (view_of book) (made event answer) tree);
  places = record {
    settings = served_long (view_of book) (made event answer) tree ∙ places.settings;
    roots = refl;
  };
}

-- ---- who may use the slave of a clock beyond

-- a master that may use a slave is configured
pub record IsUser (object : Object) (n : NodeId) : Type 0 where
  pub place : ℕ
  pub master : MasterRec
  pub is_place : configured_place object n ≡ Some place
  pub is_master : slice_get object.masters place ≡ Some master
  pub node : node_of master ≡ n

abbrev pub is_named : NodeId → MasterRec → Bool
is_named n r = r.node == n.0

-- a master that may use the slave by an object of the run; each object has the masters of the loaded one
user_at : (fixed : Fixed) (object : Object) → IsAmong fixed object → (n slave : NodeId) → may_use object fixed.topology n slave ≡ true → IsUser fixed.object n
user_at fixed object among n slave may = by (configured_place fixed.object n) refl
  where
    permitted : may_use_by (master_record object n) (slave_record object slave) ≡ true
    permitted = (both (is_some (slave_place fixed.topology.slaves slave.0)) (may_use_by (master_record object n) (slave_record object slave)) may).1

    same : configured_place fixed.object n ≡ configured_place object n
    same = place_same n.0 fixed.object.masters object.masters (of_run fixed among.place object among.there)

    by : (place : Option ℕ) → configured_place fixed.object n ≡ place → IsUser fixed.object n
    by None is =
        absurd (clash (sym permitted ∙ ap (λ found. may_use_by found (slave_record object slave)) (find-None (is_named n) object.masters (sym same ∙ is))))
    by (Some p) is =
        let first = position-first (is_named n) fixed.object.masters p is in
        record {
          place = p;
          master = first.element;
          is_place = is;
          is_master = first.here;
          node = ap (λ (number : ℕ). record { 0 = number }) (eqb-true first.element.node n.0 first.passes);
        }

module _ (border : Border) (k : ℕ) (def : ClockDef) (here : slice_get clocks k ≡ Some def) where
  -- a configured master that may use the slave is beyond
  user_beyond : (fixed : Fixed) → IsClockBeyond fixed border def.number → (object : Object) → IsAmong fixed object → (n : NodeId) (user : IsUser fixed.object n)
      → may_use object fixed.topology n def.node ≡ true → border.master user.place ≡ true
  user_beyond fixed beyond object among n user may = by (border.master user.place) refl
    where
      by : (is : Bool) → border.master user.place ≡ is → is ≡ true
      by true is = refl
      by false is =
          absurd (beyond (used_within k user.place among.place def user.master object here user.is_master is among.there
          (subst (λ node. may_use object fixed.topology node def.node ≡ true) (sym user.node) may)))

  -- a master may use the slave by the objects in force of both books or of neither; without a master beyond nobody
  -- may
  permit_alike : (a b : State) → Agree border a b → IsClockBeyond a.fixed border def.number → (n : NodeId)
      → may_use (in_force a) a.fixed.topology n def.node ≡ may_use (in_force b) b.fixed.topology n def.node
  permit_alike a b agree beyond n = by border.some refl
    where
      some_user : (object : Object) → IsAmong a.fixed object → may_use object a.fixed.topology n def.node ≡ true → border.some ≡ true
      some_user object among may =
          let user = user_at a.fixed object among n def.node may in
          agree.now.some user.place (user_beyond a.fixed beyond object among n user may)

      nobody : (object : Object) → IsAmong a.fixed object → border.some ≡ false → (may : Bool) → may_use object a.fixed.topology n def.node ≡ may → may ≡ false
      nobody object among out false is = refl
      nobody object among out true is = absurd (clash (sym (some_user object among is) ∙ out))

      chip : may_use (in_force b) a.fixed.topology n def.node ≡ may_use (in_force b) b.fixed.topology n def.node
      chip = ap (λ (fixed : Fixed). may_use (in_force b) fixed.topology n def.node) agree.fixed

      by : (some : Bool) → border.some ≡ some → may_use (in_force a) a.fixed.topology n def.node ≡ may_use (in_force b) b.fixed.topology n def.node
      by true some = ap (λ (object : Object). may_use object a.fixed.topology n def.node) (agree.now.force some) ∙ chip
      by false out =
          nobody (in_force a) agree.now.first out (may_use (in_force a) a.fixed.topology n def.node) refl
          ∙ sym (nobody (in_force b) agree.now.second out (may_use (in_force b) a.fixed.topology n def.node) refl)
          ∙ chip

  -- ---- an enable stays in both books or in neither

  mode_alike : Below → (a b : State) (n : NodeId) (user : IsUser a.fixed.object n) → Agree border a b → border.master user.place ≡ true
      → master_mode n a ≡ master_mode n b
  mode_alike laws a b n user agree beyond =
      ap (λ place. master_mode_at place a) user.is_place
      ∙ laws.mode border user.place a b beyond agree
      ∙ sym (ap (λ place. master_mode_at place b) (ap (λ (fixed : Fixed). configured_place fixed.object n) (sym agree.fixed) ∙ user.is_place))

  stays_alike : Below → (a b : State) → Agree border a b → IsClockBeyond a.fixed border def.number → (n : NodeId)
      → stays (view_of a) def n ≡ stays (view_of b) def n
  stays_alike laws a b agree beyond n =
      by (may_use (in_force a) a.fixed.topology n def.node) refl
      ∙ ap (λ (may : Bool). not (same_mode (master_mode n b) Off) && may) (permit_alike a b agree beyond n)
    where
      by : (may : Bool) → may_use (in_force a) a.fixed.topology n def.node ≡ may
          → (not (same_mode (master_mode n a) Off) && may) ≡ (not (same_mode (master_mode n b) Off) && may)
      by false is = and_false (not (same_mode (master_mode n a) Off)) ∙ sym (and_false (not (same_mode (master_mode n b) Off)))
      by true is =
          let user = user_at a.fixed (in_force a) agree.now.first n def.node is in
          ap (λ mode. not (same_mode mode Off) && true) (mode_alike laws a b n user agree (user_beyond a.fixed beyond (in_force a) agree.now.first n user is))

  -- ---- a call

  -- a call on this clock, or on another one: equal columns stay equal
  call_alike : (a b : Seen) (call : Option (NodeId × ClockCall)) (s t : Tree) → ((n : NodeId) → a.may_use n def.node ≡ b.may_use n def.node) → column k s ≡ column k t
      → column k (served_by a call s) ≡ column k (served_by b call t)
  call_alike a b None s t permit same = same
  call_alike a b (Some call) s t permit same = by (clock_place call.1.clock) refl
    where
      apart : (clock_place call.1.clock ≡ Some k → ⊥) → column k (served a call.0 call.1 s) ≡ column k (served b call.0 call.1 t)
      apart other = served_other k a call.0 call.1 s other ∙ same ∙ sym (served_other k b call.0 call.1 t other)

      at : (j : ℕ) → clock_place call.1.clock ≡ Some j → (own : Bool) → (j == k) ≡ own
          → column k (served a call.0 call.1 s) ≡ column k (served b call.0 call.1 t)
      at j place true is =
          served_alike k def a b call.0 call.1 s t here (permit call.0) (place ∙ ap (λ (n : ℕ). Some n) (eqb-true j k is)) same
      at j place false is = apart (λ found. clash (sym (equal j k (some_same j k (sym place ∙ found))) ∙ is))

      by : (place : Option ℕ) → clock_place call.1.clock ≡ place → column k (served a call.0 call.1 s) ≡ column k (served b call.0 call.1 t)
      by None place = apart (λ found. no_some k (sym place ∙ found))
      by (Some j) place = at j place (j == k) refl

  -- a call of a master that may not use the slave leaves the clock as it is
  barred_call : (seen : Seen) (master : NodeId) (found : Option ClockCall) (tree : Tree) → seen.may_use master def.node ≡ false
      → column k (served_by seen (option_map (λ call. (master, call)) found) tree) ≡ column k tree
  barred_call seen master None tree barred = refl
  barred_call seen master (Some call) tree barred = served_barred k def seen master call tree here barred

  barred_made : (seen : Seen) (master : NodeId) (message : Message) (answer : Answer) (tree : Tree) → seen.may_use master def.node ≡ false
      → column k (served_by seen (made (Ipi master message) answer) tree) ≡ column k tree
  barred_made seen master message Silent tree barred = refl
  barred_made seen master message (Drop to) tree barred = refl
  barred_made seen master message (Reply to response) tree barred = barred_call seen master (clock_call message) tree barred
  barred_made seen master message (Ack to node status point shown) tree barred = refl

-- ---- a call on a clock names no node

-- a property of all numbers of calls on clocks holds of the number of one
numbered : (P : ℕ → Type 0) (number argument : ℕ) (found : ClockAct) → P 36 → P 37 → P 38 → P 39 → P 40 → P 43 → P 44
    → act_by number argument ≡ Some found → P number
numbered P number argument found p36 p37 p38 p39 p40 p43 p44 is = by_36 (number == 36) refl is
  where
    being : (n : ℕ) → P n → (number == n) ≡ true → P number
    being n holds same = subst P (sym (eqb-true number n same)) holds

    by_44 : (b : Bool) → (number == 44) ≡ b → (if b then Some act.Parent else None) ≡ Some found → P number
    by_44 true same is = being 44 p44 same
    by_44 false same is = absurd (no_some found is)

    by_43 : (b : Bool) → (number == 43) ≡ b → (if b then Some (act.SetParent argument) else if number == 44 then Some act.Parent else None) ≡ Some found → P number
    by_43 true same is = being 43 p43 same
    by_43 false same is = by_44 (number == 44) refl is

    by_40 : (b : Bool) → (number == 40) ≡ b
        → (if b then Some act.Divider else if number == 43 then Some (act.SetParent argument) else if number == 44 then Some act.Parent else None) ≡ Some found → P number
    by_40 true same is = being 40 p40 same
    by_40 false same is = by_43 (number == 43) refl is

    by_39 : (b : Bool) → (number == 39) ≡ b
        → (if b then Some (act.SetDivider argument) else if number == 40 then Some act.Divider else if number == 43 then Some (act.SetParent argument)
        else if number == 44 then Some act.Parent else None) ≡ Some found → P number
    by_39 true same is = being 39 p39 same
    by_39 false same is = by_40 (number == 40) refl is

    by_38 : (b : Bool) → (number == 38) ≡ b
        → (if b then Some act.State else if number == 39 then Some (act.SetDivider argument) else if number == 40 then Some act.Divider
        else if number == 43 then Some (act.SetParent argument) else if number == 44 then Some act.Parent else None) ≡ Some found → P number
    by_38 true same is = being 38 p38 same
    by_38 false same is = by_39 (number == 39) refl is

    by_37 : (b : Bool) → (number == 37) ≡ b
        → (if b then Some act.Disable else if number == 38 then Some act.State else if number == 39 then Some (act.SetDivider argument)
        else if number == 40 then Some act.Divider else if number == 43 then Some (act.SetParent argument)
        else if number == 44 then Some act.Parent else None) ≡ Some found → P number
    by_37 true same is = being 37 p37 same
    by_37 false same is = by_38 (number == 38) refl is

    by_36 : (b : Bool) → (number == 36) ≡ b
        → (if b then Some act.Enable else if number == 37 then Some act.Disable else if number == 38 then Some act.State
        else if number == 39 then Some (act.SetDivider argument) else if number == 40 then Some act.Divider
        else if number == 43 then Some (act.SetParent argument) else if number == 44 then Some act.Parent else None) ≡ Some found → P number
    by_36 true same is = being 36 p36 same
    by_36 false same is = by_37 (number == 37) refl is

-- the call that these arguments make under a number
abbrev pub call_as : Message → ℕ → Call
call_as message number = option_map_or (λ (call : Call). call) (find (λ (call : Call). (row_of call).number == number) (calls_by message)) Unknown

names_nothing : (t : Topology) (border : Border) (message : Message) (found : ClockAct) → act_of message ≡ Some found
    → names_beyond t border (call_of message) ≡ true
names_nothing t border message found is =
    numbered (λ number. names_beyond t border (call_as message number) ≡ true) message.api _ found refl refl refl refl refl refl refl is

-- so the whole message is beyond if its sender is
message_is_beyond : (object : Object) (t : Topology) (border : Border) (sender : NodeId) (message : Message) (found : ClockAct) (p : ℕ)
    → configured_place object sender ≡ Some p → border.master p ≡ true → act_of message ≡ Some found → message_beyond object t border (Ipi sender message) ≡ true
message_is_beyond object t border sender message found p place beyond is =
    ap (λ at. none_within border at && names_beyond t border (call_of message)) place
    ∙ ap (λ (b : Bool). b && names_beyond t border (call_of message)) beyond
    ∙ names_nothing t border message found is

module _ (laws : Below) (m : NodeId) (k : ℕ) (def : ClockDef) (here : slice_get clocks k ≡ Some def) where
  -- ---- what is in both runs

  -- an event that is no message makes no call
  made_alike : (event : Event) (x y : Answer) (a b : State) (s t : Tree) → Agree (border_in a m) a b
      → IsClockBeyond a.fixed (border_in a m) def.number
      → (message_beyond a.fixed.object a.fixed.topology (border_in a m) event ≡ true → x ≡ y)
      → column k s ≡ column k t
      → column k (served_by (view_of a) (made event x) s) ≡ column k (served_by (view_of b) (made event y) t)
  made_alike (Ipi sender message) x y a b s t agree beyond answers same = by (may_use (in_force a) a.fixed.topology sender def.node) refl
    where
      permit : (n : NodeId) → may_use (in_force a) a.fixed.topology n def.node ≡ may_use (in_force b) b.fixed.topology n def.node
      permit = permit_alike (border_in a m) k def here a b agree beyond

      -- a call by a master that may use the slave, and is therefore beyond
      with_act : (found : Option ClockAct) → act_of message ≡ found → may_use (in_force a) a.fixed.topology sender def.node ≡ true
          → column k (served_by (view_of a) (made (Ipi sender message) x) s) ≡ column k (served_by (view_of b) (made (Ipi sender message) y) t)
      with_act None is may = none_made (view_of a) x s ∙ same ∙ sym (none_made (view_of b) y t)
        where
          none_made : (seen : Seen) (answer : Answer) (tree : Tree) → column k (served_by seen (made (Ipi sender message) answer) tree) ≡ column k tree
          none_made seen Silent tree = refl
          none_made seen (Drop to) tree = refl
          none_made seen (Reply to response) tree =
              ap (λ (found : Option ClockAct). column k (served_by seen (option_map (λ (call : ClockCall). (sender, call))
              (option_map (λ (a : ClockAct). record { clock = slice_index message.args 0; act = a }) found)) tree)) is
          none_made seen (Ack to node status point shown) tree = refl
      with_act (Some found) is may =
          let user = user_at a.fixed (in_force a) agree.now.first sender def.node may in
          let is_same : x ≡ y = answers (message_is_beyond a.fixed.object a.fixed.topology (border_in a m) sender message found user.place user.is_place
          (user_beyond (border_in a m) k def here a.fixed beyond (in_force a) agree.now.first sender user may) is) in
          call_alike (border_in a m) k def here (view_of a) (view_of b) (made (Ipi sender message) x) s t permit same
          ∙ ap (λ answer. column k (served_by (view_of b) (made (Ipi sender message) answer) t)) is_same

      by : (may : Bool) → may_use (in_force a) a.fixed.topology sender def.node ≡ may
          → column k (served_by (view_of a) (made (Ipi sender message) x) s) ≡ column k (served_by (view_of b) (made (Ipi sender message) y) t)
      by false is =
          barred_made (border_in a m) k def here (view_of a) sender message x s is ∙ same
          ∙ sym (barred_made (border_in a m) k def here (view_of b) sender message y t (sym (permit sender) ∙ is))
      by true is = with_act (act_of message) refl is
  made_alike _ x y a b s t agree beyond answers same = same

  -- ---- what is in the loud run alone

  own_barred : (a : State) (master : NodeId) → IsAmong a.fixed (in_force a) → master.0 ≡ m.0 → IsClockBeyond a.fixed (border_in a m) def.number
      → may_use (in_force a) a.fixed.topology master def.node ≡ false
  own_barred a master among same beyond = by (may_use (in_force a) a.fixed.topology master def.node) refl
    where
      is_own : master ≡ m
      is_own = ap (λ (number : ℕ). record { 0 = number }) same

      by : (may : Bool) → may_use (in_force a) a.fixed.topology master def.node ≡ may → may ≡ false
      by false is = refl
      by true is =
          let user = user_at a.fixed (in_force a) among master def.node is in
          let its = user_beyond (border_in a m) k def here a.fixed beyond (in_force a) among master user is in
          let place : configured_place a.fixed.object m ≡ Some user.place =
          ap (λ node. configured_place a.fixed.object node) (sym is_own) ∙ user.is_place in
          absurd (clash (sym (laws.own m a) ∙ ap (is_within (border_in a m)) place ∙ ap not its))

  own_made : (event : Event) (answer : Answer) (a : State) (tree : Tree) → IsAmong a.fixed (in_force a) → IsOwn a.fixed.object a.fixed.topology m event
      → IsClockBeyond a.fixed (border_in a m) def.number
      → column k (served_by (view_of a) (made event answer) tree) ≡ column k tree
  own_made (Ipi master message) answer a tree among own beyond =
      barred_made (border_in a m) k def here (view_of a) master message answer tree (own_barred a master among own beyond)
  own_made (Wfi proc) answer a tree among own beyond = refl
  own_made _ answer a tree among own beyond = absurd own

module _ (laws : Below) (m : NodeId) where
  -- ---- a core step

  -- one event in two books that agree
  step_alike : (event : Event) (x y : Answer) (a b : State) (s t : Tree) → Agree (border_in a m) a b
      → (message_beyond a.fixed.object a.fixed.topology (border_in a m) event ≡ true → x ≡ y)
      → HasAllPlaces s → HasAllPlaces t
      → ((k : ℕ) (def : ClockDef) → slice_get clocks k ≡ Some def → IsClockBeyond a.fixed (border_in a m) def.number → column k s ≡ column k t)
      → SameClocks a.fixed (border_in a m) a b (tree_after event x a s) (tree_after event y b t)
  step_alike event x y a b s t agree answers first second columns = record {
    first = tree_over laws.stand event x a s first;
    second = tree_over laws.stand event y b t second;
    columns = λ k def here beyond.
        followed_alike k def (view_of a) (view_of b) (served_by (view_of a) (made event x) s) (served_by (view_of b) (made event y) t) here
        (stays_alike (border_in a m) k def here laws a b agree beyond)
        (made_alike laws m k def here event x y a b s t agree beyond answers (columns k def here beyond));
  }

  left_alike : (event : Event) (x : Answer) (a b : State) (s t : Tree) → Agree (border_in a m) a b
      → IsOwn a.fixed.object a.fixed.topology m event → HasAllPlaces s → IsTreeOver b t
      → ((k : ℕ) (def : ClockDef) → slice_get clocks k ≡ Some def → IsClockBeyond a.fixed (border_in a m) def.number → column k s ≡ column k t)
      → SameClocks a.fixed (border_in a m) a b (tree_after event x a s) t
  left_alike event x a b s t agree own first second columns = record {
    first = tree_over laws.stand event x a s first;
    second = second;
    columns = λ k def here beyond.
        followed_alike k def (view_of a) (view_of b) (served_by (view_of a) (made event x) s) t here
        (stays_alike (border_in a m) k def here laws a b agree beyond)
        (own_made laws m k def here event x a s agree.now.first own beyond ∙ columns k def here beyond)
        ∙ ap (column k) second.stands;
  }

  rest_alike : (y : Answer) (a b : State) (s t : Tree) → Agree (border_in a m) a b → IsTreeOver a s → HasAllPlaces t
      → ((k : ℕ) (def : ClockDef) → slice_get clocks k ≡ Some def → IsClockBeyond a.fixed (border_in a m) def.number → column k s ≡ column k t)
      → SameClocks a.fixed (border_in a m) a b s (tree_after Pass y b t)
  rest_alike y a b s t agree first second columns = record {
    first = first;
    second = tree_over laws.stand Pass y b t second;
    columns = λ k def here beyond.
        sym (ap (column k) first.stands)
        ∙ followed_alike k def (view_of a) (view_of b) s t here
        (stays_alike (border_in a m) k def here laws a b agree beyond) (columns k def here beyond);
  }

  -- ---- core steps beside one another

  cores_along : (object : Object) (t : Topology) (attached : List Attached) (es fs : List Event) → Beside object t m es fs → (a b : State) (s u : Tree)
      → a.fixed ≡ record { object = object; topology = t; attached = attached } → AreObjects a.fixed → IsWellFormed a.fixed.topology → IsSound a → IsSound b
      → Agree (border_in a m) a b → SameClocks a.fixed (border_in a m) a b s u
      → SameClocks a.fixed (border_in a m) (book_after es a) (book_after fs b) (tree_along (cores_of es a) s) (tree_along (cores_of fs b) u)
  cores_along object t attached _ _ none a b s u fixed is formed first second agree same = same
  cores_along object t attached _ _ (in_both event es fs later) a b s u fixed is formed first second agree same =
      let now = laws.both m event a b is formed first second agree in
      cores_along object t attached es fs later (effect event a) (effect event b) (tree_after_core (core_of event a) s) (tree_after_core (core_of event b) u)
      fixed is formed (laws.sound event a first) (laws.sound event b second) now.0
      (step_alike event (outputs event a).answer (outputs event b).answer (effect event a) (effect event b) s u now.0 now.1.answer
      same.first.places same.second.places same.columns)
  cores_along object t attached _ _ (left event es fs own later) a b s u fixed is formed first second agree same =
      let mine : IsOwn a.fixed.object a.fixed.topology m event = subst (λ (f : Fixed). IsOwn f.object f.topology m event) (sym fixed) own in
      let now = laws.left m event a b mine is formed first second agree in
      cores_along object t attached es fs later (effect event a) b (tree_after_core (core_of event a) s) u fixed is formed (laws.sound event a first) second now.0
      (left_alike event (outputs event a).answer (effect event a) b s u now.0 mine same.first.places same.second same.columns)
  cores_along object t attached _ _ (rest es fs later) a b s u fixed is formed first second agree same =
      let now = laws.rest m a b is formed first second agree in
      cores_along object t attached es fs later a (effect Pass b) s (tree_after_core (core_of Pass b) u) fixed is formed first (laws.sound Pass b second) now.0
      (rest_alike (outputs Pass b).answer a (effect Pass b) s u now.0 same.first same.second.places same.columns)

  pub cores_alike : (es fs : List Event) (a b : State) (s t : Tree) → AreObjects a.fixed → IsWellFormed a.fixed.topology → IsSound a → IsSound b
      → Beside a.fixed.object a.fixed.topology m es fs → Agree (border_in a m) a b → SameClocks a.fixed (border_in a m) a b s t
      → SameClocks a.fixed (border_in a m) (book_after es a) (book_after fs b) (tree_along (cores_of es a) s) (tree_along (cores_of fs b) t)
  cores_alike es fs a b s t object formed first second later agree same =
      cores_along a.fixed.object a.fixed.topology a.fixed.attached es fs later a b s t refl object formed first second agree same

  -- ---- equal clocks after that

  root_alike : (a b : State) → AreObjects a.fixed → IsWellFormed a.fixed.topology → Agree (border_in a m) a b → (node : NodeId)
      → is_beyond a.fixed.object a.fixed.topology (border_in a m) (Node node) ≡ true → is_on a node ≡ is_on b node
  root_alike a b object formed agree node beyond =
      ap (λ value. is_slave (kind_of a.fixed.topology node) && not (value == 0)) (laws.values m a b object formed agree (Node node) beyond)
      ∙ ap (λ (fixed : Fixed). is_slave (kind_of fixed.topology node) && not (value (Node node) b == 0)) agree.fixed

  at_place : (f : NodeId → Bool) (nodes : List NodeId) (c : ℕ) → slice_get (map f nodes) c ≡ option_map f (slice_get nodes c)
  at_place f [] c = refl
  at_place f (node ∷ nodes) zero = refl
  at_place f (node ∷ nodes) (suc c) = at_place f nodes c

  pub have_same : (a b : State) (s t : Tree) → AreObjects a.fixed → IsWellFormed a.fixed.topology → Agree (border_in a m) a b
      → SameClocks a.fixed (border_in a m) a b s t → HaveSame (IsClockBeyond a.fixed (border_in a m)) s t
  have_same a b s t object formed agree same = record {
    roots = λ c beyond.
        sym (ap (λ (it : Tree). slice_get it.roots c) same.first.stands)
        ∙ at_place (is_on a) roots c
        ∙ by c beyond (slice_get roots c) refl
        ∙ sym (at_place (is_on b) roots c)
        ∙ ap (λ (it : Tree). slice_get it.roots c) same.second.stands;
    columns = same.columns;
    parents = λ k i p def here beyond parent. λ reached. beyond (driven_within k i p def here parent reached);
  }
    where
      by : (c : ℕ) → IsClockBeyond a.fixed (border_in a m) c → (found : Option NodeId) → slice_get roots c ≡ found
          → option_map (is_on a) found ≡ option_map (is_on b) found
      by c beyond None is = refl
      by c beyond (Some node) is = ap (λ (on : Bool). Some on) (root_same (kind_of a.fixed.topology node) refl)
        where
          -- a root without a slave is off in both books
          off : (kind : Kind) → kind_of a.fixed.topology node ≡ kind → is_slave kind ≡ false → is_on a node ≡ is_on b node
          off kind at no_slave =
              ap (λ (k : Kind). is_slave k && not (value (Node node) a == 0)) at ∙ ap (λ slave. slave && not (value (Node node) a == 0)) no_slave
              ∙ sym (ap (λ (fixed : Fixed). is_slave (kind_of fixed.topology node) && not (value (Node node) b == 0)) (sym agree.fixed)
              ∙ ap (λ (k : Kind). is_slave k && not (value (Node node) b == 0)) at ∙ ap (λ slave. slave && not (value (Node node) b == 0)) no_slave)

          root_same : (kind : Kind) → kind_of a.fixed.topology node ≡ kind → is_on a node ≡ is_on b node
          root_same (Proc p) at = off (Proc p) at refl
          root_same (Power w) at = off (Power w) at refl
          root_same Unknown at = off Unknown at refl
          root_same (Slave s) at = by_border ((border_in a m).slave s) refl
            where
              by_border : (out : Bool) → (border_in a m).slave s ≡ out → is_on a node ≡ is_on b node
              by_border true out =
                  root_alike a b object formed agree node
                  (ap (unit_beyond a.fixed.object a.fixed.topology (border_in a m)) at ∙ out)
              by_border false out = absurd (beyond (root_within c s node is at out))

  -- ---- what a call beyond is answered

  pub answers_alike : RunByTheirParents → (sender : NodeId) (message : Message) (call : ClockCall) (a b : State) (s t : Tree)
      → AreObjects a.fixed → IsWellFormed a.fixed.topology → IsSound a → IsSound b
      → Agree (border_in a m) a b → SameClocks a.fixed (border_in a m) a b s t
      → clock_call message ≡ Some call → IsClockBeyond a.fixed (border_in a m) call.clock
      → message_beyond a.fixed.object a.fixed.topology (border_in a m) (Ipi sender message) ≡ true
      → clock_answer (Ipi sender message) (outputs (Ipi sender message) a).answer (effect (Ipi sender message) a) s
      ≡ clock_answer (Ipi sender message) (outputs (Ipi sender message) b).answer (effect (Ipi sender message) b) t
  answers_alike parents sender message call a b s t object formed first second agree same is beyond whole =
      let event : Event = Ipi sender message in
      ap (λ answer. clock_answer event answer (effect event a) s) ((laws.both m event a b object formed first second agree).1.answer whole)
      ∙ by (outputs event b).answer
    where
      told : response (view_of (effect (Ipi sender message) a)) sender call s ≡ response (view_of (effect (Ipi sender message) b)) sender call t
      told =
          responses_alike parents (IsClockBeyond a.fixed (border_in a m)) s t same.first.places same.second.places
          (have_same a b s t object formed agree same) (view_of (effect (Ipi sender message) a)) (view_of (effect (Ipi sender message) b)) sender call
          (λ k def here number. permit_alike (border_in a m) k def here (effect (Ipi sender message) a) (effect (Ipi sender message) b)
          (laws.both m (Ipi sender message) a b object formed first second agree).0
          (subst (λ c. IsClockBeyond a.fixed (border_in a m) c) (sym number) beyond) sender) beyond

      by : (answer : Answer) → clock_answer (Ipi sender message) answer (effect (Ipi sender message) a) s ≡ clock_answer (Ipi sender message) answer (effect (Ipi sender message) b) t
      by Silent = refl
      by (Drop to) = refl
      by (Ack to node status point shown) = refl
      by (Reply to reply) =
          let by_call : State → Tree → Option ClockCall → Answer = λ book tree found.
          answered (view_of book) tree (option_map (λ (it : ClockCall). (sender, it)) found) (Reply to reply) in
          ap (by_call (effect (Ipi sender message) a) s) is
          ∙ (ap (λ found. Reply to found) told
          ∙ sym (ap (by_call (effect (Ipi sender message) b) t) is))
