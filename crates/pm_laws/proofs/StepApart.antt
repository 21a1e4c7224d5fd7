-- One core step in two books that agree beyond the reach of a master, without its message in one of them.
use Rattle.std.proofs.Common.{◌≡◌, ℕ, ◌==◌, Bool, true, false, not, if◌then◌else◌, option_and_then, position, List, Option, None, Some, refl, ap, sym, ◌∙◌, subst}
use Rattle.std.specs.List.{list_any}
use Rattle.std.proofs.lemmas.Bool.{eqb-true}
use Rattle.pm_laws.proofs.Common.{Agree, AreObjects, BelowLaws, Border, Event, Fixed, Ipi, IsClosed, IsKind, IsObject, IsSound, IsWellFormed, Kind, MasterRec, NodeId, Object, Pass, Power, Slave, State, Topology, Unknown, Wfi, border_of, effect, is_hidden, is_within, kind_of, master_place, none_within, owner_by, configured_place}
use Rattle.pm_base.specs.declared.events.Event.TheVariants.{Post, Smc}
use Rattle.pm_base.specs.declared.events.Message.{Message}
use Rattle.pm_base.proofs.Booleans.{both}
use Rattle.pm_perms.specs.Owner.{owner}
use Rattle.pm_reach.proofs.MembershipLaw.{is_there}
use Rattle.pm_topology.specs.declared.places.Kind.TheVariants.{Proc}
use Rattle.pm_topology.specs.declared.topology.ProcDef.{ProcDef}
use Rattle.pm_run.specs.Run.{core_of}
use Rattle.pm_laws.specs.Beside.{IsOwn}
use Rattle.pm_laws.specs.Left.{border_in}
use Rattle.pm_laws.specs.Quiet.{quiet_event}
use Rattle.pm_laws.specs.Told.{SameTold, TellsNothing}
use Rattle.pm_laws.proofs.AgreeLaw.{agree_self, agree_sym, agree_trans}
use Rattle.pm_laws.proofs.StepLaw.{message_within, step_hidden, steps_agree}
use Rattle.pm_laws.proofs.ToldLaw.{nothing_told, same_told}

-- what is known of the border of a reach
pub record ReachLaws : Type 0 where
  pub closed : (fixed : Fixed) (m : NodeId) → AreObjects fixed → IsWellFormed fixed.topology → IsClosed fixed (border_of fixed m)
  pub own : (m : NodeId) (book : State) → is_within (border_of book.fixed m) (master_place m book) ≡ true

-- ---- an event, or nothing

-- what holds of each event in both, and of a message of the master, sent or put into its box, in the one and nothing in the other
module _ (m : NodeId) (R : Event → Event → Type 0) (same : (event : Event) → R event event) (own : (message : Message) → R (Ipi m message) Pass)
    (put : (message : Message) → R (Post m message) Pass) (called : (proc : NodeId) (function : ℕ) (args : List ℕ) → R (Smc proc function args) Pass) where
  message_by : (master : NodeId) (message : Message) (mine : Bool) → (master.0 == m.0) ≡ mine
      → R (Ipi master message) (if mine then Pass else Ipi master message)
  message_by master message true is =
      let P : ℕ → Type 0 = λ number. R (Ipi (record { 0 = number }) message) Pass in
      subst P (sym (eqb-true master.0 m.0 is)) (own message)
  message_by master message false is = same (Ipi master message)

  post_by : (master : NodeId) (message : Message) (mine : Bool) → (master.0 == m.0) ≡ mine
      → R (Post master message) (if mine then Pass else Post master message)
  post_by master message true is =
      let P : ℕ → Type 0 = λ number. R (Post (record { 0 = number }) message) Pass in
      subst P (sym (eqb-true master.0 m.0 is)) (put message)
  post_by master message false is = same (Post master message)

  call_by : (proc : NodeId) (function : ℕ) (args : List ℕ) (mine : Bool) → R (Smc proc function args) (if mine then Pass else Smc proc function args)
  call_by proc function args true = called proc function args
  call_by proc function args false = same (Smc proc function args)

  pub by_quiet : (event : Event) → R event (quiet_event m event)
  by_quiet (Ipi master message) = message_by master message (master.0 == m.0) refl
  by_quiet (Post master message) = post_by master message (master.0 == m.0) refl
  by_quiet (Smc proc function args) = call_by proc function args (m.0 == 1)
  by_quiet event = same event

-- a master of the object is within its own reach, so that none of its messages is of a master beyond
not_beyond : (b : Bool) → not b ≡ true → b ≡ true → ⊥
not_beyond true within beyond = cc
not_beyond false within beyond = cc

within_itself : (border : Border) (place : Option ℕ) → (place ≡ None → ⊥) → is_within border place ≡ true → none_within border place ≡ true → ⊥
within_itself border None there within beyond = there refl
within_itself border (Some k) there within beyond = not_beyond (border.master k) within beyond

module _ (reach : ReachLaws) (laws : BelowLaws) (m : NodeId) where
  -- the owner of a processor is that of its number, and what is no processor is nobody's
  owned_hidden : (a : State) (proc : NodeId) (kind : Kind) → IsKind a.fixed.topology proc kind
      → owner a.fixed.object a.fixed.topology proc ≡ configured_place a.fixed.object m → is_within (border_in a m) (owner_by kind a) ≡ true
  owned_hidden a proc (Proc p) there is =
      ap (is_within (border_in a m))
      (ap (λ (found : Option ProcDef). option_and_then (λ (def : ProcDef). owner a.fixed.object a.fixed.topology def.node) found) there.1
      ∙ (ap (λ (n : ℕ). owner a.fixed.object a.fixed.topology (record { 0 = n })) there.2 ∙ is))
      ∙ reach.own m a
  owned_hidden a proc (Slave s) there is = refl
  owned_hidden a proc (Power w) there is = refl
  owned_hidden a proc Unknown there is = refl

  -- the messages of a master, and the waits of its processors, are hidden from beyond its reach
  own_hidden : (event : Event) (a : State) → IsOwn a.fixed.object a.fixed.topology m event → is_hidden (border_in a m) event a ≡ true
  own_hidden (Ipi master message) a is =
      message_within (border_in a m) master message a
      (ap (λ (n : ℕ). is_within (border_in a m) (position (λ (r : MasterRec). r.node == n) a.fixed.object.masters)) is ∙ reach.own m a)
  own_hidden (Wfi proc) a is = owned_hidden a proc (kind_of a.fixed.topology proc) (laws.kinds.is a.fixed.topology proc) is
  own_hidden event a is = absurd is

  module _ (a b : State) (object : AreObjects a.fixed) (chip : IsWellFormed a.fixed.topology) (sound_a : IsSound a) (sound_b : IsSound b) (agree : Agree (border_in a m) a b) where
    abbrev edge : Border
    edge = border_in a m

    closed_a : IsClosed a.fixed edge
    closed_a = reach.closed a.fixed m object chip

    closed_b : IsClosed b.fixed edge
    closed_b = let P : Fixed → Type 0 = λ fixed. IsClosed fixed edge in subst P agree.fixed closed_a

    pub both_apart : (event : Event) → Agree edge (effect event a) (effect event b)
        × SameTold a.fixed.object a.fixed.topology edge (core_of event a) (core_of event b)
    both_apart event = (
      steps_agree laws edge event a b closed_a sound_a sound_b agree,
      same_told laws edge event a b closed_a sound_a sound_b agree object.0 chip,
    )

    pub left_apart : (event : Event) → IsOwn a.fixed.object a.fixed.topology m event → Agree edge (effect event a) b
        × TellsNothing a.fixed.object a.fixed.topology edge (core_of event a)
    left_apart event own =
        let is = own_hidden event a own in (
          step_hidden laws edge event a b closed_a sound_a sound_b is agree,
          nothing_told laws edge event a closed_a sound_a is object.0,
        )

    -- a book in which nothing happens stays
    pub rest_apart : Agree edge a (effect Pass b) × TellsNothing a.fixed.object a.fixed.topology edge (core_of Pass b)
    rest_apart =
        let stays : Agree edge (effect Pass b) b = step_hidden laws edge Pass b b closed_b sound_b sound_b refl (agree_self laws.units edge b closed_b sound_b) in
        let P : Fixed → Type 0 = λ fixed. IsObject fixed.object in
        let Q : Fixed → Type 0 = λ fixed. TellsNothing fixed.object fixed.topology edge (core_of Pass b) in (
          agree_trans edge a b (effect Pass b) agree (agree_sym edge (effect Pass b) b stays),
          subst Q (sym agree.fixed) (nothing_told laws edge Pass b closed_b sound_b refl (subst P agree.fixed object.0)),
        )

-- ---- an event in the one book, and in the other the same, or nothing where it is a message of the master

-- steps that tell nothing tell the same, if the object has the master: its message is of nobody beyond
pub agree_quiet : ReachLaws → BelowLaws → (m : NodeId) (event : Event) (a b : State) → AreObjects a.fixed → IsWellFormed a.fixed.topology
    → IsSound a → IsSound b → Agree (border_in a m) a b
    → Agree (border_in a m) (effect event a) (effect (quiet_event m event) b)
agree_quiet reach laws m event a b object chip sound_a sound_b agree =
    by_quiet m (λ one other. Agree (border_in a m) (effect one a) (effect other b))
    (λ one. (both_apart reach laws m a b object chip sound_a sound_b agree one).0)
    (λ message.
    let still : Agree (border_in a m) a (effect Pass b) = (rest_apart reach laws m a b object chip sound_a sound_b agree).0 in
    let itself : Agree (border_in a m) a a = agree_self laws.units (border_in a m) a (reach.closed a.fixed m object chip) sound_a in
    agree_trans (border_in a m) (effect (Ipi m message) a) a (effect Pass b)
    (left_apart reach laws m a a object chip sound_a sound_a itself (Ipi m message) refl).0 still)
    (λ message. (both_apart reach laws m a b object chip sound_a sound_b agree Pass).0)
    (λ proc function args. (both_apart reach laws m a b object chip sound_a sound_b agree Pass).0)
    event

pub told_quiet : ReachLaws → BelowLaws → (m : NodeId) (event : Event) (a b : State) → AreObjects a.fixed → IsWellFormed a.fixed.topology
    → list_any (λ (r : MasterRec). r.node == m.0) a.fixed.object.masters ≡ true
    → IsSound a → IsSound b → Agree (border_in a m) a b
    → SameTold a.fixed.object a.fixed.topology (border_in a m) (core_of event a) (core_of (quiet_event m event) b)
told_quiet reach laws m event a b object chip named sound_a sound_b agree =
    by_quiet m (λ one other. SameTold a.fixed.object a.fixed.topology (border_in a m) (core_of one a) (core_of other b))
    (λ one. (both_apart reach laws m a b object chip sound_a sound_b agree one).1)
    (λ message.
    let first = (left_apart reach laws m a b object chip sound_a sound_b agree (Ipi m message) refl).1 in
    let second = (rest_apart reach laws m a b object chip sound_a sound_b agree).1 in
    let own_beyond : none_within (border_in a m) (configured_place a.fixed.object m) ≡ true → ⊥ =
    within_itself (border_in a m) (configured_place a.fixed.object m) (is_there (λ (r : MasterRec). r.node == m.0) a.fixed.object.masters named) (reach.own m a)
    in
    record {
      moves = first.moves ∙ sym second.moves;
      starts = first.starts ∙ sym second.starts;
      pulse = first.pulse ∙ sym second.pulse;
      asked = first.asked ∙ sym second.asked;
      ends = first.ends ∙ sym second.ends;
      late = first.late ∙ sym second.late;
      callbacks = first.callbacks ∙ sym second.callbacks;
      drop = λ beyond. absurd (own_beyond beyond);
      answer = λ beyond. absurd (own_beyond (both _ _ beyond).0);
    })
    (λ message.
    let first = (both_apart reach laws m a b object chip sound_a sound_b agree Pass).1 in
    record {
      moves = first.moves;
      starts = first.starts;
      pulse = first.pulse;
      asked = first.asked;
      ends = first.ends;
      late = first.late;
      callbacks = first.callbacks;
      drop = first.drop;
      answer = first.answer;
    })
    (λ proc function args.
    let first = (both_apart reach laws m a b object chip sound_a sound_b agree Pass).1 in
    record {
      moves = first.moves;
      starts = first.starts;
      pulse = first.pulse;
      asked = first.asked;
      ends = first.ends;
      late = first.late;
      callbacks = first.callbacks;
      drop = first.drop;
      answer = first.answer;
    })
    event
