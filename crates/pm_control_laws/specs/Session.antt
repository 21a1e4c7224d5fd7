-- A controller over a list of events, each of whose commands is answered, beside the driven run of these events.
use Rattle.std.specs.Prelude.{◌≡◌, ℕ, Bool, List, [], ◌∷◌, None, ⊤}
use Rattle.pm_base.specs.declared.events.Event.{Event}
use Rattle.pm_base.specs.declared.events.Event.TheVariants.{Post, Serve, Smc}
use Rattle.pm_object.specs.declared.object.Object.{Object}
use Rattle.pm_topology.specs.declared.topology.Topology.{Topology}
use Rattle.pm_apply.specs.Part.{part_in}
use Rattle.pm_trace.specs.Step.{core_text, notices_in, notices_of}
use Rattle.pm_drive.specs.Drive.{Given}
use Rattle.pm_controller.specs.Controls.{Controls, text_of}
use Rattle.pm_controller.specs.Steps.{IsLoaded, TakesAnswer, TakesEvent}

-- ---- a session

-- a core event: one that the core takes as it is, and no line of the boxes or power call that is split into others
abbrev pub IsCore : Event → Type 0
IsCore (Post master message) = ⊥
IsCore Serve = ⊥
IsCore (Smc proc function args) = ⊥
IsCore event = ⊤

-- commands are answered so, one after another
abbrev pub Answered : List Bool → Controls → Controls → Type 0
Answered [] old new = old ≡ new
Answered (ok ∷ answers) old new = (next : Controls) × TakesAnswer ok old next × Answered answers next new

-- step 0 begins with the load of this object over this chip, its commands are answered so, and none waits then
pub record IsFirst (object : Object) (topology : Topology) (answers : List Bool) (end : Controls) : Type 0 where
  pub begun : Controls
  pub loaded : IsLoaded object topology begun
  pub answered : Answered answers begun end
  pub over : end.waits ≡ None

-- so a step begins with an event
pub record IsStep (event : Event) (answers : List Bool) (old end : Controls) : Type 0 where
  pub begun : Controls
  pub taken : TakesEvent event old begun
  pub answered : Answered answers begun end
  pub over : end.waits ≡ None

-- steps one after another, with the controller at the end of each
abbrev pub AreSteps : List Event → List (List Bool) → Controls → List Controls → Type 0
AreSteps [] [] old [] = ⊤
AreSteps (event ∷ events) (given ∷ answers) old (end ∷ ends) = IsStep event given old end × AreSteps events answers end ends
AreSteps _ _ old _ = ⊥

-- a load and then these events, with the answers to the commands of each step
abbrev pub IsSession : Object → Topology → List Event → List (List Bool) → List Controls → Type 0
IsSession object topology events (given ∷ answers) (end ∷ ends) = IsFirst object topology given end × AreSteps events answers end ends
IsSession object topology events _ _ = ⊥

-- ---- beside a driven run

-- a controller at the end of a core step of a run: the book is that after it; the record, the commands with their answers, and the
-- answer are the part of its device; and what else it tells and its lines are the same
pub record EndsAs (end : Controls) (g : Given) : Type 0 where
  pub book : end.book ≡ g.core.after
  pub part : part_in end.kept end.outbox ≡ g.part
  pub notices : notices_in end.outbox ≡ notices_of g.core.outputs
  pub text : (n : ℕ) → text_of n end ≡ core_text n g.core.outputs g.part

-- so at the end of each step
abbrev pub EndAs : List Controls → List Given → Type 0
EndAs [] [] = ⊤
EndAs (end ∷ ends) (g ∷ given) = EndsAs end g × EndAs ends given
EndAs _ _ = ⊥
