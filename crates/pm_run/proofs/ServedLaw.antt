-- Each line that serves the boxes sends their messages, and empties them.
use Rattle.std.proofs.Common.{◌≡◌, List, [], ◌∷◌, length, map, Bool, true, false, if◌then◌else◌, Option, Some, None, refl, sym, ◌∙◌, ap, subst}
use Rattle.std.proofs.lemmas.List.{length-replicate}
use Rattle.std.proofs.Math.ListN.{length-set}
use Rattle.std.specs.Prelude.{ℕ, slice_set}
use Rattle.pm_base.specs.declared.events.Event.{Event}
use Rattle.pm_base.specs.declared.events.Event.TheVariants.{Pass, Post, Serve}
use Rattle.pm_base.specs.declared.events.Message.{Message}
use Rattle.pm_base.specs.declared.names.NodeId.{NodeId}
use Rattle.pm_ipi.specs.Mail.{all_empty, is_empty}
use Rattle.pm_object.specs.declared.object.Object.{Object}
use Rattle.pm_object.specs.Grammar.{IsObject}
use Rattle.pm_state.specs.State.{State}
use Rattle.pm_core.specs.Step.{effect}
use Rattle.pm_topology.specs.declared.topology.Topology.{Topology}
use Rattle.pm_psci.specs.Lowering.{or_pass}
use Rattle.pm_split.specs.Boxes.{Boxes, box_of, waiting_in}
use Rattle.pm_split.specs.Served.{ServesAll}
use Rattle.pm_split.specs.Split.{post, split_of}
use Rattle.pm_run.specs.Run.{Setup, Stand, Core, cores_of, line_of, lines_of, loaded, run}
use Rattle.pm_run.specs.Served.{EmptiesBoxes, EachServes}

-- all that is in the boxes is served
abbrev pub ServedLaw : Type 0
ServedLaw = (object : Object) (boxes : Boxes) → IsObject object → length boxes ≡ length object.masters → ServesAll object boxes (waiting_in object boxes)

-- a line's core steps have its core events
their_events : (events : List Event) (book : State) → map (λ (core : Core). core.event) (cores_of events book) ≡ events
their_events [] book = refl
their_events (event ∷ events) book = ap (λ later. event ∷ later) (their_events events (effect event book))

-- ---- there are as many boxes as before

as_many_put : (m : ℕ) (message : Message) (boxes : Boxes) (empty : Bool) → length (if empty then slice_set boxes m (Some message) else boxes) ≡ length boxes
as_many_put m message boxes true = length-set boxes m (Some message)
as_many_put m message boxes false = refl

as_many_posted : (place : Option ℕ) (master : NodeId) (message : Message) (boxes : Boxes) → length (post place master message boxes).boxes ≡ length boxes
as_many_posted None master message boxes = refl
as_many_posted (Some m) master message boxes = as_many_put m message boxes (is_empty m boxes)

as_many : (object : Object) (t : Topology) (event : Event) (boxes : Boxes) → length (split_of object t event boxes).boxes ≡ length boxes
as_many object t (Post master message) boxes = as_many_posted (box_of object master) master message boxes
as_many object t Serve boxes = length-replicate (length boxes) None
as_many object t event boxes = refl

-- ---- the lines

serves : ServedLaw → (c : Setup) (stand : Stand) → IsObject c.object → length stand.boxes ≡ length c.object.masters
    → EmptiesBoxes c stand.boxes (line_of c Serve stand)
serves law c stand is many = record {
  served = waiting_in c.object stand.boxes;
  all = law c.object stand.boxes is many;
  cores = their_events (or_pass (waiting_in c.object stand.boxes)) stand.book;
  empty = ap all_empty many;
  notes = refl;
}

each_serves : ServedLaw → (c : Setup) (events : List Event) (stand : Stand) → IsObject c.object → length stand.boxes ≡ length c.object.masters
    → EachServes c stand.boxes (lines_of c events stand)
each_serves law c [] stand is many = tt
each_serves law c (event ∷ events) stand is many =
    let P : Event → Type 0 = λ e. EmptiesBoxes c stand.boxes (line_of c e stand) in (
      λ (same : event ≡ Serve). subst P (sym same) (serves law c stand is many),
      each_serves law c events (line_of c event stand).after is (as_many c.object c.topology event stand.boxes ∙ many),
    )

pub run_serves : ServedLaw → (c : Setup) (events : List Event) → IsObject c.object → EachServes c (loaded c).boxes (run c events)
run_serves law c events is = (λ (same : Pass ≡ Serve). cc, each_serves law c events (loaded c) is (length-replicate (length c.object.masters) None))
