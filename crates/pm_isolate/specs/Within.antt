-- The effects of the parts of a comparison. No user of this crate speaks of these words.
use Rattle.std.specs.Prelude.{◌≡◌, ℕ, ◌+◌, ◌==◌, ◌||◌, not, Bool, true, false, if◌then◌else◌, List, [], ◌∷◌, ◌++◌, length, map, Result, Ok, Err, ⊤}
use Rattle.std.specs.List.{concat}
use Rattle.pm_base.specs.declared.errors.Exit.{Exit}
use Rattle.pm_base.specs.declared.errors.Exit.TheVariants.{Done}
use Rattle.pm_base.specs.declared.errors.Failed.{Failed}
use Rattle.pm_base.specs.declared.events.Event.{Event}
use Rattle.pm_base.specs.declared.events.Event.TheVariants.{Post, Serve, Smc}
use Rattle.pm_base.specs.declared.names.NodeId.{NodeId}
use Rattle.pm_base.specs.declared.names.Unit.{Unit}
use Rattle.pm_io.specs.declared.sink.Sink as Sink
use Rattle.pm_io.specs.declared.prefix.StopReason.TheVariants.{End}
use Rattle.pm_io.specs.Calls.{Call}
use Rattle.pm_io.specs.Given.{prefix_called}
use Rattle.pm_io.specs.Inputs.{Moment}
use Rattle.pm_io.specs.Sink.{Wrote}
use Rattle.pm_io.specs.Writing.{BreaksIn}
use Rattle.pm_object.specs.declared.object.Object.{Object}
use Rattle.pm_topology.specs.declared.topology.Topology.{Topology}
use Rattle.pm_topology.specs.UnitMap.{all_at, mapped}
use Rattle.pm_topology.specs.Units.{units_of}
use Rattle.pm_reach.specs.declared.members.Member.{Member}
use Rattle.pm_reach.specs.Membership.{IsReach}
use Rattle.pm_run.specs.Run.{Setup, Stand, line_of, loaded, setup_of}
use Rattle.pm_state.specs.State.{State, objects_in}
use Rattle.pm_state.specs.Values.{shown}
use Rattle.pm_laws.specs.Quiet.{quiet_event}
use Rattle.pm_reader.specs.declared.follow.LineStop.{LineStop}
use Rattle.pm_reader.specs.declared.follow.LineStop.TheVariants as stops
use Rattle.pm_reader.specs.declared.follow.LinesEnd as reader
use Rattle.pm_reader.specs.Front.{Ahead, Attaches}
use Rattle.pm_reader.specs.Shown.{giving, shown as shows_calls}
use Rattle.pm_script.specs.Script.{Script, Stop, script_limit, stop_of}
use Rattle.pm_script.specs.Script.Stop.{Bad}
use Rattle.pm_trace.specs.Reach.{reach_text}
use Rattle.pm_trace.specs.Report.{Report}
use Rattle.pm_trace.specs.Scripts.{at_end, fault_at}
use Rattle.pm_isolate.specs.declared.comparison.Prepared.{Prepared}
use Rattle.pm_isolate.specs.declared.lines.Watcher.{Watcher}
use Rattle.pm_isolate.specs.Sides.{Sides}
use Rattle.pm_isolate.specs.Compared.{Compared}
use Rattle.pm_isolate.specs.Differences.{difference_line, steps_line}
use Rattle.pm_isolate.specs.Marks.{Marks, renewed_along}
use Rattle.pm_isolate.specs.Moves.{Logged}

-- a unit differs if it did before, or if the two books show different values of it
abbrev pub has_differed : State → State → Unit → Bool → Bool
has_differed a b unit before = before || not (shown unit a == shown unit b)

-- the marks of all units, after the two books are compared
abbrev pub compared : State → State → Marks → Marks
compared a b marks = mapped (has_differed a b) marks

-- the marks after only the units at these places are compared
abbrev pub compared_along : State → State → List ℕ → Marks → Marks
compared_along a b places marks = renewed_along (has_differed a b) places marks

-- the marks after the units at the logged places are compared, and those at the given places if a mode may have
-- changed; or all units, if all places are logged
abbrev pub looked : State → State → Logged → List ℕ → Marks → Marks
looked a b m procs marks =
    if m.all then compared a b marks else compared_along a b (if m.modes then procs else []) (compared_along a b m.places.items marks)

-- both runs at load, with equal books
abbrev pub begun : Setup → Sides
begun c = record {
  loud = loaded c;
  quiet = loaded c;
  differs = all_at false (units_of c.topology);
}

-- the state of a run after a script line, whose core events are carried out one after another
abbrev pub line_after : Event → Stand → Stand
line_after event stand = (line_of (setup_of stand.book) event stand).after

-- a line of this event has no other core event, and leaves the boxes: it puts no message into a box and serves none, and is
-- no power call
abbrev pub is_own : Event → Bool
is_own (Post master message) = false
is_own Serve = false
is_own (Smc proc function args) = false
is_own event = true

-- one more line in both runs; in the quiet one nothing in place of a message of the master
abbrev pub stepped : NodeId → Event → Sides → Sides
stepped m event w = record {
  loud = line_after event w.loud;
  quiet = line_after (quiet_event m event) w.quiet;
  differs = compared (line_after event w.loud).book (line_after (quiet_event m event) w.quiet).book w.differs;
}

-- one line after another
abbrev pub after : NodeId → List Event → Sides → Sides
after m [] w = w
after m (event ∷ events) w = after m events (stepped m event w)

-- this is the text of the reach of a master, by the permissions of at least one of these objects
pub record IsReachText (objects : List Object) (t : Topology) (m : NodeId) (text : List ℕ) : Type 0 where
  pub members : List Member
  pub reach : IsReach objects t m members
  pub is : text ≡ reach_text members

-- a script's block was read, both books are at load with what it attaches, and the text of the master's reach is
-- ready, by all objects of the run
pub record IsPrepared (shown : Type 0) (id : ℕ) (ahead : Ahead) (now : Moment) (c : Setup) (m : NodeId) (p : Prepared) : Type 0 where
  pub members : List Member
  pub reach : IsReach (objects_in c.object c.attached) c.topology m members
  pub text : p.reach.items ≡ reach_text members
  pub worlds : p.worlds ≡ begun c
  pub attached : c.attached ≡ ahead.attached
  pub front : Attaches shown id ahead now p.front

-- a watcher steps both books by the event of a line, and goes on with them
pub record Watches (n : ℕ) (event : Event) (old new : Watcher) (result : Result ⊤ Failed) : Type 0 where
  pub worlds : new.worlds.now ≡ stepped old.m event old.worlds.now
  pub m : new.m ≡ old.m
  pub same : new.worlds.ghost_name ≡ old.worlds.ghost_name
  pub ok : result ≡ Ok tt

-- the end of lines: all were carried out, or one can't be read
abbrev pub RanLines : NodeId → Script → Sides → Sides → Result reader.LinesEnd LineStop → Type 0
RanLines m s now last (Ok end) = (s.stop ≡ stop_of end.stop) × (last ≡ after m s.events now) × (end.count ≡ length s.events)
RanLines m s now last (Err (stops.Bad n cause)) = (s.stop ≡ Bad cause) × (n ≡ 1 + length s.events)
RanLines m s now last (Err stops.Broken) = ⊥

-- the line of a unit that was found to differ; that of any other is empty
abbrev pub mark_line : Topology → Unit × Bool → List ℕ
mark_line t mark = if mark.1 then difference_line t mark.0 else []

abbrev pub mark_lines : Sides → List (List ℕ)
mark_lines w = map (mark_line w.loud.book.fixed.topology) w.differs

-- the text after so many script lines
abbrev pub end_text : Sides → ℕ → List ℕ
end_text w count = concat (mark_lines w) ++ steps_line count

-- the report after the last line of a script that came to its end or couldn't be read on
abbrev pub end_report : Stop → Sides → ℕ → Report
end_report stop w count = record { body = at_end stop (end_text w count); fault = fault_at 0 stop }

-- the report of the lines of a script and of what follows them
abbrev pub rest_report : NodeId → Script → Sides → Report
rest_report m s w = record {
  body = at_end s.stop (end_text (after m s.events w) (length s.events));
  fault = fault_at (1 + length s.events) s.stop;
}

-- a report behind a first piece
abbrev pub report_behind : List ℕ → Report → Report
report_behind piece r = record { body = piece ∷ r.body; fault = r.fault }

-- a piece was written if the result is Ok, and broke off if it isn't
module _ {O : Type 0} (o : Sink.Ghosts O) where
  abbrev pub Writes : List ℕ → O → O → Result ⊤ Failed → Type 0
  Writes piece old new (Ok nothing) = Wrote o.observable piece (o.state old) (o.state new)
  Writes piece old new (Err error) = BreaksIn o 0 (piece ∷ []) old new

  -- by what these calls gave of the script: what was asked for and how much was written; on Done they came to the end
  abbrev pub RanGiven : Object → Topology → NodeId → List ℕ → Moment → Moment → O → O → Exit → List Call → Type 0
  RanGiven object t m name old new sink sink' result calls =
      Compared shows_calls o object t m name (giving script_limit calls old) new sink sink' result
      × (result ≡ Done → (prefix_called script_limit calls).stop ≡ End)
