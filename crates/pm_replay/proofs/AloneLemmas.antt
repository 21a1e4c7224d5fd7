-- A line that has only its own core event.
use Rattle.std.proofs.Common.{◌≡◌, ℕ, true, List, [], ◌∷◌, ◌++◌, Option, None, Result, Ok, refl, sym, ◌∙◌, ap, subst}
use Rattle.std.specs.Prelude.{⊤}
use Rattle.std.proofs.lemmas.List.{append-nil}
use Rattle.pm_base.specs.declared.errors.Failed.{Failed}
use Rattle.pm_base.specs.declared.events.Event.{Event}
use Rattle.pm_base.specs.declared.events.Event.TheVariants as events
use Rattle.pm_io.specs.declared.sink.Sink as Sink
use Rattle.pm_device.specs.declared.device.Device as Device
use Rattle.pm_device.specs.Act.{Chain}
use Rattle.pm_ipi.specs.declared.responses.Response.{Response}
use Rattle.pm_modules.specs.Ranges.{Ranged}
use Rattle.pm_topology.specs.declared.topology.Topology.{Topology}
use Rattle.pm_state.specs.State.{State}
use Rattle.pm_split.specs.declared.cores.CoreEvents.TheVariants.{Past}
use Rattle.pm_split.specs.Split.{Note, Split, called_note}
use Rattle.pm_run.specs.Run.{Setup, Stand, setup_of, split}
use Rattle.pm_drive.specs.Drive.{rigs}
use Rattle.pm_drive.specs.Completed.{completed}
use Rattle.pm_drive.specs.Text.{later_reply}
use Rattle.pm_engine.specs.Progress.{Progress, stand_in}
use Rattle.pm_replay.specs.Within.{RanCore, RanCores, is_alone}
use Rattle.pm_replay.proofs.CoresLemmas.{IsUnderWay, RanCores-next}

-- its core events
pub alone_split : (c : Setup) (event : Event) (stand : Stand) → is_alone event ≡ true → split c event stand ≡ record { events = event ∷ []; boxes = stand.boxes; notes = [] }
alone_split c (events.Ipi master message) stand is = refl
alone_split c (events.Boot proc address) stand is = refl
alone_split c (events.Wfi proc) stand is = refl
alone_split c (events.Irq slave) stand is = refl
alone_split c (events.Gic proc) stand is = refl
alone_split c (events.Tick count) stand is = refl
alone_split c (events.Post master message) stand is = cc
alone_split c events.Serve stand is = cc
alone_split c (events.Smc proc function args) stand is = cc
alone_split c (events.Task key interval) stand is = refl
alone_split c (events.Cancel key) stand is = refl
alone_split c (events.Attach address words) stand is = cc
alone_split c (events.Break node) stand is = cc
alone_split c (events.Mend node) stand is = cc
alone_split c events.Pass stand is = refl

-- it does nothing to the device beside its commands
pub alone_rigs : (event : Event) → is_alone event ≡ true → rigs event ≡ []
alone_rigs (events.Ipi master message) is = refl
alone_rigs (events.Boot proc address) is = refl
alone_rigs (events.Wfi proc) is = refl
alone_rigs (events.Irq slave) is = refl
alone_rigs (events.Gic proc) is = refl
alone_rigs (events.Tick count) is = refl
alone_rigs (events.Post master message) is = refl
alone_rigs events.Serve is = refl
alone_rigs (events.Smc proc function args) is = refl
alone_rigs (events.Task key interval) is = refl
alone_rigs (events.Cancel key) is = refl
alone_rigs (events.Attach address words) is = refl
alone_rigs (events.Break node) is = cc
alone_rigs (events.Mend node) is = cc
alone_rigs events.Pass is = refl

-- no power call is answered in it
alone_called : (t : Topology) (event : Event) (reply : Option Response) → is_alone event ≡ true → called_note t event reply ≡ []
alone_called t (events.Ipi master message) reply is = refl
alone_called t (events.Boot proc address) reply is = refl
alone_called t (events.Wfi proc) reply is = refl
alone_called t (events.Irq slave) reply is = refl
alone_called t (events.Gic proc) reply is = refl
alone_called t (events.Tick count) reply is = refl
alone_called t (events.Post master message) reply is = refl
alone_called t events.Serve reply is = refl
alone_called t (events.Smc proc function args) reply is = cc
alone_called t (events.Task key interval) reply is = refl
alone_called t (events.Cancel key) reply is = refl
alone_called t (events.Attach address words) reply is = refl
alone_called t (events.Break node) reply is = refl
alone_called t (events.Mend node) reply is = refl
alone_called t events.Pass reply is = refl

-- so its notes are those of clocks and of tasks
pub alone_notes : (c : Setup) (t : Topology) (event : Event) (stand : Stand) (reply : Option Response) (turns fired : List Note) → is_alone event ≡ true
    → turns ++ fired ≡ (((split c event stand).notes ++ turns) ++ fired) ++ called_note t event reply
alone_notes c t event stand reply turns fired is =
    sym (append-nil (turns ++ fired))
    ∙ (ap (λ (told : List Note). (turns ++ fired) ++ told) (sym (alone_called t event reply is))
    ∙ ap (λ (s : Split). ((s.notes ++ turns) ++ fired) ++ called_note t event reply) (sym (alone_split c event stand is)))

module _ {O D : Type 0} (o : Sink.Ghosts O) (d : Device.Ghosts D) where
  -- nothing is done to the device before its core event
  pub alone_rigged : (event : Event) (dev : D) → is_alone event ≡ true → Chain d.Does (rigs event) dev dev
  alone_rigged event dev is = rw (alone_rigs event is) refl

  -- its core event was carried out, and no other is left
  pub alone_way : (n : ℕ) (event : Event) (modules : List Ranged) (start mid : Progress) (far : Result ⊤ Failed) (first via : O) (begin between : D)
      → is_alone event ≡ true → mid.boxes ≡ start.boxes → mid.clocks.told ≡ start.clocks.told
      → RanCore o d n event start.book start.kept start.clocks.tree mid modules (Ok tt) far first via begin between
      → IsUnderWay o d n event modules Past start mid (later_reply None (completed modules event mid.outbox.answer)) far first via begin between
  alone_way n event modules start mid far first via begin between is boxes tells one =
      let splits = alone_split (setup_of start.book) event (stand_in start) is in
      record {
        fixed = ap (λ (b : State). b.fixed) one.after;
        still = tells;
        goes = λ then told result new to ran.
            subst (λ (s : Split). RanCores o d n s.events start.book start.kept start.clocks.tree then modules None told (Ok tt) result first new begin to) (sym splits)
            (RanCores-next o d n event [] start.book start.kept start.clocks.tree mid then modules None told (Ok tt) far result first via new begin between to one ran);
        boxes = boxes ∙ sym (ap (λ (s : Split). s.boxes) splits);
      }
