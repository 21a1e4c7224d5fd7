-- The core events of a line are carried out one after another.
use Rattle.std.proofs.Common.{◌≡◌, ℕ, Bool, List, [], ◌∷◌, ◌++◌, map, Option, None, Result, Ok, suc, refl, sym, ◌∙◌, ap, subst}
use Rattle.std.specs.Prelude.{⊤}
use Rattle.pm_base.specs.declared.errors.Failed.{Failed}
use Rattle.pm_base.specs.declared.events.Event.{Event}
use Rattle.pm_io.specs.declared.sink.Sink as Sink
use Rattle.pm_device.specs.declared.device.Device as Device
use Rattle.pm_device.specs.Act.{Chain}
use Rattle.pm_device.specs.Chains.{Chain-append}
use Rattle.pm_ipi.specs.declared.responses.Response.{Response}
use Rattle.pm_modules.specs.Ranges.{Ranged}
use Rattle.pm_board.specs.Board.{Standing, board_after}
use Rattle.pm_object.specs.declared.object.Object.{Object}
use Rattle.pm_topology.specs.declared.topology.Topology.{Topology}
use Rattle.pm_state.specs.State.{Fixed, State}
use Rattle.pm_core.specs.Step.{effect, outputs}
use Rattle.pm_core.specs.declared.outbox.Done.{Done}
use Rattle.pm_core.specs.declared.replies.Answer.{Answer}
use Rattle.pm_clock_tree.specs.Told.{Clocked, changes, told as clocks_told}
use Rattle.pm_clock_tree.specs.Tree.{Tree, running}
use Rattle.pm_clocks.specs.Clocked.{clock_answer, tree_after}
use Rattle.pm_split.specs.declared.cores.CoreEvents.{CoreEvents}
use Rattle.pm_split.specs.Boxes.{Boxes}
use Rattle.pm_split.specs.Left.{boxes_left, events_left}
use Rattle.pm_split.specs.Split.{Note, called_note}
use Rattle.pm_run.specs.Run.{Core, Setup, core_of, cores_of, setup_of, split}
use Rattle.pm_apply.specs.Part.{Kept, Part, answers_in, orders_of, part_in, part_of}
use Rattle.pm_trace.specs.Notes.{notes_text}
use Rattle.pm_trace.specs.Step.{Notices, notices_of, step_text}
use Rattle.pm_drive.specs.Drive.{Given, give, kept_after, orders_in_cores, rigs}
use Rattle.pm_drive.specs.Clocks.{clock_note, clock_notes, clocked_cores, clocked_part, tree_along}
use Rattle.pm_drive.specs.Completed.{completed, completed_cores}
use Rattle.pm_drive.specs.Tasks.{task_notes}
use Rattle.pm_drive.specs.Text.{given_text, later_reply, reply_after}
use Rattle.pm_engine.specs.Progress.{Progress, stand_in}
use Rattle.pm_engine.specs.Writes.{WritesOn}
use Rattle.pm_engine.proofs.WritesLemmas.{on-both, on-none}
use Rattle.pm_replay.specs.Within.{AreTold, RanCore, RanCores, RanLine, given_from}

-- clocks by their tree and what was told of them
clocked_is : (clocks : Clocked) (tree : Tree) (told : List Bool) → clocks.tree ≡ tree → clocks.told ≡ told → clocks ≡ record { tree = tree; told = told }
clocked_is clocks tree told tree_is told_is = rw (tree_is, told_is) refl

module _ {O D : Type 0} (o : Sink.Ghosts O) (d : Device.Ghosts D) where
  -- none is left
  pub RanCores-none : (n : ℕ) (now then : Progress) (modules : List Ranged) (reply : Option Response) (so_far : Result ⊤ Failed) (old : O) (from : D) → then.book ≡ now.book → then.kept ≡ now.kept → then.clocks.tree ≡ now.clocks.tree → RanCores o d n [] now.book now.kept now.clocks.tree then modules reply reply so_far so_far old old from from
  RanCores-none n now then modules reply so_far old from book kept tree = record { answers = []; fits = refl; after = book; keeps = kept; given = refl; turned = tree; replied = refl; writes = on-none o so_far old }

  -- one was carried out, and then the others
  pub RanCores-next : (n : ℕ) (event : Event) (events : List Event) (book : State) (kept : Kept) (tree : Tree) (mid then : Progress) (modules : List Ranged) (reply told : Option Response) (so_far far result : Result ⊤ Failed) (old via new : O) (from between to : D) → RanCore o d n event book kept tree mid modules so_far far old via from between → RanCores o d n events mid.book mid.kept mid.clocks.tree then modules (later_reply reply (completed modules event mid.outbox.answer)) told far result via new between to → RanCores o d n (event ∷ events) book kept tree then modules reply told so_far result old new from to
  RanCores-next n event events book kept tree mid then modules reply told so_far far result old via new from between to one later =
      let answer : Answer = completed modules event mid.outbox.answer in
      let next : Option Response = later_reply reply answer in
      let after_tree : Tree = tree_after event (outputs event book).answer (effect event book) tree in
      let turned : mid.clocks.tree ≡ after_tree = one.turned ∙ ap (λ (b : State). tree_after event (outputs event book).answer b tree) one.after in
      let at_book : RanCores o d n events (effect event book) mid.kept mid.clocks.tree then modules next told far result via new between to = subst (λ (b : State). RanCores o d n events b mid.kept mid.clocks.tree then modules next told far result via new between to) one.after later in
      let rest : RanCores o d n events (effect event book) mid.kept after_tree then modules next told far result via new between to = subst (λ (t : Tree). RanCores o d n events (effect event book) mid.kept t then modules next told far result via new between to) turned at_book in
      let cores : List Core = cores_of events (effect event book) in
      let bare : Part = part_of kept (answers_in mid.outbox) (effect event book) (outputs event book) in
      let is : part_in mid.kept mid.outbox ≡ clocked_part event (effect event book) tree bare =
      one.part ∙ ap (λ (b : State). clocked_part event b tree (part_of kept (answers_in mid.outbox) b (outputs event book))) one.after
      in
      let holds : mid.kept ≡ bare.kept = ap (λ (p : Part). p.kept) is in
      let done : mid.outbox.done.items ≡ bare.commands = ap (λ (p : Part). p.commands) is in
      let says : mid.outbox.answer ≡ clock_answer event bare.answer (effect event book) tree = ap (λ (p : Part). p.answer) is in
      let text = subst (λ (notices : Notices). WritesOn o (step_text n mid.outbox.done.items notices answer) so_far far old via) one.notices one.writes in
      let G : Kept → List Given = λ k. give k rest.answers cores in
      let first : Kept → Answer → Given = λ k a. record { core = core_of event book; part = record { commands = bare.commands; kept = k; answer = completed modules event a } } in
      let all : Kept → Answer → List Given = λ k a. first k a ∷ completed_cores modules (clocked_cores after_tree (G k)) in
      let moved : Chain d.Does (orders_of bare.commands) from between = subst (λ (commands : List Done). Chain d.Does (orders_of commands) from between) done one.given in
      record {
        answers = answers_in mid.outbox ∷ rest.answers;
        fits = ap suc rest.fits;
        after = rest.after;
        keeps = subst (λ (k : Kept). then.kept ≡ kept_after k (G k)) holds rest.keeps;
        given = subst (λ (k : Kept). Chain d.Does (orders_of bare.commands ++ orders_in_cores (G k)) from to) holds
            (Chain-append d.Does (orders_of bare.commands) (orders_in_cores (G mid.kept)) from between to moved rest.given);
        turned = subst (λ (k : Kept). then.clocks.tree ≡ tree_along (G k) after_tree) holds rest.turned;
        replied = subst (λ (k : Kept). told ≡ reply_after (later_reply reply (completed modules event (clock_answer event bare.answer (effect event book) tree))) (completed_cores modules (clocked_cores after_tree (G k)))) holds
            (subst (λ (a : Answer). told ≡ reply_after (later_reply reply (completed modules event a)) (completed_cores modules (clocked_cores after_tree (G mid.kept)))) says rest.replied);
        writes =
            let here : WritesOn o (step_text n bare.commands (notices_of (outputs event book)) answer) so_far far old via =
            subst (λ (commands : List Done). WritesOn o (step_text n commands (notices_of (outputs event book)) answer) so_far far old via) done text
            in
            subst (λ (k : Kept). WritesOn o (given_text n (all k (clock_answer event bare.answer (effect event book) tree))) so_far result old new) holds
            (subst (λ (a : Answer). WritesOn o (given_text n (all mid.kept a)) so_far result old new) says
            (on-both o (step_text n bare.commands (notices_of (outputs event book)) answer) (given_text n (completed_cores modules (clocked_cores after_tree (G mid.kept)))) so_far far result old via new here rest.writes));
      }

  -- part of the way: the core events that are left are carried out so that those of the whole line are, from the
  -- state of the device at its beginning; and the boxes that are left are those after the line
  pub record IsUnderWay (n : ℕ) (event : Event) (modules : List Ranged) (left : CoreEvents) (start now : Progress) (reply : Option Response) (so_far : Result ⊤ Failed) (first old : O) (begin dev : D) : Type 0 where
    pub fixed : now.book.fixed ≡ start.book.fixed
    pub still : now.clocks.told ≡ start.clocks.told
    pub goes : (then : Progress) (told : Option Response) (result : Result ⊤ Failed) (new : O) (to : D)
        → RanCores o d n (events_left start.book.fixed.object start.book.fixed.topology now.boxes left) now.book now.kept now.clocks.tree then modules reply told so_far result old new dev to
        → RanCores o d n (split (setup_of start.book) event (stand_in start)).events start.book start.kept start.clocks.tree then modules None told (Ok tt) result first new begin to
    pub boxes : boxes_left now.boxes left ≡ (split (setup_of start.book) event (stand_in start)).boxes

  -- nothing was carried out yet
  pub none_yet : (n : ℕ) (event : Event) (modules : List Ranged) (left : CoreEvents) (start now : Progress) (first : O) (begin : D)
      → now.book ≡ start.book → now.kept ≡ start.kept → now.clocks ≡ start.clocks
      → events_left start.book.fixed.object start.book.fixed.topology now.boxes left ≡ (split (setup_of start.book) event (stand_in start)).events
      → boxes_left now.boxes left ≡ (split (setup_of start.book) event (stand_in start)).boxes
      → IsUnderWay n event modules left start now None (Ok tt) first first begin begin
  none_yet n event modules left start now first begin book kept clocks events boxes = record {
    fixed = ap (λ (b : State). b.fixed) book;
    still = ap (λ (it : Clocked). it.told) clocks;
    goes = λ then told result new to ran.
        let rest : List Event = events_left start.book.fixed.object start.book.fixed.topology now.boxes left in
        let P : State → Type 0 = λ b. RanCores o d n rest b now.kept now.clocks.tree then modules None told (Ok tt) result first new begin to in
        let Q : Kept → Type 0 = λ k. RanCores o d n rest start.book k now.clocks.tree then modules None told (Ok tt) result first new begin to in
        let C : Clocked → Type 0 = λ it. RanCores o d n rest start.book start.kept it.tree then modules None told (Ok tt) result first new begin to in
        let R : List Event → Type 0 = λ events. RanCores o d n events start.book start.kept start.clocks.tree then modules None told (Ok tt) result first new begin to in
        subst R events (subst C clocks (subst Q kept (subst P book ran)));
    boxes = boxes;
  }

  -- one more is taken off and carried out
  pub one_more : (n : ℕ) (event core : Event) (modules : List Ranged) (left rest : CoreEvents) (start now taken mid : Progress) (reply : Option Response) (so_far far : Result ⊤ Failed) (first old via : O) (begin dev between : D)
      → IsUnderWay n event modules left start now reply so_far first old begin dev
      → taken.book ≡ now.book → taken.kept ≡ now.kept → taken.clocks ≡ now.clocks
      → events_left now.book.fixed.object now.book.fixed.topology now.boxes left ≡ core ∷ events_left now.book.fixed.object now.book.fixed.topology taken.boxes rest
      → boxes_left taken.boxes rest ≡ boxes_left now.boxes left
      → mid.boxes ≡ taken.boxes → mid.clocks.told ≡ taken.clocks.told
      → RanCore o d n core taken.book taken.kept taken.clocks.tree mid modules so_far far old via dev between
      → IsUnderWay n event modules rest start mid (later_reply reply (completed modules core mid.outbox.answer)) far first via begin between
  one_more n event core modules left rest start now taken mid reply so_far far first old via begin dev between way book kept clocks events boxes same tells one =
      let object : Object = start.book.fixed.object in
      let t : Topology = start.book.fixed.topology in
      let P : Fixed → Type 0 = λ fixed. events_left fixed.object fixed.topology now.boxes left ≡ core ∷ events_left fixed.object fixed.topology taken.boxes rest in
      let next : events_left object t now.boxes left ≡ core ∷ events_left object t mid.boxes rest =
      subst P way.fixed events ∙ ap (λ (b : Boxes). core ∷ events_left object t b rest) (sym same)
      in
      record {
        fixed = ap (λ (b : State). b.fixed) one.after ∙ (ap (λ (b : State). b.fixed) book ∙ way.fixed);
        still = tells ∙ (ap (λ (it : Clocked). it.told) clocks ∙ way.still);
        goes = λ then told result new to ran.
            let all = RanCores-next n core (events_left object t mid.boxes rest) taken.book taken.kept taken.clocks.tree mid then modules reply told so_far far result old via new dev between to one ran in
            let Q : State → Type 0 = λ b. RanCores o d n (core ∷ events_left object t mid.boxes rest) b taken.kept taken.clocks.tree then modules reply told so_far result old new dev to in
            let R : Kept → Type 0 = λ k. RanCores o d n (core ∷ events_left object t mid.boxes rest) now.book k taken.clocks.tree then modules reply told so_far result old new dev to in
            let C : Clocked → Type 0 = λ it. RanCores o d n (core ∷ events_left object t mid.boxes rest) now.book now.kept it.tree then modules reply told so_far result old new dev to in
            let S : List Event → Type 0 = λ events. RanCores o d n events now.book now.kept now.clocks.tree then modules reply told so_far result old new dev to in
            way.goes then told result new to (subst S (sym next) (subst C clocks (subst R kept (subst Q book all))));
        boxes = ap (λ (b : Boxes). boxes_left b rest) same ∙ (boxes ∙ way.boxes);
      }

  -- none is left: the line was carried out, what it writes itself was written, clocks are told of, and its tasks were called
  pub line_ran : (n : ℕ) (event : Event) (board is_board : Standing) (left : CoreEvents) (noted : List Note) (start now then : Progress) (reply : Option Response) (so_far result : Result ⊤ Failed) (first old new : O) (from begin dev : D)
      → Chain d.Does (rigs event) from begin
      → IsUnderWay n event board.modules left start now reply so_far first old begin dev
      → then.book ≡ now.book → then.kept ≡ now.kept → then.clocks ≡ clocks_told now.clocks → AreTold start.clocks
      → events_left now.book.fixed.object now.book.fixed.topology now.boxes left ≡ []
      → then.boxes ≡ boxes_left now.boxes left
      → noted ≡ (((split (setup_of start.book) event (stand_in start)).notes ++ map clock_note (changes now.clocks)) ++ task_notes event board.tasks)
      ++ called_note then.book.fixed.topology event reply
      → WritesOn o (notes_text n noted) so_far result old new
      → is_board ≡ board_after event board
      → (c : Setup) → setup_of start.book ≡ c → RanLine o d c n event start then first new from dev board is_board result
  line_ran n event board is_board left noted start now then reply so_far result first old new from begin dev rigged way book kept clocks was none boxes notes writes tasks c is =
      let P : Fixed → Type 0 = λ fixed. events_left fixed.object fixed.topology now.boxes left ≡ [] in
      let Q : List Event → Type 0 = λ events. RanCores o d n events now.book now.kept now.clocks.tree then board.modules reply reply so_far so_far old old dev dev in
      let R : Setup → Type 0 = λ c. RanLine o d c n event start then first new from dev board is_board result in
      let W : List Note → Type 0 = λ notes. WritesOn o (notes_text n notes) so_far result old new in
      let tree : then.clocks.tree ≡ now.clocks.tree = ap (λ (it : Clocked). it.tree) clocks in
      let cores = way.goes then reply so_far old dev (subst Q (sym (subst P way.fixed none)) (RanCores-none n now then board.modules reply so_far old dev book kept tree)) in
      let own : List Note = (split (setup_of start.book) event (stand_in start)).notes in
      let end : List Note → List Note = λ turns. ((own ++ turns) ++ task_notes event board.tasks) ++ called_note then.book.fixed.topology event reply in
      let turns : map clock_note (changes now.clocks) ≡ clock_notes start.clocks.tree (given_from (setup_of start.book) event start cores.answers) =
      ap (λ (it : Clocked). map clock_note (changes it))
      (clocked_is now.clocks (tree_along (given_from (setup_of start.book) event start cores.answers) start.clocks.tree) (running start.clocks.tree)
      (sym tree ∙ cores.turned) (way.still ∙ was))
      in
      subst R is (record {
        between = begin;
        rigged = rigged;
        far = so_far;
        via = old;
        told = reply;
        cores = cores;
        clocks_told = ap (λ (it : Clocked). it.told) clocks ∙ sym (ap (λ (it : Clocked). running it.tree) clocks);
        boxes = boxes ∙ way.boxes;
        notes = subst W (notes ∙ ap end turns) writes;
        tasks_left = tasks;
      })
