-- Lines of a script that are run one after another.
use Rattle.std.proofs.Common.{◌≡◌, ℕ, ◌+◌, Bool, List, [], ◌∷◌, ◌++◌, Option, Some, None, Result, Ok, Err, refl, sym, ◌∙◌, ap, subst, inl, inr}
use Rattle.std.specs.Prelude.{⊤}
use Rattle.std.proofs.lemmas.List.{append-nil}
use Rattle.pm_base.specs.declared.errors.Failed.{Failed}
use Rattle.pm_base.specs.declared.events.Event.{Event}
use Rattle.pm_io.specs.declared.sink.Sink as Sink
use Rattle.pm_io.specs.Sink.{Wrote}
use Rattle.pm_io.specs.Writing.{BreaksIn}
use Rattle.pm_io.proofs.SinkLemmas.{Wrote-refl}
use Rattle.pm_device.specs.declared.device.Device as Device
use Rattle.pm_device.specs.Act.{Chain}
use Rattle.pm_device.specs.Chains.{Chain-append}
use Rattle.pm_ipi.specs.declared.responses.Response.{Response}
use Rattle.pm_modules.specs.declared.modules.ModulesOf.{ModulesOf}
use Rattle.pm_modules.specs.declared.responders.Responder as Responder
use Rattle.pm_tasks.specs.declared.handler.Handler as Handler
use Rattle.pm_board.specs.Board.{Standing, board_after}
use Rattle.pm_board.specs.Standing.{standing}
use Rattle.pm_topology.specs.declared.topology.Topology.{Topology}
use Rattle.pm_state.specs.State.{State}
use Rattle.pm_split.specs.Split.{called_note}
use Rattle.pm_core.specs.Step.{effect}
use Rattle.pm_run.specs.Run.{Setup, book_after, setup_of, split}
use Rattle.pm_reader.specs.declared.follow.LineStop.{LineStop}
use Rattle.pm_reader.specs.declared.follow.LineStop.TheVariants as stops
use Rattle.pm_reader.specs.Follow.{FailsWithin, Followed, GoesThrough}
use Rattle.pm_reader.specs.declared.follow.LinesEnd as reader
use Rattle.pm_script.specs.Script.{Script}
use Rattle.pm_replay.specs.declared.lines.Player.{Player}
use Rattle.pm_drive.specs.Drive.{Driven, acts, acts_of, last_book, last_kept, orders_in_cores, rigs, until}
use Rattle.pm_clock_tree.specs.Tree.{Tree}
use Rattle.pm_drive.specs.Clocks.{clocked_by, clocked_line, last_tree, tree_along}
use Rattle.pm_drive.specs.Completed.{completed_by, completed_line, last_board}
use Rattle.pm_drive.specs.Text.{driven_text, given_text, notes_of, texts}
use Rattle.pm_trace.specs.Notes.{notes_text}
use Rattle.pm_engine.specs.Progress.{Progress, stand_in}
use Rattle.pm_replay.specs.Plays.{Plays}
use Rattle.pm_engine.specs.Writes.{WritesOn}
use Rattle.pm_replay.specs.Within.{AreTold, RanLine, RanLines, Went, driven_from, completed_from}
use Rattle.pm_engine.proofs.WritesLemmas.{on-both}
use Rattle.pm_replay.proofs.DriveLemmas.{driven_line, driven_next, until-cons}
use Rattle.pm_replay.proofs.LeavesLemmas.{Leaves-before, Leaves-cons, behind}

module _ {O D : Type 0} (o : Sink.Ghosts O) (d : Device.Ghosts D) where
  -- ---- steps that are written and driven

  Went-nil : (old : O) (from : D) → Went o d [] [] None old old from from
  Went-nil old from = record { left = Wrote-refl o.observable (o.state old); given = refl }

  -- a line was written and driven, and then others were
  pub Went-cons : (text : List ℕ) (x : Driven) (all : List (List ℕ)) (xs : List Driven) (cut : Option ℕ) (old mid new : O) (from via to : D) → Wrote o.observable text (o.state old) (o.state mid) → Chain d.Does (acts_of x) from via → Went o d all xs cut mid new via to → Went o d (text ∷ all) (x ∷ xs) (behind 1 cut) old new from to
  Went-cons text x all xs cut old mid new from via to wrote given went = record {
    left = Leaves-cons o text all cut old mid new wrote went.left;
    given = subst (λ (xs : List Driven). Chain d.Does (acts xs) from to) (sym (until-cons cut x xs)) (Chain-append d.Does (acts_of x) (acts (until cut xs)) from via to given went.given);
  }

  -- the sink broke off within a line, which was carried out to its end
  pub Went-broken : (text : List ℕ) (x : Driven) (all : List (List ℕ)) (xs : List Driven) (old new : O) (from to : D) → BreaksIn o 0 (text ∷ []) old new → Chain d.Does (acts_of x) from to → Went o d (text ∷ all) (x ∷ xs) (Some 0) old new from to
  Went-broken text x all xs old new from to breaks given = record {
    left = Leaves-before o (text ∷ []) all 0 old new breaks;
    given = rw (append-nil (acts_of x)) given;
  }

  -- ---- lines

  -- lines of these events were run to their end, with the states of the run and the board after them
  record RanAll (c : Setup) (n : ℕ) (events : List Event) (now then : Progress) (old new : O) (from to : D) (board is : Standing) : Type 0 where
    pub answers : List (List Bool)
    pub went : Went o d (texts n (completed_from c board now answers events)) (driven_from c now answers events) None old new from to
    pub book : then.book ≡ last_book now.book (driven_from c now answers events)
    pub kept : then.kept ≡ last_kept now.kept (driven_from c now answers events)
    pub tree : then.clocks.tree ≡ last_tree now.clocks.tree (driven_from c now answers events)
    pub tasks_left : is ≡ last_board board (driven_from c now answers events)

  -- lines of these events were run up to one within which the sink broke off
  record RanSome (c : Setup) (n : ℕ) (events : List Event) (now : Progress) (old new : O) (from to : D) (board is : Standing) : Type 0 where
    pub answers : List (List Bool)
    pub place : ℕ
    pub went : Went o d (texts n (completed_from c board now answers events)) (driven_from c now answers events) (Some place) old new from to
    pub tasks_left : is ≡ last_board board (until (Some place) (driven_from c now answers events))

  RanAll-none : (c : Setup) (n : ℕ) (now : Progress) (old : O) (from : D) (board : Standing) → RanAll c n [] now now old old from from board board
  RanAll-none c n now old from board = record { answers = []; went = Went-nil old from; book = refl; kept = refl; tree = refl; tasks_left = refl }

  module _ (c : Setup) (n : ℕ) (event : Event) (now then : Progress) (old new : O) (from to : D) (board is : Standing) (result : Result ⊤ Failed) (ran : RanLine o d c n event now then old new from to board is result) where
    -- all that was done to the device in a line
    line_given : Chain d.Does (acts_of (driven_line c event now ran.cores.answers)) from to
    line_given =
        Chain-append d.Does (rigs event) (orders_in_cores (driven_line c event now ran.cores.answers).cores) from ran.between to ran.rigged ran.cores.given

    -- all that was written of it
    line_written : WritesOn o (driven_text n (completed_line board (clocked_line now.clocks.tree (driven_line c event now ran.cores.answers)))) (Ok tt) result old new
    line_written =
        let x : Driven = driven_line c event now ran.cores.answers in
        let y : Driven = completed_line board (clocked_line now.clocks.tree x) in
        let chip : then.book.fixed.topology ≡ y.line.after.book.fixed.topology = ap (λ (b : State). b.fixed.topology) ran.cores.after in
        let P : Topology → Type 0 = λ t. WritesOn o (notes_text n (y.line.notes ++ called_note t event ran.told)) ran.far result ran.via new in
        let Q : Option Response → Type 0 = λ told. WritesOn o (notes_text n (y.line.notes ++ called_note y.line.after.book.fixed.topology event told)) ran.far result ran.via new in
        on-both o (given_text n y.cores) (notes_text n (notes_of y)) (Ok tt) ran.far result old ran.via new ran.cores.writes
        (subst Q ran.cores.replied (subst P chip ran.notes))

  -- the object and the chip of a run stay
  same_setup : (events : List Event) (book : State) → setup_of (book_after events book) ≡ setup_of book
  same_setup [] book = refl
  same_setup (event ∷ events) book = same_setup events (effect event book)

  setup_next : (c : Setup) (n : ℕ) (event : Event) (now then : Progress) (old new : O) (from to : D) (board is : Standing) (result : Result ⊤ Failed) → RanLine o d c n event now then old new from to board is result → setup_of now.book ≡ c → setup_of then.book ≡ c
  setup_next c n event now then old new from to board is result ran same =
      ap setup_of ran.cores.after ∙ (same_setup (split c event (stand_in now)).events now.book ∙ same)

  module _ (c : Setup) (n : ℕ) (event : Event) (events : List Event) (now mid : Progress) (old via new : O) (from between to : D) (board mid_board is : Standing) (ran : RanLine o d c n event now mid old via from between board mid_board (Ok tt)) where
    next : (later : List (List Bool)) → driven_from c now (ran.cores.answers ++ later) (event ∷ events) ≡ driven_line c event now ran.cores.answers ∷ driven_from c mid later events
    next later = driven_next c event events now mid ran.cores.answers later ran.cores.fits ran.cores.after ran.boxes ran.cores.keeps

    went_next : (later : List (List Bool)) (cut : Option ℕ) → Went o d (texts (n + 1) (completed_from c mid_board mid later events)) (driven_from c mid later events) cut via new between to → Went o d (texts n (completed_from c board now (ran.cores.answers ++ later) (event ∷ events))) (driven_from c now (ran.cores.answers ++ later) (event ∷ events)) (behind 1 cut) old new from to
    went_next later cut went =
        let x : Driven = driven_line c event now ran.cores.answers in
        let ys : List Driven = driven_from c mid later events in
        let tree : Tree = now.clocks.tree in
        let turned = subst (λ (t : Tree). Went o d (texts (n + 1) (completed_by mid_board (clocked_by t ys))) ys cut via new between to) ran.cores.turned went in
        let rest = subst (λ (b : Standing). Went o d (texts (n + 1) (completed_by b (clocked_by (tree_along x.cores tree) ys))) ys cut via new between to) ran.tasks_left turned in
        subst (λ (xs : List Driven). Went o d (texts n (completed_by board (clocked_by tree xs))) xs (behind 1 cut) old new from to) (sym (next later))
        (Went-cons (driven_text n (completed_line board (clocked_line tree x))) x (texts (n + 1) (completed_by (board_after event board) (clocked_by (tree_along x.cores tree) ys))) ys cut old via new from between to (line_written c n event now mid old via from between board mid_board (Ok tt) ran) (line_given c n event now mid old via from between board mid_board (Ok tt) ran) rest)

    -- the board after the lines up to a cut
    board_next : (later : List (List Bool)) (cut : Option ℕ) → is ≡ last_board mid_board (until cut (driven_from c mid later events)) → is ≡ last_board board (until (behind 1 cut) (driven_from c now (ran.cores.answers ++ later) (event ∷ events)))
    board_next later cut after =
        let x : Driven = driven_line c event now ran.cores.answers in
        let ys : List Driven = driven_from c mid later events in
        after
        ∙ ap (λ (b : Standing). last_board b (until cut ys)) ran.tasks_left
        ∙ sym (ap (λ (xs : List Driven). last_board board xs) (until-cons cut x ys))
        ∙ sym (ap (λ (xs : List Driven). last_board board (until (behind 1 cut) xs)) (next later))

    RanAll-next : (then : Progress) → RanAll c (n + 1) events mid then via new between to mid_board is → RanAll c n (event ∷ events) now then old new from to board is
    RanAll-next then rest = record {
      answers = ran.cores.answers ++ rest.answers;
      went = went_next rest.answers None rest.went;
      book = rest.book ∙ ap (λ b. last_book b (driven_from c mid rest.answers events)) ran.cores.after ∙ sym (ap (λ xs. last_book now.book xs) (next rest.answers));
      kept = rest.kept ∙ ap (λ k. last_kept k (driven_from c mid rest.answers events)) ran.cores.keeps ∙ sym (ap (λ xs. last_kept now.kept xs) (next rest.answers));
      tree = rest.tree ∙ ap (λ t. last_tree t (driven_from c mid rest.answers events)) ran.cores.turned ∙ sym (ap (λ xs. last_tree now.clocks.tree xs) (next rest.answers));
      tasks_left = board_next rest.answers None rest.tasks_left;
    }

    RanSome-next : RanSome c (n + 1) events mid via new between to mid_board is → RanSome c n (event ∷ events) now old new from to board is
    RanSome-next rest = record {
      answers = ran.cores.answers ++ rest.answers;
      place = 1 + rest.place;
      went = went_next rest.answers (Some rest.place) rest.went;
      tasks_left = board_next rest.answers (Some rest.place) rest.tasks_left;
    }

  -- the sink broke off within the first of these lines, which was carried out to its end
  RanSome-first : (c : Setup) (n : ℕ) (event : Event) (events : List Event) (now then : Progress) (old new : O) (from to : D) (board is : Standing) (failed : Failed) → RanLine o d c n event now then old new from to board is (Err failed) → RanSome c n (event ∷ events) now old new from to board is
  RanSome-first c n event events now then old new from to board is failed ran =
      let x : Driven = driven_line c event now ran.cores.answers in
      let ys : List Driven = driven_from c then [] events in
      let next : driven_from c now (ran.cores.answers ++ []) (event ∷ events) ≡ x ∷ ys = driven_next c event events now then ran.cores.answers [] ran.cores.fits ran.cores.after ran.boxes ran.cores.keeps in
      record {
        answers = ran.cores.answers ++ [];
        place = 0;
        went = subst (λ (xs : List Driven). Went o d (texts n (completed_by board (clocked_by now.clocks.tree xs))) xs (Some 0) old new from to) (sym next)
            (Went-broken (driven_text n (completed_line board (clocked_line now.clocks.tree x))) x (texts (n + 1) (completed_by (board_after event board) (clocked_by (tree_along x.cores now.clocks.tree) ys))) ys old new from to (line_written c n event now then old new from to board is (Err failed) ran) (line_given c n event now then old new from to board is (Err failed) ran));
        tasks_left = ran.tasks_left ∙ sym (ap (λ (xs : List Driven). last_board board (until (Some 0) xs)) next);
      }

  -- ---- the lines that a player follows

  module _ {H T : Type 0} (r : Responder.Ghosts H) (h : Handler.Ghosts T) where
    -- the board that a player brings
    abbrev pub board_of : Player O D H T → Standing
    board_of player = standing r h player.modules.now player.tasks.now

    ran_through : (c : Setup) (n : ℕ) (events : List Event) (old new : Player O D H T) → setup_of old.engine.now.book ≡ c → AreTold old.engine.now.clocks → GoesThrough (Plays o d r h) n events old new → RanAll c n events old.engine.now new.engine.now old.out.now new.out.now old.dev.now new.dev.now (board_of old) (board_of new)
    ran_through c n [] old new is told same = subst (λ (p : Player O D H T). RanAll c n [] old.engine.now p.engine.now old.out.now p.out.now old.dev.now p.dev.now (board_of old) (board_of p)) same (RanAll-none c n old.engine.now old.out.now old.dev.now (board_of old))
    ran_through c n (event ∷ events) old new is told (mid, one, rest) =
        let ran = one.ran c is told in
        let next = setup_next c n event old.engine.now mid.engine.now old.out.now mid.out.now old.dev.now mid.dev.now (board_of old) (board_of mid) (Ok tt) ran is in
        RanAll-next c n event events old.engine.now mid.engine.now old.out.now mid.out.now new.out.now old.dev.now mid.dev.now new.dev.now (board_of old) (board_of mid) (board_of new) ran new.engine.now (ran_through c (n + 1) events mid new next ran.clocks_told rest)

    ran_within : (c : Setup) (n : ℕ) (events : List Event) (old new : Player O D H T) → setup_of old.engine.now.book ≡ c → AreTold old.engine.now.clocks → FailsWithin (Plays o d r h) n events old new → RanSome c n events old.engine.now old.out.now new.out.now old.dev.now new.dev.now (board_of old) (board_of new)
    ran_within c n [] old new is told none = absurd none
    ran_within c n (event ∷ events) old new is told (inl (failed, one)) = RanSome-first c n event events old.engine.now new.engine.now old.out.now new.out.now old.dev.now new.dev.now (board_of old) (board_of new) failed (one.ran c is told)
    ran_within c n (event ∷ events) old new is told (inr (mid, one, rest)) =
        let ran = one.ran c is told in
        let next = setup_next c n event old.engine.now mid.engine.now old.out.now mid.out.now old.dev.now mid.dev.now (board_of old) (board_of mid) (Ok tt) ran is in
        RanSome-next c n event events old.engine.now mid.engine.now old.out.now mid.out.now new.out.now old.dev.now mid.dev.now new.dev.now (board_of old) (board_of mid) (board_of new) ran (ran_within c (n + 1) events mid new next ran.clocks_told rest)

    -- a player holds what it held
    pub record HoldsSame (old new : Player O D H T) : Type 0 where
      pub engine : new.engine.ghost_name ≡ old.engine.ghost_name
      pub out : new.out.ghost_name ≡ old.out.ghost_name
      pub dev : new.dev.ghost_name ≡ old.dev.ghost_name
      pub modules : new.modules.now ≡ old.modules.now
      pub tasks : new.tasks.ghost_name ≡ old.tasks.ghost_name

    same_through : (n : ℕ) (events : List Event) (old new : Player O D H T) → GoesThrough (Plays o d r h) n events old new → HoldsSame old new
    same_through n [] old new same = subst (HoldsSame old) same (record { engine = refl; out = refl; dev = refl; modules = refl; tasks = refl })
    same_through n (event ∷ events) old new (mid, one, rest) =
        let later = same_through (n + 1) events mid new rest in
        record { engine = later.engine ∙ one.engine; out = later.out ∙ one.out; dev = later.dev ∙ one.dev; modules = later.modules ∙ one.modules; tasks = later.tasks ∙ one.tasks }

    same_within : (n : ℕ) (events : List Event) (old new : Player O D H T) → FailsWithin (Plays o d r h) n events old new → HoldsSame old new
    same_within n [] old new none = absurd none
    same_within n (event ∷ events) old new (inl (failed, one)) = record { engine = one.engine; out = one.out; dev = one.dev; modules = one.modules; tasks = one.tasks }
    same_within n (event ∷ events) old new (inr (mid, one, rest)) =
        let later = same_within (n + 1) events mid new rest in
        record { engine = later.engine ∙ one.engine; out = later.out ∙ one.out; dev = later.dev ∙ one.dev; modules = later.modules ∙ one.modules; tasks = later.tasks ∙ one.tasks }

    pub holds_same : (n : ℕ) (s : Script) (old new : Player O D H T) (result : Result reader.LinesEnd LineStop) → Followed (Plays o d r h) n s old new result → HoldsSame old new
    holds_same n s old new (Ok end) did = same_through n s.events old new did.0
    holds_same n s old new (Err (stops.Bad m cause)) did = same_through n s.events old new did.0
    holds_same n s old new (Err stops.Broken) did = same_within n s.events old new did

    lines_ran : (c : Setup) (n : ℕ) (s : Script) (old new : Player O D H T) (result : Result reader.LinesEnd LineStop) → setup_of old.engine.now.book ≡ c → AreTold old.engine.now.clocks → Followed (Plays o d r h) n s old new result → RanLines o d c n s old.engine.now new.engine.now old.out.now new.out.now old.dev.now new.dev.now (board_of old) (board_of new) result
    lines_ran c n s old new (Ok end) is told did =
        let ran = ran_through c n s.events old new is told did.0 in
        record { answers = ran.answers; cut = None; went = ran.went; tasks_left = ran.tasks_left; ends = (refl, did.1, ran.book, ran.kept, ran.tree) }
    lines_ran c n s old new (Err (stops.Bad m cause)) is told did =
        let ran = ran_through c n s.events old new is told did.0 in
        record { answers = ran.answers; cut = None; went = ran.went; tasks_left = ran.tasks_left; ends = (refl, did.1, did.2) }
    lines_ran c n s old new (Err stops.Broken) is told did =
        let ran = ran_within c n s.events old new is told did in
        record { answers = ran.answers; cut = Some ran.place; went = ran.went; tasks_left = ran.tasks_left; ends = (ran.place, refl) }

    pub ran_lines : (c : Setup) (n : ℕ) (s : Script) (old new : Player O D H T) (result : Result reader.LinesEnd LineStop) → setup_of old.engine.now.book ≡ c → AreTold old.engine.now.clocks → Followed (Plays o d r h) n s old new result → RanLines o d c n s old.engine.now new.engine.now old.out.now new.out.now old.dev.now new.dev.now (board_of old) (standing r h old.modules.now new.tasks.now) result
    ran_lines c n s old new result is told did =
        subst (λ (modules : ModulesOf H). RanLines o d c n s old.engine.now new.engine.now old.out.now new.out.now old.dev.now new.dev.now (board_of old) (standing r h modules new.tasks.now) result)
        (holds_same n s old new result did).modules (lines_ran c n s old new result is told did)
