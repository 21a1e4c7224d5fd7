use Rattle.std.proofs.Common.{◌≡◌, ℕ, ◌==◌, ◌≤◌, not, [], ◌++◌, ◌∷◌, length, sym, ◌∙◌, ap, subst, arith}
use Rattle.std.proofs.lemmas.List.{length-map}
use Rattle.pm_base.specs.declared.names.Unit.{Unit}
use Rattle.pm_notify.specs.declared.notes.Waiting.{Waiting}
use Rattle.pm_topology.specs.declared.topology.Topology.{Topology}
use Rattle.pm_topology.specs.Units.{units_of, entry_count}
use Rattle.pm_values.specs.Caches.{AreKept, moved_by, value_by}
use Rattle.pm_tell.specs.declared.telling.Telling.{Telling}
use Rattle.pm_tell.specs.Callbacks.{callback_count, callbacks, callbacks_at_most, late_replies}
use Rattle.pm_procs.specs.Modes.{is_awake}
use Rattle.pm_procs.specs.Procs.{mode_at}
use Rattle.pm_values.specs.Along.{IsTrail, Trail, is_down, mode_logged, turns_logged}
use Rattle.pm_tell.specs.Served.{pulse_in, says_in}
use Rattle.pm_base.specs.BoundedList.{Bounded}
use Rattle.pm_state.specs.Sound.{AreNotes}
use Rattle.pm_tell.specs.declared.callbacks.Callback.{Callback}
use Rattle.pm_tell.specs.declared.late.Late.{Late}
use Rattle.pm_values.specs.declared.starts.Start.{Start}
use Rattle.pm_state.specs.Stages.{after_stages}
use Rattle.pm_values.specs.Starts.{starts, was_down}
use Rattle.pm_state.specs.State.{Fixed, State, TalkHalf}
use Rattle.pm_core.specs.Step.{effect, ended, served, modes_in, news, opening, path, pulse, stages, answer_by, answer_to, nothing_of, turns_proc}
use Rattle.pm_tell.specs.Telling.{IsFresh, notes_after, tellings, HasPlaces, news_in, opening_in}
use Rattle.pm_tell.specs.Ended.{ended_from}
use Rattle.pm_values.specs.Notifications.{notifications}
use Rattle.pm_state.specs.Units.{moved, unit_count, units}
use Rattle.pm_state.specs.Values.{value}
use Rattle.pm_calls.specs.Verdict.{aborted_by}
use Rattle.pm_values.proofs.CachesLaw.{kept_places, kept_talked}
use Rattle.pm_step.proofs.EndedLaw.{IsTold, stages_talk, step_told}
use Rattle.pm_values.proofs.NoticesLaw.{notices_are}
use Rattle.pm_calls.proofs.StaysLaw.{LeavesProcs, none_written}
use Rattle.pm_state.specs.Changes.{Listed, Written, HasPlaces as HasPlacesToWrite, unlisted, unwritten, written_along}
use Rattle.pm_state.proofs.ChangesLaw.{keeps_step}
use Rattle.pm_state.proofs.PlacesLaw.{places_stay}
use Rattle.pm_values.specs.Behind.{IsBehind}
use Rattle.pm_step.proofs.SoundSteps.{kept_by}
use Rattle.pm_step.proofs.StepLaw.{step_moves, step_starts}
use Rattle.pm_core.proofs.TurnedLaw.{steps_alike}
use Rattle.pm_core.proofs.book.Book.proceed.Goals as goal

pub bring-requires-clause-room : goal.bring-requires-clause-room
bring-requires-clause-room c =
    let old = c.self.inside.tables in
    let topology = ap (λ (b : State). b.fixed.topology) c.advance.ensures.book in
    let values : length c.self.inside.caches.values ≡ length (units old) =
    ap length c.self.invariant.1.values ∙ length-map (units old) (λ u. (u, value u old))
    in
    let same : length (units old) ≡ length (units_of c.args.self.now.fixed.topology) = ap (λ (b : State). length (units b)) c.self.view_is in
    let procs : length c.advance.new.tables.fixed.topology.procs ≡ length c.args.self.now.fixed.topology.procs =
    ap (λ (t : Topology). length t.procs) topology ∙ ap (λ (b : State). length b.fixed.topology.procs) c.self.view_is
    in
    let few : length (units_of c.args.self.now.fixed.topology) ≤ entry_count c.args.self.now.fixed.topology = c.units_stand_in_order.ensures.few c.args.self.now.fixed.topology in
    let none = ap length c.requires.empty.moved in
    record {
      places = kept_places old c.self.inside.caches c.advance.new.tables.fixed.topology topology c.self.invariant.1;
      room = omega (arith, values, same, few, none, c.requires.room.moved);
      none = c.requires.empty.starts;
      procs = omega (arith, procs, c.requires.room.starts);
      few = omega (arith, values, c.self.invariant.2.notices, ap (λ (l : Bounded _). l.room) c.advance.ensures.notices);
    }

-- of what is kept that alone may be behind which is written down
pub bring-requires-clause-behind : goal.bring-requires-clause-behind
bring-requires-clause-behind c =
    let old = c.self.inside.tables in
    let caches = c.self.inside.caches in
    let w = c.self.inside.changes in
    let steps = stages c.args.event.now old in
    let kept = c.self.invariant.1 in
    let is = c.advance.ensures.written ∙ ap (written_along steps old) c.clear.ensures in
    let P : Written → Type 0 = λ w. IsBehind w c.advance.new.tables caches in
    let Q : State → Type 0 = λ b. IsBehind (written_along steps old (unwritten w)) b caches in
    subst P (sym is) (subst Q (sym c.advance.ensures.book) (record {
      before = old.now.core;
      kept = record {
        kinds = kept.kinds;
        states = kept.states;
        needs = kept.needs;
        runs = kept.runs;
        used = kept.used;
        power = kept.power;
        values = kept.values;
      };
      keeps = keeps_step steps old w;
      places = places_stay old.fixed steps old w c.self.invariant.4;
    }))

-- there is a place for each processor to be written down
pub advance-requires-clause-procs : goal.advance-requires-clause-procs
advance-requires-clause-procs c =
    ap (λ (w : Written). w.procs.count) c.clear.ensures ∙ (c.self.invariant.4.procs ∙ sym c.self.invariant.0.sound.procs.each)

-- where none is, each was down along the step that is down after it
pub bring-requires-clause-still : goal.bring-requires-clause-still
bring-requires-clause-still c = λ none p within.
    let old = c.self.inside.tables in
    let steps = stages c.args.event.now old in
    let is = c.advance.ensures.book in
    let written = c.advance.ensures.written ∙ ap (written_along steps old) c.clear.ensures in
    let leaves : LeavesProcs old steps =
    none_written steps old (unwritten c.self.inside.changes) (c.self.invariant.4.procs ∙ sym c.self.invariant.0.sound.procs.each)
    (sym (ap (λ (w : Written). w.procs.list) written) ∙ none)
    in
    c.advance.ensures.along.downs p (omega (arith, within, ap (λ (b : State). length b.fixed.topology.procs) is))
    ∙ (leaves.downs p
    ∙ (ap (λ procs. not (is_awake (mode_at p procs))) (sym leaves.procs) ∙ sym (ap (λ (b : State). is_down b p) is)))

-- and what is logged of the step is as it was begun
pub tell-requires-clause-fresh : goal.tell-requires-clause-fresh
tell-requires-clause-fresh c = λ still.
    let fresh = c.advance.ensures.fresh still in
    record { modes = fresh.modes; along = fresh.along }

-- the masters may be told of the stages of the step
pub tell-requires-clause-may : goal.tell-requires-clause-may
tell-requires-clause-may c =
    let old = c.self.inside.tables in
    let mid = c.advance.new.tables in
    let places = c.advance.ensures.places in
    let P : State → Type 0 = λ b. AreNotes b.fixed.topology (length b.fixed.object.masters) b.now.talk.notes in
    let Q : TalkHalf → Type 0 = λ t. AreNotes old.fixed.topology (length old.fixed.object.masters) t.notes in
    let values : length c.self.inside.caches.values ≡ length (units old) =
    ap length c.self.invariant.1.values ∙ length-map (units old) (λ u. (u, value u old))
    in
    let same : length (units mid) ≡ length (units old) = ap (λ (b : State). length (units b)) c.advance.ensures.book in
    let few : length (units mid) ≤ entry_count mid.fixed.topology = c.units_stand_in_order.ensures.few mid.fixed.topology in
    let fixed : mid.fixed ≡ c.args.self.now.fixed =
    ap (λ (b : State). b.fixed) c.advance.ensures.book ∙ ap (λ (b : State). b.fixed) c.self.view_is
    in
    let masters : length mid.fixed.object.masters ≡ length c.args.self.now.fixed.object.masters = ap (λ (f : Fixed). length f.object.masters) fixed in
    let calls : callbacks_at_most mid ≡ callbacks_at_most c.args.self.now =
    ap (λ (f : Fixed). callback_count (unit_count f.topology) (length f.object.masters)) fixed
    in
    record {
      kept = c.bring.ensures.kept;
      notes = subst P (sym c.advance.ensures.book) (subst Q (sym (stages_talk (stages c.args.event.now old) old)) c.self.invariant.0.sound.notes);
      places = record {
        modes = places.modes;
        along = places.along;
        ended = places.ended;
        notices = omega (arith, places.notices, ap (λ (l : Bounded Waiting). l.room) c.bring.ensures.found.notices);
      };
      few = omega (arith, values, same, few, c.bring.ensures.found.few);
      calls = omega (arith, calls, ap length c.requires.empty.callbacks, c.requires.room.callbacks);
      each = ap (λ (b : State). length b.now.talk.pending) c.advance.ensures.book
          ∙ (ap (λ t. length t.pending) (stages_talk (stages c.args.event.now old) old)
          ∙ (c.self.invariant.0.sound.pending.each
          ∙ sym (ap (λ (b : State). length b.fixed.object.masters) c.advance.ensures.book)));
      replies = omega (arith, masters, ap length c.requires.empty.late, c.requires.room.late);
    }

-- what was logged until the masters were told
told : (c : goal.After-answer) → IsTold c.args.event.now c.self.inside.tables c.advance.new.tables c.tell.new.tables c.advance.new.taken c.time_of-count.result c.tell.new.telling
told c =
    let event = c.args.event.now in
    let old = c.self.inside.tables in
    let mid = c.advance.new.tables in
    let caches = c.self.inside.caches in
    let fixed : old.fixed ≡ mid.fixed = sym (ap (λ (b : State). b.fixed) c.advance.ensures.book) in
    let Along : Trail → Type 0 = λ n. IsTrail old (path event old) n in
    step_told event old mid c.tell.new.tables c.advance.new.taken c.time_of-count.result c.tell.new.telling
    (record {
      mid_is = c.advance.ensures.book;
      served_is = c.advance.ensures.served;
      count_is = c.time_of-count.ensures;
      along_is = subst Along (sym (ap (λ (t : Telling). t.along) c.tell.ensures.news)) c.advance.ensures.along;
      modes_are = ap (λ (t : Telling). t.modes.items) c.tell.ensures.news ∙ c.advance.ensures.modes;
      asks_are = ap (λ (t : Telling). t.asks) c.tell.ensures.news;
      ended_are = ap (λ (t : Telling). t.ended.items) c.tell.ensures.news
          ∙ ap (λ (n : Trail). ended_from (λ m. turns_logged m n.turns) (aborted_by (says_in c.advance.new.taken)) c.time_of-count.result 0 mid.now.talk.pending)
          (sym (ap (λ (t : Telling). t.along) c.tell.ensures.news));
      notices_are = ap (λ (t : Telling). t.notices.items) c.tell.ensures.news
          ∙ (ap (λ (l : Bounded Waiting). l.items) c.bring.ensures.found.notices
          ∙ (notices_are c.kinds_are_exact.ensures old mid caches.kinds.items caches.used.items caches.values fixed c.self.invariant.1.kinds c.self.invariant.1.used c.self.invariant.1.values
          ∙ ap (notifications old) c.advance.ensures.book));
    })
    c.self.invariant.0.sound.pending.each c.tell.ensures.book

pub answer-requires : goal.answer-requires
answer-requires c =
    let mid = c.advance.new.tables in
    let telling = c.tell.new.telling in
    let changes = tellings (news_in telling) (mode_logged telling.modes.items) (opening_in telling (says_in c.advance.new.taken) c.time_of-count.result mid) c.advance.new.taken mid in
    let P : State → Type 0 = λ b. AreKept b c.bring.new.self in
    subst P (sym c.tell.ensures.book) (kept_talked changes mid c.bring.new.self c.bring.ensures.kept)

pub begin_after-requires-clause-places : goal.begin_after-requires-clause-places
begin_after-requires-clause-places c =
    let mid = c.advance.new.tables in
    let places = c.advance.ensures.places in
    let P : Telling → Type 0 = λ t. HasPlaces mid.fixed.topology (length mid.fixed.object.masters) t in
    let Q : State → Type 0 = λ b. HasPlaces b.fixed.topology (length b.fixed.object.masters) c.tell.new.telling in
    subst Q (sym c.tell.ensures.book)
    (subst P (sym c.tell.ensures.news) (record {
      modes = places.modes;
      along = places.along;
      ended = places.ended;
      notices = omega (arith, places.notices, ap (λ (l : Bounded Waiting). l.room) c.bring.ensures.found.notices);
    }))

-- where no processor moved, what is told leaves what is begun for the next step
pub begin_after-requires-clause-fresh : goal.begin_after-requires-clause-fresh
begin_after-requires-clause-fresh c = λ still.
    let news = c.tell.ensures.news in
    let fresh = c.advance.ensures.fresh (sym (ap (λ (t : Telling). t.moved) news) ∙ still) in
    let P : State → Type 0 = λ b. IsFresh b c.tell.new.telling in
    subst P (sym c.tell.ensures.book) (record {
      modes = ap (λ (t : Telling). t.modes.items) news ∙ fresh.modes;
      along = ap (λ (t : Telling). t.along) news ∙ fresh.along;
    })

pub invariant_of-self : goal.invariant_of-self
invariant_of-self c =
    let event = c.args.event.now in
    let old = c.self.inside.tables in
    let mid = c.advance.new.tables in
    let new = c.tell.new.tables in
    let telling = c.tell.new.telling in
    let changes = tellings (news_in telling) (mode_logged telling.modes.items) (opening_in telling (says_in c.advance.new.taken) c.time_of-count.result mid) c.advance.new.taken mid in
    let steps = stages c.args.event.now c.self.inside.tables in
    let written = c.advance.ensures.written ∙ ap (written_along steps c.self.inside.tables) c.clear.ensures in
    let Over : Written → Type 0 = λ w. HasPlacesToWrite c.advance.new.tables.fixed w in
    let In : State → Type 0 = λ b. HasPlacesToWrite b.fixed (written_along steps c.self.inside.tables (unwritten c.self.inside.changes)) in
    let places : HasPlacesToWrite c.advance.new.tables.fixed c.advance.new.changes =
    subst Over (sym written) (subst In (sym c.advance.ensures.book) (places_stay c.self.inside.tables.fixed steps c.self.inside.tables c.self.inside.changes c.self.invariant.4))
    in
    let Told : State → Type 0 = λ b. HasPlacesToWrite b.fixed c.advance.new.changes in
    let P : State → Type 0 = λ b. AreKept b c.bring.new.self in (
      kept_by c.books_stay_sound.ensures.step event old new (told c).book c.self.invariant.0,
      subst P (sym c.tell.ensures.book) (kept_talked changes mid c.bring.new.self c.bring.ensures.kept),
      c.begin_after.ensures.places,
      c.begin_after.ensures.fresh,
      subst Told (sym c.tell.ensures.book) places,
    )

pub returns-clause-turned : goal.returns-clause-turned
returns-clause-turned c =
    let old = c.self.inside.tables in
    let event = c.args.event.now in
    let steps = stages event old in
    let places : unlisted c.self.inside.changes.procs ≡ (nothing_of old).procs =
    ap (λ (n : ℕ). record { list = []; count = n }) (c.self.invariant.4.procs ∙ sym c.self.invariant.0.sound.procs.each)
    in
    let written = c.advance.ensures.written ∙ ap (written_along steps old) c.clear.ensures in
    c.advance.ensures.moved
    ∙ (ap (λ (w : Written). not (length w.procs.list == 0)) written
    ∙ (ap (λ (l : Listed). not (length l.list == 0)) (steps_alike steps old (unwritten c.self.inside.changes) (nothing_of old) places)
    ∙ ap (turns_proc event) c.self.view_is))

pub returns-clause-book : goal.returns-clause-book
returns-clause-book c = (told c).book ∙ ap (effect c.args.event.now) c.self.view_is

pub returns-clause-out : goal.returns-clause-out
returns-clause-out c =
    let event = c.args.event.now in
    let old = c.self.inside.tables in
    let new = c.tell.new.tables in
    let mid = c.advance.new.tables in
    let telling = c.tell.new.telling in
    let found = telling.ended.items in
    let caches = c.self.inside.caches in
    let told_callbacks = callbacks (news_in telling) (mode_logged telling.modes.items) (notes_after (opening_in telling (says_in c.advance.new.taken) c.time_of-count.result mid) mid) new in
    record {
      moved = ap (λ (s : Bounded Unit). s.items) c.bring.ensures.found.moved ∙ (
          ap (λ xs. xs ++ moved_by (value_by mid.fixed mid.now.core) caches.kinds.items caches.values) c.requires.empty.moved
          ∙ (step_moves event old mid caches.kinds.items caches.values c.advance.ensures.book c.self.invariant.1.kinds c.self.invariant.1.values
          ∙ ap (λ (b : State). moved (λ u. value u b) (effect event b)) c.self.view_is));
      pulse = c.pulse_in-out.ensures ∙ (ap pulse_in c.advance.ensures.served ∙ ap (pulse event) c.self.view_is);
      starts = ap (λ (s : Bounded Start). s.items) c.bring.ensures.found.starts
          ∙ (step_starts c.kinds_are_exact.ensures event old mid c.advance.new.telling.along caches.kinds.items caches.values c.advance.ensures.book c.advance.ensures.along c.self.invariant.1.kinds c.self.invariant.1.values
          ∙ ap (λ (b : State). starts (was_down (b ∷ path event b)) (effect event b)) c.self.view_is);
      late = ap (λ (s : Bounded Late). s.items) c.tell.ensures.late
          ∙ (ap (λ xs. xs ++ late_replies found new) c.requires.empty.late
          ∙ (ap (λ es. late_replies es new) (told c).ended
          ∙ (ap (late_replies (ended event old)) (told c).book
          ∙ ap (λ (b : State). late_replies (ended event b) (effect event b)) c.self.view_is)));
      callbacks = ap (λ (s : Bounded Callback). s.items) c.tell.ensures.callbacks
          ∙ (ap (λ xs. xs ++ told_callbacks) c.requires.empty.callbacks
          ∙ ((told c).callbacks
          ∙ ap (λ (b : State). callbacks (news event b) (modes_in b) (notes_after (opening event b) (after_stages (stages event b) b)) (effect event b)) c.self.view_is));
      answer = c.answer.ensures ∙ (ap (λ h. answer_by h new) c.advance.ensures.served ∙ (
          ap (λ b. answer_by (served event old) b) (told c).book ∙ ap (answer_to event) c.self.view_is));
      done = c.requires.empty.done;
    }
