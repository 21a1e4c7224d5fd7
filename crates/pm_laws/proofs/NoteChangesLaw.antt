-- The changes of the masters' notes in a step have the same visible part if what the step has to tell is alike.
use Rattle.std.proofs.Common.{◌≡◌, ℕ, ◌+◌, Bool, true, false, ◌&&◌, cond, if◌then◌else◌, List, [], ◌∷◌, ◌++◌, None, refl, sym, ◌∙◌, ap}
use Rattle.std.specs.Prelude.{flat_map, map}
use Rattle.std.proofs.lemmas.List.Elements.{filter-append}
use Rattle.pm_laws.proofs.Common.{Active, Asleep, Border, Both, BothFrom, IsBeyond, MasterRec, Mode, Node, NodeId, Off, SameEntry, SameMasterNotes, State, Suspending, Unit, asks_beyond, is_about_beyond, is_told, mode_of_master, notes_beyond, seen_talk, talk_part}
use Rattle.pm_base.specs.declared.names.Unit.TheVariants.{Line}
use Rattle.pm_notify.specs.declared.node_notes.Slots.{Slots}
use Rattle.pm_notify.specs.declared.notes.Note.{Note}
use Rattle.pm_notify.specs.declared.notes.Waiting.{Waiting}
use Rattle.pm_notify.specs.MasterNotes.{MasterNotes, waiting_about, waiting_in}
use Rattle.pm_notify.specs.NodeNotes.{notes_in}
use Rattle.pm_notify.specs.Notify.{notes_for}
use Rattle.pm_tell.specs.Callbacks.{News, acknowledged_to, note_changes_at, note_changes_from, noticed_by, notes_to, told_at_wake, wakes}
use Rattle.pm_state.specs.Talk.{Talk, take_of, wait_of}
use Rattle.pm_laws.proofs.MasterNotesFacts.{master_notes_same}
use Rattle.pm_laws.proofs.NoticesLaw.{AreWithin, beyond_append, none_beyond}

-- what two steps have to tell is alike beyond: who is asked to suspend, how requests about nodes beyond end, and what masters with
-- masters whose notes are alike hear of nodes beyond
pub record NewsAlike (border : Border) (a b : News) : Type 0 where
  pub asked : asks_beyond border a.asked ≡ asks_beyond border b.asked
  pub acks : (k : ℕ) → notes_beyond border (flat_map (acknowledged_to k) a.ended) ≡ notes_beyond border (flat_map (acknowledged_to k) b.ended)
  pub notices : (x y : MasterNotes) → Both (SameEntry border) x y
      → notes_beyond border (flat_map (noticed_by x) a.notices) ≡ notes_beyond border (flat_map (noticed_by y) b.notices)

-- a step that has nothing to tell
abbrev pub no_news : News
no_news = record { asked = None; ended = []; notices = [] }

module _ (border : Border) where
  -- ---- what waits

  about_node : (n : NodeId) (due : List Note) → border.node n.0 ≡ false → AreWithin border (map (λ note. record { node = n; note = note }) due)
  about_node n [] within = tt
  about_node n (note ∷ due) within = (within, about_node n due within)

  waits_about : (u : Unit) (s t : Slots) → (is_told border u ≡ true → s ≡ t) → notes_beyond border (waiting_about u s) ≡ notes_beyond border (waiting_about u t)
  waits_about (Node n) s t same = at (border.node n.0) refl
    where
      at : (told : Bool) → border.node n.0 ≡ told → notes_beyond border (waiting_about (Node n) s) ≡ notes_beyond border (waiting_about (Node n) t)
      at true is = ap (λ slots. notes_beyond border (waiting_about (Node n) slots)) (same is)
      at false is =
          none_beyond border (waiting_about (Node n) s) (about_node n (notes_in s) is)
          ∙ sym (none_beyond border (waiting_about (Node n) t) (about_node n (notes_in t) is))
  waits_about (Line l) s t same = refl

  pub waits_alike : (x y : MasterNotes) → Both (SameEntry border) x y → notes_beyond border (waiting_in x) ≡ notes_beyond border (waiting_in y)
  waits_alike [] [] same = refl
  waits_alike [] (f ∷ ys) same = absurd same
  waits_alike (e ∷ xs) [] same = absurd same
  waits_alike (e ∷ xs) (f ∷ ys) same =
      beyond_append border (waiting_about e.0 e.1.slots) (waiting_in xs) (waiting_about f.0 f.1.slots) (waiting_in ys)
      (waits_about e.0 e.1.slots f.1.slots same.0.notes.slots ∙ ap (λ u. notes_beyond border (waiting_about u f.1.slots)) same.0.unit)
      (waits_alike xs ys same.1)

  -- ---- the notes to one master

  pub notes_alike : (a b : News) (k : ℕ) (x y : MasterNotes) → NewsAlike border a b → Both (SameEntry border) x y
      → notes_beyond border (notes_to a k x) ≡ notes_beyond border (notes_to b k y)
  notes_alike a b k x y news same =
      beyond_append border (flat_map (acknowledged_to k) a.ended) (flat_map (noticed_by x) a.notices)
      (flat_map (acknowledged_to k) b.ended) (flat_map (noticed_by y) b.notices) (news.acks k) (news.notices x y same)

  pub wakes_alike : (was is : Mode) (x y : MasterNotes) → Both (SameEntry border) x y
      → notes_beyond border (told_at_wake was is x) ≡ notes_beyond border (told_at_wake was is y)
  wakes_alike was is x y same = at (wakes was is)
    where
      at : (woke : Bool) → notes_beyond border (if woke then waiting_in x else []) ≡ notes_beyond border (if woke then waiting_in y else [])
      at true = waits_alike x y same
      at false = refl

  -- ---- what becomes of the notes of one master

  -- changes of the notes of a master beyond, one for each note
  part_of_notes : (make : Waiting → Talk) → ((w : Waiting) → seen_talk border (make w) ≡ is_about_beyond border w) → (due : List Waiting)
      → talk_part border (map make due) ≡ map make (notes_beyond border due)
  part_of_notes make seen [] = refl
  part_of_notes make seen (w ∷ due) =
      ap (λ b. cond b (make w ∷ talk_part border (map make due)) (talk_part border (map make due))) (seen w)
      ∙ at (is_about_beyond border w) (part_of_notes make seen due)
    where
      at : (b : Bool) → talk_part border (map make due) ≡ map make (notes_beyond border due)
          → cond b (make w ∷ talk_part border (map make due)) (talk_part border (map make due)) ≡ map make (cond b (w ∷ notes_beyond border due) (notes_beyond border due))
      at true later = ap (λ changes. make w ∷ changes) later
      at false later = later

  part_alike : (make : Waiting → Talk) → ((w : Waiting) → seen_talk border (make w) ≡ is_about_beyond border w) → (due others : List Waiting)
      → notes_beyond border due ≡ notes_beyond border others
      → talk_part border (map make due) ≡ talk_part border (map make others)
  part_alike make seen due others same = part_of_notes make seen due ∙ (ap (map make) same ∙ sym (part_of_notes make seen others))

  seen_take : (k : ℕ) → IsBeyond border k → (w : Waiting) → seen_talk border (take_of k w) ≡ is_about_beyond border w
  seen_take k beyond w = ap (λ b. b && border.node w.node.0) beyond

  seen_wait : (k : ℕ) → IsBeyond border k → (w : Waiting) → seen_talk border (wait_of k w) ≡ is_about_beyond border w
  seen_wait k beyond w = ap (λ b. b && border.node w.node.0) beyond

  noted_alike : (a b : News) (k : ℕ) (was is : Mode) (x y : MasterNotes) → IsBeyond border k → NewsAlike border a b → Both (SameEntry border) x y
      → talk_part border (note_changes_at a k was is x) ≡ talk_part border (note_changes_at b k was is y)
  noted_alike a b k was Off x y beyond news same = refl
  noted_alike a b k was Active x y beyond news same =
      part_alike (take_of k) (seen_take k beyond) (told_at_wake was Active x) (told_at_wake was Active y) (wakes_alike was Active x y same)
  noted_alike a b k was Asleep x y beyond news same =
      part_alike (wait_of k) (seen_wait k beyond) (notes_to a k x) (notes_to b k y) (notes_alike a b k x y news same)
  noted_alike a b k was Suspending x y beyond news same =
      part_alike (take_of k) (seen_take k beyond) (told_at_wake was Suspending x) (told_at_wake was Suspending y) (wakes_alike was Suspending x y same)

  -- nothing is seen of that of a master within
  none_of_notes : (make : Waiting → Talk) → ((w : Waiting) → seen_talk border (make w) ≡ false) → (due : List Waiting) → talk_part border (map make due) ≡ []
  none_of_notes make unseen [] = refl
  none_of_notes make unseen (w ∷ due) =
      ap (λ b. cond b (make w ∷ talk_part border (map make due)) (talk_part border (map make due))) (unseen w) ∙ none_of_notes make unseen due

  pub waits_within : (k : ℕ) (due : List Waiting) → border.master k ≡ false → talk_part border (map (wait_of k) due) ≡ []
  waits_within k due within = none_of_notes (wait_of k) (λ w. ap (λ b. b && border.node w.node.0) within) due

  takes_within : (k : ℕ) (due : List Waiting) → border.master k ≡ false → talk_part border (map (take_of k) due) ≡ []
  takes_within k due within = none_of_notes (take_of k) (λ w. ap (λ b. b && border.node w.node.0) within) due

  noted_within : (a : News) (k : ℕ) (was is : Mode) (x : MasterNotes) → border.master k ≡ false → talk_part border (note_changes_at a k was is x) ≡ []
  noted_within a k was Off x within = refl
  noted_within a k was Active x within = takes_within k (told_at_wake was Active x) within
  noted_within a k was Asleep x within = waits_within k (notes_to a k x) within
  noted_within a k was Suspending x within = takes_within k (told_at_wake was Suspending x) within

  -- ---- that of all masters

  module _ (a b : News) (news : (k : ℕ) → IsBeyond border k → NewsAlike border a b) (was were : ℕ → Mode) (first second : State) (xs ys : List MasterNotes)
      (before : (k : ℕ) → IsBeyond border k → was k ≡ were k)
      (now : (k : ℕ) → IsBeyond border k → mode_of_master first.fixed first.now.core k ≡ mode_of_master second.fixed second.now.core k)
      (notes : BothFrom (SameMasterNotes border) 0 xs ys) where
    abbrev mode_first : ℕ → Mode
    mode_first k = mode_of_master first.fixed first.now.core k

    abbrev mode_second : ℕ → Mode
    mode_second k = mode_of_master second.fixed second.now.core k

    at_alike : (k : ℕ) (is : Bool) → border.master k ≡ is
        → talk_part border (note_changes_at a k (was k) (mode_first k) (notes_for k xs)) ≡ talk_part border (note_changes_at b k (were k) (mode_second k) (notes_for k ys))
    at_alike k true is =
        ap (λ mode. talk_part border (note_changes_at a k mode (mode_first k) (notes_for k xs))) (before k is)
        ∙ (ap (λ mode. talk_part border (note_changes_at a k (were k) mode (notes_for k xs))) (now k is)
        ∙ noted_alike a b k (were k) (mode_second k) (notes_for k xs) (notes_for k ys) is (news k is) (master_notes_same border k xs ys is notes).each)
    at_alike k false is =
        noted_within a k (was k) (mode_first k) (notes_for k xs) is
        ∙ sym (noted_within b k (were k) (mode_second k) (notes_for k ys) is)

    pub master_notes_alike : (k : ℕ) (masters : List MasterRec) → talk_part border (note_changes_from a was xs first k masters) ≡ talk_part border (note_changes_from b were ys second k masters)
    master_notes_alike k [] = refl
    master_notes_alike k (master ∷ masters) =
        let here = note_changes_at a k (was k) (mode_first k) (notes_for k xs) in
        let there = note_changes_at b k (were k) (mode_second k) (notes_for k ys) in
        filter-append (seen_talk border) here (note_changes_from a was xs first (k + 1) masters)
        ∙ (ap (λ part. part ++ talk_part border (note_changes_from a was xs first (k + 1) masters)) (at_alike k (border.master k) refl)
        ∙ (ap (λ part. talk_part border there ++ part) (master_notes_alike (k + 1) masters)
        ∙ sym (filter-append (seen_talk border) there (note_changes_from b were ys second (k + 1) masters))))

-- ---- where nothing is told and no mode changes

rests_at : (k : ℕ) (mode : Mode) (x : MasterNotes) → note_changes_at no_news k mode mode x ≡ []
rests_at k Off x = refl
rests_at k _ x = refl

pub note_changes_rest : (xs : List MasterNotes) (still : State) (k : ℕ) (masters : List MasterRec)
    → note_changes_from no_news (mode_of_master still.fixed still.now.core) xs still k masters ≡ []
note_changes_rest xs still k [] = refl
note_changes_rest xs still k (master ∷ masters) =
    ap (λ changes. changes ++ note_changes_from no_news (mode_of_master still.fixed still.now.core) xs still (k + 1) masters)
    (rests_at k (mode_of_master still.fixed still.now.core k) (notes_for k xs))
    ∙ note_changes_rest xs still (k + 1) masters
