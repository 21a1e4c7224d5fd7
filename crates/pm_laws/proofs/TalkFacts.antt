-- The two facts of each change of what masters are told: made in both books it keeps them alike beyond the border, and unseen
-- and made in one alone it does so too. So do lists of changes of which the same part is seen.
use Rattle.std.proofs.Common.{◌≡◌, ℕ, Bool, true, false, ◌&&◌, if◌then◌else◌, List, [], ◌∷◌, Some, None, unwrap_or, refl, sym, ap, subst, arith}
use Rattle.std.specs.Prelude.{option_map, slice_set}
use Rattle.pm_notify.specs.MasterNotes.{MasterNotes, forgotten, with_note, with_notifier, without_note, without_notifiers}
use Rattle.pm_notify.specs.Notify.{notes_for}
use Rattle.pm_procs.specs.Pending.{dropped, lowered}
use Rattle.pm_laws.proofs.Common.{Agree, Border, BothFrom, HasSome, IsBeyond, IsTalkUnseen, SameEntries, SameMasterNotes, SamePending, SameTalk, State, TalkHalf, seen_talk, talk_part}
use Rattle.pm_state.specs.Talk.{Talk, Ask, Lower, End, Renew, Forget, Notify, Take, Wait, Unwatch, apply_talk, talks, talked}
use Rattle.pm_laws.proofs.AgreeLaw.{clash, talk_sym, talk_trans}
use Rattle.pm_laws.proofs.MasterNotesFacts.{forgotten_both, master_notes_same, note_both, note_left, notifier_both, take_both, take_left, unwatched_both}
use Rattle.pm_laws.proofs.Places.{BothFrom-map, BothFrom-map_left, BothFrom-set, BothFrom-set_at, BothFrom-set_left}

-- ---- one change

-- the notes of one master, made in both
master_notes_set : (border : Border) (m : ℕ) (make : MasterNotes → MasterNotes) (a b : List MasterNotes)
    → ((x y : MasterNotes) → SameEntries border x y → SameEntries border (make x) (make y))
    → BothFrom (SameMasterNotes border) 0 a b
    → BothFrom (SameMasterNotes border) 0 (slice_set a m (make (notes_for m a))) (slice_set b m (make (notes_for m b)))
master_notes_set border m make a b each same =
    BothFrom-set (SameMasterNotes border) 0 m m (make (notes_for m a)) (make (notes_for m b)) (omega arith)
    (λ beyond. each (notes_for m a) (notes_for m b) (master_notes_same border m a b beyond same)) a b same

-- and made in one alone
master_notes_set_left : (border : Border) (m : ℕ) (make : MasterNotes → MasterNotes) (a b : List MasterNotes)
    → (IsBeyond border m → (x y : MasterNotes) → SameEntries border x y → SameEntries border (make x) y)
    → BothFrom (SameMasterNotes border) 0 a b → BothFrom (SameMasterNotes border) 0 (slice_set a m (make (notes_for m a))) b
master_notes_set_left border m make a b each same =
    BothFrom-set_at (SameMasterNotes border) 0 m m (make (notes_for m a)) (omega arith) a b
    (λ x y is was beyond.
    let own : notes_for m a ≡ x = ap (λ o. unwrap_or o []) is in
    let P : MasterNotes → Type 0 = λ z. SameEntries border (make z) y in
    subst P (sym own) (each beyond x y (was beyond)))
    same

-- made in both
pub told_alike : (border : Border) (change : Talk) (a b : TalkHalf) → SameTalk border a b → SameTalk border (apply_talk change a) (apply_talk change b)
told_alike border (Ask m request) a b same = record {
  pending = BothFrom-set (SamePending border) 0 m m (Some request) (Some request) (omega arith) (λ beyond. refl) a.pending b.pending same.pending;
  notes = same.notes;
}
told_alike border (Lower count) a b same = record {
  pending = BothFrom-map (SamePending border) (option_map (lowered count)) (option_map (lowered count))
      (λ k x y is beyond. ap (option_map (lowered count)) (is beyond)) 0 a.pending b.pending same.pending;
  notes = same.notes;
}
told_alike border (End m) a b same = record {
  pending = BothFrom-set (SamePending border) 0 m m None None (omega arith) (λ beyond. refl) a.pending b.pending same.pending;
  notes = same.notes;
}
told_alike border (Forget m) a b same =
    record { pending = same.pending; notes = master_notes_set border m forgotten a.notes b.notes (forgotten_both border) same.notes }
told_alike border (Notify m node event on) a b same =
    record { pending = same.pending; notes = master_notes_set border m (with_notifier node event on) a.notes b.notes (notifier_both border node event on) same.notes }
told_alike border (Take m node note) a b same =
    record { pending = same.pending; notes = master_notes_set border m (without_note node note) a.notes b.notes (take_both border node note) same.notes }
told_alike border (Wait m node note) a b same =
    record { pending = same.pending; notes = master_notes_set border m (with_note node note) a.notes b.notes (note_both border node note) same.notes }
told_alike border Renew a b same = record {
  pending = BothFrom-map (SamePending border) dropped dropped (λ k x y is beyond. refl) 0 a.pending b.pending same.pending;
  notes = BothFrom-map (SameMasterNotes border) forgotten forgotten (λ k x y is beyond. forgotten_both border x y (is beyond)) 0 a.notes b.notes same.notes;
}
told_alike border Unwatch a b same = record {
  pending = same.pending;
  notes = BothFrom-map (SameMasterNotes border) without_notifiers without_notifiers (λ k x y is beyond. unwatched_both border x y (is beyond)) 0 a.notes b.notes same.notes;
}

-- the second of two tests fails if not both hold and the first does
second_within : (a b : Bool) → (a && b) ≡ false → a ≡ true → b ≡ false
second_within true b is first = is
second_within false b is first = cc

-- not seen, and made in one alone
pub told_unseen : (border : Border) (change : Talk) (a b : TalkHalf) → HasSome border → seen_talk border change ≡ false → SameTalk border a b → SameTalk border (apply_talk change a) b
told_unseen border (Ask m request) a b some is same = record {
  pending = BothFrom-set_left (SamePending border) 0 m m (Some request) (omega arith) (λ y beyond. clash (border.master m) beyond is) a.pending b.pending same.pending;
  notes = same.notes;
}
told_unseen border (Lower count) a b some is same = record {
  pending = BothFrom-map_left (SamePending border) (option_map (lowered count))
      (λ k x y each beyond. clash border.some (some k beyond) is) 0 a.pending b.pending same.pending;
  notes = same.notes;
}
told_unseen border (End m) a b some is same = record {
  pending = BothFrom-set_left (SamePending border) 0 m m None (omega arith) (λ y beyond. clash (border.master m) beyond is) a.pending b.pending same.pending;
  notes = same.notes;
}
told_unseen border (Forget m) a b some is same = record {
  pending = same.pending;
  notes = master_notes_set_left border m forgotten a.notes b.notes (λ beyond x y each. clash (border.master m) beyond is) same.notes;
}
told_unseen border (Notify m node event on) a b some is same = record {
  pending = same.pending;
  notes = master_notes_set_left border m (with_notifier node event on) a.notes b.notes (λ beyond x y each. clash (border.master m) beyond is) same.notes;
}
told_unseen border (Take m node note) a b some is same = record {
  pending = same.pending;
  notes = master_notes_set_left border m (without_note node note) a.notes b.notes
      (λ beyond x y each. take_left border node note x y (second_within (border.master m) (border.node node.0) is beyond) each) same.notes;
}
told_unseen border (Wait m node note) a b some is same = record {
  pending = same.pending;
  notes = master_notes_set_left border m (with_note node note) a.notes b.notes
      (λ beyond x y each. note_left border node note x y (second_within (border.master m) (border.node node.0) is beyond) each) same.notes;
}
told_unseen border Renew a b some is same = record {
  pending = BothFrom-map_left (SamePending border) dropped
      (λ k x y each beyond. clash border.some (some k beyond) is) 0 a.pending b.pending same.pending;
  notes = BothFrom-map_left (SameMasterNotes border) forgotten (λ k x y each beyond. clash border.some (some k beyond) is) 0 a.notes b.notes same.notes;
}
told_unseen border Unwatch a b some is same = record {
  pending = same.pending;
  notes = BothFrom-map_left (SameMasterNotes border) without_notifiers (λ k x y each beyond. clash border.some (some k beyond) is) 0 a.notes b.notes same.notes;
}

-- ---- lists of changes

module _ (border : Border) (some : HasSome border) where
  -- what is left of the changes is made in both alike, if the first one is
  first_told : (change : Talk) (seen_later later : List Talk) (a b : TalkHalf) (is : Bool) → seen_talk border change ≡ is → SameTalk border a b
      → ((x y : TalkHalf) → SameTalk border x y → SameTalk border (talks later x) (talks seen_later y))
      → SameTalk border (talks later (apply_talk change a)) (talks (if is then change ∷ seen_later else seen_later) b)
  first_told change seen_later later a b true is same rest =
      rest (apply_talk change a) (apply_talk change b) (told_alike border change a b same)
  first_told change seen_later later a b false is same rest =
      rest (apply_talk change a) b (told_unseen border change a b some is same)

  -- of the changes that are made in one book, those that are seen are made in the other
  seen_told : (changes : List Talk) (a b : TalkHalf) → SameTalk border a b → SameTalk border (talks changes a) (talks (talk_part border changes) b)
  seen_told [] a b same = same
  seen_told (change ∷ changes) a b same =
      first_told change (talk_part border changes) changes a b (seen_talk border change) refl same (λ x y is. seen_told changes x y is)

  -- two lists of changes with the same seen part, one made in each book
  pub talks_alike : (ps qs : List Talk) (a b : TalkHalf) → talk_part border ps ≡ talk_part border qs → SameTalk border a b → SameTalk border (talks ps a) (talks qs b)
  talks_alike ps qs a b is same =
      let itself : SameTalk border b b = talk_trans border b a b (talk_sym border a b same) same in
      let P : List Talk → Type 0 = λ part. SameTalk border (talks ps a) (talks part b) in
      let first : SameTalk border (talks ps a) (talks (talk_part border qs) b) = subst P is (seen_told ps a b same) in
      let second : SameTalk border (talks (talk_part border qs) b) (talks qs b) =
      talk_sym border (talks qs b) (talks (talk_part border qs) b) (seen_told qs b b itself)
      in
      talk_trans border (talks ps a) (talks (talk_part border qs) b) (talks qs b) first second

-- ---- books

-- two books of which the halves that are told agree
with_talk : (border : Border) (ps qs : List Talk) (a b : State) → Agree border a b → SameTalk border (talks ps a.now.talk) (talks qs b.now.talk) → Agree border (talked ps a) (talked qs b)
with_talk border ps qs a b agree same = record {
  fixed = agree.fixed;
  now = record { some = agree.now.some; pairs = agree.now.pairs; first = agree.now.first; second = agree.now.second; force = agree.now.force; halted = agree.now.halted; rows = agree.now.rows; known = agree.now.known; procs = agree.now.procs; lines = agree.now.lines; talk = same };
}

pub talked_alike : (border : Border) (ps qs : List Talk) (a b : State) → HasSome border → talk_part border ps ≡ talk_part border qs → Agree border a b → Agree border (talked ps a) (talked qs b)
talked_alike border ps qs a b some is agree =
    with_talk border ps qs a b agree (talks_alike border some ps qs a.now.talk b.now.talk is agree.now.talk)

pub talked_unseen : (border : Border) (changes : List Talk) (a b : State) → HasSome border → IsTalkUnseen border changes → Agree border a b → Agree border (talked changes a) b
talked_unseen border changes a b some is agree =
    let same : SameTalk border (talks changes a.now.talk) b.now.talk = talks_alike border some changes [] a.now.talk b.now.talk is agree.now.talk in
    record {
      fixed = agree.fixed;
      now = record { some = agree.now.some; pairs = agree.now.pairs; first = agree.now.first; second = agree.now.second; force = agree.now.force; halted = agree.now.halted; rows = agree.now.rows; known = agree.now.known; procs = agree.now.procs; lines = agree.now.lines; talk = same };
    }

-- one change, in both books and in one alone
pub talk_seen : (border : Border) (change : Talk) (a b : State) → Agree border a b → Agree border (talked (change ∷ []) a) (talked (change ∷ []) b)
talk_seen border change a b agree =
    with_talk border (change ∷ []) (change ∷ []) a b agree (told_alike border change a.now.talk b.now.talk agree.now.talk)

pub talk_unseen : (border : Border) (change : Talk) (a b : State) → HasSome border → seen_talk border change ≡ false → Agree border a b → Agree border (talked (change ∷ []) a) b
talk_unseen border change a b some is agree =
    let same : SameTalk border (apply_talk change a.now.talk) b.now.talk = told_unseen border change a.now.talk b.now.talk some is agree.now.talk in
    record {
      fixed = agree.fixed;
      now = record { some = agree.now.some; pairs = agree.now.pairs; first = agree.now.first; second = agree.now.second; force = agree.now.force; halted = agree.now.halted; rows = agree.now.rows; known = agree.now.known; procs = agree.now.procs; lines = agree.now.lines; talk = same };
    }
