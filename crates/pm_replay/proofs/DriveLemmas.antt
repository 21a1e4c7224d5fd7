-- One more line of a run is driven.
use Rattle.std.proofs.Common.{◌≡◌, ℕ, ◌+◌, Bool, List, [], ◌∷◌, ◌++◌, length, take, Option, Some, None, suc, refl, sym, ◌∙◌, ap, arith}
use Rattle.pm_base.specs.declared.events.Event.{Event}
use Rattle.pm_split.specs.Boxes.{Boxes}
use Rattle.pm_run.specs.Run.{Core, Line, Setup, cores_of, line_of, lines_of, split}
use Rattle.pm_state.specs.State.{State}
use Rattle.pm_core.specs.Step.{effect}
use Rattle.pm_apply.specs.Part.{Kept, part_of}
use Rattle.pm_drive.specs.Drive.{Driven, Given, answers_after, drive, drive_line, give, kept_after, until}
use Rattle.pm_engine.specs.Progress.{Progress, stand_in}
use Rattle.pm_replay.specs.Within.{driven_from}
use Rattle.pm_replay.proofs.LeavesLemmas.{behind}

-- ---- one line

-- a line that is driven from this state of a run
abbrev pub driven_line : Setup → Event → Progress → List (List Bool) → Driven
driven_line c event now answers = drive_line now.kept answers (line_of c event (stand_in now))

-- so many answers as core steps are all that these take
give_by : (kept : Kept) (answers later : List (List Bool)) (cores : List Core) → length answers ≡ length cores → give kept (answers ++ later) cores ≡ give kept answers cores
give_by kept answers later [] fits = refl
give_by kept [] later (core ∷ cores) fits = absurd (omega (arith, fits))
give_by kept (first ∷ answers) later (core ∷ cores) fits =
    ap (λ (given : List Given). record { core = core; part = part_of kept first core.after core.outputs } ∷ given) (give_by (part_of kept first core.after core.outputs).kept answers later cores (omega (arith, fits)))

answers_left : (answers later : List (List Bool)) (cores : List Core) → length answers ≡ length cores → answers_after cores (answers ++ later) ≡ later
answers_left [] later [] fits = refl
answers_left (first ∷ answers) later [] fits = absurd (omega (arith, fits))
answers_left [] later (core ∷ cores) fits = absurd (omega (arith, fits))
answers_left (first ∷ answers) later (core ∷ cores) fits = answers_left answers later cores (omega (arith, fits))

length-cores : (events : List Event) (book : State) → length (cores_of events book) ≡ length events
length-cores [] book = refl
length-cores (event ∷ events) book = ap suc (length-cores events (effect event book))

-- the lines of more events begin with that of the first
pub driven_next : (c : Setup) (event : Event) (events : List Event) (now then : Progress) (answers later : List (List Bool)) → length answers ≡ length (split c event (stand_in now)).events → then.book ≡ (line_of c event (stand_in now)).after.book → then.boxes ≡ (split c event (stand_in now)).boxes → then.kept ≡ kept_after now.kept (give now.kept answers (line_of c event (stand_in now)).cores) → driven_from c now (answers ++ later) (event ∷ events) ≡ driven_line c event now answers ∷ driven_from c then later events
driven_next c event events now then answers later fits book boxes kept =
    let line : Line = line_of c event (stand_in now) in
    let x : Driven = drive_line now.kept answers line in
    let all : length answers ≡ length line.cores = fits ∙ sym (length-cores (split c event (stand_in now)).events now.book) in
    ap (λ (given : List Given). record { line = line; cores = given; kept = kept_after now.kept given } ∷ drive (kept_after now.kept given) (answers_after line.cores (answers ++ later)) (lines_of c events line.after)) (give_by now.kept answers later line.cores all)
    ∙ ap (λ (left : List (List Bool)). x ∷ drive x.kept left (lines_of c events line.after)) (answers_left answers later line.cores all)
    ∙ ap (λ (k : Kept). x ∷ drive k later (lines_of c events line.after)) (sym kept)
    ∙ ap (λ (b : State). x ∷ drive then.kept later (lines_of c events (record { book = b; boxes = line.after.boxes }))) (sym book)
    ∙ ap (λ (b : Boxes). x ∷ drive then.kept later (lines_of c events (record { book = then.book; boxes = b }))) (sym boxes)

pub until-cons : {X : Type 0} (cut : Option ℕ) (x : X) (xs : List X) → until (behind 1 cut) (x ∷ xs) ≡ x ∷ until cut xs
until-cons None x xs = refl
until-cons (Some k) x xs = let on : 1 + k + 1 ≡ suc (k + 1) = omega arith in ap (λ n. take n (x ∷ xs)) on
