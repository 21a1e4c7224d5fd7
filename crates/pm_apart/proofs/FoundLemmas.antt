-- The lines of a run that a test finds: the findings of each script line, one after another.
use Rattle.std.proofs.Common.{◌≡◌, ℕ, ◌+◌, Bool, List, [], ◌∷◌, ◌++◌, Option, refl, ap, sym, ◌∙◌}
use Rattle.std.specs.Prelude.{filter}
use Rattle.std.specs.List.{AllByRecursion as Each}
use Rattle.std.proofs.lemmas.List.Elements.{filter-append}
use Rattle.pm_base.specs.declared.events.Event.{Event}
use Rattle.pm_base.specs.declared.names.NodeId.{NodeId}
use Rattle.pm_run.specs.Run.{Line as ScriptLine, Setup, run}
use Rattle.pm_laws.specs.Both.{Both}
use Rattle.pm_laws.specs.Quiet.{quiet}
use Rattle.pm_apply.specs.Part.{Kept}
use Rattle.pm_record.specs.Record.{at_zero}
use Rattle.pm_trace.specs.declared.line.Word.{Word}
use Rattle.pm_drive.specs.Drive.{answers_after, drive, drive_line, driven, until}
use Rattle.pm_drive.proofs.DroveLaw.{until-drive}
use Rattle.pm_apart.specs.Lines.{driven_lines, step_lines}
use Rattle.pm_apart.proofs.Cuts.{until_both, until_each}
use Rattle.pm_apart.proofs.DropFacts.{LineDrops, run_drops}

module _ (T : List Word → Bool) (L : ℕ → ScriptLine → List (List Word)) where
  -- the findings in a script line, whatever the device answers
  abbrev pub LineFinds : Type 0
  LineFinds = (n : ℕ) (kept : Kept) (answers : List (List Bool)) (line : ScriptLine) → LineDrops line
      → filter T (driven_lines n (drive_line kept answers line)) ≡ L n line

  -- the findings in script lines, the first of which has this number
  abbrev found_from : ℕ → List ScriptLine → List (List Word)
  found_from n [] = []
  found_from n (line ∷ lines) = L n line ++ found_from (n + 1) lines

  -- two lines of which the same is found
  abbrev pub IsFound : ScriptLine → ScriptLine → Type 0
  IsFound x y = (n : ℕ) → L n x ≡ L n y

  found_same : (n : ℕ) (xs ys : List ScriptLine) → Both IsFound xs ys → found_from n xs ≡ found_from n ys
  found_same n [] [] both = refl
  found_same n [] (y ∷ ys) both = absurd both
  found_same n (x ∷ xs) [] both = absurd both
  found_same n (x ∷ xs) (y ∷ ys) both =
      ap (λ lines. lines ++ found_from (n + 1) xs) (both.0 n) ∙ ap (λ lines. L n y ++ lines) (found_same (n + 1) xs ys both.1)

  module _ (finds : LineFinds) where
    driven_found : (n : ℕ) (lines : List ScriptLine) (kept : Kept) (answers : List (List Bool)) → Each LineDrops lines
        → filter T (step_lines n (drive kept answers lines)) ≡ found_from n lines
    driven_found n [] kept answers drops = refl
    driven_found n (line ∷ lines) kept answers drops =
        let after : Kept = (drive_line kept answers line).kept in
        let later = drive after (answers_after line.cores answers) lines in
        filter-append T (driven_lines n (drive_line kept answers line)) (step_lines (n + 1) later)
        ∙ (ap (λ found. found ++ filter T (step_lines (n + 1) later)) (finds n kept answers line drops.0)
        ∙ ap (λ found. L n line ++ found) (driven_found (n + 1) lines after (answers_after line.cores answers) drops.1))

    run_found : (c : Setup) (answers : List (List Bool)) (events : List Event) (cut : Option ℕ)
        → filter T (step_lines 0 (until cut (driven c answers events))) ≡ found_from 0 (until cut (run c events))
    run_found c answers events cut =
        ap (λ xs. filter T (step_lines 0 xs)) (until-drive cut (run c events) (at_zero c.topology) answers)
        ∙ driven_found 0 (until cut (run c events)) (at_zero c.topology) answers (until_each LineDrops cut (run c events) (run_drops c events))

    -- equal findings in the lines of two runs are equal findings in their texts
    pub runs_found : (c : Setup) (m : NodeId) (events : List Event) (answers others : List (List Bool)) (cut : Option ℕ)
        → Both IsFound (run c events) (run c (quiet m events))
        → filter T (step_lines 0 (until cut (driven c answers events))) ≡ filter T (step_lines 0 (until cut (driven c others (quiet m events))))
    runs_found c m events answers others cut both =
        run_found c answers events cut
        ∙ (found_same 0 (until cut (run c events)) (until cut (run c (quiet m events))) (until_both IsFound cut (run c events) (run c (quiet m events)) both)
        ∙ sym (run_found c others (quiet m events) cut))
