-- The lines of clocks are written one after another, by the table of clocks.
use Rattle.std.proofs.Common.{◌≡◌, ℕ, ◌+◌, ◌<◌, ◌≤◌, List, [], ◌∷◌, ◌++◌, length, get_or, map, take, take_all, suc, Result, refl, sym, ap, subst, ◌∙◌, arith}
use Rattle.std.specs.Prelude.{⊤, flat_map, option_to_list}
use Rattle.std.proofs.Math.Seq.{take-suc}
use Rattle.std.proofs.lemmas.Grind.{flat_map-append}
use Rattle.std.proofs.lemmas.List.{append-nil, map-append}
use Rattle.pm_base.specs.declared.errors.Failed.{Failed}
use Rattle.pm_io.specs.declared.sink.Sink as Sink
use Rattle.pm_clock_tree.specs.declared.clock_tree.ClockChange.{ClockChange}
use Rattle.pm_clock_tree.specs.declared.clock_tree.ClockEnd.{ClockEnd}
use Rattle.pm_clock_tree.specs.declared.table.ClockDef.{ClockDef}
use Rattle.pm_clock_tree.specs.Table.{clocks}
use Rattle.pm_clock_tree.specs.Told.{Clocked, change_at, changes, end_at}
use Rattle.pm_clock_tree.specs.Tree.{Tree}
use Rattle.pm_trace.specs.Notes.{notes_text}
use Rattle.pm_drive.specs.Clocks.{clock_note, end_line, ends_text}
use Rattle.pm_engine.specs.Writes.{WritesOn}
use Rattle.pm_engine.proofs.WritesLemmas.{notes_after, on-both}

-- what is written of a clock of the table: of its change, and at the end
abbrev pub turn_text : ℕ → Clocked → ClockDef → List ℕ
turn_text n clocked def = notes_text n (map clock_note (option_to_list (change_at def.number clocked)))

abbrev pub end_text : Tree → ClockDef → List ℕ
end_text tree def = flat_map end_line (option_to_list (end_at def.number tree))

-- of all of them
pub turns_are : (n : ℕ) (clocked : Clocked) → flat_map (turn_text n clocked) clocks ≡ notes_text n (map clock_note (changes clocked))
turns_are n clocked = by clocks
  where
    turn : ClockDef → List ClockChange
    turn def = option_to_list (change_at def.number clocked)

    by : (defs : List ClockDef) → flat_map (turn_text n clocked) defs ≡ notes_text n (map clock_note (flat_map (λ (def : ClockDef). option_to_list (change_at def.number clocked)) defs))
    by [] = refl
    by (def ∷ defs) =
        let later : List ClockChange = flat_map turn defs in
        ap (λ (more : List ℕ). turn_text n clocked def ++ more) (by defs)
        ∙ (sym (notes_after n (map clock_note (turn def)) (map clock_note later))
        ∙ ap (notes_text n) (sym (map-append clock_note (turn def) later)))

pub ends_are : (tree : Tree) → flat_map (end_text tree) clocks ≡ ends_text tree
ends_are tree = by clocks
  where
    end : ClockDef → List ClockEnd
    end def = option_to_list (end_at def.number tree)

    by : (defs : List ClockDef) → flat_map (end_text tree) defs ≡ flat_map end_line (flat_map (λ (def : ClockDef). option_to_list (end_at def.number tree)) defs)
    by [] = refl
    by (def ∷ defs) =
        ap (λ (more : List ℕ). end_text tree def ++ more) (by defs)
        ∙ sym (flat_map-append end_line (end def) (flat_map end defs))

module _ {O : Type 0} (o : Sink.Ghosts O) (text : ClockDef → List ℕ) (defs : List ClockDef) where
  front_more : (k : ℕ) (d : ClockDef) → k < length defs → flat_map text (take (k + 1) defs) ≡ flat_map text (take k defs) ++ text (get_or defs k d)
  front_more k d within =
      let on : k + 1 ≡ suc k = omega arith in
      ap (λ n. flat_map text (take n defs)) on
      ∙ (ap (flat_map text) (take-suc defs k d within)
      ∙ (flat_map-append text (take k defs) (get_or defs k d ∷ [])
      ∙ ap (λ (more : List ℕ). flat_map text (take k defs) ++ more) (append-nil (text (get_or defs k d)))))

  -- what is written of one more after those before it
  pub one_written : (k : ℕ) (d : ClockDef) (written so_far far : Result ⊤ Failed) (old via new : O) → k < length defs
      → WritesOn o (flat_map text (take k defs)) written so_far old via
      → WritesOn o (text (get_or defs k d)) so_far far via new
      → WritesOn o (flat_map text (take (k + 1) defs)) written far old new
  one_written k d written so_far far old via new within before one =
      subst (λ (all : List ℕ). WritesOn o all written far old new) (sym (front_more k d within))
      (on-both o (flat_map text (take k defs)) (text (get_or defs k d)) written so_far far old via new before one)

  -- and of all of them
  pub all_written : (k : ℕ) (written far : Result ⊤ Failed) (old new : O) → defs ≡ clocks → length defs ≤ k
      → WritesOn o (flat_map text (take k defs)) written far old new
      → WritesOn o (flat_map text clocks) written far old new
  all_written k written far old new are long before =
      subst (λ (all : List ClockDef). WritesOn o (flat_map text all) written far old new) (take_all k defs long ∙ are) before
