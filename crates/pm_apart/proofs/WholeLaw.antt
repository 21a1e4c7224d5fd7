-- Of all lines of a run those about a unit of the chip are those of the commands on it, and then its closing line.
use Rattle.std.proofs.Common.{◌≡◌, ℕ, ◌==◌, ◌&&◌, ◌||◌, Bool, true, false, if◌then◌else◌, nat_lt, List, [], ◌∷◌, ◌++◌, refl, ap, sym, ◌∙◌, arith}
use Rattle.std.specs.Prelude.{codes, filter, flat_map}
use Rattle.std.specs.List.{list_all}
use Rattle.std.proofs.lemmas.Bool.Decides.{nat_tests}
use Rattle.std.proofs.lemmas.List.{append-nil}
use Rattle.std.proofs.lemmas.List.Elements.{filter-append}
use Rattle.pm_base.proofs.Booleans.{both}
use Rattle.pm_base.specs.declared.events.Event.{Event}
use Rattle.pm_base.specs.declared.names.Unit.{Unit}
use Rattle.pm_base.specs.declared.names.Unit.TheVariants.{Node, Line}
use Rattle.pm_topology.specs.declared.topology.Topology.{Topology}
use Rattle.pm_topology.specs.Units.{UnitLaws, has_in, has_unit, is_before, rises, same_unit, units_of}
use Rattle.pm_state.specs.Load.{load_of}
use Rattle.pm_state.specs.State.{Fixed, State}
use Rattle.pm_clock_tree.specs.Tree.{Tree}
use Rattle.pm_board.specs.Board.{Standing}
use Rattle.pm_run.specs.Run.{IsBookOf, Line as ScriptLine, Setup, Stand, loaded, line_0, line_of, lines_of}
use Rattle.pm_apply.specs.Part.{Kept}
use Rattle.pm_record.specs.Record.{at_zero, kept_value}
use Rattle.pm_trace.specs.declared.line.Word.{Word}
use Rattle.pm_trace.specs.declared.line.Word.TheVariants as word
use Rattle.pm_trace.specs.Closing.{unit_name}
use Rattle.pm_state.specs.Values.{shown}
use Rattle.pm_trace.specs.Line.{numbers}
use Rattle.pm_drive.specs.Drive.{Driven, answers_after, drive, drive_line, driven, last_book, last_kept}
use Rattle.pm_drive.specs.Clocks.{first_tree, last_tree}
use Rattle.pm_drive.specs.Completed.{completed_in}
use Rattle.pm_apart.specs.Lines.{clock_lines, closing_line, closing_line_of, is_about, run_lines, set_lines, step_lines, table_lines}
use Rattle.pm_apart.proofs.FilterLemmas.{kept_in, none_of_both}
use Rattle.pm_apart.proofs.CompletedLaw.{about_is_deaf, completed_alike}
use Rattle.pm_apart.proofs.TablesLaw.{clocks_apart, end_about, other_line}
use Rattle.pm_apart.proofs.TextsLaw.{lines_about}

-- ---- one unit among those that rise

more : (a b : ℕ) → nat_lt a b ≡ true → (b == a) ≡ false
more a b less = grind (arith, nat_tests)

after_differs : (a b : Unit) → is_before a b ≡ true → same_unit b a ≡ false
after_differs (Node a) (Node b) before = more a.0 b.0 before
after_differs (Node a) (Line b) before = refl
after_differs (Line a) (Node b) before = refl
after_differs (Line a) (Line b) before = more a.0 b.0 before

module _ (laws : UnitLaws) (book : State) (kept : Kept) (u : Unit) where
  abbrev t : Topology
  t = book.fixed.topology

  abbrev line : Unit → List (List Word)
  line x = closing_line book kept x

  abbrev about : List (List Word) → List (List Word)
  about lines = filter (is_about u) lines

  abbrev words : List Word
  words = word.Name (codes "end") ∷ (unit_name t u ++ numbers (shown u book ∷ kept_value kept u ∷ []))

  by_test : (idle : Bool) → about (if idle then [] else words ∷ []) ≡ (if idle then [] else words ∷ [])
  by_test true = refl
  by_test false = kept_in (is_about u) words [] (end_about t u u (numbers (shown u book ∷ kept_value kept u ∷ [])) ∙ laws.itself u)

  own_line : about (line u) ≡ line u
  own_line = by_test ((shown u book == 0) && (kept_value kept u == 0))

  foreign_line : (x : Unit) → same_unit x u ≡ false → about (line x) ≡ []
  foreign_line x other = other_line t x u (shown x book) (kept_value kept x) other

  none_later : (units : List Unit) → list_all (is_before u) units ≡ true → about (flat_map line units) ≡ []
  none_later [] before = refl
  none_later (x ∷ units) before =
      let parts = both (is_before u x) (list_all (is_before u) units) before in
      none_of_both (is_about u) (line x) (flat_map line units) (foreign_line x (after_differs u x parts.0)) (none_later units parts.1)

  one_line : (units : List Unit) → rises units ≡ true → has_in units u ≡ true → about (flat_map line units) ≡ line u
  one_line [] rising has = cc
  one_line (x ∷ units) rising has = at (same_unit x u) refl (one_line units parts.1)
    where
      parts : (list_all (is_before x) units ≡ true) × (rises units ≡ true)
      parts = both (list_all (is_before x) units) (rises units) rising

      at : (same : Bool) → same_unit x u ≡ same → (has_in units u ≡ true → about (flat_map line units) ≡ line u) → about (line x ++ flat_map line units) ≡ line u
      at true same later =
          let is = laws.same x u same in
          filter-append (is_about u) (line x) (flat_map line units)
          ∙ (ap (λ lines. lines ++ about (flat_map line units)) (ap (λ x. about (line x)) is ∙ own_line)
          ∙ (ap (λ lines. line u ++ lines) (none_later units (ap (λ x. list_all (is_before x) units) (sym is) ∙ parts.0))
          ∙ append-nil (line u)))
      at false same later =
          filter-append (is_about u) (line x) (flat_map line units)
          ∙ (ap (λ lines. lines ++ about (flat_map line units)) (foreign_line x same)
          ∙ later (ap (λ b. b || has_in units u) (sym same) ∙ has))

  pub table_about : has_unit t u ≡ true → about (flat_map line (units_of t)) ≡ line u
  table_about has = one_line (units_of t) (laws.are t).rising (laws.found t u ∙ has)

-- ---- the whole run

module _ (units : UnitLaws) (c : Setup) (load : IsBookOf c (loaded c).book) (after : (event : Event) (stand : Stand) → IsBookOf c stand.book → IsBookOf c (line_of c event stand).after.book) where
  -- the last book is one of the run
  last_is : (events : List Event) (stand : Stand) (kept : Kept) (answers : List (List Bool)) → IsBookOf c stand.book
      → IsBookOf c (last_book stand.book (drive kept answers (lines_of c events stand)))
  last_is [] stand kept answers is = is
  last_is (event ∷ events) stand kept answers is =
      let line : ScriptLine = line_of c event stand in
      last_is events line.after (drive_line kept answers line).kept (answers_after line.cores answers) (after event stand is)

  pub whole_about : (board : Standing) (answers : List (List Bool)) (events : List Event) (u : Unit) → has_unit c.topology u ≡ true
      → filter (is_about u) (run_lines c board answers events)
      ≡ set_lines u 0 (driven c answers events) ++ closing_line_of c (driven c answers events) u
  whole_about board answers events u has =
      let xs : List Driven = driven c answers events in
      let ys : List Driven = completed_in c board xs in
      let book : State = last_book (load_of c.object c.attached c.topology) xs in
      let kept : Kept = last_kept (at_zero c.topology) xs in
      let is : IsBookOf c book =
      last_is events (loaded c) (drive_line (at_zero c.topology) answers (line_0 c)).kept (answers_after (line_0 c).cores answers) load
      in
      let there : has_unit book.fixed.topology u ≡ true = ap (λ (f : Fixed). has_unit f.topology u) is.fixed ∙ has in
      let tree : Tree = last_tree (first_tree c) xs in
      let own : List (List Word) = flat_map (closing_line book kept) (units_of book.fixed.topology) in
      let table : filter (is_about u) (table_lines c xs) ≡ closing_line book kept u =
      filter-append (is_about u) own (clock_lines tree)
      ∙ (ap (λ lines. filter (is_about u) own ++ lines) (clocks_apart u tree)
      ∙ (append-nil (filter (is_about u) own) ∙ table_about units book kept u there))
      in
      filter-append (is_about u) (step_lines 0 ys) (table_lines c xs)
      ∙ (ap (λ lines. lines ++ filter (is_about u) (table_lines c xs)) (completed_alike (is_about u) (about_is_deaf u) c board xs ∙ lines_about u 0 xs)
      ∙ ap (λ lines. set_lines u 0 xs ++ lines) table)
