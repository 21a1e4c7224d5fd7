-- One row is made what its seed says.
use Rattle.std.proofs.Common.{◌≡◌, ℕ, ◌+◌, ◌<◌, ◌^◌, Bool, true, List, [], ◌∷◌, map, length, Option, Some, refl, sym, ◌∙◌, ap, subst, arith}
use Rattle.std.specs.Prelude.{slice_get, slice_set}
use Rattle.pm_base.specs.declared.names.Mode.{Mode}
use Rattle.pm_rows.specs.declared.row.Entry.{Entry}
use Rattle.pm_rows.specs.declared.row.Row.{Row}
use Rattle.pm_rows.specs.declared.row.RowSeed.{RowSeed}
use Rattle.pm_rows.specs.Counted.{AreReady, AreTallied, Counted, Table, Tally, blank_entry, blank_row, counted, counted_in, entry_in, limit_of, moved}
use Rattle.pm_rows.specs.Filling.{IsFilling, blank_of, is_blank, AreFilled}
use Rattle.pm_rows.specs.Modes.{mode_in}
use Rattle.pm_rows.specs.Rows.{loaded, loaded_entry, pair_of}
use Rattle.pm_cells.specs.Midway.{midway}
use Rattle.pm_cells.proofs.Midway.{midway_end, midway_get, midway_len, midway_map, midway_same, midway_set}
use Rattle.pm_base.specs.declared.caps.Caps.{Caps}
use Rattle.pm_rows.proofs.Left.{both_true, caps_none, none_is, not_true}
use Rattle.pm_rows.proofs.Tallies.{tallied_moved, tallied_ready, tallied_limit}

map_twice : {X Y Z : Type 0} (f : X → Y) (g : Y → Z) (xs : List X) → map g (map f xs) ≡ map (λ x. g (f x)) xs
map_twice f g [] = refl
map_twice f g (x ∷ xs) = ap (λ zs. g (f x) ∷ zs) (map_twice f g xs)

blank_map : (seeds : List RowSeed) → map blank_entry (map pair_of seeds) ≡ map blank_of seeds
blank_map seeds = map_twice pair_of blank_entry seeds

blank_is : (x : RowSeed) → is_blank x ≡ true → loaded_entry x ≡ blank_of x
blank_is x blank =
    let one = both_true _ _ blank in
    let two = both_true _ _ one.1 in
    ap (λ (s : Option Caps). loaded_entry (record x { start = s })) (none_is x.start one.0)
    ∙ (ap (λ (c : Caps). record { seed = pair_of x; row = record blank_row { preset = c; hold = x.hold } }) (caps_none x.preset two.0)
    ∙ ap (λ (h : Bool). record { seed = pair_of x; row = record blank_row { hold = h } }) (not_true x.hold two.1))

pub fill_starts : (known : List Mode) (seeds : List RowSeed) (table : Table) → table.entries ≡ map blank_entry (map pair_of seeds)
    → AreTallied (map (counted known) table.entries) table.tally → IsFilling known seeds table 0 table
fill_starts known seeds table rows kept =
    let P : List Counted → Type 0 = λ cs. AreTallied cs table.tally in
    record {
      changed = rows ∙ blank_map seeds;
      kept = subst P (ap (map (counted known)) (rows ∙ blank_map seeds) ∙ map_twice blank_of (counted known) seeds) kept;
      slaves = refl;
      room = refl;
    }

module _ (known : List Mode) (seeds : List RowSeed) (start table : Table) (k : ℕ) (is : IsFilling known seeds start k table) where
  abbrev rows : List Counted
  rows = midway (λ seed. counted known (loaded_entry seed)) (λ seed. counted known (blank_of seed)) k seeds

  pub fill_within : k < length seeds → k < length table.entries
  fill_within within =
      let size : length table.entries ≡ length seeds = ap length is.changed ∙ midway_len loaded_entry blank_of seeds k in
      omega (arith, size, within)

  pub fill_entry : (x : RowSeed) (entry : Entry) → slice_get seeds k ≡ Some x → slice_get table.entries k ≡ Some entry → entry ≡ blank_of x
  fill_entry x entry at here =
      let both : Some entry ≡ Some (blank_of x) = sym here ∙ (ap (λ es. slice_get es k) is.changed ∙ midway_get loaded_entry blank_of seeds k x at) in
      cc

  pub fill_ready : (x : RowSeed) (entry : Entry) (mode : Mode) → slice_get seeds k ≡ Some x → slice_get table.entries k ≡ Some entry → mode ≡ mode_in entry.seed.master known
      → entry.seed.slave < length table.tally.users → length table.entries < 2 ^ 31 → AreReady (counted_in mode entry) table.tally
  fill_ready x entry mode at here is_mode placed few =
      let same : blank_of x ≡ entry = sym (fill_entry x entry at here) in
      let size : length table.entries ≡ length seeds = ap length is.changed ∙ midway_len loaded_entry blank_of seeds k in
      let all : length rows ≡ length seeds = midway_len (λ seed. counted known (loaded_entry seed)) (λ seed. counted known (blank_of seed)) seeds k in
      let P : Entry → Type 0 = λ e. e.seed.slave < length table.tally.users → AreReady (counted known e) table.tally in
      let Q : Mode → Type 0 = λ mode. AreReady (counted_in mode entry) table.tally in
      subst Q (sym is_mode)
      (subst P same
      (λ placed.
      tallied_ready rows table.tally k (counted known (blank_of x)) is.kept
      (midway_get (λ seed. counted known (loaded_entry seed)) (λ seed. counted known (blank_of seed)) seeds k x at) placed (omega (arith, size, all, few)))
      placed)

  pub fill_limit : (s : ℕ) → s < length table.tally.users → slice_get table.tally.limits s ≡ Some (limit_of s table.entries)
  fill_limit s within =
      tallied_limit rows table.tally s table.entries is.kept within
      (is.changed ∙ sym (midway_map entry_in (λ seed. counted known (loaded_entry seed)) (λ seed. counted known (blank_of seed)) seeds k))

  -- a row that is so already is left
  pub fill_left : (x : RowSeed) → slice_get seeds k ≡ Some x → is_blank x ≡ true → IsFilling known seeds start (k + 1) table
  fill_left x at blank =
      let same : loaded_entry x ≡ blank_of x = blank_is x blank in
      let P : List Counted → Type 0 = λ cs. AreTallied cs table.tally in
      record {
        changed = is.changed ∙ midway_same loaded_entry blank_of seeds k x at same;
        kept = subst P (midway_same (λ seed. counted known (loaded_entry seed)) (λ seed. counted known (blank_of seed)) seeds k x at (ap (counted known) same)) is.kept;
        slaves = is.slaves;
        room = is.room;
      }

  pub fill_next : (x : RowSeed) (entry : Entry) (mode : Mode) (row : Row) (next : Table) → slice_get seeds k ≡ Some x → slice_get table.entries k ≡ Some entry
      → mode ≡ mode_in entry.seed.master known → row ≡ loaded x → entry.seed.slave < length table.tally.users
      → next.entries ≡ slice_set table.entries k (record entry { row = row })
      → next.tally ≡ moved (counted_in mode entry) (counted_in mode (record entry { row = row })) next.entries table.tally
      → next.slaves ≡ table.slaves → next.room ≡ table.room
      → IsFilling known seeds start (k + 1) next
  fill_next x entry mode row next at here is_mode is_row placed entries tally slaves room =
      let same : entry ≡ blank_of x = fill_entry x entry at here in
      let full : record entry { row = row } ≡ loaded_entry x = ap (λ row. record entry { row = row }) is_row ∙ ap (λ (e : Entry). record e { row = loaded x }) same in
      let before : counted_in mode entry ≡ counted known (blank_of x) = ap (λ mode. counted_in mode entry) is_mode ∙ ap (counted known) same in
      let after : counted_in mode (record entry { row = row }) ≡ counted known (loaded_entry x) =
      ap (λ mode. counted_in mode (record entry { row = row })) is_mode
      ∙ (ap (λ (e : Entry). counted_in (mode_in e.seed.master known) (record entry { row = row })) same ∙ ap (counted_in (mode_in x.master known)) full)
      in
      let there : (blank_of x).seed.slave < length table.tally.users = (let P : Entry → Type 0 = λ e. e.seed.slave < length table.tally.users in subst P same placed) in
      let put : next.entries ≡ slice_set (map entry_in rows) k (loaded_entry x) =
      entries
      ∙ (ap (λ es. slice_set es k (record entry { row = row })) (is.changed ∙ sym (midway_map entry_in (λ seed. counted known (loaded_entry seed)) (λ seed. counted known (blank_of seed)) seeds k))
      ∙ ap (slice_set (map entry_in rows) k) full)
      in
      let counts : next.tally ≡ moved (counted known (blank_of x)) (counted known (loaded_entry x)) next.entries table.tally =
      tally ∙ (ap (λ c. moved c (counted_in mode (record entry { row = row })) next.entries table.tally) before
      ∙ ap (λ c. moved (counted known (blank_of x)) c next.entries table.tally) after)
      in
      let P : Tally → Type 0 = λ t. AreTallied (midway (λ seed. counted known (loaded_entry seed)) (λ seed. counted known (blank_of seed)) (k + 1) seeds) t in
      let Q : List Counted → Type 0 = λ cs. AreTallied cs (moved (counted known (blank_of x)) (counted known (loaded_entry x)) next.entries table.tally) in
      record {
        changed =
            entries
            ∙ (ap (λ es. slice_set es k (record entry { row = row })) is.changed
            ∙ (ap (slice_set (midway loaded_entry blank_of k seeds) k) full ∙ midway_set loaded_entry blank_of seeds k x at));
        kept = subst P (sym counts)
            (subst Q (midway_set (λ seed. counted known (loaded_entry seed)) (λ seed. counted known (blank_of seed)) seeds k x at)
            (tallied_moved rows table.tally k (counted known (blank_of x)) (counted known (loaded_entry x)) next.entries is.kept
            (midway_get (λ seed. counted known (loaded_entry seed)) (λ seed. counted known (blank_of seed)) seeds k x at) refl there put));
        slaves = slaves ∙ is.slaves;
        room = room ∙ is.room;
      }

  pub fill_ends : k ≡ length seeds → AreFilled known seeds start table
  fill_ends end = record {
    rows = is.changed ∙ midway_end loaded_entry blank_of seeds k end;
    counted =
        let P : List Counted → Type 0 = λ cs. AreTallied cs table.tally in
        subst P
        (midway_end (λ seed. counted known (loaded_entry seed)) (λ seed. counted known (blank_of seed)) seeds k end
        ∙ (sym (map_twice loaded_entry (counted known) seeds) ∙ ap (map (counted known)) (sym (is.changed ∙ midway_end loaded_entry blank_of seeds k end))))
        is.kept;
    slaves = is.slaves;
    room = is.room;
  }
