use Rattle.std.proofs.Common.{◌≡◌, ◌∙◌, List, map, subst, sym}
use Rattle.pm_base.specs.declared.names.Mode.{Mode}
use Rattle.pm_rows.specs.declared.passes.Pass.TheVariants.{Clear}
use Rattle.pm_rows.specs.declared.row.Entry.{Entry}
use Rattle.pm_rows.specs.declared.row.Pair.{Pair}
use Rattle.pm_rows.specs.Counted.{AreTallied, Table, Tally, blank_entry, counted}
use Rattle.pm_rows.specs.Passes.{passed}
use Rattle.pm_rows.specs.Rows.{pair_of}
use Rattle.pm_rows.proofs.Blank.{blank_quiet, cleared_quiet, retallied}
use Rattle.pm_rows.proofs.rows.Rows.reload.Goals as goal

-- what is counted of rows that were cleared is what is counted of rows that aren't used
pub fill-requires-clause-counted : goal.fill-requires-clause-counted
fill-requires-clause-counted g c =
    let first : List Mode = c.deref.result.now in
    let all : List Entry = c.self.inside.table.entries in
    let pairs : List Pair = map pair_of c.args.seeds.now in
    let tally : Tally = c.pass_over.new.table.tally in
    let same : first ≡ c.deref-2.result.now = c.deref.ensures.value ∙ sym c.deref-2.ensures.value in
    let P : List Entry → Type 0 = λ es. AreTallied (map (counted first) es) tally in
    let Q : List Mode → Type 0 = λ known. AreTallied (map (counted known) (map blank_entry pairs)) tally in
    let R : Table → Type 0 = λ t. AreTallied (map (counted c.deref-2.result.now) t.entries) t.tally in
    let was : P (map (passed Clear all) all) = subst P c.pass_over.ensures.rows c.pass_over.ensures.counted in
    subst R (sym c.refit.ensures)
    (subst Q same (retallied first (passed Clear all) blank_entry (cleared_quiet first all) (blank_quiet first) all pairs tally was))
