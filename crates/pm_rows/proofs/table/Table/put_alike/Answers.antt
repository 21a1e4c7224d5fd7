use Rattle.std.proofs.Common.{◌∙◌, Some, ap, length, refl, slice_get, sym}
use Rattle.std.proofs.lemmas.List.{length-set}
use Rattle.std.proofs.lemmas.Option.{slice_get_within}
use Rattle.pm_rows.specs.Counted.{Table, counted_in, entries_of, limit_of, moved}
use Rattle.pm_rows.proofs.Cells.{seen_cell, seen_put, kept_put}
use Rattle.pm_rows.proofs.Tallies.{limit_alike, limit_same, wants_moved}
use Rattle.pm_rows.proofs.table.Table.put_alike.Goals as goal

pub write-requires : goal.write-requires
write-requires g c =
    seen_cell c.args.self.now c.self.inside.seeds.items c.self.inside.cells _ (length c.self.inside.users) _ _ c.self.view_is c.self.invariant.0.base c.args.k
    (slice_get_within c.args.self.now.entries c.args.k c.args.entry c.requires.here)

pub invariant_of-self : goal.invariant_of-self
invariant_of-self g c = (
  kept_put c.args.self.now c.self.inside.seeds c.self.inside.cells _ (length c.self.inside.users) c.self.inside.narrow
      c.self.inside.spans.first.items c.self.inside.spans.past.items _ _ c.self.view_is c.self.invariant.0
      c.args.k c.args.row c.write.new.self (length c.self.inside.users) c.stays_narrow-self-inside.result c.write.ensures refl c.stays_narrow-self-inside.ensures,
  c.self.invariant.1 ∙ sym (ap length c.write.ensures ∙ length-set c.self.inside.cells c.args.k c.args.row),
  c.self.invariant.2,
)

pub returns-clause-entries : goal.returns-clause-entries
returns-clause-entries g c =
    rw c.write.ensures
    (seen_put c.args.self.now c.self.inside.seeds.items c.self.inside.cells _ (length c.self.inside.users) _ _ c.self.view_is c.self.invariant.0.base
    c.args.k c.args.entry c.args.row c.requires.here)

pub returns-clause-tally : goal.returns-clause-tally
returns-clause-tally g c =
    let old = c.self.inside in
    let s = c.args.entry.seed.slave in
    let x = counted_in c.args.from c.args.entry in
    let y = counted_in c.args.to (record c.args.entry { row = c.args.row }) in
    let written = ap (λ rows. entries_of c.self.inside.seeds.items rows) c.write.ensures
    ∙ seen_put c.args.self.now c.self.inside.seeds.items c.self.inside.cells _ (length c.self.inside.users) _ _ c.self.view_is c.self.invariant.0.base
    c.args.k c.args.entry c.args.row c.requires.here
    in
    let limit = ap (λ (t : Table). slice_get t.tally.limits s) c.self.view_is
    ∙ (c.requires.limit
    ∙ (ap Some (limit_same s c.args.self.now.entries c.args.k c.args.entry (record c.args.entry { row = c.args.row }) c.requires.here refl
    (limit_alike c.args.entry c.args.row c.requires.used c.requires.latency))
    ∙ ap (λ es. Some (limit_of s es)) (sym written)))
    in
    wants_moved x y (entries_of c.self.inside.seeds.items c.write.new.self)
    (record { access = old.access; context = old.context; wakeup = old.wakeup; users = old.users; limits = old.limits })
    c.follow_needs.new.access c.follow_needs.new.context c.follow_needs.new.wakeup
    c.follow_needs.ensures.access c.follow_needs.ensures.context c.follow_needs.ensures.wakeup
    c.requires.used limit
    ∙ ap (λ (t : Table). moved x y (entries_of c.self.inside.seeds.items c.write.new.self) t.tally) c.self.view_is
