use Rattle.std.proofs.Common.{◌≡◌, ◌∙◌, ℕ, Option, Some, ap, length, arith, refl, slice_get, sym}
use Rattle.std.proofs.lemmas.List.{length-set}
use Rattle.std.proofs.lemmas.Option.{slice_get_within}
use Rattle.pm_base.specs.declared.caps.Caps.{Caps}
use Rattle.pm_rows.specs.declared.row.Entry.{Entry}
use Rattle.pm_rows.specs.Cost.{caps_cost, limit_cost}
use Rattle.pm_rows.specs.Counted.{Table, is_on, limit_of, permitted_on, entries_of}
use Rattle.pm_rows.specs.Wanted.{limit_by, required_by}
use Rattle.pm_rows.proofs.Cells.{seen_cell, seen_put, kept_put}
use Rattle.pm_rows.proofs.Tallies.{limit_same}
use Rattle.pm_cells.proofs.Counting.{count_set}
use Rattle.pm_rows.proofs.table.Table.put.Goals as goal

pub write-requires : goal.write-requires
write-requires g c =
    seen_cell c.args.self.now c.self.inside.seeds.items c.self.inside.cells _ (length c.self.inside.users) _ _ c.self.view_is c.self.invariant.0.base c.args.k
    (slice_get_within c.args.self.now.entries c.args.k c.args.entry c.requires.here)

pub limit_after-limit-requires-clause-kept : goal.limit_after-limit-requires-clause-kept
limit_after-limit-requires-clause-kept g c same =
    ap (λ (t : Table). slice_get t.tally.limits c.args.entry.seed.slave) c.self.view_is
    ∙ c.requires.limit
    ∙ ap Some (limit_same c.args.entry.seed.slave c.args.self.now.entries c.args.k c.args.entry (record c.args.entry { row = c.args.row }) c.requires.here refl
    (sym c.limit_by.ensures ∙ (same ∙ c.limit_by-2.ensures))
    ∙ ap (limit_of c.args.entry.seed.slave) (sym (ap (λ rows. entries_of c.self.inside.seeds.items rows) c.write.ensures
    ∙ seen_put c.args.self.now c.self.inside.seeds.items c.self.inside.cells _ (length c.self.inside.users) _ _ c.self.view_is c.self.invariant.0.base
    c.args.k c.args.entry c.args.row c.requires.here)))

pub invariant_of-self : goal.invariant_of-self
invariant_of-self g c = (
  kept_put c.args.self.now c.self.inside.seeds c.self.inside.cells _ (length c.self.inside.users) c.self.inside.narrow
      c.self.inside.spans.first.items c.self.inside.spans.past.items _ _ c.self.view_is c.self.invariant.0
      c.args.k c.args.row c.write.new.self (length c.follow.new.counts) c.stays_narrow-self-inside.result c.write.ensures c.follow.ensures.places c.stays_narrow-self-inside.ensures,
  c.self.invariant.1 ∙ sym (ap length c.write.ensures ∙ length-set c.self.inside.cells c.args.k c.args.row),
  c.self.invariant.2,
)

pub invariant_of-self-2 : goal.invariant_of-self-2
invariant_of-self-2 g c = (
  kept_put c.args.self.now c.self.inside.seeds c.self.inside.cells _ (length c.self.inside.users) c.self.inside.narrow
      c.self.inside.spans.first.items c.self.inside.spans.past.items _ _ c.self.view_is c.self.invariant.0
      c.args.k c.args.row c.write.new.self (length c.follow.new.counts) c.stays_narrow-self-inside.result c.write.ensures c.follow.ensures.places c.stays_narrow-self-inside.ensures,
  c.self.invariant.1 ∙ sym (ap length c.write.ensures ∙ length-set c.self.inside.cells c.args.k c.args.row),
  c.self.invariant.2,
)

pub returns-clause-entries : goal.returns-clause-entries
returns-clause-entries g c =
    rw c.write.ensures
    (seen_put c.args.self.now c.self.inside.seeds.items c.self.inside.cells _ (length c.self.inside.users) _ _ c.self.view_is c.self.invariant.0.base
    c.args.k c.args.entry c.args.row c.requires.here)

pub returns-clause-steps : goal.returns-clause-steps
returns-clause-steps g c =
    let put = ap (permitted_on c.args.entry.seed.slave) (ap (λ rows. entries_of c.self.inside.seeds.items rows) c.write.ensures
    ∙ seen_put c.args.self.now c.self.inside.seeds.items c.self.inside.cells _ (length c.self.inside.users) _ _ c.self.view_is c.self.invariant.0.base
    c.args.k c.args.entry c.args.row c.requires.here) in
    let same = count_set (is_on c.args.entry.seed.slave) c.args.self.now.entries c.args.k c.args.entry (record c.args.entry { row = c.args.row }) c.requires.here in
    let next : Entry = record c.args.entry { row = c.args.row } in
    let after : ℕ = permitted_on c.args.entry.seed.slave (entries_of c.self.inside.seeds.items c.write.new.self) in
    let alike : after ≡ permitted_on c.args.entry.seed.slave c.args.self.now.entries = omega (arith, put, same) in
    let wants : caps_cost c.required_by.result c.required_by-2.result ≡ caps_cost (required_by c.args.from c.args.entry) (required_by c.args.to next) =
    ap (λ (a : Caps). caps_cost a c.required_by-2.result) c.required_by.ensures ∙ ap (caps_cost (required_by c.args.from c.args.entry)) c.required_by-2.ensures
    in
    let limits : limit_cost c.limit_by.result c.limit_by-2.result after
    ≡ limit_cost (limit_by c.args.entry) (limit_by next) (permitted_on c.args.entry.seed.slave c.args.self.now.entries) =
    ap (λ (a : Option ℕ). limit_cost a c.limit_by-2.result after) c.limit_by.ensures
    ∙ (ap (λ (b : Option ℕ). limit_cost (limit_by c.args.entry) b after) c.limit_by-2.ensures ∙ ap (limit_cost (limit_by c.args.entry) (limit_by next)) alike)
    in
    omega (arith, wants, limits, c.limit_after-limit.ensures.steps, c.follow_wants.ensures.steps, c.follow.ensures.steps)
