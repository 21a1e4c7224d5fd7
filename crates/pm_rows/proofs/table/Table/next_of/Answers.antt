use Rattle.std.proofs.Common.{◌∙◌, ◌-◌, ap, arith}
use Rattle.std.specs.Prelude.{max}
use Rattle.pm_rows.specs.Links.{link_at}
use Rattle.pm_rows.proofs.Linked.{behind_seen, front_seen}
use Rattle.pm_rows.proofs.table.Table.next_of.Goals as goal

pub returns-then-from-eq0 : goal.returns-then-from-eq0
returns-then-from-eq0 c =
    front_seen c.args.self.now c.self.inside.seeds.items c.self.inside.cells _ _ _ c.self.inside.links.first.items c.self.inside.links.next.items
    c.self.view_is c.self.invariant.2 c.args.master c.args.from c.link_at.result c.if-from-eq0.true
    (c.link_at.ensures ∙ ap (link_at c.args.master) c.deref.ensures.value)

pub returns-then-seed-master : goal.returns-then-seed-master
returns-then-seed-master c =
    behind_seen c.args.self.now c.self.inside.seeds.items c.self.inside.cells _ _ _ c.self.inside.links.first.items c.self.inside.links.next.items
    c.self.view_is c.self.invariant.2 c.args.master c.args.from c.max.result c.seed.result
    (omega (arith, c.if-from-eq0.false)) (omega (arith, c.if-from-len.true, c.len.ensures.len)) c.seed.ensures c.if-seed-master.true
    (c.max.ensures ∙ ap (λ n. max n c.args.from) (c.link_at-then-seed-master.ensures ∙ ap (link_at (c.args.from - 1)) c.deref-then-seed-master.ensures.value))
