use Rattle.std.proofs.Common.{◌≡◌, ◌<◌, get_or, length, sym, subst}
use Rattle.std.specs.List.{flat_map}
use Rattle.pm_object.proofs.Fitting.{Fits32, fits_rest, each_fits}
use Rattle.pm_object.proofs.spelling.spell_list.Goals as goal

pub spell-requires : goal.spell-requires
spell-requires g c =
    let items = c.args.items.now in
    let slice = c.as_slice-item-items in
    let within = subst (λ l. c.loop-item.item-index < length l) slice.ensures c.loop-item-test.true in
    let is = subst (λ l. c.item-item.result ≡ get_or l c.loop-item.item-index c.item-item.result) slice.ensures c.item-item.is in
    subst (λ x. Fits32 (g.T.Spell.spelling x)) (sym is) (each_fits g.T.Spell.spelling items c.loop-item.item-index c.item-item.result within (fits_rest (length items) (flat_map g.T.Spell.spelling items) c.requires))
