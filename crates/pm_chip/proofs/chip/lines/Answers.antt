use Rattle.std.proofs.Common.{◌≡◌, ℕ, ◌<◌, List, length, ◌++◌, ◌+◌, ◌∷◌, [], map, take, get_or, append_assoc, ap}
use Rattle.std.proofs.lemmas.List.{map_more}
use Rattle.pm_topology.specs.declared.topology.SlaveDef.{SlaveDef}
use Rattle.pm_topology.specs.declared.topology.LineDef.{LineDef}
use Rattle.pm_chip.specs.Chip.{line_of}
use Rattle.pm_chip.proofs.chip.lines.Goals as goal

-- one more line, at the end
line_step :
    (front lines more : List LineDef) (slaves : List SlaveDef) (k : ℕ) (slave : SlaveDef) (line : LineDef)
    → k < length slaves
    → slave ≡ get_or slaves k slave
    → line ≡ line_of slave.node
    → more ≡ lines ++ line ∷ []
    → lines ≡ front ++ map (λ s. line_of s.node) (take k slaves)
    → more ≡ front ++ map (λ s. line_of s.node) (take (k + 1) slaves)
line_step front lines more slaves k slave line within is made put holds =
    let step = map_more (λ (s : SlaveDef). line_of s.node) slaves k slave within in
    let here = ap (λ (s : SlaveDef). line_of s.node) is in
    let joined = append_assoc front (map (λ s. line_of s.node) (take k slaves)) (line ∷ []) in
    cc

pub loop-slave-preserved : goal.loop-slave-preserved
loop-slave-preserved c =
    line_step _ c.loop-slave.lines _ c.args.slaves.now c.loop-slave.slave-index c.slave-item.result c.line.result
    c.loop-slave-test.true
    c.slave-item.is
    c.line.ensures
    c.in_ok-push.ensures.ok
    c.loop-slave.invariant
