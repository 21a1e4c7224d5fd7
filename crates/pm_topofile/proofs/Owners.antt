-- The lines of a master of more than 16 processors.
use Rattle.std.proofs.Common.{◌≡◌, ℕ, suc, ◌-◌, ◌/◌, ◌<◌, ◌^◌, map, subst, List, ◌++◌, length, take, drop, length-drop, refl, ap, sym, ◌∙◌, append_assoc, arith}
use Rattle.pm_base.specs.declared.names.NodeId.{NodeId}
use Rattle.pm_topofile.specs.Printing.{AreSmall, number_of, owner_line, owner_lines}
use Rattle.pm_topofile.proofs.Leads.{AreSmallNodes, nodes_small, small_nodes}
use Rattle.pm_base.proofs.Elements.{AllByRecursion-append}
use Rattle.std.proofs.lemmas.List.{take-append-drop}

-- the lines of these processors
abbrev pub lines_left : NodeId → List NodeId → List ℕ
lines_left node procs = owner_lines ((length procs - 1) / 16) node procs

-- the first line has 16 of them, and the next ones are those of the processors that are left
pub lines_left-more : (node : NodeId) (procs left : List NodeId) → 16 < length procs → left ≡ drop 16 procs → lines_left node procs ≡ owner_line node (take 16 procs) ++ lines_left node left
lines_left-more node procs left long is =
    let count : (length procs - 1) / 16 ≡ suc ((length left - 1) / 16) = omega (arith, ap length is, length-drop 16 procs) in
    rw (count, is) refl

-- what holds of the first 16 and of the others holds of all
pub small_joined : (procs left : List NodeId) → left ≡ drop 16 procs → AreSmall (map number_of (take 16 procs)) → AreSmall (map number_of left) → AreSmall (map number_of procs)
small_joined procs left is first others =
    let later = subst AreSmallNodes is (small_nodes left others) in
    nodes_small procs (subst AreSmallNodes (take-append-drop 16 procs) (AllByRecursion-append (λ (n : NodeId). n.0 < 2 ^ 32) (take 16 procs) (drop 16 procs) (small_nodes (take 16 procs) first) later))

-- a line is put, and the others are left
pub owner_step : (node : NodeId) (text before more : List ℕ) (procs left : List NodeId) → 16 < length procs → left ≡ drop 16 procs → more ≡ before ++ owner_line node (take 16 procs) → before ++ lines_left node procs ≡ text → more ++ lines_left node left ≡ text
owner_step node text before more procs left long is put so_far =
    rw (put, append_assoc) (ap (λ line. before ++ line) (sym (lines_left-more node procs left long is)) ∙ so_far)
