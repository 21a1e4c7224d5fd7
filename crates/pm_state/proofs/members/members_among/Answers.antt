use Rattle.std.proofs.Common.{◌≡◌, ◌+◌, ◌++◌, ◌∷◌, ℕ, List, drop, get_or, ap, ◌∙◌, sym}
use Rattle.std.proofs.lemmas.List.{append_assoc, drop_more}
use Rattle.pm_base.specs.declared.names.NodeId.{NodeId}
use Rattle.pm_state.specs.Members.{members_among}
use Rattle.pm_state.proofs.members.members_among.Goals as goal

pub loop-node-preserved : goal.loop-node-preserved
loop-node-preserved c =
    let nodes = c.args.nodes.now in
    let k = c.loop-node.node-index in
    let rest : List ℕ = members_among c.args.object.now c.args.t.now c.args.m (drop (k + 1) nodes) in
    let left : drop k nodes ≡ get_or nodes k (record { 0 = 0 }) ∷ drop (k + 1) nodes =
    drop_more nodes k (record { 0 = 0 }) c.loop-node-test.true
    in
    ap (λ (xs : List ℕ). xs ++ rest) c.in_ok-push_if.ensures
    ∙ (append_assoc c.loop-node.members _ rest
    ∙ (ap (λ (xs : List ℕ). c.loop-node.members ++ (xs ++ rest)) c.member_of.ensures
    ∙ (ap (λ (xs : List NodeId). c.loop-node.members ++ members_among c.args.object.now c.args.t.now c.args.m xs) (sym left)
    ∙ c.loop-node.invariant)))
