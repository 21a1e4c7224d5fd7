-- In two books that agree a processor beyond has the same mode, whichever number it is asked by.
use Rattle.std.proofs.Common.{◌≡◌, true, refl, ap, ◌∙◌}
use Rattle.pm_laws.proofs.Common.{Agree, Border, Fixed, Kind, Node, NodeId, State, kind_of, mode, mode_by, unit_beyond}
use Rattle.pm_topology.specs.declared.places.Kind.TheVariants.{Proc}
use Rattle.pm_laws.specs.Values.{is_beyond}
use Rattle.pm_laws.proofs.ValuesLaw.{modes_alike}

mode_of_kind : (border : Border) (kind : Kind) (a b : State) → unit_beyond a.fixed.object a.fixed.topology border kind ≡ true
    → Agree border a b → mode_by kind a ≡ mode_by kind b
mode_of_kind border (Proc p) a b beyond agree = modes_alike border p a b beyond agree
mode_of_kind border _ a b beyond agree = refl

pub mode_alike : (border : Border) (proc : NodeId) (a b : State) → Agree border a b
    → is_beyond a.fixed.object a.fixed.topology border (Node proc) ≡ true → mode proc a ≡ mode proc b
mode_alike border proc a b agree beyond =
    mode_of_kind border (kind_of a.fixed.topology proc) a b beyond agree ∙ ap (λ (fixed : Fixed). mode_by (kind_of fixed.topology proc) b) agree.fixed
