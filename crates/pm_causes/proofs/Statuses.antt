-- The status of a call tells the first of its checks that fails.
use Rattle.std.proofs.Common.{◌≡◌, ◌↔◌, ◌⊎◌, inl, inr, ℕ, false, ◌==◌, List, [], ◌∷◌, refl, sym, ◌∙◌, ap}
use Rattle.pm_base.specs.declared.names.NodeId.{NodeId}
use Rattle.pm_base.proofs.Booleans.{differs}
use Rattle.pm_ipi.specs.declared.calls.Call.{Call}
use Rattle.pm_ipi.specs.Status.{failure, invalid_parameter, no_feature, no_access, invalid_node, double_request, node_used}
use Rattle.pm_calls.specs.declared.verdict.Effects.{Effects}
use Rattle.pm_calls.specs.Checks.{AllHold, Acknowledge, Arguments, Capable, Cause, Fits, InUse, Known, Node, NotUsed, Permitted, Stands, UsedBy, WrongMode}
use Rattle.pm_state.specs.State.{State}
use Rattle.pm_calls.specs.calls.{called}
use Rattle.pm_calls.specs.Verdict.{verdict_by}
use Rattle.pm_calls.proofs.Verdicts.{all_hold, none_fails}
use Rattle.pm_causes.specs.Causes.{cause, checks_of, status, status_in, words, words_in}

-- the status by the check that fails
abbrev pub number : Cause → ℕ
number Known = no_feature
number Acknowledge = invalid_parameter
number Node = invalid_node
number (Arguments told) = invalid_parameter
number Permitted = no_access
number Capable = no_feature
number (Stands Fits) = 0
number (Stands NotUsed) = no_access
number (Stands InUse) = double_request
number (Stands (UsedBy other)) = node_used
number (Stands WrongMode) = failure

status_by : (cause : Cause) (effects : Effects) → status_in (verdict_by cause effects) ≡ number cause
status_by (Stands Fits) effects = refl
status_by _ effects = refl

pub status_is : (m : ℕ) (call : Call) (book : State) → status m call book ≡ number (cause m call book)
status_is m call book = status_by (cause m call book) (called m call book).effects

-- ---- each status is that of its causes alone

apart : {X : Type 0} (a b : ℕ) → (a == b) ≡ false → a ≡ b → X
apart a b unequal is = absurd (differs a b unequal is)

fits : (cause : Cause) → number cause ≡ 0 → cause ≡ Stands Fits
fits (Stands Fits) is = refl
fits _ is = apart _ _ refl is

lacks_feature : (cause : Cause) → number cause ≡ no_feature → (cause ≡ Known) ⊎ (cause ≡ Capable)
lacks_feature Known is = inl refl
lacks_feature Capable is = inr refl
lacks_feature (Stands Fits) is = apart _ _ refl is
lacks_feature _ is = apart _ _ refl is

is_parameter : (cause : Cause) → number cause ≡ invalid_parameter → (cause ≡ Acknowledge) ⊎ ((told : List ℕ) × (cause ≡ Arguments told))
is_parameter Acknowledge is = inl refl
is_parameter (Arguments told) is = inr (told, refl)
is_parameter (Stands Fits) is = apart _ _ refl is
is_parameter _ is = apart _ _ refl is

is_node : (cause : Cause) → number cause ≡ invalid_node → cause ≡ Node
is_node Node is = refl
is_node (Stands Fits) is = apart _ _ refl is
is_node _ is = apart _ _ refl is

lacks_access : (cause : Cause) → number cause ≡ no_access → (cause ≡ Permitted) ⊎ (cause ≡ Stands NotUsed)
lacks_access Permitted is = inl refl
lacks_access (Stands NotUsed) is = inr refl
lacks_access _ is = apart _ _ refl is

is_double : (cause : Cause) → number cause ≡ double_request → cause ≡ Stands InUse
is_double (Stands InUse) is = refl
is_double _ is = apart _ _ refl is

is_used : (cause : Cause) → number cause ≡ node_used → (other : NodeId) × (cause ≡ Stands (UsedBy other))
is_used (Stands (UsedBy other)) is = (other, refl)
is_used _ is = apart _ _ refl is

is_failure : (cause : Cause) → number cause ≡ failure → cause ≡ Stands WrongMode
is_failure (Stands WrongMode) is = refl
is_failure _ is = apart _ _ refl is

-- ---- the same of the status of a call

module _ (m : ℕ) (call : Call) (book : State) where
  -- a status is that of one cause, or of two
  of_one : {X : Cause} (s : ℕ) → number X ≡ s → ((c : Cause) → number c ≡ s → c ≡ X) → (status m call book ≡ s) ↔ (cause m call book ≡ X)
  of_one s named only =
      (λ is. only (cause m call book) (sym (status_is m call book) ∙ is), λ is. status_is m call book ∙ (ap number is ∙ named))

  of_two : {X Y : Cause} (s : ℕ) → number X ≡ s → number Y ≡ s → ((c : Cause) → number c ≡ s → (c ≡ X) ⊎ (c ≡ Y))
      → (status m call book ≡ s) ↔ ((cause m call book ≡ X) ⊎ (cause m call book ≡ Y))
  of_two {X} {Y} s first second only = (λ is. only (cause m call book) (sym (status_is m call book) ∙ is), back) where
    back : (cause m call book ≡ X) ⊎ (cause m call book ≡ Y) → status m call book ≡ s
    back (inl is) = status_is m call book ∙ (ap number is ∙ first)
    back (inr is) = status_is m call book ∙ (ap number is ∙ second)

  pub no_features : (status m call book ≡ no_feature) ↔ ((cause m call book ≡ Known) ⊎ (cause m call book ≡ Capable))
  no_features = of_two no_feature refl refl lacks_feature

  pub unknown_arguments : (status m call book ≡ invalid_parameter) ↔ ((cause m call book ≡ Acknowledge) ⊎ ((told : List ℕ) × (cause m call book ≡ Arguments told)))
  unknown_arguments = (λ is. is_parameter (cause m call book) (sym (status_is m call book) ∙ is), back) where
    back : (cause m call book ≡ Acknowledge) ⊎ ((told : List ℕ) × (cause m call book ≡ Arguments told)) → status m call book ≡ invalid_parameter
    back (inl is) = status_is m call book ∙ ap number is
    back (inr is) = status_is m call book ∙ ap number is.1

  pub no_nodes : (status m call book ≡ invalid_node) ↔ (cause m call book ≡ Node)
  no_nodes = of_one invalid_node refl is_node

  pub no_accesses : (status m call book ≡ no_access) ↔ ((cause m call book ≡ Permitted) ⊎ (cause m call book ≡ Stands NotUsed))
  no_accesses = of_two no_access refl refl lacks_access

  pub double_requests : (status m call book ≡ double_request) ↔ (cause m call book ≡ Stands InUse)
  double_requests = of_one double_request refl is_double

  pub wrong_modes : (status m call book ≡ failure) ↔ (cause m call book ≡ Stands WrongMode)
  wrong_modes = of_one failure refl is_failure

  pub used_by_others : (status m call book ≡ node_used) ↔ ((other : NodeId) × (cause m call book ≡ Stands (UsedBy other)))
  used_by_others =
      (λ is. is_used (cause m call book) (sym (status_is m call book) ∙ is), λ used. status_is m call book ∙ ap number used.1)

  pub others_told : (other : NodeId) → cause m call book ≡ Stands (UsedBy other) → words m call book ≡ other.0 ∷ 0 ∷ 0 ∷ []
  others_told other is = ap (λ (c : Cause). words_in (verdict_by c (called m call book).effects)) is

-- ---- all seven hold

pub successes : (m : ℕ) (call : Call) (book : State) → (status m call book ≡ 0) ↔ AllHold (checks_of m call book)
successes m call book = (
  λ is. all_hold (checks_of m call book) (fits (cause m call book) (sym (status_is m call book) ∙ is)),
  λ all. status_is m call book ∙ ap number (none_fails (checks_of m call book) all),
)
