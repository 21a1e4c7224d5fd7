-- What is read of a text is what the text means.
use Rattle.std.proofs.Common.{◌≡◌, ℕ, ◌≤◌, Bool, true, false, nat_lt, cond, List, length, Result, Ok, Err, ◌↔◌, refl, sym, subst, ◌∙◌, arith}
use Rattle.std.specs.Prelude.{IfOk}
use Rattle.std.proofs.lemmas.Bool.Decides.{nat_tests}
use Rattle.pm_io.specs.Lines.{lines_of}
use Rattle.pm_topology.specs.declared.topology.Topology.{Topology}
use Rattle.pm_topology.specs.FirstFault.{first_fault}
use Rattle.pm_topology.proofs.WellFormedLaw.{well_formed_from, faultless_where}
use Rattle.pm_topofile.specs.declared.fault.TopologyError.{TopologyError}
use Rattle.pm_topofile.specs.Answers.{Gives}
use Rattle.pm_topofile.specs.Means.{Means}
use Rattle.pm_topofile.specs.Meaning.{checked, lines_taken, meaning, most_bytes}
use Rattle.pm_topofile.specs.Taking.{nothing}
use Rattle.pm_topofile.proofs.Known.{good_before, unbroken}
use Rattle.pm_topofile.proofs.MeansLines.{lines_items, items_lines}
use Rattle.pm_topofile.proofs.MeansFound.{items_found}
use Rattle.pm_topofile.proofs.MeansOnly.{items_lead}

not_long : {X E : Type 0} (b : Bool) (e : E) (r : Result X E) (x : X) → cond b (Err e) r ≡ Ok x → (b ≡ false) × (r ≡ Ok x)
not_long true e r x is = cc
not_long false e r x is = (refl, is)

pub means_found : (text : List ℕ) (t : Topology) → meaning text ≡ Ok t → Means text t
unfolding meaning
means_found text t is =
    let short = not_long (nat_lt most_bytes (length text)) _ _ t is in
    let read = good_before (lines_taken 1 nothing (lines_of text)) checked t short.1 in
    let good = unbroken (first_fault read.0) read.0 t read.2 in
    let items = lines_items (lines_of text) 1 nothing read.0 read.1 in
    let found = items_found items.items read.0 items.said items.lead in
    let fits : length text ≤ most_bytes = let few = short.0 in grind (arith, nat_tests) in
    subst (Means text) good.1
    (record { short = fits; items = items.items; lines = items.are; listed = record { owners = found.owners; are = found.are; owned = found.owned }; formed = well_formed_from read.0 good.0 })

pub means_only : (text : List ℕ) (t : Topology) → Means text t → meaning text ≡ Ok t
unfolding meaning
means_only text t means =
    let fits : nat_lt most_bytes (length text) ≡ false = let few = means.short in grind (arith, nat_tests) in
    let read = items_lines (lines_of text) 1 nothing t means.items means.lines (items_lead means.items t means.formed means.listed) in
    rw (fits, read, faultless_where t means.formed) refl

abbrev good : Topology → Result Topology TopologyError
good t = Ok t

one_of : (t u : Topology) → good t ≡ good u → t ≡ u
one_of t u is = cc

pub one_meant : (text : List ℕ) (t u : Topology) → Means text t → Means text u → t ≡ u
one_meant text t u first second = one_of t u (sym (means_only text t first) ∙ means_only text u second)

pub meant_exactly : (text : List ℕ) (t : Topology) → meaning text ≡ Ok t ↔ Means text t
meant_exactly text t = (λ is. means_found text t is, λ means. means_only text t means)

-- ---- what reading answers

pub found_where : (text : List ℕ) (result : Result Topology TopologyError) → Gives result (meaning text) → IfOk result (Means text)
found_where text (Ok t) gives = means_found text t gives
found_where text (Err e) gives = tt

pub only_where : (text : List ℕ) (result : Result Topology TopologyError) (t : Topology) → Gives result (meaning text) → Means text t → Gives result (Ok t)
only_where text result t gives means = subst (λ (read : Result Topology TopologyError). Gives result read) (means_only text t means) gives
