-- Lines that are taken one after another.
use Rattle.std.proofs.Common.{◌≡◌, ℕ, ◌+◌, List, ◌∷◌, Result, Ok, sym, ◌∙◌, ap}
use Rattle.pm_topology.specs.declared.topology.Topology.{Topology}
use Rattle.pm_topofile.specs.declared.fault.TopologyError.{TopologyError}
use Rattle.pm_topofile.specs.declared.fault.TopologyError.TheVariants.{Bad, Rule, Memory}
use Rattle.pm_topofile.specs.Answers.{FailsAs}
use Rattle.pm_topofile.specs.Meaning.{line_taken, lines_taken, unless_bad}

-- a line that is refused is the first bad one
pub line_fails : (e : TopologyError) (n : ℕ) (t : Topology) (text : List ℕ) (lines : List (List ℕ)) (total : Result Topology TopologyError) → lines_taken n t (text ∷ lines) ≡ total → FailsAs e (line_taken n text t) → FailsAs e total
line_fails (Memory e) n t text lines total all fails = tt
line_fails (Bad f) n t text lines total all fails = sym all ∙ ap (λ read. unless_bad read (λ next. lines_taken (n + 1) next lines)) fails
line_fails (Rule f) n t text lines total all fails = sym all ∙ ap (λ read. unless_bad read (λ next. lines_taken (n + 1) next lines)) fails

-- a line that is taken leads to the later ones
pub line_passes : (n : ℕ) (t next : Topology) (text : List ℕ) (lines : List (List ℕ)) (total : Result Topology TopologyError) → lines_taken n t (text ∷ lines) ≡ total → line_taken n text t ≡ Ok next → lines_taken (n + 1) next lines ≡ total
line_passes n t next text lines total all is = sym (ap (λ read. unless_bad read (λ next. lines_taken (n + 1) next lines)) is) ∙ all
