use Rattle.std.proofs.Common.{◌≡◌, ◌⊎◌, ℕ, List, [], ◌∷◌, Option, Err, map, refl, string_bytes, subst, sym}
use Rattle.pm_io.specs.Calls.{named}
use Rattle.pm_io.specs.Readings.{Meanwhile}
use Rattle.pm_io.proofs.ReadingsLemmas.{meanwhile_none}
use Rattle.pm_trace.specs.declared.faults.Fault.TheVariants.{Memory}
use Rattle.pm_top.specs.Asked.{topology_limit}
use Rattle.pm_top.specs.Reads.{ReadsFor, topology_named}
use Rattle.pm_top.specs.Within.{ReadsText, ReadsTopology}
use Rattle.pm_top.proofs.ReadsLemmas.{chip_for}
use Rattle.pm_top.proofs.TakingLemmas.{chip_read}
use Rattle.pm_top.proofs.topologies.topology_for.Goals as goal

pub returns-in-Some-clause-read : goal.returns-in-Some-clause-read
returns-in-Some-clause-read g c =
    let old = g.I.Inputs.state c.args.inputs.now in
    let new = g.I.Inputs.state c.read_named.new.inputs in
    let N : List ℕ → Type 0 = λ name. (c.read_named.result ≡ Err Memory) ⊎ ReadsText g.I.Inputs.observable name old new c.read_named.result in
    let R : Option ℕ → Type 0 = λ place. (c.read_named.result ≡ Err Memory) ⊎ ReadsTopology g.I.Inputs.observable place (map string_bytes c.args.words.now) old new c.read_named.result in
    subst R (sym c.in-Some.is) (subst N c.word.ensures c.read_named.ensures.read)

pub returns-in-Some-clause-begun : goal.returns-in-Some-clause-begun
returns-in-Some-clause-begun g c =
    let old = g.I.Inputs.state c.args.inputs.now in
    let new = g.I.Inputs.state c.read_named.new.inputs in
    let N : List ℕ → Type 0 = λ name. Meanwhile old new (ReadsFor c.read_named.result (named name topology_limit ∷ [])) in
    let R : Option ℕ → Type 0 = λ place. Meanwhile old new (ReadsFor c.read_named.result (topology_named place (map string_bytes c.args.words.now))) in
    subst R (sym c.in-Some.is) (subst N c.word.ensures c.read_named.ensures.begun)

pub returns-in-None-clause-read : goal.returns-in-None-clause-read
returns-in-None-clause-read g c =
    let m = g.I.Inputs.state c.args.inputs.now in
    let R : Option ℕ → Type 0 = λ place. (c.built_in.result ≡ Err Memory) ⊎ ReadsTopology g.I.Inputs.observable place (map string_bytes c.args.words.now) m m c.built_in.result in
    subst R (sym c.in-None.is) (chip_read g.I.Inputs.observable (map string_bytes c.args.words.now) m c.built_in.result c.built_in.ensures.exact)

pub returns-in-None-clause-begun : goal.returns-in-None-clause-begun
returns-in-None-clause-begun g c =
    let m = g.I.Inputs.state c.args.inputs.now in
    let R : Option ℕ → Type 0 = λ place. Meanwhile m m (ReadsFor c.built_in.result (topology_named place (map string_bytes c.args.words.now))) in
    subst R (sym c.in-None.is) (meanwhile_none m (ReadsFor c.built_in.result []) (chip_for [] [] refl c.built_in.result c.built_in.ensures.exact))
