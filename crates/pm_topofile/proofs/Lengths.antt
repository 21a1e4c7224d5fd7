-- The text of a topology within the limits is short enough to be read.
use Rattle.std.proofs.Common.{◌≡◌, ℕ, ◌+◌, ◌-◌, ◌*◌, ◌/◌, ◌<◌, ◌≤◌, ◌^◌, List, [], ◌∷◌, ◌++◌, length, map, take, drop, Option, refl, zero, suc, subst, sym, ap, arith, length-append}
use Rattle.std.specs.List.{flat_map, AllByRecursion}
use Rattle.std.proofs.lemmas.List.{length-map, take-append-drop}
use Rattle.pm_base.specs.declared.names.NodeId.{NodeId}
use Rattle.pm_topology.specs.declared.topology.SlaveState.{SlaveState}
use Rattle.pm_topology.specs.declared.topology.SlaveDef.{SlaveDef}
use Rattle.pm_topology.specs.declared.topology.ProcDef.{ProcDef}
use Rattle.pm_topology.specs.declared.topology.PowerDef.{PowerDef}
use Rattle.pm_topology.specs.declared.topology.LineDef.{LineDef}
use Rattle.pm_topology.specs.declared.topology.MasterDef.{MasterDef}
use Rattle.pm_topology.specs.declared.topology.Topology.{Topology}
use Rattle.pm_topology.specs.WellFormed.{EachEntry, IsWellFormed}
use Rattle.pm_topofile.specs.declared.table.Keyword.{Keyword}
use Rattle.pm_topofile.specs.declared.table.Keyword.TheVariants as keywords
use Rattle.pm_topofile.specs.Meaning.{most_bytes}
use Rattle.pm_topofile.specs.Table.{keyword_text}
use Rattle.pm_topofile.specs.Printing.{AreSmall, HasSmallNumbers, IsSmallSlave, line_text, number_of, owner_line, owner_lines, owner_text, owner_words, power_text, power_words, proc_text, proc_words, reset_text, reset_words, slave_text, slave_words, state_text, state_words, text_of, word_text}
use Rattle.pm_topofile.proofs.ItemTexts.{length-bares, length-keyword_text, words-bare}
use Rattle.pm_topofile.proofs.Leads.{AreSmallNodes, nodes_small, small_nodes}
use Rattle.pm_topofile.proofs.Members.{few_members}

-- ---- a line

line_short : (k : Keyword) (ws : List (Option ℕ)) → AreSmall ws → length (line_text k ws) ≤ 6 + 11 * length ws
line_short k ws small =
    let words = flat_map word_text ws in
    let end : List ℕ = 10 ∷ [] in
    let feed : length end ≡ 1 = refl in
    omega (arith, feed, length-append (keyword_text k) (words ++ end), length-append words end, length-keyword_text k, ap length (words-bare ws), length-bares ws small)

power_short : (powers : List PowerDef) (p : PowerDef) → AreSmall (power_words powers p) → length (power_text powers p) ≤ 61
power_short powers p small =
    let words : length (power_words powers p) ≡ 5 = refl in omega (arith, words, line_short keywords.Power (power_words powers p) small)

proc_short : (powers : List PowerDef) (p : ProcDef) → AreSmall (proc_words powers p) → length (proc_text powers p) ≤ 50
proc_short powers p small =
    let words : length (proc_words powers p) ≡ 4 = refl in omega (arith, words, line_short keywords.Proc (proc_words powers p) small)

state_short : (s : SlaveState) → AreSmall (state_words s) → length (state_text s) ≤ 50
state_short s small =
    let words : length (state_words s) ≡ 4 = refl in omega (arith, words, line_short keywords.State (state_words s) small)

reset_short : (l : LineDef) → AreSmall (reset_words l) → length (reset_text l) ≤ 28
reset_short l small =
    let words : length (reset_words l) ≡ 2 = refl in omega (arith, words, line_short keywords.Line (reset_words l) small)

-- ---- the lines of a list

powers_short : (all powers : List PowerDef) → AllByRecursion (λ p. AreSmall (power_words all p)) powers
    → length (flat_map (power_text all) powers) ≤ 61 * length powers
powers_short all [] small = omega arith
powers_short all (p ∷ powers) small =
    omega (arith, length-append (power_text all p) (flat_map (power_text all) powers), power_short all p small.0, powers_short all powers small.1)

procs_short : (all : List PowerDef) (procs : List ProcDef) → AllByRecursion (λ p. AreSmall (proc_words all p)) procs
    → length (flat_map (proc_text all) procs) ≤ 50 * length procs
procs_short all [] small = omega arith
procs_short all (p ∷ procs) small =
    omega (arith, length-append (proc_text all p) (flat_map (proc_text all) procs), proc_short all p small.0, procs_short all procs small.1)

states_short : (states : List SlaveState) → AllByRecursion (λ s. AreSmall (state_words s)) states
    → length (flat_map state_text states) ≤ 50 * length states
states_short [] small = omega arith
states_short (s ∷ states) small =
    omega (arith, length-append (state_text s) (flat_map state_text states), state_short s small.0, states_short states small.1)

slave_short : (all : List PowerDef) (s : SlaveDef) → length s.states ≤ 4 → IsSmallSlave all s → length (slave_text all s) ≤ 228
slave_short all s few small =
    let words : length (slave_words all s) ≡ 2 = refl in
    omega (arith, words, length-append (line_text keywords.Slave (slave_words all s)) (flat_map state_text s.states), line_short keywords.Slave (slave_words all s) small.words, states_short s.states small.states)

slaves_short : (all : List PowerDef) (slaves : List SlaveDef) → EachEntry slaves (λ _ s. length s.states ≤ 4)
    → AllByRecursion (IsSmallSlave all) slaves
    → length (flat_map (slave_text all) slaves) ≤ 228 * length slaves
slaves_short all [] few small = omega arith
slaves_short all (s ∷ slaves) few small =
    omega (arith, length-append (slave_text all s) (flat_map (slave_text all) slaves), slave_short all s (few zero s refl) small.0, slaves_short all slaves (λ k x here. few (suc k) x here) small.1)

resets_short : (lines : List LineDef) → AllByRecursion (λ l. AreSmall (reset_words l)) lines
    → length (flat_map reset_text lines) ≤ 28 * length lines
resets_short [] small = omega arith
resets_short (l ∷ lines) small =
    omega (arith, length-append (reset_text l) (flat_map reset_text lines), reset_short l small.0, resets_short lines small.1)

-- ---- the lines of masters

pub small_parts : (xs ys : List NodeId) → AreSmallNodes (xs ++ ys) → AreSmallNodes xs × AreSmallNodes ys
small_parts [] ys small = (tt, small)
small_parts (x ∷ xs) ys small = let both = small_parts xs ys small.1 in ((small.0, both.0), both.1)

owner_line-short : (node : NodeId) (procs : List NodeId) → node.0 < 2 ^ 32 → AreSmallNodes procs
    → length (owner_line node procs) ≤ 17 + 11 * length procs
owner_line-short node procs named small =
    let words : length (owner_words node procs) ≡ suc (length (map number_of procs)) = refl in
    omega (arith, words, length-map procs number_of, line_short keywords.Owner (owner_words node procs) (named, nodes_small procs small))

owner_lines-short : (full : ℕ) (node : NodeId) (procs : List NodeId) → node.0 < 2 ^ 32 → AreSmallNodes procs
    → length (owner_lines full node procs) ≤ 17 * (full + 1) + 11 * length procs
owner_lines-short zero node procs named small = omega (arith, owner_line-short node procs named small)
owner_lines-short (suc full) node procs named small =
    let both = small_parts (take 16 procs) (drop 16 procs) (subst AreSmallNodes (sym (take-append-drop 16 procs)) small) in
    omega (
      arith,
      length-append (owner_line node (take 16 procs)) (owner_lines full node (drop 16 procs)),
      ap length (take-append-drop 16 procs),
      length-append (take 16 procs) (drop 16 procs),
      owner_line-short node (take 16 procs) named both.0,
      owner_lines-short full node (drop 16 procs) named both.1,
    )

owner_short : (m : MasterDef) → length m.procs ≤ 64 → AreSmall (owner_words m.node m.procs) → length (owner_text m) ≤ 1809
owner_short m few small =
    omega (arith, few, owner_lines-short ((length m.procs - 1) / 16) m.node m.procs small.0 (small_nodes m.procs small.1))

owners_short : (masters : List MasterDef) → EachEntry masters (λ _ m. length m.procs ≤ 64)
    → AllByRecursion (λ m. AreSmall (owner_words m.node m.procs)) masters
    → length (flat_map owner_text masters) ≤ 1809 * length masters
owners_short [] few small = omega arith
owners_short (m ∷ masters) few small =
    omega (arith, length-append (owner_text m) (flat_map owner_text masters), owner_short m (few zero m refl) small.0, owners_short masters (λ k x here. few (suc k) x here) small.1)

-- ---- the whole text

-- no list is over its limit
pub record IsWithinLimits (t : Topology) : Type 0 where
  pub powers : length t.powers ≤ 64
  pub procs : length t.procs ≤ 64
  pub slaves : length t.slaves ≤ 512
  pub states : EachEntry t.slaves (λ _ s. length s.states ≤ 4)
  pub lines : length t.lines ≤ 1024
  pub masters : length t.masters ≤ 4
  pub members : EachEntry t.masters (λ _ m. length m.procs ≤ 64)

pub within_limits : (t : Topology) → IsWellFormed t → IsWithinLimits t
within_limits t well = record {
  powers = well.few_powers;
  procs = well.few_procs;
  slaves = well.few_slaves;
  states = λ k s here. (well.states k s here).few;
  lines = well.few_lines;
  masters = well.few_masters;
  members = λ k m here. omega (arith, few_members t m.procs (well.masters.once k m here) (well.members k m here).1, well.few_procs);
}

pub text_short : (t : Topology) → IsWithinLimits t → HasSmallNumbers t → length (text_of t) ≤ most_bytes
unfolding text_of
text_short t few small =
    let powers = flat_map (power_text t.powers) t.powers in
    let procs = flat_map (proc_text t.powers) t.procs in
    let slaves = flat_map (slave_text t.powers) t.slaves in
    let resets = flat_map reset_text t.lines in
    let owners = flat_map owner_text t.masters in
    omega (
      arith,
      length-append powers (procs ++ (slaves ++ (resets ++ owners))),
      length-append procs (slaves ++ (resets ++ owners)),
      length-append slaves (resets ++ owners),
      length-append resets owners,
      powers_short t.powers t.powers small.powers,
      procs_short t.powers t.procs small.procs,
      slaves_short t.powers t.slaves few.states small.slaves,
      resets_short t.lines small.lines,
      owners_short t.masters few.members small.masters,
      few.powers,
      few.procs,
      few.slaves,
      few.lines,
      few.masters,
    )
