-- Texts that are read line by line: what their first lines lead to.
use Rattle.std.proofs.Common.{◌≡◌, ℕ, ◌+◌, ◌^◌, ◌<◌, ◌≤◌, Bool, true, false, ◌&&◌, ◌==◌, nat_le, List, [], ◌∷◌, ◌++◌, length, map, Option, Some, None, Ok, decimal, refl, ap, sym, ◌∙◌, subst, arith, append_assoc}
use Rattle.std.specs.List.{flat_map, AllByRecursion}
use Rattle.std.specs.Option.{option_map}
use Rattle.std.proofs.lemmas.Bool.Decides.{nat_tests}
use Rattle.std.proofs.lemmas.List.{append-nil, length-map}
use Rattle.pm_io.specs.Lines.{lines_of}
use Rattle.pm_base.specs.declared.names.NodeId.{NodeId}
use Rattle.pm_topology.specs.declared.topology.SlaveState.{SlaveState}
use Rattle.pm_topology.specs.declared.topology.LineDef.{LineDef}
use Rattle.pm_topology.specs.declared.topology.Topology.{Topology}
use Rattle.pm_topofile.specs.declared.table.Keyword.{Keyword}
use Rattle.pm_topofile.specs.declared.table.Keyword.TheVariants as keywords
use Rattle.pm_topofile.specs.declared.item.PowerLine.{PowerLine}
use Rattle.pm_topofile.specs.declared.item.ProcLine.{ProcLine}
use Rattle.pm_topofile.specs.declared.item.SlaveLine.{SlaveLine}
use Rattle.pm_topofile.specs.declared.item.Item.{Item}
use Rattle.pm_topofile.specs.declared.item.Item.TheVariants.{Power, Proc, Slave, State, Line, Owner}
use Rattle.pm_topofile.specs.Table.{keyword_text, greatest_flag}
use Rattle.pm_io.specs.Numbers.{greatest_number, numbers_in}
use Rattle.pm_topofile.specs.Reading.{keyword_item, form_item, has_count, node_in, optional_in, number}
use Rattle.pm_topofile.specs.Taking.{taken}
use Rattle.pm_topofile.specs.Meaning.{line_taken, lines_taken}
use Rattle.pm_topofile.specs.Printing.{IsSmall, AreSmall, flag, line_text, number_of, owner_words}
use Rattle.pm_topofile.proofs.LineTexts.{number-decimal, not_none}
use Rattle.pm_topofile.proofs.ItemTexts.{bare, first_line}

-- ---- walks

-- a text leads from one topology to another, and a rest of it is left
abbrev pub Leads : List ℕ → Topology → Topology → List ℕ → Type 0
Leads text from to rest = (n : ℕ) → (m : ℕ) × (lines_taken n from (lines_of text) ≡ lines_taken m to (lines_of rest))

pub leads_nowhere : (text : List ℕ) (t : Topology) → Leads text t t text
leads_nowhere text t n = (n, refl)

pub leads_on : (text more rest : List ℕ) (from mid to : Topology) → Leads text from mid more → Leads more mid to rest → Leads text from to rest
leads_on text more rest from mid to first later n =
    let a = first n in
    let b = later a.0 in
    (b.0, a.1 ∙ b.1)

pub leads_line : (k : Keyword) (ws : List (Option ℕ)) (rest : List ℕ) (item : Item) (from to : Topology) → AreSmall ws → length ws ≤ 17 → keyword_item k (keyword_text k ∷ map bare ws) ≡ Some item → taken item from ≡ Ok to → Leads (line_text k ws ++ rest) from to rest
unfolding line_taken
leads_line k ws rest item from to small few says takes n =
    let first = first_line k ws rest small few in
    (n + 1, rw (first.lines, first.says, says, takes) refl)

-- the texts of entries lead from some entries to more of them
module _ {X : Type 0} (text : X → List ℕ) (D : List X → Topology) (whole : List X)
    (step : (front : List X) (x : X) (back : List X) → front ++ x ∷ back ≡ whole → (rest : List ℕ) → Leads (text x ++ rest) (D front) (D (front ++ x ∷ [])) rest) where
  pub leads_all : (xs front : List X) → front ++ xs ≡ whole → (rest : List ℕ) → Leads (flat_map text xs ++ rest) (D front) (D (front ++ xs)) rest
  leads_all [] front is rest = subst (λ (all : List X). Leads rest (D front) (D all) rest) (sym (append-nil front)) (leads_nowhere rest (D front))
  leads_all (x ∷ xs) front is rest =
      let one : front ++ x ∷ [] ++ xs ≡ front ++ x ∷ xs = append_assoc front (x ∷ []) xs in
      let later = leads_all xs (front ++ x ∷ []) (one ∙ is) rest in
      let all = leads_on (text x ++ (flat_map text xs ++ rest)) (flat_map text xs ++ rest) rest (D front) (D (front ++ x ∷ [])) (D (front ++ x ∷ [] ++ xs)) (step front x xs is (flat_map text xs ++ rest)) later in
      subst (λ (t : List ℕ). Leads t (D front) (D (front ++ x ∷ xs)) rest) (sym (append_assoc (text x) (flat_map text xs) rest)) (subst (λ (ys : List X). Leads (text x ++ (flat_map text xs ++ rest)) (D front) (D ys) rest) one all)

-- ---- words that are read

node-decimal : (node : NodeId) → node.0 < 2 ^ 32 → node_in (decimal node.0) ≡ Some node
node-decimal node small = rw (number-decimal greatest_number node.0 (omega arith) small) refl

abbrev pub number_in : Option NodeId → Option ℕ
number_in node = option_map (λ (n : NodeId). n.0) node

optional-bare : (node : Option NodeId) → IsSmall (number_in node) → optional_in (bare (number_in node)) ≡ Some node
optional-bare None small = refl
optional-bare (Some node) small = rw (not_none node.0 small, node-decimal node small) refl

flag-decimal : (set : Bool) → option_map (λ n. n == 1) (number greatest_flag (bare (flag set))) ≡ Some set
flag-decimal true = rw (number-decimal 1 1 (omega arith) (omega arith)) refl
flag-decimal false = rw (number-decimal 1 0 (omega arith) (omega arith)) refl

number-bare : (n : ℕ) → n < 2 ^ 32 → number greatest_number (decimal n) ≡ Some n
number-bare n small = number-decimal greatest_number n (omega arith) small

pub flag_small : (set : Bool) → IsSmall (flag set)
flag_small true = omega arith
flag_small false = omega arith

-- ---- the lines of each kind

pub says_power : (p : PowerLine) → p.node.0 < 2 ^ 32 → IsSmall (number_in p.parent) → p.figure < 2 ^ 32 → p.latency < 2 ^ 32
    → keyword_item keywords.Power (keyword_text keywords.Power ∷ map bare (Some p.node.0 ∷ number_in p.parent ∷ flag p.held ∷ Some p.figure ∷ Some p.latency ∷ [])) ≡ Some (Power p)
says_power p node parent figure latency =
    rw (node-decimal p.node node, optional-bare p.parent parent, flag-decimal p.held, number-bare p.figure figure, number-bare p.latency latency) refl

pub says_proc : (p : ProcLine) → p.node.0 < 2 ^ 32 → p.parent.0 < 2 ^ 32 → p.figure < 2 ^ 32 → p.latency < 2 ^ 32
    → keyword_item keywords.Proc (keyword_text keywords.Proc ∷ map bare (Some p.node.0 ∷ Some p.parent.0 ∷ Some p.figure ∷ Some p.latency ∷ [])) ≡ Some (Proc p)
says_proc p node parent figure latency =
    rw (node-decimal p.node node, node-decimal p.parent parent, number-bare p.figure figure, number-bare p.latency latency) refl

pub says_slave : (s : SlaveLine) → s.node.0 < 2 ^ 32 → s.parent.0 < 2 ^ 32
    → keyword_item keywords.Slave (keyword_text keywords.Slave ∷ map bare (Some s.node.0 ∷ Some s.parent.0 ∷ [])) ≡ Some (Slave s)
says_slave s node parent = rw (node-decimal s.node node, node-decimal s.parent parent) refl

pub says_state : (s : SlaveState) → s.caps.0 < 8 → s.latency < 2 ^ 32 → s.figure < 2 ^ 32
    → keyword_item keywords.State (keyword_text keywords.State ∷ map bare (Some s.caps.0 ∷ Some s.latency ∷ flag s.powered ∷ Some s.figure ∷ [])) ≡ Some (State s)
says_state s caps latency figure =
    rw (number-decimal 7 s.caps.0 (omega arith) (omega arith), number-bare s.latency latency, flag-decimal s.powered, number-bare s.figure figure) refl

pub says_line : (l : LineDef) → l.line.0 < 2 ^ 32 → IsSmall (number_in l.target)
    → keyword_item keywords.Line (keyword_text keywords.Line ∷ map bare (Some l.line.0 ∷ number_in l.target ∷ [])) ≡ Some (Line l)
says_line l line target = rw (number-bare l.line.0 line, optional-bare l.target target) refl

-- processors by their numbers
abbrev pub numbers_of : List NodeId → List ℕ
numbers_of procs = map (λ (n : NodeId). n.0) procs

abbrev pub AreSmallNodes : List NodeId → Type 0
AreSmallNodes procs = AllByRecursion (λ (n : NodeId). n.0 < 2 ^ 32) procs

numbers-bare : (procs : List NodeId) → AreSmallNodes procs → numbers_in greatest_number (map bare (map number_of procs)) ≡ Some (numbers_of procs)
numbers-bare [] small = refl
numbers-bare (p ∷ procs) small = rw (number-bare p.0 small.0, numbers-bare procs small.1) refl

pub nodes_small : (procs : List NodeId) → AreSmallNodes procs → AreSmall (map number_of procs)
nodes_small [] small = tt
nodes_small (p ∷ procs) small = (small.0, nodes_small procs small.1)

both_pass : (a b : Bool) → a ≡ true → b ≡ true → (a && b) ≡ true
both_pass a b first second = rw (first, second) refl

counted_item : (k : Keyword) (words : List (List ℕ)) (item : Item) → has_count k words ≡ true → form_item k words ≡ Some item → keyword_item k words ≡ Some item
counted_item k words item counted says = rw counted says

pub small_nodes : (procs : List NodeId) → AreSmall (map number_of procs) → AreSmallNodes procs
small_nodes [] small = tt
small_nodes (p ∷ procs) small = (small.0, small_nodes procs small.1)

pub says_owner : (node : NodeId) (procs : List NodeId) → node.0 < 2 ^ 32 → AreSmallNodes procs → 0 < length procs → length procs ≤ 16
    → keyword_item keywords.Owner (keyword_text keywords.Owner ∷ map bare (owner_words node procs)) ≡ Some (Owner node (record { items = numbers_of procs }))
says_owner node procs small all some few =
    let count : length (map bare (map number_of procs)) ≡ length procs = length-map (map number_of procs) bare ∙ length-map procs number_of in
    let words = keyword_text keywords.Owner ∷ map bare (owner_words node procs) in
    let long : length words ≡ length procs + 2 = omega (arith, count) in
    let counted : has_count keywords.Owner words ≡ true = both_pass (nat_le 3 (length words)) (nat_le (length words) 18) (grind (arith, nat_tests)) (grind (arith, nat_tests)) in
    let says : form_item keywords.Owner words ≡ Some (Owner node (record { items = numbers_of procs })) = rw (node-decimal node small, numbers-bare procs all) refl in
    counted_item keywords.Owner words _ counted says

pub nodes_again : (procs : List NodeId) → map (λ n. record { 0 = n }) (numbers_of procs) ≡ procs
nodes_again [] = refl
nodes_again (p ∷ procs) = ap (λ (more : List NodeId). p ∷ more) (nodes_again procs)
