-- The mark of each unit, set line by line, says whether its transitions in the two runs differ.
use Rattle.std.proofs.Common.{◌≡◌, ℕ, ◌+◌, ◌<◌, ◌==◌, ◌||◌, ◌++◌, Bool, true, false, not, cond, if◌then◌else◌, List, [], ◌∷◌, Option, Some, length, map, take, drop, get_or, suc, refl, sym, ◌∙◌, ap}
use Rattle.std.specs.Prelude.{filter, slice_get}
use Rattle.std.specs.List.{concat, flat_map}
use Rattle.std.proofs.lemmas.Option.{slice_get-get_or}
use Rattle.pm_base.specs.declared.events.Event.{Event}
use Rattle.pm_base.specs.declared.names.NodeId.{NodeId}
use Rattle.pm_base.specs.declared.names.Unit.{Unit}
use Rattle.pm_base.specs.declared.names.Unit.TheVariants.{Node}
use Rattle.pm_base.proofs.Booleans.{equal}
use Rattle.pm_topology.specs.declared.topology.Topology.{Topology}
use Rattle.pm_topology.specs.UnitMap.{TablePlaceLaws, mapped, with_value_at}
use Rattle.pm_topology.specs.Units.{units_of}
use Rattle.pm_run.specs.Run.{Setup, Stand, line_of, lines_of, loaded, run, setup, setup_of}
use Rattle.pm_state.specs.State.{Fixed}
use Rattle.pm_laws.specs.Quiet.{quiet, quiet_event}
use Rattle.pm_state.specs.Values.{shown}
use Rattle.pm_isolate.specs.Sides.{Sides}
use Rattle.pm_isolate.specs.Differences.{difference_line, differences, steps_line}
use Rattle.pm_isolate.specs.Marks.{Marks, renewed, renewed_at}
use Rattle.pm_isolate.specs.Transitions.{differs, history}
use Rattle.pm_isolate.specs.Within.{after, begun, end_text, has_differed, line_after, mark_line, stepped}
use Rattle.pm_isolate.proofs.HistoryLemmas.{parts, parts_tell}
use Rattle.pm_isolate.proofs.StandLemmas.{fixed_on}

-- ---- one mark

pub mark_step : TablePlaceLaws Bool → (f : Unit → Bool → Bool) (old now new : Marks) (place : ℕ)
    → now ≡ mapped f (take place old) ++ drop place old
    → place < length old
    → new ≡ renewed_at f now place
    → new ≡ mapped f (take (place + 1) old) ++ drop (place + 1) old
mark_step laws f old now new place so_far inside sets =
    let mark : Unit × Bool = get_or old place (Node (record { 0 = 0 }), false) in
    let found : slice_get old place ≡ Some mark = slice_get-get_or old place (Node (record { 0 = 0 }), false) inside in
    let here : slice_get now place ≡ Some mark = ap (λ (marks : Marks). slice_get marks place) so_far ∙ laws.next f old place ∙ found in
    sets
    ∙ ap (λ (o : Option (Unit × Bool)). renewed f place o now) here
    ∙ ap (λ (marks : Marks). with_value_at place (f mark.0 mark.1) marks) so_far
    ∙ laws.made f old place mark found

-- ---- the marks over some events

-- a unit with what a test gives of it
abbrev pub marked : (Unit → Bool) → Unit → Unit × Bool
marked g u = (u, g u)

mapped_marked : (f : Unit → Bool → Bool) (g : Unit → Bool) (units : List Unit) → mapped f (map (marked g) units) ≡ map (marked (λ u. f u (g u))) units
mapped_marked f g [] = refl
mapped_marked f g (u ∷ us) = ap (λ (rest : Marks). (u, f u (g u)) ∷ rest) (mapped_marked f g us)

-- whether a unit was found to differ after some lines, by what was found before them
abbrev pub apart : NodeId → List Event → Stand → Stand → Unit → Bool → Bool
apart m [] a b u before = before
apart m (e ∷ es) a b u before =
    apart m es (line_after e a) (line_after (quiet_event m e) b) u (has_differed (line_after e a).book (line_after (quiet_event m e) b).book u before)

marks_after : (m : NodeId) (es : List Event) (w : Sides) (g : Unit → Bool) (units : List Unit) → w.differs ≡ map (marked g) units → (after m es w).differs ≡ map (marked (λ u. apart m es w.loud w.quiet u (g u))) units
marks_after m [] w g units is = is
marks_after m (e ∷ es) w g units is =
    let f : Unit → Bool → Bool = has_differed (line_after e w.loud).book (line_after (quiet_event m e) w.quiet).book in
    marks_after m es (stepped m e w) (λ u. f u (g u)) units (ap (λ (marks : Marks). mapped f marks) is ∙ mapped_marked f g units)

fixed_after : (m : NodeId) (es : List Event) (w : Sides) → (after m es w).loud.book.fixed ≡ w.loud.book.fixed
fixed_after m [] w = refl
fixed_after m (e ∷ es) w = fixed_after m es (stepped m e w) ∙ fixed_on e w.loud

-- ---- and their histories

apart_true : (m : NodeId) (es : List Event) (a b : Stand) (u : Unit) → apart m es a b u true ≡ true
apart_true m [] a b u = refl
apart_true m (e ∷ es) a b u = apart_true m es (line_after e a) (line_after (quiet_event m e) b) u

split_by : (test : Bool) (go : Bool → Bool) (rest : Bool) → go true ≡ true → go false ≡ rest → go test ≡ (test || rest)
split_by true go rest whole later = whole
split_by false go rest whole later = later

-- a line by the setup of its book is one by the setup of the run, whose object and chip stay
line_is : (c : Setup) (e : Event) (a : Stand) → setup_of a.book ≡ c → line_after e a ≡ (line_of c e a).after
line_is c e a is = ap (λ (c : Setup). (line_of c e a).after) is

setup_on : (c : Setup) (e : Event) (a : Stand) → setup_of a.book ≡ c → setup_of (line_after e a).book ≡ c
setup_on c e a is = ap (λ (f : Fixed). setup f.object f.attached f.topology) (fixed_on e a) ∙ is

apart_parts : (c : Setup) (m : NodeId) (es : List Event) (a b : Stand) (u : Unit) → setup_of a.book ≡ c → setup_of b.book ≡ c
    → apart m es a b u false ≡ parts (history u (lines_of c es a)) (history u (lines_of c (quiet m es) b))
apart_parts c m [] a b u first second = refl
apart_parts c m (e ∷ es) a b u first second =
    let x : Stand = line_after e a in
    let y : Stand = line_after (quiet_event m e) b in
    let P : Stand → Stand → Bool = λ x y. not (shown u x.book == shown u y.book) || parts (history u (lines_of c es x)) (history u (lines_of c (quiet m es) y)) in
    split_by (not (shown u x.book == shown u y.book)) (λ t. apart m es x y u t) (parts (history u (lines_of c es x)) (history u (lines_of c (quiet m es) y)))
    (apart_true m es x y u) (apart_parts c m es x y u (setup_on c e a first) (setup_on c (quiet_event m e) b second))
    ∙ (ap (λ (x : Stand). P x y) (line_is c e a first) ∙ ap (λ (y : Stand). P (line_of c e a).after y) (line_is c (quiet_event m e) b second))

as_long : (c : Setup) (m : NodeId) (es : List Event) (a b : Stand) (u : Unit) → length (history u (lines_of c es a)) ≡ length (history u (lines_of c (quiet m es) b))
as_long c m [] a b u = refl
as_long c m (e ∷ es) a b u = ap suc (as_long c m es (line_of c e a).after (line_of c (quiet_event m e) b).after u)

-- a unit differs in the two runs if it was found to differ over the lines from the load on
differs_apart : (c : Setup) (m : NodeId) (es : List Event) (u : Unit) → apart m es (loaded c) (loaded c) u false ≡ differs (run c es) (run c (quiet m es)) u
differs_apart c m es u =
    let load : Stand = loaded c in
    let x : ℕ = shown u load.book in
    let first : List ℕ = history u (lines_of c es load) in
    let second : List ℕ = history u (lines_of c (quiet m es) load) in
    apart_parts c m es load load u refl refl
    ∙ sym (ap (λ (same : Bool). not same || parts first second) (equal x x refl))
    ∙ sym (parts_tell 0 0 (x ∷ first) (x ∷ second) (ap suc (as_long c m es load load u)))

-- ---- and their text

line_by : (t : Topology) (u : Unit) (b : Bool) (rest : List ℕ) (us : List Unit) → rest ≡ flat_map (difference_line t) us → (if b then difference_line t u else []) ++ rest ≡ flat_map (difference_line t) (cond b (u ∷ us) us)
line_by t u true rest us is = ap (λ (more : List ℕ). difference_line t u ++ more) is
line_by t u false rest us is = is

text_is : (t : Topology) (g d : Unit → Bool) → ((u : Unit) → g u ≡ d u) → (units : List Unit) → concat (map (mark_line t) (map (marked g) units)) ≡ flat_map (difference_line t) (filter d units)
text_is t g d same [] = refl
text_is t g d same (u ∷ us) =
    ap (λ (b : Bool). (if b then difference_line t u else []) ++ concat (map (mark_line t) (map (marked g) us))) (same u)
    ∙ line_by t u (d u) (concat (map (mark_line t) (map (marked g) us))) (filter d us) (text_is t g d same us)

pub end_is : (c : Setup) (m : NodeId) (es : List Event) → end_text (after m es (begun c)) (length es) ≡ differences c m es
end_is c m es =
    let w : Sides = after m es (begun c) in
    let g : Unit → Bool = λ u. apart m es (loaded c) (loaded c) u false in
    let t : w.loud.book.fixed.topology ≡ c.topology = ap (λ (f : Fixed). f.topology) (fixed_after m es (begun c)) in
    let marks : w.differs ≡ map (marked g) (units_of c.topology) = marks_after m es (begun c) (λ u. false) (units_of c.topology) refl in
    ap (λ (t : Topology). concat (map (mark_line t) w.differs) ++ steps_line (length es)) t
    ∙ ap (λ (marks : Marks). concat (map (mark_line c.topology) marks) ++ steps_line (length es)) marks
    ∙ ap (λ (text : List ℕ). text ++ steps_line (length es)) (text_is c.topology g (differs (run c es) (run c (quiet m es))) (differs_apart c m es) (units_of c.topology))
