-- What there is to tell of nodes beyond is the same in two steps whose books agree before and after: which of them change, which
-- have no users any more, and how requests about them end.
use Rattle.std.proofs.Common.{◌≡◌, ℕ, ◌+◌, Bool, true, false, not, ◌&&◌, ◌==◌, cond, if◌then◌else◌, List, [], ◌∷◌, ◌++◌, Option, Some, None, refl, sym, ◌∙◌, ap}
use Rattle.std.specs.Prelude.{flat_map, unwrap_or}
use Rattle.std.specs.List.{AllByRecursion as Each}
use Rattle.std.proofs.lemmas.Grind.{flat_map-append}
use Rattle.std.proofs.lemmas.List.Elements.{filter-append}
use Rattle.pm_laws.proofs.Common.{AreNamed, Border, Both, Entry, Fixed, IsClosed, Kind, Node, NodeId, Now, Same, SameEntry, SameRow, Slave, State, Unit, ends_beyond, is_about_beyond, kind_of, named_master, none_within, notes_beyond, unit_beyond, value}
use Rattle.pm_base.specs.declared.names.Unit.TheVariants.{Line}
use Rattle.pm_base.proofs.Booleans.{equal}
use Rattle.pm_base.proofs.Elements.{AllByRecursion-append}
use Rattle.pm_ipi.specs.declared.calls.AckKind.{AckKind}
use Rattle.pm_ipi.specs.declared.calls.AckKind.TheVariants.{No, Blocking, NonBlocking}
use Rattle.pm_notify.specs.declared.notes.NodeEvent.TheVariants as event
use Rattle.pm_notify.specs.declared.notes.Note.{Note}
use Rattle.pm_notify.specs.declared.notes.Note.TheVariants.{Ack, Change, ZeroUsers}
use Rattle.pm_notify.specs.declared.notes.Waiting.{Waiting}
use Rattle.pm_notify.specs.MasterNotes.{MasterNotes}
use Rattle.pm_notify.specs.NodeNotes.{asks}
use Rattle.pm_procs.specs.declared.pending.Pending.{Pending}
use Rattle.pm_procs.specs.Pending.{pending_at}
use Rattle.pm_rows.specs.Rows.{is_user}
use Rattle.pm_topology.specs.Units.{units_of}
use Rattle.pm_tell.specs.declared.ended.Ended.{Ended}
use Rattle.pm_tell.specs.Callbacks.{acknowledged_by, acknowledged_to, is_wanted, noticed_by}
use Rattle.pm_tell.specs.Ended.{end_of, ended_at, ended_from, ended_with}
use Rattle.pm_values.specs.Turns.{turns_along}
use Rattle.pm_values.specs.Notifications.{happened, notes_about, notifications, used, used_at}
use Rattle.pm_laws.proofs.AgreeLaw.{clash}
use Rattle.pm_laws.proofs.CallsAlike.{book_of, rows_both}
use Rattle.pm_laws.proofs.CalledAlike.{on_slave, unit_named}
use Rattle.pm_laws.proofs.MasterNotesFacts.{notes_same}
use Rattle.pm_laws.proofs.Places.{Both-count, StandsFrom, stands_first, stands_from_start, stands_later}
use Rattle.pm_laws.proofs.ValuesLaw.{kind_alike}

-- ---- notes about nodes within

-- each of these notes is about a node within
abbrev pub AreWithin : Border → List Waiting → Type 0
AreWithin border due = Each (λ (w : Waiting). is_about_beyond border w ≡ false) due

pub none_beyond : (border : Border) (due : List Waiting) → AreWithin border due → notes_beyond border due ≡ []
none_beyond border [] within = refl
none_beyond border (w ∷ due) within =
    ap (λ b. cond b (w ∷ notes_beyond border due) (notes_beyond border due)) within.0 ∙ none_beyond border due within.1

-- those of one list and those of another after it
pub beyond_append : (border : Border) (a b c d : List Waiting) → notes_beyond border a ≡ notes_beyond border c → notes_beyond border b ≡ notes_beyond border d
    → notes_beyond border (a ++ b) ≡ notes_beyond border (c ++ d)
beyond_append border a b c d first second =
    filter-append (is_about_beyond border) a b
    ∙ (ap (λ due. due ++ notes_beyond border b) first
    ∙ (ap (λ due. notes_beyond border c ++ due) second ∙ sym (filter-append (is_about_beyond border) c d)))

-- ---- requests that ended

-- if its node is beyond, so is its target
abbrev pub NamesTarget : Border → Ended → Type 0
NamesTarget border e = border.node e.request.node.0 ≡ true → border.master e.target ≡ true

module _ (border : Border) where
  acks_within : (kind : AckKind) (e : Ended) → border.node e.request.node.0 ≡ false → AreWithin border (acknowledged_by kind e)
  acks_within No e within = tt
  acks_within Blocking e within = tt
  acks_within NonBlocking e within = (within, tt)

  to_within : (k : ℕ) (e : Ended) (own : Bool) → border.node e.request.node.0 ≡ false → AreWithin border (if own then acknowledged_by e.request.ack e else [])
  to_within k e true within = acks_within e.request.ack e within
  to_within k e false within = tt

  node_within : (node target : Bool) → (node ≡ true → target ≡ true) → target ≡ false → node ≡ false
  node_within false target names within = refl
  node_within true target names within = clash target (names refl) within

  -- those about nodes beyond come from the requests to masters beyond
  pub acks_beyond : (k : ℕ) (es : List Ended) → Each (NamesTarget border) es
      → notes_beyond border (flat_map (acknowledged_to k) es) ≡ notes_beyond border (flat_map (acknowledged_to k) (ends_beyond border es))
  acks_beyond k [] names = refl
  acks_beyond k (e ∷ es) names = at (border.master e.target) refl (acks_beyond k es names.1)
    where
      later : List Ended
      later = ends_beyond border es

      at : (is : Bool) → border.master e.target ≡ is
          → notes_beyond border (flat_map (acknowledged_to k) es) ≡ notes_beyond border (flat_map (acknowledged_to k) later)
          → notes_beyond border (acknowledged_to k e ++ flat_map (acknowledged_to k) es)
          ≡ notes_beyond border (flat_map (acknowledged_to k) (if is then e ∷ later else later))
      at true is same =
          beyond_append border (acknowledged_to k e) (flat_map (acknowledged_to k) es) (acknowledged_to k e) (flat_map (acknowledged_to k) later) refl same
      at false is same =
          let node = node_within (border.node e.request.node.0) (border.master e.target) names.0 is in
          beyond_append border (acknowledged_to k e) (flat_map (acknowledged_to k) es) [] (flat_map (acknowledged_to k) later)
          (none_beyond border (acknowledged_to k e) (to_within k e (e.request.by == k) node)) same

-- the node of what is pending names the master that is asked
module _ (fixed : Fixed) (border : Border) (closed : IsClosed fixed border) (whole : List (Option Pending)) (named : AreNamed fixed whole)
    (book : State) (books : List State) (aborts count : Option ℕ) where
  with_names : (m : ℕ) (request : Pending) (status : Option ℕ) → named_master fixed request.node ≡ Some m → Each (NamesTarget border) (ended_with m request status)
  with_names m request None is = tt
  with_names m request (Some status) is = ((λ beyond. ap (none_within border) (sym is) ∙ closed.names request.node beyond), tt)

  at_names : (m : ℕ) (pending : Option Pending) → pending_at m whole ≡ pending
      → Each (NamesTarget border) (ended_at (turns_along book books m) aborts count m pending)
  at_names m None is = tt
  at_names m (Some request) is = with_names m request (end_of (turns_along book books m) aborts count m request) (named.named m request is)

  from_names : (m : ℕ) (pending : List (Option Pending)) → StandsFrom whole m pending
      → Each (NamesTarget border) (ended_from (turns_along book books) aborts count m pending)
  from_names m [] stands = tt
  from_names m (request ∷ later) stands =
      AllByRecursion-append (NamesTarget border) (ended_at (turns_along book books m) aborts count m request)
      (ended_from (turns_along book books) aborts count (m + 1) later)
      (at_names m request (ap (λ o. unwrap_or o None) (stands_first whole m request later stands)))
      (from_names (m + 1) later (stands_later whole m request later stands))

  pub ended_names : Each (NamesTarget border) (ended_from (turns_along book books) aborts count 0 whole)
  ended_names = from_names 0 whole (stands_from_start whole)

-- ---- what happened to nodes

module _ (border : Border) where
  about_within : (c f : Bool) (n : NodeId) → border.node n.0 ≡ false → AreWithin border (notes_about c f (Node n))
  about_within true true n within = (within, (within, tt))
  about_within true false n within = (within, tt)
  about_within false true n within = (within, tt)
  about_within false false n within = tt

  noticed_within : (notes : MasterNotes) (due : List Waiting) → AreWithin border due → notes_beyond border (flat_map (noticed_by notes) due) ≡ []
  noticed_within notes [] within = refl
  noticed_within notes (w ∷ due) within =
      beyond_append border (noticed_by notes w) (flat_map (noticed_by notes) due) [] [] (at (is_wanted notes w w.note)) (noticed_within notes due within.1)
    where
      at : (wanted : Bool) → notes_beyond border (if wanted then w ∷ [] else []) ≡ []
      at true = none_beyond border (w ∷ []) (within.0, tt)
      at false = refl

  -- alike notes ask for the same
  wanted_alike : (x y : MasterNotes) → Both (SameEntry border) x y → (w : Waiting) (note : Note) → is_wanted x w note ≡ is_wanted y w note
  wanted_alike x y same w (Ack status) = refl
  wanted_alike x y same w Change = ap (asks event.Change) (notes_same border w.node x y same).notifiers
  wanted_alike x y same w ZeroUsers = ap (asks event.ZeroUsers) (notes_same border w.node x y same).notifiers

  noticed_alike : (x y : MasterNotes) → Both (SameEntry border) x y → (due : List Waiting) → flat_map (noticed_by x) due ≡ flat_map (noticed_by y) due
  noticed_alike x y same [] = refl
  noticed_alike x y same (w ∷ due) =
      ap (λ b. (if b then w ∷ [] else []) ++ flat_map (noticed_by x) due) (wanted_alike x y same w w.note)
      ∙ ap (λ later. noticed_by y w ++ later) (noticed_alike x y same due)

module _ (fixed : Fixed) (border : Border) (closed : IsClosed fixed border) (some : border.some ≡ true) where
  user_elsewhere : (s : ℕ) (z : Entry) → (z.seed.slave == s) ≡ false → is_user s z ≡ false
  user_elsewhere s z is = ap (λ t. t && z.row.used) is

  kind_used : (a b : Now) → Same fixed border a b → (kind : Kind) → unit_beyond fixed.object fixed.topology border kind ≡ true
      → used_at kind a.core.rows ≡ used_at kind b.core.rows
  kind_used a b same (Slave s) beyond =
      ap (λ users. not (users == 0))
      (Both-count (SameRow border) (is_user s) (λ x y is. on_slave border (is_user s) s x y beyond (user_elsewhere s) is)
      a.core.rows.entries b.core.rows.entries (rows_both border a.core.rows.entries b.core.rows.entries some same.rows))
  kind_used a b same _ beyond = refl

  node_value : (a b : Now) → Same fixed border a b → (n : NodeId) → border.node n.0 ≡ true → value (Node n) (book_of fixed a) ≡ value (Node n) (book_of fixed b)
  node_value a b same n is = kind_alike fixed border closed a b same (kind_of fixed.topology n) (unit_named fixed border closed n is)

  node_used : (a b : Now) → Same fixed border a b → (n : NodeId) → border.node n.0 ≡ true → used (Node n) (book_of fixed a) ≡ used (Node n) (book_of fixed b)
  node_used a b same n is = kind_used a b same (kind_of fixed.topology n) (unit_named fixed border closed n is)

  -- a step from a to c, and one from b to d
  module _ (a b c d : Now) (before : Same fixed border a b) (after : Same fixed border c d) where
    node_happened : (n : NodeId) → border.node n.0 ≡ true → happened (book_of fixed a) (book_of fixed c) (Node n) ≡ happened (book_of fixed b) (book_of fixed d) (Node n)
    node_happened n is =
        let u : Unit = Node n in
        let freed : Bool = used u (book_of fixed a) && not (used u (book_of fixed c)) in
        ap (λ v. notes_about (not (v == value u (book_of fixed c))) freed u) (node_value a b before n is)
        ∙ (ap (λ v. notes_about (not (value u (book_of fixed b) == v)) freed u) (node_value c d after n is)
        ∙ (ap (λ t. notes_about (not (value u (book_of fixed b) == value u (book_of fixed d))) (t && not (used u (book_of fixed c))) u) (node_used a b before n is)
        ∙ ap (λ t. notes_about (not (value u (book_of fixed b) == value u (book_of fixed d))) (used u (book_of fixed b) && not t) u) (node_used c d after n is)))

    module _ (x y : MasterNotes) (notes : Both (SameEntry border) x y) where
      node_notices : (n : NodeId) (is : Bool) → border.node n.0 ≡ is
          → notes_beyond border (flat_map (noticed_by x) (happened (book_of fixed a) (book_of fixed c) (Node n)))
          ≡ notes_beyond border (flat_map (noticed_by y) (happened (book_of fixed b) (book_of fixed d) (Node n)))
      node_notices n true is =
          ap (λ due. notes_beyond border (flat_map (noticed_by x) due)) (node_happened n is)
          ∙ ap (notes_beyond border) (noticed_alike border x y notes (happened (book_of fixed b) (book_of fixed d) (Node n)))
      node_notices n false is =
          let changed = λ (p q : Now). not (value (Node n) (book_of fixed p) == value (Node n) (book_of fixed q)) in
          let freed = λ (p q : Now). used (Node n) (book_of fixed p) && not (used (Node n) (book_of fixed q)) in
          noticed_within border x (notes_about (changed a c) (freed a c) (Node n)) (about_within border (changed a c) (freed a c) n is)
          ∙ sym (noticed_within border y (notes_about (changed b d) (freed b d) (Node n)) (about_within border (changed b d) (freed b d) n is))

      unit_notices : (u : Unit)
          → notes_beyond border (flat_map (noticed_by x) (happened (book_of fixed a) (book_of fixed c) u))
          ≡ notes_beyond border (flat_map (noticed_by y) (happened (book_of fixed b) (book_of fixed d) u))
      unit_notices (Node n) = node_notices n (border.node n.0) refl
      unit_notices (Line l) = refl

      among : (units : List Unit)
          → notes_beyond border (flat_map (noticed_by x) (flat_map (happened (book_of fixed a) (book_of fixed c)) units))
          ≡ notes_beyond border (flat_map (noticed_by y) (flat_map (happened (book_of fixed b) (book_of fixed d)) units))
      among [] = refl
      among (u ∷ units) =
          let first = happened (book_of fixed a) (book_of fixed c) in
          let second = happened (book_of fixed b) (book_of fixed d) in
          ap (notes_beyond border) (flat_map-append (noticed_by x) (first u) (flat_map first units))
          ∙ (beyond_append border (flat_map (noticed_by x) (first u)) (flat_map (noticed_by x) (flat_map first units))
          (flat_map (noticed_by y) (second u)) (flat_map (noticed_by y) (flat_map second units)) (unit_notices u) (among units)
          ∙ ap (notes_beyond border) (sym (flat_map-append (noticed_by y) (second u) (flat_map second units))))

      -- what the masters with these notes hear of nodes beyond
      pub notices_alike : notes_beyond border (flat_map (noticed_by x) (notifications (book_of fixed a) (book_of fixed c)))
          ≡ notes_beyond border (flat_map (noticed_by y) (notifications (book_of fixed b) (book_of fixed d)))
      notices_alike = among (units_of fixed.topology)

  -- nothing happens if a book stays
  lost : (b : Bool) → (b && not b) ≡ false
  lost true = refl
  lost false = refl

  unit_rests : (a : Now) (u : Unit) → happened (book_of fixed a) (book_of fixed a) u ≡ []
  unit_rests a (Node n) =
      ap (λ b. notes_about (not b) (used (Node n) (book_of fixed a) && not (used (Node n) (book_of fixed a))) (Node n))
      (equal (value (Node n) (book_of fixed a)) (value (Node n) (book_of fixed a)) refl)
      ∙ ap (λ b. notes_about false b (Node n)) (lost (used (Node n) (book_of fixed a)))
  unit_rests a (Line l) = refl

  among_rests : (a : Now) (units : List Unit) → flat_map (happened (book_of fixed a) (book_of fixed a)) units ≡ []
  among_rests a [] = refl
  among_rests a (u ∷ units) =
      ap (λ due. due ++ flat_map (happened (book_of fixed a) (book_of fixed a)) units) (unit_rests a u) ∙ among_rests a units

  pub notices_rest : (a : Now) → notifications (book_of fixed a) (book_of fixed a) ≡ []
  notices_rest a = among_rests a (units_of fixed.topology)
