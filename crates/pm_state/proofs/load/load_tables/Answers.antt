use Rattle.std.proofs.Common.{◌≡◌, Bool, false, List, Option, ◌∙◌, ap, subst, sym, slice_get}
use Rattle.std.specs.Prelude.{unwrap_or}
use Rattle.std.proofs.lemmas.Result.{IfOk-at_ok}
use Rattle.pm_notify.specs.MasterNotes.{MasterNotes}
use Rattle.pm_object.specs.declared.attached.Attached.{Attached}
use Rattle.pm_object.specs.declared.object.Object.{Object}
use Rattle.pm_procs.specs.declared.pending.Pending.{Pending}
use Rattle.pm_procs.specs.declared.procs.Proc.{Proc}
use Rattle.pm_rows.specs.Rows.{Rows}
use Rattle.pm_topology.specs.declared.topology.Topology.{Topology}
use Rattle.pm_state.specs.declared.load.Held.{Held}
use Rattle.pm_state.specs.declared.load.Ruled.{Ruled}
use Rattle.pm_state.specs.Load.{IsHeld, IsRuled, load_of}
use Rattle.pm_state.specs.State.{State}
use Rattle.pm_state.proofs.load.load_tables.Goals as goal

-- a book of these parts
abbrev book_with : Object → List Attached → Topology → Object → Rows → List Proc → List Bool → List (Option Pending) → List MasterNotes → State
book_with object attached topology force rows procs lines pending notes = record {
  fixed = record { object = object; topology = topology; attached = attached };
  now = record {
    force = force;
    core = record { rows = rows; procs = procs; lines = lines; halted = false };
    talk = record { pending = pending; notes = notes };
  };
}

book_same : (object : Object) (attached : List Attached) (topology : Topology) (force o : Object) (rows a : Rows) (procs b : List Proc) (lines c : List Bool) (pending d : List (Option Pending)) (notes e : List MasterNotes)
    → force ≡ o → rows ≡ a → procs ≡ b → lines ≡ c → pending ≡ d → notes ≡ e
    → book_with object attached topology force rows procs lines pending notes ≡ book_with object attached topology o a b c d e
book_same object attached topology force o rows a procs b lines c pending d notes e force_is rows_are procs_are lines_are pending_is notes_are =
    ap (λ x. book_with object attached topology x rows procs lines pending notes) force_is
    ∙ (ap (λ x. book_with object attached topology o x procs lines pending notes) rows_are
    ∙ (ap (λ x. book_with object attached topology o a x lines pending notes) procs_are
    ∙ (ap (λ x. book_with object attached topology o a b x pending notes) lines_are
    ∙ (ap (λ x. book_with object attached topology o a b c x notes) pending_is ∙ ap (book_with object attached topology o a b c d) notes_are))))

-- the book at load of these parts of a chip
abbrev book_of : (Object × List Attached) × (Held × Ruled) → Topology → State
book_of g t = book_with g.0.0 g.0.1 t (unwrap_or (slice_get g.1.1.objects 0) g.0.0) g.1.1.rows g.1.0.procs.procs g.1.0.resets g.1.0.procs.pending g.1.0.notify

-- the book of what is kept at load
loaded_book : (object : Object) (attached : List Attached) (t : Topology) (held : Held) (ruled : Ruled) → IsHeld object t held → IsRuled object attached t ruled
    → book_with object attached t (unwrap_or (slice_get ruled.objects 0) object) ruled.rows held.procs.procs held.resets held.procs.pending held.notify ≡ load_of object attached t
loaded_book object attached t held ruled is keeps =
    let start = (load_of object attached t).now in
    book_same object attached t (unwrap_or (slice_get ruled.objects 0) object) object ruled.rows start.core.rows held.procs.procs start.core.procs
    held.resets start.core.lines held.procs.pending start.talk.pending held.notify start.talk.notes
    (ap (λ (os : List Object). unwrap_or (slice_get os 0) object) keeps.objects) keeps.rows is.procs is.lines is.pending is.notes

pub returns : goal.returns
returns c =
    let given = c.in_ok-object in
    let Beside : Object × List Attached × Topology → Type 0 = λ g. IsHeld g.0 g.2 given.held in
    let With : Object × List Attached × Topology → Type 0 = λ g. IsRuled g.0 g.1 g.2 given.ruled in
    let held : IsHeld c.args.object c.args.topology given.held =
    IfOk-at_ok (λ (p : Held × Ruled). IsHeld c.args.object c.args.topology p.0) given.ensures.1 c.parts_of-parts.ensures.held
    in
    let found : IsRuled c.args.object c.as_slice.result.now c.args.topology given.ruled =
    IfOk-at_ok (λ (p : Held × Ruled). IsRuled c.args.object c.as_slice.result.now c.args.topology p.1) given.ensures.1 c.parts_of-parts.ensures.ruled
    in
    let ruled : IsRuled c.args.object c.args.attached c.args.topology given.ruled =
    subst (λ (a : List Attached). IsRuled c.args.object a c.args.topology given.ruled) c.as_slice.ensures found
    in
    let first = loaded_book given.object given.attached given.topology given.held given.ruled (subst Beside (sym given.ensures.0) held) (subst With (sym given.ensures.0) ruled)
    ∙ ap (λ (g : Object × List Attached × Topology). load_of g.0 g.1 g.2) given.ensures.0
    in
    let beside = c.in_ok-object-2 in
    let chip : beside.topology ≡ given.topology = IfOk-at_ok (λ (t : Topology). t ≡ given.topology) beside.ensures.1 c.load.ensures in
    ap (λ (g : (Object × List Attached) × (Held × Ruled)). book_of g beside.topology) beside.ensures.0
    ∙ (ap (book_of ((given.object, given.attached), (given.held, given.ruled))) chip ∙ first)
