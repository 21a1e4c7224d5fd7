use Rattle.std.proofs.Common.{◌≡◌, List, [], length, drop, get_or, slice_get, Some, refl, sym, ◌∙◌, ap, arith}
use Rattle.std.proofs.lemmas.List.{drop_all}
use Rattle.std.proofs.lemmas.Option.{slice_get-get_or}
use Rattle.pm_topology.specs.declared.topology.ProcDef.{ProcDef}
use Rattle.pm_topology.specs.declared.topology.Topology.{Topology}
use Rattle.pm_state.specs.Changes.{written_by}
use Rattle.pm_state.specs.Prims.{Prim, changed}
use Rattle.pm_state.specs.Scope.{of_masters, off_at, offs_from}
use Rattle.pm_state.specs.State.{State}
use Rattle.pm_state.proofs.ScopeLemmas.{off_at_is, offs_step}
use Rattle.pm_state.proofs.WrittenLemmas.{offs_written}
use Rattle.pm_state.proofs.tables.Tables.put_masters_off.Goals as goal

nobody : ProcDef
nobody = record { node = record { 0 = 0 }; parent = 0; figure = 0; latency = 0 }

pub loop-p-init : goal.loop-p-init
loop-p-init c = record { fixed = refl; whole = refl; written = refl }

pub loop-p-preserved : goal.loop-p-preserved
loop-p-preserved c =
    let procs : List ProcDef = c.args.self.now.fixed.topology.procs in
    let count : c.len-p-end.result ≡ length procs =
    c.len-p-end.ensures ∙ ap (λ (t : Topology). length t.procs) c.topology.ensures.topology
    in
    let proc : ProcDef = get_or procs c.loop-p.p nobody in
    let here : slice_get procs c.loop-p.p ≡ Some proc = slice_get-get_or procs c.loop-p.p nobody (omega (arith, count, c.loop-p-test.true)) in
    let book = c.loop-p.self in
    let off : c.put_off_of.new.self ≡ changed (off_at book.fixed (of_masters c.args.of) c.loop-p.p proc.node) book =
    c.put_off_of.ensures.book ∙ ap (λ (prims : List Prim). changed prims book) (sym (off_at_is book.fixed c.args.of c.loop-p.p proc.node))
    in
    let wrote : c.put_off_of.new.changes ≡ written_by (off_at book.fixed (of_masters c.args.of) c.loop-p.p proc.node) book c.loop-p.changes =
    c.put_off_of.ensures.written
    ∙ ap (λ (prims : List Prim). written_by prims book c.loop-p.changes) (sym (off_at_is book.fixed c.args.of c.loop-p.p proc.node))
    in
    record {
      fixed = ap (λ (b : State). b.fixed) off ∙ c.loop-p.invariant.fixed;
      whole = offs_step book c.put_off_of.new.self (of_masters c.args.of) c.loop-p.p proc procs here off ∙ c.loop-p.invariant.whole;
      written = offs_written book c.put_off_of.new.self (of_masters c.args.of) c.loop-p.p proc procs c.loop-p.changes c.put_off_of.new.changes here off wrote
          ∙ c.loop-p.invariant.written;
    }

pub returns-clause-book : goal.returns-clause-book
returns-clause-book c =
    let procs : List ProcDef = c.args.self.now.fixed.topology.procs in
    let count : c.len-p-end.result ≡ length procs =
    c.len-p-end.ensures ∙ ap (λ (t : Topology). length t.procs) c.topology.ensures.topology
    in
    let none : drop c.loop-p.p procs ≡ [] = drop_all c.loop-p.p procs (omega (arith, count, c.loop-p-test.false)) in
    sym (ap (λ (left : List ProcDef). changed (offs_from c.loop-p.self.fixed (of_masters c.args.of) c.loop-p.p left) c.loop-p.self) none)
    ∙ c.loop-p.invariant.whole

pub returns-clause-written : goal.returns-clause-written
returns-clause-written c =
    let procs : List ProcDef = c.args.self.now.fixed.topology.procs in
    let count : c.len-p-end.result ≡ length procs =
    c.len-p-end.ensures ∙ ap (λ (t : Topology). length t.procs) c.topology.ensures.topology
    in
    let none : drop c.loop-p.p procs ≡ [] = drop_all c.loop-p.p procs (omega (arith, count, c.loop-p-test.false)) in
    sym (ap (λ (left : List ProcDef). written_by (offs_from c.loop-p.self.fixed (of_masters c.args.of) c.loop-p.p left) c.loop-p.self c.loop-p.changes) none)
    ∙ c.loop-p.invariant.written
