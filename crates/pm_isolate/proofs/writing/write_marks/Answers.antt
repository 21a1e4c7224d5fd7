use Rattle.std.proofs.Common.{◌≡◌, Some, subst, sym}
use Rattle.std.specs.Prelude.{slice_get}
use Rattle.std.proofs.lemmas.Result.{err_from_is_err_and}
use Rattle.pm_io.proofs.SinkLemmas.{BreaksIn-joined, BreaksIn-piece, Wrote-piece}
use Rattle.pm_topology.specs.declared.topology.Topology.{Topology}
use Rattle.pm_isolate.specs.Within.{mark_line, mark_lines}
use Rattle.pm_isolate.proofs.ReportLemmas.{slice_get-map}
use Rattle.pm_isolate.proofs.writing.write_marks.Goals as goal

pub returns-in_err-write_mark : goal.returns-in_err-write_mark
returns-in_err-write_mark g c =
    let w = c.args.worlds.now in
    let t : c.topology-t.result.now ≡ w.loud.book.fixed.topology = c.topology-t.ensures in
    let found : slice_get (mark_lines w) c.loop-place.place ≡ Some (mark_line c.topology-t.result.now c.mark-unit.result) =
    subst (λ (t : Topology). slice_get (mark_lines w) c.loop-place.place ≡ Some (mark_line t c.mark-unit.result)) (sym t) (slice_get-map (mark_line w.loud.book.fixed.topology) w.differs c.loop-place.place c.mark-unit.result c.mark-unit.ensures)
    in
    let p = err_from_is_err_and c.from_residual.result c.from_residual.ensures.1 in
    rw p.1 (BreaksIn-joined g.O.Sink (mark_lines w) c.loop-place.place c.args.out.now c.write_mark.new.out (BreaksIn-piece g.O.Sink (mark_lines w) c.loop-place.place (mark_line c.topology-t.result.now c.mark-unit.result) c.args.out.now c.loop-place.out c.write_mark.new.out found c.loop-place.invariant c.in_err-write_mark.ensures))

pub loop-place-preserved : goal.loop-place-preserved
loop-place-preserved g c =
    let w = c.args.worlds.now in
    let t : c.topology-t.result.now ≡ w.loud.book.fixed.topology = c.topology-t.ensures in
    let found : slice_get (mark_lines w) c.loop-place.place ≡ Some (mark_line c.topology-t.result.now c.mark-unit.result) =
    subst (λ (t : Topology). slice_get (mark_lines w) c.loop-place.place ≡ Some (mark_line t c.mark-unit.result)) (sym t) (slice_get-map (mark_line w.loud.book.fixed.topology) w.differs c.loop-place.place c.mark-unit.result c.mark-unit.ensures)
    in
    Wrote-piece g.O.Sink.observable (mark_lines w) c.loop-place.place (mark_line c.topology-t.result.now c.mark-unit.result) (g.O.Sink.state c.args.out.now) (g.O.Sink.state c.loop-place.out) (g.O.Sink.state c.write_mark.new.out) found c.loop-place.invariant c.in_ok-write_mark.ensures
