use Rattle.std.proofs.Common.{◌≡◌, drop}
use Rattle.pm_record.proofs.ListedLemmas.{IsRemade}
use Rattle.pm_record.proofs.marks.mark_all.Given as goal

-- the units at the places so far are marked by their values, and each other unit is already
abbrev pub invariant-loop-place : goal.invariant-loop-place
invariant-loop-place g l = record {
  made : IsRemade (g.W.Wanted.value l.wanted) l.fn.values l.values l.listed.items (drop l.place-index l.places);
  room : l.listed.room ≡ l.fn.listed.room;
}
