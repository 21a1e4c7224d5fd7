-- What a name came to, by what the inputs showed.
use Rattle.std.proofs.Common.{◌≡◌, ◌⊎◌, ℕ, ◌+◌, ◌≤◌, ◌<◌, ◌==◌, Bool, true, false, not, if◌then◌else◌, nat_lt, List, length, Option, Some, None, Result, Ok, Err, refl, sym, ◌∙◌, ap, subst, arith, inl, inr}
use Rattle.std.specs.Prelude.{IfOk}
use Rattle.std.proofs.lemmas.Bool.{lt-ltb}
use Rattle.std.proofs.lemmas.Bool.Decides.{Decides-eqb, nat_tests}
use Rattle.pm_base.specs.Faults.{Rose}
use Rattle.pm_io.specs.declared.prefix.StopReason.{StopReason}
use Rattle.pm_io.specs.declared.prefix.StopReason.TheVariants as reason
use Rattle.pm_io.specs.Inputs.{File, Moment, SameFiles}
use Rattle.pm_io.specs.Prefix.{HasSize, IsUnread, Prefix, prefix_of}
use Rattle.pm_io.proofs.PrefixEnds.{prefix_whole}
use Rattle.pm_gen.specs.Laboratory.{laboratory}
use Rattle.pm_object.specs.declared.object.Object.{Object}
use Rattle.pm_chip.specs.Chip.{chip}
use Rattle.pm_topology.specs.declared.topology.Topology.{Topology}
use Rattle.pm_topofile.specs.declared.fault.TopologyError.{TopologyError}
use Rattle.pm_topofile.specs.declared.fault.TopologyError.TheVariants.{Bad, Rule, Memory as NoRoom}
use Rattle.pm_topofile.specs.Meaning.{meaning, most_bytes}
use Rattle.pm_trace.specs.declared.faults.Fault.{Fault}
use Rattle.pm_trace.specs.declared.faults.Fault.TheVariants.{Memory, Read}
use Rattle.pm_top.specs.declared.works.Source.{Source}
use Rattle.pm_top.specs.declared.works.Source.TheVariants as source
use Rattle.pm_top.specs.Asked.{if_read, itself, laboratory_for, laboratory_if, later_prefix, lines_asked, source_prefix, topology_by, topology_limit, topology_of, topology_or_fault}
use Rattle.pm_top.specs.Fit.{HoldsTopology}
use Rattle.pm_top.specs.Words.{word}
use Rattle.pm_top.specs.Within.{ReadsAs, ReadsTopology, Takes}

module _ (shown : Type 0) (name : List ℕ) (before after : Moment) (p : Prefix) where
  pub taken_is : (s : Source) → Takes s shown name before after p → shown → p ≡ source_prefix s before name
  taken_is source.Object took seen = took.is seen
  taken_is source.Text took seen = took.is seen
  taken_is source.Number took seen = took.0
  taken_is source.Nothing took seen = took.0

  pub taken_fault : (s : Source) → Takes s shown name before after p → IsUnread p.stop → Rose before.faults after.faults
  taken_fault source.Object took unread = took.fault unread
  taken_fault source.Text took unread = took.fault unread
  taken_fault source.Number took unread = absurd (subst (λ (p : Prefix). IsUnread p.stop) took.0 unread)
  taken_fault source.Nothing took unread = absurd (subst (λ (p : Prefix). IsUnread p.stop) took.0 unread)

  pub taken_later : (s : Source) → Takes s shown name before after p → before.faults ≤ after.faults
  taken_later source.Object took = took.later
  taken_later source.Text took = took.later
  taken_later source.Number took = let same : before.faults ≡ after.faults = ap (λ (m : Moment). m.faults) took.1 in omega (arith, same)
  taken_later source.Nothing took = let same : before.faults ≡ after.faults = ap (λ (m : Moment). m.faults) took.1 in omega (arith, same)

  pub taken_files : (s : Source) → Takes s shown name before after p → shown → SameFiles before after
  taken_files source.Object took seen = took.files seen
  taken_files source.Text took seen = took.files seen
  taken_files source.Number took seen = subst (λ (m : Moment). SameFiles before m) took.1 (λ other. refl)
  taken_files source.Nothing took seen = subst (λ (m : Moment). SameFiles before m) took.1 (λ other. refl)

  pub taken_room : (s : Source) → Takes s shown name before after p → shown → before.room ≤ after.room + 1
  taken_room source.Object took seen = took.room seen
  taken_room source.Text took seen = took.room seen
  taken_room source.Number took seen = let same : before.room ≡ after.room = ap (λ (m : Moment). m.room) took.1 in omega (arith, same)
  taken_room source.Nothing took seen = let same : before.room ≡ after.room = ap (λ (m : Moment). m.room) took.1 in omega (arith, same)

-- a number is read as it is
pub number_read : (shown : Type 0) (name : List ℕ) (m : Moment) (result : Result Object Fault) → (result ≡ Err Memory) ⊎ (laboratory_for name ≡ result) → (result ≡ Err Memory) ⊎ ReadsAs source.Number shown name m m result
number_read shown name m result (inl memory) = inl memory
number_read shown name m result (inr is) = inr (record { prefix = itself name; read = (refl, refl); given = tt; is = is; says = says (lines_asked name) is })
  where
    says : (lines : Option ℕ) → laboratory_if lines ≡ result → IfOk result (λ object. object ≡ laboratory)
    says None is = subst (λ (v : Result Object Fault). IfOk v (λ object. object ≡ laboratory)) is tt
    says (Some n) is = subst (λ (v : Result Object Fault). IfOk v (λ object. object ≡ laboratory)) is refl

-- without a word nothing is read
pub nothing_read : (shown : Type 0) (name : List ℕ) (m : Moment) (result : Result Object Fault) → (result ≡ Err Memory) ⊎ (Ok laboratory ≡ result) → (result ≡ Err Memory) ⊎ ReadsAs source.Nothing shown name m m result
nothing_read shown name m result (inl memory) = inl memory
nothing_read shown name m result (inr is) = inr (record { prefix = itself name; read = (refl, refl); given = tt; is = is; says = subst (λ (v : Result Object Fault). IfOk v (λ object. object ≡ laboratory)) is refl })

-- ---- what is read of a later name

rooms : (limit : ℕ) (shown : Option File) (room : ℕ) (full : Bool) → (room == 0) ≡ full → prefix_of limit shown room ≡ prefix_of limit shown (if not full then 1 else 0)
rooms limit None room full is = refl
rooms limit (Some file) room full is = grind (arith, nat_tests)

-- by what the inputs showed at first
pub later_is : (limit : ℕ) (m mid : Moment) (name : List ℕ) → mid.file name ≡ m.file name → prefix_of limit (mid.file name) mid.room ≡ later_prefix limit m (not (mid.room == 0)) name
later_is limit m mid name file = ap (λ (f : Option File). prefix_of limit f mid.room) file ∙ rooms limit (m.file name) mid.room (mid.room == 0) refl

-- so many inputs were opened, and there was room for more
pub more : (before after n : ℕ) (full : Bool) → (after == 0) ≡ full → before ≤ after + n → n + 1 ≤ before → not full ≡ true
more before after n true is room some = let none : after ≡ 0 = (Decides-eqb after 0).0 is in absurd (omega arith)
more before after n false is room some = refl

-- ---- the text of a topology

err_is_ok : {X Y : Type 0} {x : X} {y : Y} → ◌≡◌ {A = Result X Y} (Err y) (Ok x) → ⊥
err_is_ok e = cc

ok_is_err : {X Y : Type 0} {x : X} {y : Y} → ◌≡◌ {A = Result X Y} (Ok x) (Err y) → ⊥
ok_is_err e = cc

pub ok_is : {X Y : Type 0} {a b : X} → ◌≡◌ {A = Result X Y} (Ok a) (Ok b) → a ≡ b
ok_is e = cc

-- a text that is read as a topology means it
text_ok : (meant : Result Topology TopologyError) (t : Topology) → topology_or_fault meant ≡ Ok t → meant ≡ Ok t
text_ok (Ok c) t is = let same : c ≡ t = ok_is is in cc
text_ok (Err (Bad fault)) t is = absurd (err_is_ok is)
text_ok (Err (Rule fault)) t is = absurd (err_is_ok is)
text_ok (Err (NoRoom starved)) t is = absurd (err_is_ok is)

pub topology_ok : (stop : StopReason) (meant : Result Topology TopologyError) (t : Topology) → if_read stop (topology_or_fault meant) ≡ Ok t → meant ≡ Ok t
topology_ok reason.End meant t is = text_ok meant t is
topology_ok reason.Limit meant t is = text_ok meant t is
topology_ok reason.Failure meant t is = absurd (err_is_ok is)
topology_ok reason.Unbegun meant t is = absurd (err_is_ok is)

-- and it isn't too long
pub means_short : (text : List ℕ) (t : Topology) → 1048576 < length text → meaning text ≡ Ok t → ⊥
unfolding meaning
means_short text t long is = let test : nat_lt most_bytes (length text) ≡ true = lt-ltb 1048576 (length text) long in err_is_ok (rw test at is)

pub topology_end : (p : Prefix) (t : Topology) → HasSize topology_limit p.stop (length p.bytes) → topology_of p ≡ Ok t → p.stop ≡ reason.End
topology_end p t size is = by p.stop size is
  where
    by : (stop : StopReason) → HasSize topology_limit stop (length p.bytes) → if_read stop (topology_or_fault (meaning p.bytes)) ≡ Ok t → stop ≡ reason.End
    by reason.End size is = refl
    by reason.Limit size is = let long : 1048576 < length p.bytes = omega arith in absurd (means_short p.bytes t long (topology_ok reason.Limit (meaning p.bytes) t is))
    by reason.Failure size is = absurd (err_is_ok is)
    by reason.Unbegun size is = absurd (err_is_ok is)

-- a text that couldn't be read
unread_in : (meant : Result Topology TopologyError) → topology_or_fault meant ≡ Err Read → ⊥
unread_in (Ok t) is = absurd (ok_is_err is)
unread_in (Err (Bad fault)) is = cc
unread_in (Err (Rule fault)) is = cc
unread_in (Err (NoRoom starved)) is = cc

pub text_unread : (p : Prefix) → topology_of p ≡ Err Read → IsUnread p.stop
text_unread p is = by p.stop is
  where
    by : (stop : StopReason) → if_read stop (topology_or_fault (meaning p.bytes)) ≡ Err Read → IsUnread stop
    by reason.End is = unread_in (meaning p.bytes) is
    by reason.Limit is = unread_in (meaning p.bytes) is
    by reason.Failure is = tt
    by reason.Unbegun is = tt

-- ---- the topology of a form

module _ (shown : Type 0) (ws : List (List ℕ)) (before after : Moment) where
  -- by what the inputs showed at first
  pub then_is : (named : Option ℕ) (m : Moment) (t : Result Topology Fault) → SameFiles m before → ReadsTopology shown named ws before after t → shown → t ≡ topology_by named ws m (not (before.room == 0))
  then_is None m t files read seen = read.0
  then_is (Some k) m t files read seen = sym read.is ∙ ap topology_of (read.read.is seen ∙ later_is topology_limit m before (word k ws) (files (word k ws)))

  pub then_fault : (named : Option ℕ) → ReadsTopology shown named ws before after (Err Read) → Rose before.faults after.faults
  then_fault None read = absurd (err_is_ok read.0)
  then_fault (Some k) read = read.read.fault (text_unread read.prefix read.is)

  pub then_later : (named : Option ℕ) (t : Result Topology Fault) → ReadsTopology shown named ws before after t → before.faults ≤ after.faults
  then_later None t read = let same : before.faults ≡ after.faults = ap (λ (m : Moment). m.faults) read.1 in omega (arith, same)
  then_later (Some k) t read = read.read.later

  pub then_files : (named : Option ℕ) (t : Result Topology Fault) → ReadsTopology shown named ws before after t → shown → SameFiles before after
  then_files None t read seen = subst (λ (m : Moment). SameFiles before m) read.1 (λ other. refl)
  then_files (Some k) t read seen = read.read.files seen

  pub then_room : (named : Option ℕ) (t : Result Topology Fault) → ReadsTopology shown named ws before after t → shown → before.room ≤ after.room + 1
  then_room None t read seen = let same : before.room ≡ after.room = ap (λ (m : Moment). m.room) read.1 in omega (arith, same)
  then_room (Some k) t read seen = read.read.room seen

  -- the text of the topology that was read was held
  pub then_held : (named : Option ℕ) (m : Moment) (t : Topology) → SameFiles m before → ReadsTopology shown named ws before after (Ok t) → shown → HoldsTopology named ws m t
  then_held None m t files read seen = ok_is read.0
  then_held (Some k) m t files read seen =
      let end : read.prefix.stop ≡ reason.End = topology_end read.prefix t read.read.size read.is in
      let is : read.prefix ≡ prefix_of topology_limit (m.file (word k ws)) before.room = read.read.is seen ∙ ap (λ (f : Option File). prefix_of topology_limit f before.room) (files (word k ws)) in
      (read.prefix.bytes, prefix_whole topology_limit (m.file (word k ws)) before.room read.prefix is end, topology_ok read.prefix.stop (meaning read.prefix.bytes) t read.is)

-- without a word that names one it is the chip's
pub chip_read : (shown : Type 0) (ws : List (List ℕ)) (m : Moment) (result : Result Topology Fault) → (result ≡ Err Memory) ⊎ (result ≡ Ok chip) → (result ≡ Err Memory) ⊎ ReadsTopology shown None ws m m result
chip_read shown ws m result (inl memory) = inl memory
chip_read shown ws m result (inr is) = inr (is, refl)
