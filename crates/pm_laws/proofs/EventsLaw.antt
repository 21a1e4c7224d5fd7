-- Nothing is seen of the stages of a hidden event, and those of any other are alike in two books that agree.
use Rattle.std.proofs.Common.{◌≡◌, ℕ, Bool, true, false, not, ◌||◌, if◌then◌else◌, List, [], Option, Some, None, refl, ◌∙◌, ap, inl, inr}
use Rattle.std.specs.Prelude.{option_and_then}
use Rattle.pm_laws.proofs.Common.{Active, AreAlike, AreHidden, ArmsOwn, Asleep, BelowLaws, Boot, Border, Called, Event, Fixed, Gic, HasSome, Ipi, Irq, IsBeyond, Kind, KindLaws, Mode, Now, Off, Prim, Put_proc, Same, State, Suspending, Tick, Wfi, called, changes_within, call_at, may_call, is_hidden, is_place, is_within, kind_of, master_place, message_stages, owner_at, owner_by, proc_at, shape_within, stages, stages_of}
use Rattle.pm_base.specs.declared.events.Message.{Message}
use Rattle.pm_base.proofs.Booleans.{either, equal, neither}
use Rattle.pm_ipi.specs.Calls.{call_of}
use Rattle.pm_procs.specs.declared.procs.Proc.{Proc as Processor}
use Rattle.pm_topology.specs.declared.places.Kind.TheVariants.{Proc}
use Rattle.pm_calls.specs.Events.{boot, boot_at, boot_by, booted, wait, wait_at, wait_by, waits, interrupt, interrupt_at, interrupt_by, raised}
use Rattle.pm_state.specs.Members.{owns}
use Rattle.pm_calls.specs.calls.{shape_of}
use Rattle.pm_calls.specs.Shapes.{Shape, Own_row, Other_wakeup}
use Rattle.pm_laws.proofs.CallsAlike.{alike_of, book_of, call_alike, kept}
use Rattle.pm_laws.proofs.CallsHidden.{caller_hidden, slave_hidden, turned}
use Rattle.pm_laws.proofs.MayCallLaw.{heard_same}
use Rattle.pm_laws.proofs.HiddenLemmas.{HasClosed, one_hidden}
use Rattle.pm_laws.proofs.WakeLaw.{raised_alike, raised_hidden, woken_unseen}
use Rattle.pm_laws.proofs.FollowLaw.{proc_alike}

-- ---- hidden events

heard_hidden : (border : Border) (call : Called) (heard : Bool) → AreHidden border (stages_of call) → AreHidden border (message_stages (if heard then Some call else None))
heard_hidden border call true hidden = hidden
heard_hidden border call false hidden = tt

message_hidden : KindLaws → (border : Border) (message : Message) (book : State) (place : Option ℕ) → HasClosed border book → (is_within border place || changes_within border (call_of message) book) ≡ true → AreHidden border (message_stages (option_and_then (call_at (call_of message) book) place))
message_hidden laws border message book None closed is = tt
message_hidden laws border message book (Some m) closed is =
    heard_hidden border (called m (call_of message) book) (may_call m book)
    (elim (either (not (border.master m)) (changes_within border (call_of message) book) is) [
      | inl within ↦ caller_hidden laws border m (call_of message) book closed (turned (border.master m) within)
      | inr slave ↦ slave_hidden border m (call_of message) book slave
    ])

booted_hidden : (border : Border) (m p address : ℕ) (mode : Mode) → border.master m ≡ false → AreHidden border (booted m p address mode)
booted_hidden border m p address Off within = (one_hidden border (Put_proc m p Active address) within, tt)
booted_hidden border m p address _ within = tt

waits_hidden : (border : Border) (m p address : ℕ) (mode : Mode) → border.master m ≡ false → AreHidden border (waits m p address mode)
waits_hidden border m p address Off within = tt
waits_hidden border m p address Active within = tt
waits_hidden border m p address Asleep within = tt
waits_hidden border m p address Suspending within = (one_hidden border (Put_proc m p Asleep address) within, tt)

boot_by_hidden : (border : Border) (owner : Option ℕ) (p address : ℕ) (proc : Processor) → is_within border owner ≡ true → AreHidden border (boot_by owner p address proc)
boot_by_hidden border None p address proc is = tt
boot_by_hidden border (Some m) p address proc is = booted_hidden border m p address proc.mode (turned (border.master m) is)

wait_by_hidden : (border : Border) (owner : Option ℕ) (p : ℕ) (proc : Processor) → is_within border owner ≡ true → AreHidden border (wait_by owner p proc)
wait_by_hidden border None p proc is = tt
wait_by_hidden border (Some m) p proc is = waits_hidden border m p proc.address proc.mode (turned (border.master m) is)

boot_hidden : (border : Border) (kind : Kind) (address : ℕ) (book : State) → is_within border (owner_by kind book) ≡ true → AreHidden border (boot_at kind address book)
boot_hidden border (Proc p) address book is =
    boot_by_hidden border (owner_at book.fixed.object book.fixed.topology p) p address (proc_at p book.now.core.procs) is
boot_hidden border _ address book is = tt

wait_hidden : (border : Border) (kind : Kind) (book : State) → is_within border (owner_by kind book) ≡ true → AreHidden border (wait_at kind book)
wait_hidden border (Proc p) book is =
    wait_by_hidden border (owner_at book.fixed.object book.fixed.topology p) p (proc_at p book.now.core.procs) is
wait_hidden border _ book is = tt

interrupt_by_hidden : (border : Border) (owner : Option ℕ) (p : ℕ) (proc : Processor) → is_within border owner ≡ true → AreHidden border (interrupt_by owner p proc)
interrupt_by_hidden border None p proc is = tt
interrupt_by_hidden border (Some m) p proc is = (woken_unseen border m p proc.address proc.mode (turned (border.master m) is), tt)

interrupt_hidden : (border : Border) (kind : Kind) (book : State) → is_within border (owner_by kind book) ≡ true → AreHidden border (interrupt_at kind book)
interrupt_hidden border (Proc p) book is =
    interrupt_by_hidden border (owner_at book.fixed.object book.fixed.topology p) p (proc_at p book.now.core.procs) is
interrupt_hidden border _ book is = tt

halted_hidden : (border : Border) (halted : Bool) (stages : List (List Prim)) → AreHidden border stages → AreHidden border (if halted then [] else stages)
halted_hidden border true stages hidden = tt
halted_hidden border false stages hidden = hidden

-- nothing is seen of the stages of a hidden event
pub event_hidden : KindLaws → (border : Border) (event : Event) (book : State) → HasClosed border book → is_hidden border event book ≡ true → AreHidden border (stages event book)
event_hidden laws border (Ipi master message) book closed is = message_hidden laws border message book (master_place master book) closed is
event_hidden laws border (Boot proc address) book closed is =
    halted_hidden border book.now.core.halted (boot proc address book) (boot_hidden border (kind_of book.fixed.topology proc) address book is)
event_hidden laws border (Wfi proc) book closed is =
    halted_hidden border book.now.core.halted (wait proc book) (wait_hidden border (kind_of book.fixed.topology proc) book is)
event_hidden laws border (Irq slave) book closed is =
    halted_hidden border book.now.core.halted (raised slave book) (raised_hidden border (kind_of book.fixed.topology slave) book closed.closed.some is)
event_hidden laws border (Gic proc) book closed is =
    halted_hidden border book.now.core.halted (interrupt proc book) (interrupt_hidden border (kind_of book.fixed.topology proc) book is)
event_hidden laws border _ book closed is = tt

-- ---- all other events

-- if the master at a place is beyond, some master is
some_place : (border : Border) (place : Option ℕ) → HasSome border → is_within border place ≡ false → border.some ≡ true
some_place border None some is = cc
some_place border (Some m) some is = some m (kept (border.master m) is)

-- so some master is beyond if an event isn't hidden
pub some_beyond : (border : Border) (event : Event) (book : State) → HasSome border → is_hidden border event book ≡ false → border.some ≡ true
some_beyond border (Ipi master message) book some is =
    some_place border (master_place master book) some (neither (is_within border (master_place master book)) (changes_within border (call_of message) book) is).0
some_beyond border (Boot proc address) book some is = some_place border (owner_by (kind_of book.fixed.topology proc) book) some is
some_beyond border (Wfi proc) book some is = some_place border (owner_by (kind_of book.fixed.topology proc) book) some is
some_beyond border (Gic proc) book some is = some_place border (owner_by (kind_of book.fixed.topology proc) book) some is
some_beyond border (Irq slave) book some is = kept border.some is
some_beyond border (Tick count) book some is = kept border.some is
some_beyond border _ book some is = cc

heard_alike : (border : Border) (first second : Called) (a b : Bool) → a ≡ b → AreAlike border (stages_of first) (stages_of second) → AreAlike border (message_stages (if a then Some first else None)) (message_stages (if b then Some second else None))
heard_alike border first second true true is alike = alike
heard_alike border first second true false is alike = cc
heard_alike border first second false true is alike = cc
heard_alike border first second false false is alike = tt

message_alike : BelowLaws → (fixed : Fixed) (border : Border) (message : Message) (place : Option ℕ) (a b : Now) → HasSome border → (is_within border place || changes_within border (call_of message) (book_of fixed a)) ≡ false → Same fixed border a b → AreAlike border (message_stages (option_and_then (call_at (call_of message) (book_of fixed a)) place)) (message_stages (option_and_then (call_at (call_of message) (book_of fixed b)) place))
message_alike laws fixed border message None a b some is same = cc
message_alike laws fixed border message (Some m) a b some is same =
    let parts = neither (not (border.master m)) (changes_within border (call_of message) (book_of fixed a)) is in
    let beyond : IsBeyond border m = kept (border.master m) parts.0 in
    heard_alike border (called m (call_of message) (book_of fixed a)) (called m (call_of message) (book_of fixed b))
    (may_call m (book_of fixed a)) (may_call m (book_of fixed b)) (heard_same laws fixed border m a b beyond same)
    (call_alike laws fixed border m a b beyond same (call_of message) parts.1)

-- the processor of a master beyond is the same in both
owned_alike : (fixed : Fixed) (border : Border) (m p : ℕ) (a b : Now) → owner_at fixed.object fixed.topology p ≡ Some m → is_within border (Some m) ≡ false → Same fixed border a b → proc_at p a.core.procs ≡ proc_at p b.core.procs
owned_alike fixed border m p a b owner is same =
    let own : owns fixed.object fixed.topology m p ≡ true = ap (is_place m) owner ∙ equal m m refl in
    proc_alike fixed border m p a b (kept (border.master m) is) own same

boot_alike : (fixed : Fixed) (border : Border) (owner : Option ℕ) (p address : ℕ) (a b : Now) → owner_at fixed.object fixed.topology p ≡ owner → is_within border owner ≡ false → Same fixed border a b → boot_by owner p address (proc_at p a.core.procs) ≡ boot_by owner p address (proc_at p b.core.procs)
boot_alike fixed border None p address a b owner is same = cc
boot_alike fixed border (Some m) p address a b owner is same =
    ap (λ (proc : Processor). booted m p address proc.mode) (owned_alike fixed border m p a b owner is same)

wait_alike : (fixed : Fixed) (border : Border) (owner : Option ℕ) (p : ℕ) (a b : Now) → owner_at fixed.object fixed.topology p ≡ owner → is_within border owner ≡ false → Same fixed border a b → wait_by owner p (proc_at p a.core.procs) ≡ wait_by owner p (proc_at p b.core.procs)
wait_alike fixed border None p a b owner is same = cc
wait_alike fixed border (Some m) p a b owner is same =
    ap (λ (proc : Processor). waits m p proc.address proc.mode) (owned_alike fixed border m p a b owner is same)

interrupt_alike : (fixed : Fixed) (border : Border) (owner : Option ℕ) (p : ℕ) (a b : Now) → owner_at fixed.object fixed.topology p ≡ owner → is_within border owner ≡ false → Same fixed border a b → interrupt_by owner p (proc_at p a.core.procs) ≡ interrupt_by owner p (proc_at p b.core.procs)
interrupt_alike fixed border None p a b owner is same = cc
interrupt_alike fixed border (Some m) p a b owner is same =
    ap (λ (proc : Processor). interrupt_by (Some m) p proc) (owned_alike fixed border m p a b owner is same)

interrupts_alike : (fixed : Fixed) (border : Border) (kind : Kind) (a b : Now) → is_within border (owner_by kind (book_of fixed a)) ≡ false → Same fixed border a b → interrupt_at kind (book_of fixed a) ≡ interrupt_at kind (book_of fixed b)
interrupts_alike fixed border (Proc p) a b is same = interrupt_alike fixed border (owner_at fixed.object fixed.topology p) p a b refl is same
interrupts_alike fixed border _ a b is same = refl

boots_alike : (fixed : Fixed) (border : Border) (kind : Kind) (address : ℕ) (a b : Now) → is_within border (owner_by kind (book_of fixed a)) ≡ false → Same fixed border a b → boot_at kind address (book_of fixed a) ≡ boot_at kind address (book_of fixed b)
boots_alike fixed border (Proc p) address a b is same = boot_alike fixed border (owner_at fixed.object fixed.topology p) p address a b refl is same
boots_alike fixed border _ address a b is same = refl

waits_alike : (fixed : Fixed) (border : Border) (kind : Kind) (a b : Now) → is_within border (owner_by kind (book_of fixed a)) ≡ false → Same fixed border a b → wait_at kind (book_of fixed a) ≡ wait_at kind (book_of fixed b)
waits_alike fixed border (Proc p) a b is same = wait_alike fixed border (owner_at fixed.object fixed.topology p) p a b refl is same
waits_alike fixed border _ a b is same = refl

halted_alike : (border : Border) (x y : Bool) (first second : List (List Prim)) → x ≡ y → AreAlike border first second → AreAlike border (if x then [] else first) (if y then [] else second)
halted_alike border true true first second is alike = tt
halted_alike border true false first second is alike = cc
halted_alike border false true first second is alike = cc
halted_alike border false false first second is alike = alike

-- if the owner of a processor is beyond, some master is
owner_some : (border : Border) (owner : Option ℕ) → HasSome border → is_within border owner ≡ false → border.some ≡ true
owner_some border None some is = cc
owner_some border (Some m) some is = some m (kept (border.master m) is)

module _ (fixed : Fixed) (border : Border) (a b : Now) (same : Same fixed border a b) where
  -- stages that are alike, unless the books are halted
  running_alike : (first second : List (List Prim)) → border.some ≡ true → AreAlike border first second → AreAlike border (if a.core.halted then [] else first) (if b.core.halted then [] else second)
  running_alike first second some alike = halted_alike border a.core.halted b.core.halted first second (same.halted some) alike

pub event_alike : BelowLaws → (fixed : Fixed) (border : Border) (event : Event) (a b : Now) → ArmsOwn (book_of fixed a) → HasSome border → is_hidden border event (book_of fixed a) ≡ false → Same fixed border a b → AreAlike border (stages event (book_of fixed a)) (stages event (book_of fixed b))
event_alike laws fixed border (Ipi master message) a b armed some is same =
    message_alike laws fixed border message (master_place master (book_of fixed a)) a b some is same
event_alike laws fixed border (Boot proc address) a b armed some is same =
    let kind : Kind = kind_of fixed.topology proc in
    running_alike fixed border a b same (boot_at kind address (book_of fixed a)) (boot_at kind address (book_of fixed b)) (owner_some border (owner_by kind (book_of fixed a)) some is)
    (alike_of border (boot_at kind address (book_of fixed a)) (boot_at kind address (book_of fixed b)) (boots_alike fixed border kind address a b is same))
event_alike laws fixed border (Wfi proc) a b armed some is same =
    let kind : Kind = kind_of fixed.topology proc in
    running_alike fixed border a b same (wait_at kind (book_of fixed a)) (wait_at kind (book_of fixed b)) (owner_some border (owner_by kind (book_of fixed a)) some is)
    (alike_of border (wait_at kind (book_of fixed a)) (wait_at kind (book_of fixed b)) (waits_alike fixed border kind a b is same))
event_alike laws fixed border (Irq slave) a b armed some is same =
    running_alike fixed border a b same (raised slave (book_of fixed a)) (raised slave (book_of fixed b)) (kept border.some is)
    (raised_alike fixed border (kind_of fixed.topology slave) a b armed (kept border.some is) same)
event_alike laws fixed border (Gic proc) a b armed some is same =
    let kind : Kind = kind_of fixed.topology proc in
    running_alike fixed border a b same (interrupt_at kind (book_of fixed a)) (interrupt_at kind (book_of fixed b)) (owner_some border (owner_by kind (book_of fixed a)) some is)
    (alike_of border (interrupt_at kind (book_of fixed a)) (interrupt_at kind (book_of fixed b)) (interrupts_alike fixed border kind a b is same))
event_alike laws fixed border (Tick count) a b armed some is same = tt
event_alike laws fixed border _ a b armed some is same = cc

-- ---- what is fixed decides which events are hidden

owner_fixed : (fixed : Fixed) (kind : Kind) (a b : Now) → owner_by kind (book_of fixed a) ≡ owner_by kind (book_of fixed b)
owner_fixed fixed (Proc p) a b = refl
owner_fixed fixed _ a b = refl

changes_fixed : (fixed : Fixed) (border : Border) (shape : Shape) (a b : Now) → shape_within border shape (book_of fixed a) ≡ shape_within border shape (book_of fixed b)
changes_fixed fixed border (Own_row node by call) a b = refl
changes_fixed fixed border (Other_wakeup node address ack) a b = ap (is_within border) (owner_fixed fixed (kind_of fixed.topology node) a b)
changes_fixed fixed border _ a b = refl

pub hidden_fixed : (fixed : Fixed) (border : Border) (event : Event) (a b : Now) → is_hidden border event (book_of fixed a) ≡ is_hidden border event (book_of fixed b)
hidden_fixed fixed border (Ipi master message) a b =
    ap (λ changes. is_within border (master_place master (book_of fixed a)) || changes) (changes_fixed fixed border (shape_of (call_of message)) a b)
hidden_fixed fixed border (Boot proc address) a b = ap (is_within border) (owner_fixed fixed (kind_of fixed.topology proc) a b)
hidden_fixed fixed border (Wfi proc) a b = ap (is_within border) (owner_fixed fixed (kind_of fixed.topology proc) a b)
hidden_fixed fixed border (Gic proc) a b = ap (is_within border) (owner_fixed fixed (kind_of fixed.topology proc) a b)
hidden_fixed fixed border _ a b = refl
