-- The two laws: the bytes that are read spell the object, and the bytes that spell an object are read as it.
use Rattle.std.proofs.Common.{◌≡◌, ◌≢◌, ℕ, ◌+◌, ◌*◌, ◌%◌, ◌^◌, ◌<◌, ◌≤◌, Bool, true, false, cond, not, eqb, ltb, List, [], ◌∷◌, ◌++◌, length, slice_get, Some, None, ◌↔◌, ◌⊎◌, inl, inr, Result, Ok, Err, refl, sym, ap, subst, ◌∙◌, arith}
use Rattle.std.specs.Prelude.{IfOk}
use Rattle.std.specs.List.{All, Contains, flat_map}
use Rattle.std.proofs.lemmas.Bool.{eqb-true, eqb-false, ne_eqb, eq-eqb, ltb-false, le-ltb, not-false}
use Rattle.std.proofs.lemmas.List.{append-nil}
use Rattle.std.proofs.lemmas.List.Elements.{All-nil}
use Rattle.pm_base.proofs.Elements.{no_pairs}
use Rattle.pm_object.specs.declared.header.Header.{Header}
use Rattle.pm_object.specs.declared.object.Section.{Section}
use Rattle.pm_object.specs.declared.object.Section.TheVariants.{Masters, Slaves, Prealloc, Power, Reset, Shutdown, Config, Gpo}
use Rattle.pm_object.specs.declared.object.Object.{Object}
use Rattle.pm_object.specs.declared.object.DecodeError.{DecodeError}
use Rattle.pm_object.specs.declared.object.ObjectFault.{ObjectFault}
use Rattle.pm_object.specs.declared.object.ObjectCause.TheVariants.{TooLong, Length, NoMasters, Trailing}
use Rattle.pm_object.specs.Bodies.{no_body, unset}
use Rattle.pm_object.specs.FirstFault.{IsPart}
use Rattle.pm_object.specs.Grammar.{IsObject, Reads, little_endian, words_of, section_words, IsBody, IsMaster, AreApart, HasOwnNodes}
use Rattle.pm_object.specs.Reading.{Cursor, fault, header, sections, object, words, reading, fault_of, first_fault, Gives}
use Rattle.pm_object.proofs.Bytes.{IsBytes, bytes_fit, words_again, length_little_endian, bytes_again, words_fit}
use Rattle.pm_object.proofs.Steps.{bind_ok, passed, ok_is}
use Rattle.pm_object.proofs.ReadHeader.{header_takes, header_again}
use Rattle.pm_object.proofs.Bodies.{body-unset}
use Rattle.pm_object.proofs.ReadSections.{UpTo, sections_take, sections_again}

-- ---- an object without sections

pub none_together : (s : Section) → IsBody s (no_body s)
none_together Masters = record { each = All-nil IsMaster; apart = no_pairs AreApart }
none_together Slaves = no_pairs (λ a b. a.node ≢ b.node)
none_together Prealloc = All-nil HasOwnNodes
none_together Power = no_pairs (λ a b. a.key ≢ b.key)
none_together Reset = no_pairs (λ a b. a.key ≢ b.key)
none_together Shutdown = no_pairs (λ a b. a.key ≢ b.key)
none_together Config = tt
none_together Gpo = tt

pub unset_part : (extra : List ℕ) → IsPart (unset extra)
unset_part extra = record { once = no_pairs (λ s t. s ≢ t); unset = λ s hasnt. body-unset s extra; sections = λ s. subst (IsBody s) (sym (body-unset s extra)) (none_together s); begun = inl refl }

-- ---- the words

ended_not : (b : Bool) → b ≡ false → (place : ℕ) (o p : Object) → cond b (Ok o) (fault Trailing place) ≡ Ok p → ⊥
ended_not true is place o p e = absurd cc
ended_not false is place o p e = absurd cc

pub ended : (left : List ℕ) (place : ℕ) (o p : Object) → cond (eqb (length left) 0) (Ok o) (fault Trailing place) ≡ Ok p → (left ≡ []) × (o ≡ p)
ended [] place o p e = (refl, ok_is o p e)
ended (w ∷ left) place o p e = absurd (ended_not (eqb (length (w ∷ left)) 0) (ne_eqb (length (w ∷ left)) 0 (λ (none : length (w ∷ left) ≡ 0). omega arith)) place o p e)

begun_is : (o : Object) → 0 < length o.order → (o.order ≡ []) ⊎ ((slice_get o.order 0 ≡ Some Masters) × (0 < length o.masters)) → (slice_get o.order 0 ≡ Some Masters) × (0 < length o.masters)
begun_is o some (inl none) = absurd (omega (arith, ap length none))
begun_is o some (inr begun) = begun

pub object_takes : (c : Cursor) (o : Object) → object c ≡ Ok o → (c.left ≡ words_of o) × IsPart o × (slice_get o.order 0 ≡ Some Masters) × (0 < length o.masters)
unfolding object
object_takes c o e =
    let h = bind_ok (header c) _ o e in
    let g = passed (eqb h.0.0.sections 0) NoMasters h.0.1.place _ o h.2 in
    let s = bind_ok (sections h.0.0.sections (unset h.0.0.extra) h.0.1) (λ r. cond (eqb (length r.1.left) 0) (Ok r.0) (fault Trailing r.1.place)) o g.1 in
    let front = header_takes c h.0.0 h.0.1 h.1 in
    let next = sections_take h.0.0.sections (unset h.0.0.extra) h.0.1 s.0.0 s.0.1 (unset_part h.0.0.extra) s.1 in
    let p = s.0.0 in
    let end = ended s.0.1.left s.0.1.place p o s.2 in
    let body : h.0.1.left ≡ flat_map (section_words p) p.order =
    next.words ∙ ap (λ (l : List ℕ). flat_map (section_words p) next.new ++ l) end.0 ∙ append-nil (flat_map (section_words p) next.new) ∙ ap (flat_map (section_words p)) (sym next.order) in
    let many : length p.order ≡ h.0.0.sections = ap length next.order ∙ next.count in
    let text : c.left ≡ words_of p =
    front ∙ ap (λ (l : List ℕ). (2 + length h.0.0.extra) ∷ h.0.0.sections ∷ 1 ∷ h.0.0.extra ++ l) body
    ∙ ap (λ (x : List ℕ). (2 + length x) ∷ h.0.0.sections ∷ 1 ∷ x ++ flat_map (section_words p) p.order) (sym next.extra)
    ∙ ap (λ (n : ℕ). (2 + length p.extra) ∷ n ∷ 1 ∷ p.extra ++ flat_map (section_words p) p.order) (sym many) in
    let some : 0 < length p.order = omega (arith, many, eqb-false h.0.0.sections 0 g.0) in
    let begun = begun_is p some next.part.begun in
    subst (λ (q : Object). (c.left ≡ words_of q) × IsPart q × (slice_get q.order 0 ≡ Some Masters) × (0 < length q.masters)) end.1 (text, next.part, begun.0, begun.1)

none_in : (s : Section) → Contains [] s → ⊥
none_in s has = omega (arith, has.1)

first_not : (order : List Section) → length order ≡ 0 → slice_get order 0 ≡ Some Masters → ⊥
first_not [] none e = absurd cc
first_not (s ∷ order) none e = absurd (omega arith)

pub object_again : (p : Object) → IsObject p → (c : Cursor) → c.left ≡ words_of p → object c ≡ Ok p
unfolding object
object_again p good c text =
    let h : Header = record { sections = length p.order; extra = p.extra } in
    let front = header_again c h (flat_map (section_words p) p.order) text in
    let start : UpTo [] (unset p.extra) p = record { order = refl; extra = refl; kept = λ s has. absurd (none_in s has); unset = λ s hasnt. body-unset s p.extra } in
    let body = sections_again p good p.order [] (unset p.extra) refl start front.after [] (front.left ∙ sym (append-nil (flat_map (section_words p) p.order))) in
    let some : eqb (length p.order) 0 ≡ false = ne_eqb (length p.order) 0 (λ (none : length p.order ≡ 0). first_not p.order none good.first) in
    rw (front.is, some, body.is, body.left) refl

-- ---- the bytes

pub reads_what_it_reads : (bytes : List ℕ) (o : Object) → IsBytes bytes → reading bytes ≡ Ok o → Reads bytes o
unfolding reading
reads_what_it_reads bytes o fit e =
    let g = passed (ltb 16384 (length bytes)) TooLong 4096 _ o e in
    let h = passed (not (eqb (length bytes % 4) 0)) Length _ _ o g.1 in
    let aligned : length bytes % 4 ≡ 0 = eqb-true _ _ (not-false (eqb (length bytes % 4) 0) h.0) in
    let taken = object_takes (record { place = 0; left = words bytes }) o h.1 in
    let again : little_endian (words bytes) ≡ bytes = bytes_again bytes fit aligned in
    let size : length (words bytes) ≤ 4096 = omega (arith, length_little_endian (words bytes), ap length again, ltb-false 16384 (length bytes) g.0) in
    record {
      object = record {
        first = taken.2;
        once = taken.1.once;
        unset = taken.1.unset;
        sections = taken.1.sections;
        some_master = taken.3;
        words = subst (λ (l : List ℕ). All (λ w. w < 2 ^ 32) l) taken.0 (words_fit bytes fit);
        size = subst (λ (l : List ℕ). length l ≤ 4096) taken.0 size;
      };
      spelling = sym again ∙ ap little_endian taken.0;
    }

pub reads_what_is_written : (bytes : List ℕ) (o : Object) → Reads bytes o → reading bytes ≡ Ok o
unfolding reading
reads_what_is_written bytes o reads =
    let good = reads.object in
    let long : length bytes ≡ 4 * length (words_of o) = ap length reads.spelling ∙ length_little_endian (words_of o) in
    let short : ltb 16384 (length bytes) ≡ false = le-ltb _ _ (omega (arith, long, good.size)) in
    let aligned : eqb (length bytes % 4) 0 ≡ true = eq-eqb (length bytes % 4) 0 (omega (arith, long)) in
    let text : words bytes ≡ words_of o = ap words reads.spelling ∙ words_again (words_of o) good.words in
    let read : object (record { place = 0; left = words bytes }) ≡ Ok o =
    object_again o good (record { place = 0; left = words bytes }) text in
    rw (short, aligned) read

-- ---- what decode answers

pub is_found : (bytes : List ℕ) (r : Result Object DecodeError) → IsBytes bytes → Gives r (reading bytes) → IfOk r (λ o. Reads bytes o)
is_found bytes (Ok o) fit given = reads_what_it_reads bytes o fit given
is_found bytes (Err e) fit given = tt

pub is_only : (bytes : List ℕ) (r : Result Object DecodeError) (o : Object) → Gives r (reading bytes) → Reads bytes o → Gives r (Ok o)
is_only bytes r o given reads = subst (λ (read : Result Object ObjectFault). Gives r read) (reads_what_is_written bytes o reads) given

-- ---- one reading

pub reads_exactly : (bytes : List ℕ) (o : Object) → All (λ b. b < 256) bytes → reading bytes ≡ Ok o ↔ Reads bytes o
reads_exactly bytes o fit = (λ e. reads_what_it_reads bytes o (bytes_fit bytes fit) e, λ reads. reads_what_is_written bytes o reads)

pub one_object : (bytes : List ℕ) (o p : Object) → Reads bytes o → Reads bytes p → o ≡ p
one_object bytes o p reads_o reads_p = ok_is o p (sym (reads_what_is_written bytes o reads_o) ∙ reads_what_is_written bytes p reads_p)

-- what is written is read again
pub reads_again : (o : Object) → IsObject o → reading (little_endian (words_of o)) ≡ Ok o
reads_again o good = reads_what_is_written (little_endian (words_of o)) o (record { object = good; spelling = refl })

without_fault : (read : Result Object ObjectFault) → fault_of read ≡ None → (o : Object) × (read ≡ Ok o)
without_fault (Ok o) e = (o, refl)
without_fault (Err f) e = absurd cc

-- bytes spell an object exactly where nothing is wrong with them
pub reads_or_faults : (bytes : List ℕ) → All (λ b. b < 256) bytes → first_fault bytes ≡ None ↔ ((o : Object) × Reads bytes o)
reads_or_faults bytes fit = (
  λ none. let read = without_fault (reading bytes) none in (read.0, reads_what_it_reads bytes read.0 (bytes_fit bytes fit) read.1),
  λ reads. ap fault_of (reads_what_is_written bytes reads.0 reads.1),
)
