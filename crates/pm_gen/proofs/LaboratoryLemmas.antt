-- The words of the laboratory's object are read as that object.
use Rattle.std.proofs.Common.{◌≡◌, ℕ, List, Option, None, Some, Result, Ok, Err, refl, sym, ap, ◌∙◌}
use Rattle.pm_object.specs.declared.object.Object.{Object}
use Rattle.pm_object.specs.declared.object.ObjectFault.{ObjectFault}
use Rattle.pm_object.specs.declared.object.DecodeError.{DecodeError}
use Rattle.pm_object.specs.declared.object.DecodeError.TheVariants.{Bad}
use Rattle.pm_object.specs.Grammar.{Reads, little_endian}
use Rattle.pm_object.specs.Reading.{body, counted_records, fault_of, first_fault, group, header, master, master_mask, master_node, masters, object, own_key, pair, preset, reading, records, section, section_body, section_name, sections, slave, words}
use Rattle.pm_object.proofs.ReadObject.{reads_what_is_written}
use Rattle.pm_gen.specs.Laboratory.{lab_words, laboratory}

laboratory_is_read : reading (little_endian lab_words) ≡ Ok laboratory
unfolding body counted_records group header master master_mask master_node masters object own_key pair preset reading records section section_body section_name sections slave words lib.Count.ones
laboratory_is_read = refl

ok_is : {a b : Object} → ◌≡◌ {A = Result Object ObjectFault} (Ok a) (Ok b) → a ≡ b
ok_is e = cc

-- what these bytes are read as
pub is_laboratory : (bytes : List ℕ) (o : Object) → Reads bytes o → bytes ≡ little_endian lab_words → o ≡ laboratory
is_laboratory bytes o reads is = ok_is (sym (reads_what_is_written bytes o reads) ∙ ap reading is ∙ laboratory_is_read)

-- nothing is wrong with them
pub is_without_fault : {bytes : List ℕ} {r : Result Object DecodeError} {e : DecodeError} {f : ObjectFault} → r ≡ Err e → e ≡ Bad f
    → ((g : ObjectFault) → r ≡ Err (Bad g) → first_fault bytes ≡ Some g) → bytes ≡ little_endian lab_words → ⊥
is_without_fault {bytes} {r} {e} {f} answers bad found is =
    let fault : first_fault bytes ≡ Some f = found f (answers ∙ ap Err bad) in
    let none : first_fault bytes ≡ None = ap first_fault is ∙ ap fault_of laboratory_is_read in
    let both : ◌≡◌ {A = Option ObjectFault} None (Some f) = sym none ∙ fault in
    cc
