use Rattle.pm_objtext.proofs.SectionLaws.{SectionLaws}
use Rattle.pm_objtext.proofs.TextLaw.{text_of-means}
use Rattle.pm_objtext.proofs.MeaningLaw.{built_exactly, means_or_faults, one_object}
use Rattle.pm_objtext.proofs.laws.one_meaning.Goals as goal

pub returns : goal.returns
returns c =
    let laws : SectionLaws = record {
      put = c.object_sections.ensures.put;
      others = c.object_sections.ensures.others;
      order = c.object_sections.ensures.order;
      extra = c.object_sections.ensures.extra;
      reordered = c.object_sections.ensures.reordered;
      none = c.object_sections.ensures.none;
      empty = c.object_sections.ensures.empty;
      whole = c.object_sections.ensures.whole;
      same = c.section_identifiers.ensures.same;
      words = c.section_identifiers.ensures.words;
    } in
    record { built = built_exactly laws; fault = means_or_faults laws; one = one_object laws; printed = text_of-means }
