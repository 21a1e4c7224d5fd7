use Rattle.pm_objtext.proofs.MeaningLaw.{is_found, is_only, is_bad, is_unreadable, formed_where}
use Rattle.pm_objtext.proofs.building.build.Goals as goal

pub returns-clause-found : goal.returns-clause-found
returns-clause-found c = is_found c.one_meaning.ensures.built c.build_text.result c.args.text.now c.build_text.ensures

pub returns-clause-only : goal.returns-clause-only
returns-clause-only c = λ o means. is_only c.one_meaning.ensures.built c.build_text.result c.args.text.now o c.build_text.ensures means

pub returns-clause-formed : goal.returns-clause-formed
returns-clause-formed c = formed_where c.one_meaning.ensures.built c.build_text.result c.args.text.now c.build_text.ensures

pub returns-clause-bad : goal.returns-clause-bad
returns-clause-bad c = λ f is. is_bad c.build_text.result c.args.text.now f c.build_text.ensures is

pub returns-clause-unreadable : goal.returns-clause-unreadable
returns-clause-unreadable c = λ f is. is_unreadable c.one_meaning.ensures.built c.build_text.result c.args.text.now f c.build_text.ensures is
