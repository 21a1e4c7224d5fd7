use Rattle.std.proofs.Common.{subst}
use Rattle.pm_object.specs.Grammar.{inner_words}
use Rattle.pm_object.proofs.Fitting.{Fits32}
use Rattle.pm_object.proofs.spelling.spell_body.Goals as goal

pub spell_list-requires : goal.spell_list-requires
spell_list-requires c = subst (λ s. Fits32 (inner_words s c.args.object.now)) c.in-Masters.is c.requires

pub spell_list-requires-in-Slaves : goal.spell_list-requires-in-Slaves
spell_list-requires-in-Slaves c = subst (λ s. Fits32 (inner_words s c.args.object.now)) c.in-Slaves.is c.requires

pub spell_list-requires-in-Prealloc : goal.spell_list-requires-in-Prealloc
spell_list-requires-in-Prealloc c = subst (λ s. Fits32 (inner_words s c.args.object.now)) c.in-Prealloc.is c.requires

pub spell_list-requires-in-Power : goal.spell_list-requires-in-Power
spell_list-requires-in-Power c = subst (λ s. Fits32 (inner_words s c.args.object.now)) c.in-Power.is c.requires

pub spell_list-requires-in-Reset : goal.spell_list-requires-in-Reset
spell_list-requires-in-Reset c = subst (λ s. Fits32 (inner_words s c.args.object.now)) c.in-Reset.is c.requires

pub spell_list-requires-in-Shutdown : goal.spell_list-requires-in-Shutdown
spell_list-requires-in-Shutdown c = subst (λ s. Fits32 (inner_words s c.args.object.now)) c.in-Shutdown.is c.requires
