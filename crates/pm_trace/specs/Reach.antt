-- The text of a reach: a line for each member.
use Rattle.std.specs.Prelude.{ℕ, List, ◌∷◌, map, codes}
use Rattle.std.specs.List.{flat_map}
use Rattle.pm_base.specs.declared.names.NodeId.{NodeId}
use Rattle.pm_reach.specs.declared.members.Member.{Member}
use Rattle.pm_reach.specs.declared.members.MemberKind.{MemberKind}
use Rattle.pm_reach.specs.declared.members.MemberKind.TheVariants as members
use Rattle.pm_reach.specs.declared.members.Why.{Why}
use Rattle.pm_reach.specs.declared.members.Why.TheVariants as why
use Rattle.pm_trace.specs.declared.line.Word.{Word}
use Rattle.pm_trace.specs.declared.line.Word.TheVariants as word
use Rattle.pm_trace.specs.Line.{line_text}

-- the name of a member's kind
abbrev pub kind_word : MemberKind → Word
kind_word members.Master = word.Name (codes "master")
kind_word members.Slave = word.Name (codes "slave")
kind_word members.Power = word.Name (codes "power")
kind_word members.Line = word.Name (codes "line")

-- the name of a member's reason
abbrev pub why_word : Why → Word
why_word why.Myself = word.Name (codes "self")
why_word why.Suspend = word.Name (codes "suspend")
why_word why.Wake = word.Name (codes "wake")
why_word why.Force = word.Name (codes "force")
why_word why.Reset = word.Name (codes "reset")
why_word why.Shutdown = word.Name (codes "shutdown")
why_word why.Config = word.Name (codes "config")
why_word why.Uses = word.Name (codes "use")
why_word why.Above = word.Name (codes "above")

-- the numbers of the masters of a path as words
abbrev pub path_words : List NodeId → List Word
path_words path = map (λ (node : NodeId). word.Number node.0) path

-- the line of a member: what it is, its number, why it is in the reach, and the path of masters that leads to it
abbrev pub member_text : Member → List ℕ
member_text member =
    line_text (kind_word member.kind ∷ (word.Number member.number ∷ (why_word member.why ∷ path_words member.path)))

-- the lines of the members in order
abbrev pub reach_text : List Member → List ℕ
reach_text members = flat_map member_text members
