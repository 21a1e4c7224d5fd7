-- The status words (UG1200, error codes of the power management API).
use Rattle.std.specs.Prelude.{ℕ}

abbrev pub success : ℕ
success = 0

abbrev pub failure : ℕ
failure = 1

abbrev pub invalid_parameter : ℕ
invalid_parameter = 15

abbrev pub no_feature : ℕ
no_feature = 19

abbrev pub internal : ℕ
internal = 2000

abbrev pub no_access : ℕ
no_access = 2002

abbrev pub invalid_node : ℕ
invalid_node = 2003

abbrev pub double_request : ℕ
double_request = 2004

abbrev pub abort_suspend : ℕ
abort_suspend = 2005

abbrev pub timeout : ℕ
timeout = 2006

abbrev pub node_used : ℕ
node_used = 2007
