use Rattle.std.proofs.Common.{map}
use Rattle.c_tree.specs.TreeView.{param_view}
use Rattle.c_types.proofs.ScopeLaws.{params_open}
use Rattle.c_types.proofs.heads.enter.Goals as goal

pub returns-clause-within : goal.returns-clause-within
returns-clause-within c =
    params_open c.enter.new.self c.parameters.new.names (map param_view c.as_slice-2.result.now) c.in_ok-parameters.ensures.1
    c.in_ok-enter.ensures.within
