use Rattle.std.proofs.Common.{◌≡◌, map, drop}
use Rattle.c_tree.specs.TreeView.{param_view}
use Rattle.c_grammar.specs.Forms.{all_named}
use Rattle.c_grammar.proofs.forms.all_named.Given as goal

-- what is left decides
abbrev pub invariant-loop-param : goal.invariant-loop-param
invariant-loop-param l = all_named (map param_view (drop l.param-index l.params)) ≡ all_named (map param_view l.params)
