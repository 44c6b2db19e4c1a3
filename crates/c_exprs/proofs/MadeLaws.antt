-- Trees that are made of a form at a token.
use Rattle.std.proofs.Common.{◌≡◌, ap, ◌∙◌}
use Rattle.c_tokens.specs.declared.token.Token.{Token}
use Rattle.c_tree.specs.Expr.{Expr, Kind}
use Rattle.c_grammar.specs.Operators.{at}

pub at_kind : (t : Token) {e : Expr} {k form : Kind} → e ≡ at t k → k ≡ form → e ≡ at t form
at_kind t p q = p ∙ ap (at t) q
