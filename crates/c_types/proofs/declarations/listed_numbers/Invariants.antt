use Rattle.std.proofs.Common.{drop}
use Rattle.c_values.proofs.ListLaws.{Left}
use Rattle.c_types.proofs.DeclLaws.{constants}
use Rattle.c_types.proofs.declarations.listed_numbers.Given as goal

abbrev pub invariant-loop-e : goal.invariant-loop-e
invariant-loop-e l =
    Left (constants l.t l.place) l.fn.numbers l.names.scopes l.es l.names.scopes (drop l.e-index l.es) l.numbers
