use Rattle.accepted_sources.proofs.Accepting.{accepted, refused, syntax_}
use Rattle.accepted_sources.proofs.laws.c_sources_are_accepted.Goals as goal

pub returns : goal.returns
returns c = record { accepted = accepted; refused = refused; syntax = syntax_ }
