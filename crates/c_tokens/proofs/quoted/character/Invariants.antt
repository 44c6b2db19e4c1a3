use Rattle.std.proofs.Common.{◌≡◌, drop}
use Rattle.c_tokens.specs.declared.quoted.Reading.TheVariants.{Quote}
use Rattle.c_tokens.specs.Reading.{character_at}
use Rattle.c_tokens.proofs.quoted.character.Given as goal

abbrev pub invariant-loop-place : goal.invariant-loop-place
invariant-loop-place l = character_at l.reading l.place (drop l.place l.text) ≡ character_at Quote 0 l.text
