use Rattle.std.proofs.Common.{◌≡◌, drop, option_copied}
use Rattle.std.specs.Option.{option_or}
use Rattle.cov_outside.specs.Stores.{last_file, plain_files}
use Rattle.cov_outside.proofs.named_files.NamedFiles.get.Given as goal

abbrev pub invariant-loop-own : goal.invariant-loop-own
invariant-loop-own l =
    option_or (last_file (plain_files (drop l.own-index l.own-items)) l.name) (option_copied l.found) ≡ last_file (plain_files l.own-items) l.name
