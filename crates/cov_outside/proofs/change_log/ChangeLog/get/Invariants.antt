use Rattle.std.proofs.Common.{◌≡◌, drop, option_copied}
use Rattle.cov_outside.specs.Changes.{found_after, files_after}
use Rattle.cov_outside.proofs.change_log.ChangeLog.get.Given as goal

abbrev pub invariant-loop-change : goal.invariant-loop-change
invariant-loop-change l =
    found_after (drop l.change-index l.change-items) l.name (option_copied l.found) ≡ files_after l.change-items l.name
