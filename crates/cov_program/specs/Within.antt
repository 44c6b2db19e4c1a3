-- What a command is given is within its limits.
use Rattle.std.specs.Prelude.{◌≡◌, ◌≤◌, true}
use Rattle.cov_words.specs.Reading.{CommandValue, Cover, Build, Run}
use Rattle.cov_words.specs.Values.{turn_limit, path_limit, is_source_name}

-- turns and paths are no more than their limits, and a source's name ends in `.c` with a byte before
abbrev pub IsWithin : CommandValue → Type 0
IsWithin (Cover turns limit source inputs) =
    (turns ≤ turn_limit) × (limit ≤ path_limit) × (is_source_name source ≡ true)
IsWithin (Build plain limit source) = (limit ≤ path_limit) × (is_source_name source ≡ true)
IsWithin (Run turns name) = turns ≤ turn_limit
IsWithin _ = Unit {0}
