-- Files as the changes that made them.
use Rattle.std.specs.Prelude.{ℕ, List, [], ◌∷◌, Option, None, option_map, string_bytes, bytes_eq, if◌then◌else◌}
use Rattle.cov_outside.specs.Outside.{Files}
use Rattle.cov_outside.specs.declared.change_log.Change.{Change}

-- the files once the one name has no file and then the other has these bytes, or no file
abbrev pub changed : List ℕ → Option (List ℕ) → List ℕ → Files → Files
changed name bytes gone before other =
    if bytes_eq name other then bytes else if bytes_eq gone other then None else before other

-- what is under a name after these changes, where this was there before
abbrev pub found_after : List Change → List ℕ → Option (List ℕ) → Option (List ℕ)
found_after [] name found = found
found_after (c ∷ cs) name found =
    found_after cs name
    (changed (string_bytes c.name) (option_map (λ v. v.items) c.bytes) (string_bytes c.gone) (λ other. found) name)

-- the files after these changes, where there was no file before
abbrev pub files_after : List Change → Files
files_after changes name = found_after changes name None
