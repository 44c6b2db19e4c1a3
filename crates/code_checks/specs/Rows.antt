-- A row of a table by its place.
use Rattle.std.specs.Prelude.{◌≡◌, ℕ, ◌+◌, ◌*◌, ◌^◌, ◌<◌, ◌≤◌, List, length, drop, Option, Some, Result, Ok, Err}
use Rattle.std.specs.Prelude.{slice_index_or}
use Rattle.code_runs.specs.Tables.{TableFault, with_row}
use Rattle.code_runs.specs.CodeChecks.{of_table}
use Rattle.code_checks.specs.declared.rules.RuleFault.{RuleFault}
use Rattle.code_checks.specs.Seen.{placed}

-- a row of entries with so many numbers stands at this place
pub record IsRow (size : ℕ) (table : List ℕ) (at : ℕ) : Type 0 where
  pub some : 0 < size
  pub small : size ≤ 4
  pub begins : at < length table
  pub few : slice_index_or table at 0 < 2 ^ 32
  pub ends : at + 1 + size * slice_index_or table at 0 ≤ length table

-- the row at a place goes up to this place, or the table has a fault there
abbrev pub HasRow : ℕ → ℕ → ℕ → List ℕ → Result ℕ RuleFault → Type 0
HasRow size words at table (Ok next) =
    (next ≤ length table)
    × ((then : ℕ → List ℕ → Option TableFault) → with_row size words at (drop at table) then ≡ then next (drop next table))
HasRow size words at table (Err f) =
    (then : ℕ → List ℕ → Option TableFault) → of_table (with_row size words at (drop at table) then) ≡ Some (placed f)
