-- Tables of the labels of a `switch`, as they are collected.
use Rattle.std.specs.Prelude.{ℤ, List, Option, Some, None}
use Rattle.c_lower.specs.Items.{Name}

-- The cases so far, with their blocks, and the block of the default, where one has been met.
pub record Cases : Type 0 where
  pub cases : List (ℤ × Name)
  pub default : Option Name

-- the block of the default, or another one where none has been met
abbrev pub default_or : Option Name → Name → Name
default_or None other = other
default_or (Some default) other = default
