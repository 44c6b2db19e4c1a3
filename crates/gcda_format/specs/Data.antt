-- What runs of a program leave: how many there were, and for each function its counts and path bits.
use Rattle.std.specs.Prelude.{ℕ, ◌-◌, ◌*◌, ◌^◌, ◌<◌, ◌≤◌, List, length}
use Rattle.std.specs.List.{All}

-- the checksum of a function's net, its counters, and its path bits, 64 in a long
pub record FunctionDataValue : Type 0 where
  pub checksum : ℕ
  pub counters : List ℕ
  pub bits : List ℕ

-- the stamp of the program, the number of its runs, and its functions
pub record DataValue : Type 0 where
  pub stamp : ℕ
  pub runs : ℕ
  pub functions : List FunctionDataValue

-- the greatest count
abbrev pub count_limit : ℕ
count_limit = 9223372036854775807

-- the greatest word, and the greatest number of runs
abbrev pub word_limit : ℕ
word_limit = 4294967295

-- the greatest long
abbrev pub long_limit : ℕ
long_limit = 18446744073709551615

-- longs of which a record can hold so many
abbrev pub FitsRecord : List ℕ → Type 0
FitsRecord numbers = 8 * length numbers ≤ word_limit

-- a function whose records hold its counters and bits
pub record FitsRecords (f : FunctionDataValue) : Type 0 where
  pub counters : FitsRecord f.counters
  pub bits : FitsRecord f.bits

-- a function as it stands in a file
pub record IsFunctionData (f : FunctionDataValue) : Type 0 where
  pub checksum : f.checksum ≤ word_limit
  pub few : FitsRecords f
  pub counts : All (λ n. n ≤ count_limit) f.counters
  pub longs : All (λ n. n ≤ long_limit) f.bits

-- data as they stand in a file
pub record IsData (d : DataValue) : Type 0 where
  pub stamp : d.stamp ≤ word_limit
  pub runs : d.runs ≤ word_limit
  pub few : length d.functions ≤ word_limit
  pub functions : All IsFunctionData d.functions
