-- Limits of codes.
use Rattle.std.specs.Prelude.{ℕ}

-- the cells of a call
abbrev pub cell_limit : ℕ
cell_limit = 4096

-- the operands of a call
abbrev pub depth_limit : ℕ
depth_limit = 16384

-- the paths of a function
abbrev pub path_limit : ℕ
path_limit = 65536

-- the counters and path words of all functions of a code together
abbrev pub number_limit : ℕ
number_limit = 4194304

-- the instructions of all functions of a code together
abbrev pub instruction_limit : ℕ
instruction_limit = 1048576
