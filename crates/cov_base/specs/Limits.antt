-- The limits of the program, each named once.
use Rattle.std.specs.Prelude.{ℕ, ◌^◌}

-- the bytes of a source
abbrev pub source_limit : ℕ
source_limit = 1048576

-- the bytes of another file, and of an input
abbrev pub file_limit : ℕ
file_limit = 67108864

-- the bytes that a run puts out
abbrev pub output_limit : ℕ
output_limit = 16777216

-- the last line of a source: each line but the last takes a byte
abbrev pub line_limit : ℕ
line_limit = 1048577

-- the levels of a tree, from its statement or expression to a leaf
abbrev pub level_limit : ℕ
level_limit = 256

-- the parameters of a function
abbrev pub parameter_limit : ℕ
parameter_limit = 64

-- the elements of an array, and the cells of all globals
abbrev pub array_limit : ℕ
array_limit = 1048576

-- the blocks of a function
abbrev pub block_limit : ℕ
block_limit = 512

-- the arcs of a function
abbrev pub arc_limit : ℕ
arc_limit = 4096

-- the size of a unit of graphs: its operations, its endings and 8 for each arc
abbrev pub unit_limit : ℕ
unit_limit = 1048576

-- the calls that are under way at once, that of `main` among them
abbrev pub frame_limit : ℕ
frame_limit = 2000

-- the turns of a run where none are given
abbrev pub default_turns : ℕ
default_turns = 1000000000
