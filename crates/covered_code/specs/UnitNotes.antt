-- The notes of a unit of graphs.
use Rattle.std.specs.Prelude.{ℕ, ◌≤◌, map}
use Rattle.flow_graph.specs.Graph.{Graph, GraphUnit}
use Rattle.flow_graph.specs.Nets.{net_of}
use Rattle.gcno_format.specs.Notes.{FunctionNotesValue, NotesValue, word_limit}
use Rattle.gcno_format.specs.Spelling.{checksum_of}

-- the notes of a graph: its name and line, its net, and the net's checksum
abbrev pub function_of : Graph → FunctionNotesValue
function_of g = record { name = g.name; line = g.line; checksum = checksum_of (net_of g); net = net_of g }

-- the notes of a unit with this stamp, for this limit of paths: those of its graphs, in order
abbrev pub notes_of : ℕ → ℕ → GraphUnit → NotesValue
notes_of limit stamp u = record { stamp = stamp; limit = limit; functions = map function_of u.graphs }

-- a function whose checksum is a word
abbrev pub HasWord : FunctionNotesValue → Type 0
HasWord f = f.checksum ≤ word_limit
