-- The file of notes, as bytes.
use Rattle.std.specs.Prelude.{◌≡◌, ℕ, ◌+◌, ◌*◌, ◌≤◌, true, List, [], ◌∷◌, ◌++◌, length, take, flat_map}
use Rattle.std.specs.Int.{from_le_bytes, w32}
use Rattle.std.specs.List.{All}
use Rattle.sha2.specs.Sha256.{sha256}
use Rattle.cov_base.specs.Net.{NetValue, IsNet}
use Rattle.gcov_items.specs.Items.{word_bytes, string_bytes, header_bytes}
use Rattle.gcov_records.specs.Records.{spelled_from}
use Rattle.gcno_format.specs.declared.marks.Marked.{Marked}
use Rattle.gcno_format.specs.Marks.{Leaving, marked, leavings}
use Rattle.gcno_format.specs.Notes.{FunctionNotesValue, NotesValue, path_limit, word_limit, is_name, FitsRecord}

-- the word with which notes begin
abbrev pub magic : ℕ
magic = 1734569583

-- the word of the version behind it
abbrev pub version : ℕ
version = 1345400946

-- the tag of a function's own record
abbrev pub function_tag : ℕ
function_tag = 16777216

-- the tag of the record of its number of blocks
abbrev pub block_tag : ℕ
block_tag = 21037056

-- the tag of a record of arcs
abbrev pub arc_tag : ℕ
arc_tag = 21168128

-- the tag of a record of lines
abbrev pub line_tag : ℕ
line_tag = 21299200

-- the target and the flags of an arc
abbrev pub way_bytes : Marked → List ℕ
way_bytes m = word_bytes m.to ++ word_bytes m.flags

-- a block, and the target and flags of each arc that leaves it
unfoldable pub leaving_bytes : Leaving → List ℕ
leaving_bytes l =
    header_bytes (arc_tag, 4 + 8 * length l.arcs) ++ (word_bytes l.block ++ flat_map way_bytes l.arcs)

-- a record for each block with arcs out
abbrev pub arcs_bytes : List Marked → List ℕ
arcs_bytes arcs = flat_map leaving_bytes (leavings arcs)

-- the number of blocks
unfoldable pub blocks_bytes : ℕ → List ℕ
blocks_bytes blocks = header_bytes (block_tag, 4) ++ word_bytes blocks

-- a block, and its lines
unfoldable pub lines_record : ℕ → List ℕ → List ℕ
lines_record block lines =
    header_bytes (line_tag, 4 + 4 * length lines) ++ (word_bytes block ++ flat_map word_bytes lines)

-- a record for a block with lines
abbrev pub lines_bytes : ℕ → List ℕ → List ℕ
lines_bytes block [] = []
lines_bytes block (line ∷ lines) = lines_record block (line ∷ lines)

-- the first four bytes, the least first, of the SHA-256 (FIPS 180-4) of the records of so many blocks and of arcs
unfoldable pub sum_of : ℕ → List Marked → ℕ
sum_of blocks arcs = from_le_bytes w32 (take 4 (sha256 (blocks_bytes blocks ++ arcs_bytes arcs)))

-- the checksum of a net
abbrev pub checksum_of : NetValue → ℕ
checksum_of net = sum_of net.blocks (marked net)

-- a function's number, checksum, name and line
unfoldable pub head_bytes : ℕ → ℕ → List ℕ → ℕ → List ℕ
head_bytes k checksum name line =
    header_bytes (function_tag, 17 + length name) ++ (word_bytes k ++ (word_bytes checksum
    ++ (string_bytes name ++ word_bytes line)))

-- a function: a record of its own, one of the number of blocks, those of arcs, those of lines
abbrev pub function_bytes : ℕ → FunctionNotesValue → List ℕ
function_bytes k f =
    head_bytes k f.checksum f.name f.line ++ (blocks_bytes f.net.blocks
    ++ (arcs_bytes (marked f.net) ++ spelled_from 0 lines_bytes f.net.lines))

-- magic word, version, stamp, limit, how many functions there are, the functions
abbrev pub notes_bytes : NotesValue → List ℕ
notes_bytes n =
    word_bytes magic ++ (word_bytes version ++ (word_bytes n.stamp ++ (word_bytes n.limit
    ++ (word_bytes (length n.functions) ++ spelled_from 0 function_bytes n.functions))))

-- a function with a name of C, the checksum of its net, and records whose lengths are words
pub record IsWritableFunction (f : FunctionNotesValue) : Type 0 where
  pub name : is_name f.name ≡ true
  pub short : 17 + length f.name ≤ word_limit
  pub checksum : f.checksum ≡ checksum_of f.net
  pub lines : All FitsRecord f.net.lines

-- notes that may be written
pub record IsWritable (n : NotesValue) : Type 0 where
  pub limit : n.limit ≤ path_limit
  pub few : length n.functions ≤ word_limit
  pub functions : All IsWritableFunction n.functions

-- a function as it stands in a file
pub record IsFunctionNotes (f : FunctionNotesValue) : Type 0 where
  pub writable : IsWritableFunction f
  pub net : IsNet f.net
  pub line : f.line ≤ word_limit
  pub checksum : f.checksum ≤ word_limit
  pub words : All (All (λ n. n ≤ word_limit)) f.net.lines

-- notes as they stand in a file
pub record IsNotes (n : NotesValue) : Type 0 where
  pub stamp : n.stamp ≤ word_limit
  pub limit : n.limit ≤ path_limit
  pub few : length n.functions ≤ word_limit
  pub functions : All IsFunctionNotes n.functions
