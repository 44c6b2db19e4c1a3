-- What the records of notes hold, item by item, before it is known whether they are those of nets.
use Rattle.std.specs.Prelude.{ℕ, ◌+◌, ◌==◌, nat_lt, Bool, List, [], ◌∷◌, ◌++◌, length}
use Rattle.gcno_format.specs.declared.marks.Marked.{Marked}
use Rattle.gcno_format.specs.Marks.{Leaving}

-- a record of lines: its place in the bytes, a block, and lines
pub record LinesValue : Type 0 where
  pub place : ℕ
  pub block : ℕ
  pub lines : List ℕ

-- the records of a function: the place of the first, its name, line and checksum, the number of its blocks, arcs with
-- their flags, and records of lines
pub record LayoutValue : Type 0 where
  pub place : ℕ
  pub name : List ℕ
  pub line : ℕ
  pub checksum : ℕ
  pub blocks : ℕ
  pub arcs : List Marked
  pub lines : List LinesValue

-- the records of a file
pub record FileValue : Type 0 where
  pub stamp : ℕ
  pub limit : ℕ
  pub functions : List LayoutValue

-- How far a file was read: the functions before the last one that was begun, this one, the number that the next one
-- has and the number of all of them, and the least block that the next record of arcs or of lines may have.
pub record ProgressValue : Type 0 where
  pub before : List LayoutValue
  pub now : LayoutValue
  pub next : ℕ
  pub count : ℕ
  pub arcs_from : ℕ
  pub lines_from : ℕ

-- a function that was begun
abbrev pub begun : List LayoutValue → LayoutValue → ℕ → ℕ → ProgressValue
begun before now next count =
    record { before = before; now = now; next = next; count = count; arcs_from = 0; lines_from = 0 }

-- further arcs of a function
abbrev pub more_arcs : LayoutValue → List Marked → LayoutValue
more_arcs l arcs = record {
  place = l.place;
  name = l.name;
  line = l.line;
  checksum = l.checksum;
  blocks = l.blocks;
  arcs = l.arcs ++ arcs;
  lines = l.lines;
}

-- a further record of lines of a function
abbrev pub more_lines : LayoutValue → LinesValue → LayoutValue
more_lines l added = record {
  place = l.place;
  name = l.name;
  line = l.line;
  checksum = l.checksum;
  blocks = l.blocks;
  arcs = l.arcs;
  lines = l.lines ++ added ∷ [];
}

-- arcs that leave a block are added to the function
abbrev pub with_arcs : ProgressValue → Leaving → ProgressValue
with_arcs p l = record {
  before = p.before;
  now = more_arcs p.now l.arcs;
  next = p.next;
  count = p.count;
  arcs_from = l.block + 1;
  lines_from = p.lines_from;
}

-- a record of lines is added to the function
abbrev pub with_lines : ProgressValue → LinesValue → ProgressValue
with_lines p added = record {
  before = p.before;
  now = more_lines p.now added;
  next = p.next;
  count = p.count;
  arcs_from = p.arcs_from;
  lines_from = added.block + 1;
}

-- the functions that were begun
abbrev pub all_begun : ProgressValue → List LayoutValue
all_begun p = p.before ++ p.now ∷ []

-- a further function is due
abbrev pub is_due : ProgressValue → Bool
is_due p = nat_lt p.next p.count

-- the function has no lines yet
abbrev pub is_without_lines : LayoutValue → Bool
is_without_lines l = length l.lines == 0
