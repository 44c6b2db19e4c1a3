-- Blocks as they are made from items, one item after another.
use Rattle.std.specs.Prelude.{◌≡◌, ℕ, Bool, true, false, cond, List, [], ◌∷◌, ◌++◌, Option, Some, None}
use Rattle.stack_ops.specs.declared.operation.Op.{Op}
use Rattle.c_lower.specs.Items.{Name, Close, Item}
use Rattle.c_lower.specs.Lowered.{Named, Opened, add_line, opened, shut}
use Rattle.flow_graph.specs.Ascending.{inserted}

-- The blocks that have ended, and whether one is open: its name, its operations and its lines so far.
pub record Making : Type 0 where
  pub done : List Named
  pub is_open : Bool
  pub name : Option Name
  pub ops : List Op
  pub lines : List ℕ

-- no blocks; none is open
abbrev pub no_blocks : Making
no_blocks = record { done = []; is_open = false; name = None; ops = []; lines = [] }

-- ascending lines, and lines that are added one after another
abbrev pub with_lines : List ℕ → List ℕ → List ℕ
with_lines lines [] = lines
with_lines lines (n ∷ ns) = with_lines (inserted n lines) ns

-- the open block with what is still to come of it, and the blocks behind it
abbrev pub goes_on : Making → Opened → List Named
goes_on m o =
    record { name = m.name; ops = m.ops ++ o.ops; close = o.close; lines = with_lines m.lines o.lines } ∷ o.later

-- all blocks, where these items are still to come in a function that gives a number, or gives none
unfoldable pub made : Bool → Making → List Item → List Named
made gives m rest = m.done ++ cond m.is_open (goes_on m (opened gives rest)) (shut gives rest)

-- What is put behind the items so far: whatever comes behind, the blocks are those of the items that it puts before.
abbrev pub Puts : Making → Making → (List Item → List Item) → Type 0
Puts old new items = (gives : Bool) (rest : List Item) → made gives new rest ≡ made gives old (items rest)

-- ---- single steps

-- a block is open, and nothing is in it
abbrev pub open_with : Option Name → Making → Making
open_with name m = record { done = m.done; is_open = true; name = name; ops = []; lines = [] }

-- the open block has ended
abbrev pub close_with : Close → Making → Making
close_with c m = record {
  done = m.done ++ record { name = m.name; ops = m.ops; close = c; lines = m.lines } ∷ [];
  is_open = false;
  name = None;
  ops = [];
  lines = [];
}

-- a block is open: the one that was, or one that nothing enters
abbrev pub ready : Making → Making
ready m = cond m.is_open m (open_with None m)

-- the open block with an operation behind its others
abbrev pub with_op_of : Op → Making → Making
with_op_of o m = record m { ops = m.ops ++ o ∷ [] }

-- the open block with a line, if one is given
abbrev pub with_line_of : Option ℕ → Making → Making
with_line_of line m = record m { lines = add_line line m.lines }

-- behind a closed block a jump is left out, with its line; another ending ends a block that nothing enters
abbrev pub ends_shut : Close → Option ℕ → Making → Making
ends_shut (Close.Jump l) line m = m
ends_shut (Close.Back l) line m = m
ends_shut c line m = close_with c (with_line_of line (open_with None m))

-- the block that is still open jumps to the one that begins
abbrev pub jumped : Name → Making → Making
jumped l m = cond m.is_open (close_with (Close.Jump l) m) m

-- blocks behind others, of which none is open
abbrev pub appended : Making → Making → Making
appended m more = record {
  done = m.done ++ more.done;
  is_open = more.is_open;
  name = more.name;
  ops = more.ops;
  lines = more.lines;
}

-- what an item makes of them
abbrev pub after : Item → Making → Making
after (Item.Begin l line) m = with_line_of line (open_with (Some l) (jumped l m))
after (Item.Do o line) m = with_line_of line (with_op_of o (ready m))
after (Item.End c line) m = cond m.is_open (close_with c (with_line_of line m)) (ends_shut c line m)
