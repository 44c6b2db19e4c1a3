-- The graph of a function: its items cut into blocks, which are numbered in the order in which they begin.
use Rattle.std.specs.Prelude.{
  ℕ,
  suc,
  ◌==◌,
  ◌&&◌,
  nat_lt,
  Bool,
  true,
  false,
  cond,
  pos,
  List,
  [],
  ◌∷◌,
  length,
  map,
  Option,
  Some,
  None,
}
use Rattle.stack_ops.specs.declared.operation.Op.{Op}
use Rattle.stack_ops.specs.declared.operation.Op.TheVariants as op
use Rattle.c_tree.specs.Typed.{TypedFunction, Typed}
use Rattle.flow_graph.specs.Graph.{Ending, Block, Graph, GraphUnit}
use Rattle.c_lower.specs.Items.{Name, Close, Item, items_of, gives_number}

-- a block before it is numbered; one that nothing enters has no name
pub record Named : Type 0 where
  pub name : Option Name
  pub ops : List Op
  pub close : Close
  pub lines : List ℕ

-- the rest of an open block, and the blocks behind it
pub record Opened : Type 0 where
  pub ops : List Op
  pub close : Close
  pub lines : List ℕ
  pub later : List Named

-- a line among ascending lines, once
abbrev pub inserted : ℕ → List ℕ → List ℕ
inserted n [] = n ∷ []
inserted n (l ∷ ls) = cond (nat_lt n l) (n ∷ l ∷ ls) (cond (n == l) (l ∷ ls) (l ∷ inserted n ls))

-- ascending lines with one more, where there is one
abbrev pub add_line : Option ℕ → List ℕ → List ℕ
add_line None ls = ls
add_line (Some n) ls = inserted n ls

-- a block that begins with this name and line
abbrev pub begun : Option Name → Option ℕ → Opened → List Named
begun name line o = record { name = name; ops = o.ops; close = o.close; lines = add_line line o.lines } ∷ o.later

-- an operation with its line in front of the rest of a block
abbrev pub with_op : Op → Option ℕ → Opened → Opened
with_op o line rest =
    record { ops = o ∷ rest.ops; close = rest.close; lines = add_line line rest.lines; later = rest.later }

-- an ending with its line
abbrev pub closed : Close → Option ℕ → List Named → Opened
closed c line later = record { ops = []; close = c; lines = add_line line []; later = later }

-- the end of a function that is open: it gives 0 where the function has a result
abbrev pub finished : Bool → Opened
finished true = record { ops = op.Push (pos 0) ∷ []; close = Close.Leave; lines = []; later = [] }
finished false = record { ops = []; close = Close.Leave; lines = []; later = [] }

-- behind a closed block a jump is left out, with its line; another ending begins a block that nothing enters
abbrev pub left_out : Close → Option ℕ → List Named → List Named
left_out (Close.Jump l) line later = later
left_out (Close.Back l) line later = later
left_out c line later = begun None None (closed c line later)

-- A block that is still open where another begins jumps there. One that is open at the end ends a function, which gives
-- a number or gives none.
abbrev mutual
  -- of an open block: its rest, and the blocks behind it
  pub opened : Bool → List Item → Opened
  opened gives [] = finished gives
  opened gives (Item.Begin l line ∷ is) = closed (Close.Jump l) None (begun (Some l) line (opened gives is))
  opened gives (Item.Do o line ∷ is) = with_op o line (opened gives is)
  opened gives (Item.End c line ∷ is) = closed c line (shut gives is)

  -- behind a closed block
  pub shut : Bool → List Item → List Named
  shut gives [] = []
  shut gives (Item.Begin l line ∷ is) = begun (Some l) line (opened gives is)
  shut gives (Item.Do o line ∷ is) = begun None None (with_op o line (opened gives is))
  shut gives (Item.End c line ∷ is) = left_out c line (shut gives is)

-- ---- numbers

-- a block has this name
abbrev pub is_name : Name → Option Name → Bool
is_name l None = false
is_name l (Some n) = (l.node == n.node) && (l.part == n.part)

-- the number of the block of this name, where the first of these blocks has the number n
abbrev pub number_from : ℕ → List Named → Name → ℕ
number_from n [] l = n
number_from n (b ∷ bs) l = cond (is_name l b.name) n (number_from (suc n) bs l)

-- an ending with numbers in place of names
abbrev pub numbered : (Name → ℕ) → Close → Ending
numbered f (Close.Jump l) = Ending.Jump (f l)
numbered f (Close.Back l) = Ending.Back (f l)
numbered f (Close.Branch t e) = Ending.Branch (f t) (f e)
numbered f (Close.Select cases default) = Ending.Switch (map (λ c. (c.0, f c.1)) cases) (f default)
numbered f (Close.CallTo g line l) = Ending.Call g line (f l)
numbered f Close.Leave = Ending.Return
numbered f Close.Quit = Ending.Exit

-- a block with numbers in place of names
abbrev pub block_of : (Name → ℕ) → Named → Block
block_of f b = record { ops = b.ops; end = numbered f b.close; lines = b.lines }

-- The blocks of a function: the first has the line of its name.
abbrev pub named_blocks : TypedFunction → List Named
named_blocks f = begun None (Some f.line) (opened (gives_number f.result) (items_of f))

-- the graph of a function
abbrev pub graph_of : TypedFunction → Graph
graph_of f = record {
  name = f.name;
  line = f.line;
  params = length f.params;
  cells = f.cells;
  gives = gives_number f.result;
  blocks = map (block_of (number_from 2 (named_blocks f))) (named_blocks f);
}

-- the graphs of a source
abbrev pub unit_of : Typed → GraphUnit
unit_of t = record { globals = t.globals; main = t.main; graphs = map graph_of t.functions }
