-- What an item makes of blocks in the making is what it stands for.
use Rattle.std.proofs.Common.{◌≡◌, refl, sym, ap, ◌∙◌, ℕ, Bool, true, false, List, [], ◌∷◌, ◌++◌, Option, Some, cond, ℤ}
use Rattle.std.proofs.Common.{None}
use Rattle.std.proofs.Common.{append_assoc}
use Rattle.std.proofs.lemmas.List.{append-nil}
use Rattle.stack_ops.specs.declared.operation.Op.{Op}
use Rattle.c_lower.specs.Items.{Name, Close, Item}
use Rattle.c_lower.specs.Lowered.{Named, Opened, add_line, opened, shut}
use Rattle.flow_graph.specs.Ascending.{Ascends}
use Rattle.c_lower.specs.Building.{Making, no_blocks, with_lines, goes_on, made, Puts, appended, after}
use Rattle.c_lower.proofs.AddedLines.{lines_shift, lines_alone, ascends-add}

-- the lines of the rest of an open block ascend
pub opened_ascends : (gives : Bool) (is : List Item) → Ascends (opened gives is).lines
opened_ascends true [] = tt
opened_ascends false [] = tt
opened_ascends gives (Item.Begin l line ∷ is) = tt
opened_ascends gives (Item.Do o line ∷ is) = ascends-add line (opened gives is).lines (opened_ascends gives is)
opened_ascends gives (Item.End c None ∷ is) = tt
opened_ascends gives (Item.End c (Some n) ∷ is) = (tt, tt)

-- a block with its operations and lines, before others
abbrev block : Option Name → Close → List Named → List Op → List ℕ → List Named
block name close later ops lines = record { name = name; ops = ops; close = close; lines = lines } ∷ later

-- the line that a block begins with is one of its lines
pub began : (line : Option ℕ) (o : Opened) → Ascends o.lines
    → with_lines (add_line line []) o.lines ≡ add_line line o.lines
began line o h = lines_shift line [] o.lines ∙ lines_alone (add_line line o.lines) (ascends-add line o.lines h)

-- a block that ends with a line
ended : (line : Option ℕ) (lines : List ℕ) → add_line line lines ≡ with_lines lines (add_line line [])
ended None lines = refl
ended (Some n) lines = refl

module _ (gives : Bool) (done : List Named) (name : Option Name) (ops : List Op) (lines : List ℕ) (rest : List Item)
  where
    abbrev making : Bool → Making
    making is_open = record { done = done; is_open = is_open; name = name; ops = ops; lines = lines }

    abbrev Same : Bool → Item → Type 0
    Same is_open i = made gives (after i (making is_open)) rest ≡ made gives (making is_open) (i ∷ rest)

    puts_begin : (is_open : Bool) (l : Name) (line : Option ℕ) → Same is_open (Item.Begin l line)
    unfolding made
    puts_begin true l line =
        let o = opened gives rest in
        append_assoc done (block name (Close.Jump l) [] ops lines)
        (block (Some l) o.close o.later o.ops (with_lines (add_line line []) o.lines))
        ∙ ap (λ (ls : List ℕ). done ++ block name (Close.Jump l) (block (Some l) o.close o.later o.ops ls) ops lines)
        (began line o (opened_ascends gives rest))
        ∙ ap (λ (os : List Op). done ++ block name (Close.Jump l)
        (block (Some l) o.close o.later o.ops (add_line line o.lines)) os lines)
        (sym (append-nil ops))
    puts_begin false l line =
        let o = opened gives rest in
        ap (λ (ls : List ℕ). done ++ block (Some l) o.close o.later o.ops ls) (began line o (opened_ascends gives rest))

    puts_do : (is_open : Bool) (op : Op) (line : Option ℕ) → Same is_open (Item.Do op line)
    unfolding made
    puts_do true op line =
        let o = opened gives rest in
        ap (λ (os : List Op). done ++ block name o.close o.later os (with_lines (add_line line lines) o.lines))
        (append_assoc ops (op ∷ []) o.ops)
        ∙ ap (λ (ls : List ℕ). done ++ block name o.close o.later (ops ++ op ∷ o.ops) ls)
        (lines_shift line lines o.lines)
    puts_do false op line =
        let o = opened gives rest in
        ap (λ (ls : List ℕ). done ++ block None o.close o.later (op ∷ o.ops) ls)
        (began line o (opened_ascends gives rest))

    puts_end : (is_open : Bool) (c : Close) (line : Option ℕ) → Same is_open (Item.End c line)
    unfolding made
    puts_end true c line =
        append_assoc done (block name c [] ops (add_line line lines)) (shut gives rest)
        ∙ ap (λ (ls : List ℕ). done ++ block name c (shut gives rest) ops ls) (ended line lines)
        ∙ ap (λ (os : List Op). done ++ block name c (shut gives rest) os (with_lines lines (add_line line [])))
        (sym (append-nil ops))
    puts_end false (Close.Jump l) line = refl
    puts_end false (Close.Back l) line = refl
    puts_end false (Close.Branch t f) line = append_assoc done _ (shut gives rest)
    puts_end false (Close.Select cases default) line = append_assoc done _ (shut gives rest)
    puts_end false (Close.CallTo f at l) line = append_assoc done _ (shut gives rest)
    puts_end false Close.Leave line = append_assoc done _ (shut gives rest)
    puts_end false Close.Quit line = append_assoc done _ (shut gives rest)

    puts_one : (is_open : Bool) (i : Item) → Same is_open i
    puts_one is_open (Item.Begin l line) = puts_begin is_open l line
    puts_one is_open (Item.Do op line) = puts_do is_open op line
    puts_one is_open (Item.End c line) = puts_end is_open c line

-- Blocks that an item was put behind are those of the item and of what comes behind it.
pub puts_item : (i : Item) (old new : Making) → new ≡ after i old → Puts old new (λ rest. i ∷ rest)
puts_item i old new e gives rest =
    ap (λ (m : Making). made gives m rest) e ∙ puts_one gives old.done old.name old.ops old.lines rest old.is_open i

-- Behind a block that has ended stand blocks that were made apart.
module _ (gives : Bool) (done : List Named) (name : Option Name) (ops : List Op) (lines : List ℕ) (rest : List Item)
    (arms : Making) (cases : List (ℤ × Name)) (default : Name) (row : List Item → List Item)
    (apart : Puts no_blocks arms row)
  where
    abbrev select_close : Close
    select_close = Close.Select cases default

    abbrev selecting : Bool → Making
    selecting is_open = after (Item.End select_close None)
        (record { done = done; is_open = is_open; name = name; ops = ops; lines = lines })

    abbrev of_arms : List Named
    of_arms = cond arms.is_open (goes_on arms (opened gives rest)) (shut gives rest)

    puts_arms : (is_open : Bool)
        → made gives (appended (selecting is_open) arms) rest ≡ made gives (selecting is_open) (row rest)
    unfolding made
    puts_arms true =
        let front = done ++ block name select_close [] ops lines in
        append_assoc front arms.done of_arms ∙ ap (λ (bs : List Named). front ++ bs) (apart gives rest)
    puts_arms false =
        let front = done ++ block None select_close [] [] [] in
        append_assoc front arms.done of_arms ∙ ap (λ (bs : List Named). front ++ bs) (apart gives rest)

-- The ending that selects, and behind it blocks that were made apart.
pub puts_select : (old new arms : Making) (cases : List (ℤ × Name)) (default : Name) (row : List Item → List Item)
    → new ≡ appended (after (Item.End (Close.Select cases default) None) old) arms → Puts no_blocks arms row
    → Puts old new (λ rest. Item.End (Close.Select cases default) None ∷ row rest)
puts_select old new arms cases default row e apart gives rest =
    ap (λ (m : Making). made gives m rest) e
    ∙ puts_arms gives old.done old.name old.ops old.lines rest arms cases default row apart old.is_open
    ∙ puts_one gives old.done old.name old.ops old.lines (row rest) old.is_open
    (Item.End (Close.Select cases default) None)
