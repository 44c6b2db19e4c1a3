-- The first block of a function, and the last.
use Rattle.std.proofs.Common.{◌≡◌, ◌∙◌, refl, sym, ap, ℕ, Bool, true, false, cond, List, [], ◌∷◌, ◌++◌, Option, Some, None, pos}
use Rattle.std.proofs.lemmas.List.{append-nil}
use Rattle.stack_ops.specs.declared.operation.Op.{Op}
use Rattle.stack_ops.specs.declared.operation.Op.TheVariants as op
use Rattle.c_lower.specs.Items.{Name, Close, Item}
use Rattle.c_lower.specs.Lowered.{Named, opened, begun}
use Rattle.c_lower.specs.Building.{Making, no_blocks, made, after, open_with, close_with, with_line_of}
use Rattle.c_lower.proofs.MadeLaws.{opened_ascends, began}

-- a block without a name, which has a line
pub made_first : (b : Making) (line : ℕ) → b ≡ with_line_of (Some line) (open_with None no_blocks)
    → (gives : Bool) (is : List Item) → made gives b is ≡ begun None (Some line) (opened gives is)
unfolding made
made_first b line e gives is =
    let o = opened gives is in
    ap (λ (m : Making). made gives m is) e
    ∙ ap (λ (ls : List ℕ). record { name = None; ops = o.ops; close = o.close; lines = ls } ∷ o.later)
    (began (Some line) o (opened_ascends gives is))

-- the block that was open has ended
abbrev ended : Bool → Making → Making
ended gives m = close_with Close.Leave (cond gives (after (Item.Do (op.Push (pos 0)) None) m) m)

module _ (done : List Named) (name : Option Name) (ops : List Op) (lines : List ℕ)
  where
    abbrev making : Bool → Making
    making is_open = record { done = done; is_open = is_open; name = name; ops = ops; lines = lines }

    ended_open : (gives is_open : Bool) → is_open ≡ true
        → (ended gives (making is_open)).done ≡ made gives (making is_open) []
    unfolding made
    ended_open true true h = refl
    ended_open false true h =
        ap (λ (os : List Op). done ++ record { name = name; ops = os; close = Close.Leave; lines = lines } ∷ [])
        (sym (append-nil ops))
    ended_open gives false h = absurd (let never : false ≡ true = h in cc)

    none_open : (gives is_open : Bool) → is_open ≡ false → done ≡ made gives (making is_open) []
    unfolding made
    none_open gives false h = sym (append-nil done)
    none_open gives true h = absurd (let never : true ≡ false = h in cc)

-- nothing comes behind a block that has ended the function
pub made_open : (gives : Bool) (m new : Making) → m.is_open ≡ true
    → new ≡ close_with Close.Leave (cond gives (after (Item.Do (op.Push (pos 0)) None) m) m)
    → new.done ≡ made gives m []
made_open gives m new h e =
    ap (λ (x : Making). x.done) e ∙ ended_open m.done m.name m.ops m.lines gives m.is_open h

-- nor behind blocks of which none is open
pub made_shut : (gives : Bool) (m : Making) → m.is_open ≡ false → m.done ≡ made gives m []
made_shut gives m h = none_open m.done m.name m.ops m.lines gives m.is_open h
