-- No two blocks of a function have one name, so each block with a name has the number of its place.
use Rattle.std.proofs.Common.{
  arith,
  ◌≡◌,
  refl,
  sym,
  subst,
  ℕ,
  ◌+◌,
  ◌-◌,
  ◌≤◌,
  Bool,
  true,
  false,
  cond,
  List,
  [],
  ◌∷◌,
  ◌++◌,
  length,
  map,
  Option,
  Some,
}
use Rattle.std.specs.Prelude.{slice_get}
use Rattle.c_tree.specs.Typed.{TypedFunction}
use Rattle.flow_graph.specs.Graph.{Block}
use Rattle.c_lower.specs.Items.{Name, Close, Item, stmts_nodes, items_of, gives_number}
use Rattle.c_lower.specs.Lowered.{Named, opened, shut, left_out, is_name, number_from, block_of, named_blocks, graph_of}
use Rattle.flow_graph.specs.WalkRun.{block_at}
use Rattle.c_lower.proofs.NameRanges.{here, begins, below_most, below_first}
use Rattle.c_lower.proofs.StatementNames.{puts_stmts}
use Rattle.c_lower.proofs.OrderLaws.{NoneNamed, its_own, in_order}

-- The items of a function begin at most one block of each name.
pub begins_once : (f : TypedFunction) (l : Name) → begins l (items_of f) ≤ 1
begins_once f l =
    let adds = (puts_stmts {l = l} f.body 0 (0 + stmts_nodes f.body) Close.Leave Close.Leave refl []).most in
    let most = below_most l (0 + stmts_nodes f.body) in let first = below_first l in omega arith

-- how many of the blocks have this name
abbrev pub having : Name → List Named → ℕ
having l [] = 0
having l (b ∷ bs) = cond (is_name l b.name) 1 0 + having l bs

same_here : (l n : Name) → cond (is_name l (Some n)) 1 0 ≡ here l n
unfolding here
same_here l n = refl

left_out_having : (l : Name) (c : Close) (line : Option ℕ) (later : List Named) → having l (left_out c line later) ≡
    having l later
left_out_having l (Close.Jump n) line later = refl
left_out_having l (Close.Back n) line later = refl
left_out_having l (Close.Branch t e) line later = omega arith
left_out_having l (Close.Select cases default) line later = omega arith
left_out_having l (Close.CallTo g at n) line later = omega arith
left_out_having l Close.Leave line later = omega arith
left_out_having l Close.Quit line later = omega arith

mutual
  -- each block with a name is begun by an item
  opened_having : (l : Name) (gives : Bool) (is : List Item) → having l (opened gives is).later ≤ begins l is
  opened_having l true [] = omega arith
  opened_having l false [] = omega arith
  opened_having l gives (Item.Begin n line ∷ is) =
      let h = opened_having l gives is in let same = same_here l n in omega arith
  opened_having l gives (Item.Do o line ∷ is) = opened_having l gives is
  opened_having l gives (Item.End c line ∷ is) = shut_having l gives is

  shut_having : (l : Name) (gives : Bool) (is : List Item) → having l (shut gives is) ≤ begins l is
  shut_having l gives [] = omega arith
  shut_having l gives (Item.Begin n line ∷ is) =
      let h = opened_having l gives is in let same = same_here l n in omega arith
  shut_having l gives (Item.Do o line ∷ is) = let h = opened_having l gives is in omega arith
  shut_having l gives (Item.End c line ∷ is) =
      let h = shut_having l gives is in let left = left_out_having l c line (shut gives is) in omega arith

-- At most one block of a function has a name.
pub blocks_once : (f : TypedFunction) (l : Name) → having l (named_blocks f) ≤ 1
blocks_once f l =
    let h = opened_having l (gives_number f.result) (items_of f) in let once = begins_once f l in omega arith

-- no two of the blocks have one name
abbrev pub NamesDiffer : List Named → Type 0
NamesDiffer [] = Unit {0}
NamesDiffer (b ∷ bs) = ((l : Name) → b.name ≡ Some l → NoneNamed l bs) × NamesDiffer bs

none_having : (l : Name) (bs : List Named) → having l bs ≤ 0 → NoneNamed l bs
none_having l [] none = tt
none_having l (b ∷ bs) none = go (is_name l b.name) refl none (none_having l bs)
  where
    go : (same : Bool) → is_name l b.name ≡ same → cond same 1 0 + having l bs ≤ 0 → (having l bs ≤ 0 → NoneNamed l bs)
        → NoneNamed l (b ∷ bs)
    go true e none later = absurd (omega arith)
    go false e none later = (e, later (omega arith))

differ : (bs : List Named) → ((l : Name) → having l bs ≤ 1) → NamesDiffer bs
differ [] once = tt
differ (b ∷ bs) once = (
  λ l named. none_having l bs (let h =
      once l in let own : is_name l b.name ≡ true = rw named (its_own l) in let h = rw own at h in omega arith),
  differ bs (λ l. let h = once l in omega arith),
)

-- The names of a function's blocks differ pairwise. A block that nothing enters has none.
pub names_differ : (f : TypedFunction) → NamesDiffer (named_blocks f)
names_differ f = differ (named_blocks f) (blocks_once f)

having-append : (l : Name) (front rest : List Named) → having l (front ++ rest) ≡ having l front + having l rest
having-append l [] rest = omega arith
having-append l (f ∷ front) rest = let h = having-append l front rest in omega arith

-- where at most one of the blocks has a name, none before that one has it
none_before : (l : Name) (front : List Named) (b : Named) (rest : List Named) → b.name ≡ Some l → having l
    (front ++ b ∷ rest) ≤ 1 → NoneNamed l front
none_before l front b rest named once =
    let own : is_name l b.name ≡ true = rw named (its_own l) in
    let all = having-append l front (b ∷ rest) in
    let joined = rw own at all in none_having l front (omega arith)

-- A block of a function that has a name is numbered by how many blocks stand before it.
pub in_order_of : (f : TypedFunction) (front : List Named) (b : Named) (rest : List Named) (l : Name) → named_blocks f
    ≡ front ++ b ∷ rest → b.name ≡ Some l
    → number_from 2 (named_blocks f) l ≡ 2 + length front
in_order_of f front b rest l e named =
    let once = subst (λ (bs : List Named). having l bs ≤ 1) e (blocks_once f l) in
    subst (λ (bs : List Named). number_from 2 bs l ≡ 2 + length front) (sym e)
    (in_order 2 front b rest l named (none_before l front b rest named once))

in_place : (g : Named → Block) (front : List Named) (b : Named) (rest : List Named) → slice_get
    (map g (front ++ b ∷ rest)) (length front) ≡ Some (g b)
in_place g [] b rest = refl
in_place g (f ∷ front) b rest = in_place g front b rest

-- In the graph of a function the block of this number is the one of the name.
pub found_by_number : (f : TypedFunction) (front : List Named) (b : Named) (rest : List Named) (l : Name) →
    named_blocks f ≡ front ++ b ∷ rest → b.name ≡ Some l
    → block_at (Some (graph_of f)) (number_from 2 (named_blocks f) l) ≡ Some
    (block_of (number_from 2 (named_blocks f)) b)
found_by_number f front b rest l e named =
    let place : number_from 2 (named_blocks f) l - 2 ≡ length front = let at = in_order_of f front b rest l e named in
    omega arith in
    subst (λ (n : ℕ). slice_get (map (block_of (number_from 2 (named_blocks f))) (named_blocks f)) n ≡ Some
    (block_of (number_from 2 (named_blocks f)) b))
    (sym place)
    (subst (λ (bs : List Named). slice_get (map (block_of (number_from 2 (named_blocks f))) bs) (length front) ≡ Some
    (block_of (number_from 2 (named_blocks f)) b))
    (sym e) (in_place (block_of (number_from 2 (named_blocks f))) front b rest))
