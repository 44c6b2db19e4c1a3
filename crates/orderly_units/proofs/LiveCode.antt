-- Whether or not a block is alive before a statement, all goes well in it: a loop that begins dead stays dead.
use Rattle.std.proofs.Common.{◌≡◌, refl, ℕ, suc, ◌+◌, ◌<◌, ◌≤◌, ◌≢◌, Bool, false, true, List}
use Rattle.std.proofs.Common.{◌∷◌, Option, Some, None, arith, ◌⊎◌, inl, inr}
use Rattle.std.specs.Prelude.{ℤ}
use Rattle.std.proofs.lemmas.Bool.{false_from_ne_true}
use Rattle.c_tree.specs.declared.expr.Base.{Base}
use Rattle.c_tree.specs.TypedExpr.{TypedExpr}
use Rattle.c_tree.specs.TypedStmt.{TypedStmt, OtherTyped, TypedForHead, TypedStmts, TypedItem, TypedItems}
use Rattle.c_tree.specs.TypedParts.{base_of}
use Rattle.c_tree.specs.Sound.{Scope, Inside, Each, SoundStmt, SoundOther, SoundStmts, SoundItems, behind}
use Rattle.c_tree.specs.Sound.{behind_first, looped}
use Rattle.c_lower.specs.Items.{Name, Close, Item, at, body_of, else_of, test_of, again_of, head_of, label_of}
use Rattle.c_lower.specs.Items.{step_of, end_of, nodes, nodes_if, stmt_nodes, other_nodes, stmts_nodes, items_nodes}
use Rattle.c_lower.specs.Items.{ways, dropped, group_at, cases_of, default_of, labelled, tested, stepped}
use Rattle.c_lower.specs.Items.{continues_to, code, code_other, codes_of, code_items}
use Rattle.lower_agrees.proofs.Targets.{Targets}
use Rattle.orderly_units.proofs.Putting.{GoesOn, puts_value, puts_test, puts_dropped, puts_vars, puts_value_if}
use Rattle.orderly_units.proofs.Putting.{puts_tested, puts_stepped}
use Rattle.orderly_units.proofs.CaseNumbers.{cases_numbers}
use Rattle.orderly_units.proofs.DeadCode.{dead_code, dead_round}
use Rattle.orderly_units.proofs.Alive.{OnBack, HaveNumbers, Kept, Dead, FromAlive}
use Rattle.orderly_units.proofs.Alive.{Live, live_begin, live_act, live_end, live_head, live_more, on_targets}
use Rattle.orderly_units.proofs.Alive.{on_numbers}

-- a name that isn't one of these nodes
abbrev pub Apart : ℕ → ℕ → Name → Type 0
Apart m n l = (l.node < m) ⊎ (n ≤ l.node)

-- fewer nodes
apart_part : (m n i k : ℕ) (l : Name) → m ≤ i → k ≤ n → Apart m n l → Apart i k l
apart_part m n i k l low high (inl h) = inl (omega (arith, low, h))
apart_part m n i k l low high (inr h) = inr (omega (arith, high, h))

-- a name of one of the nodes is no name apart
not_apart : (m n : ℕ) (l : Name) → m ≤ l.node → l.node < n → Apart m n l → ⊥
not_apart m n l low high (inl h) = omega (arith, low, h)
not_apart m n l low high (inr h) = omega (arith, high, h)

-- a name that is so, and isn't one of these nodes
abbrev Mid : (Name → Type 0) → ℕ → ℕ → Name → Type 0
Mid R m n l = R l × Apart m n l

-- where `break` and `continue` go: on to a name that may be seen, none of these nodes, or back to one of W; where there
-- is no loop they would return
pub data Exit (R W : Name → Type 0) (m n : ℕ) : Close → Type 0 where
  on : (l : Name) → R l → Apart m n l → Exit R W m n (Close.Jump l)
  back : (l : Name) → W l → Exit R W m n (Close.Back l)
  leaves : Exit R W m n Close.Leave

exit_part : (R Q W : Name → Type 0) (m n i k : ℕ) → ((l : Name) → R l → Apart m n l → Q l) → m ≤ i → k ≤ n
    → (c : Close) → Exit R W m n c → Exit Q W i k c
exit_part R Q W m n i k wide low high _ (on l r h) = on l (wide l r h) (apart_part m n i k l low high h)
exit_part R Q W m n i k wide low high _ (back l w) = back l w
exit_part R Q W m n i k wide low high _ leaves = leaves

exit_targets : (R W : Name → Type 0) (m n : ℕ) (c : Close) → Exit R W m n c → Targets R W c
exit_targets R W m n _ (on l r h) = r
exit_targets R W m n _ (back l w) = w
exit_targets R W m n _ leaves = tt

exit_fine : (R W : Name → Type 0) (m n : ℕ) (c : Close) → Exit R W m n c → OnBack W c × HaveNumbers c
exit_fine R W m n _ (on l r h) = (tt, tt)
exit_fine R W m n _ (back l w) = (w, tt)
exit_fine R W m n _ leaves = (tt, tt)

-- where `continue` goes in a `for`
continues_exit : (R W : Name → Type 0) (m n : ℕ) (step : Option TypedExpr) (u h : Name) → R u → Apart m n u → W h
    → Exit R W m n (continues_to step u h)
continues_exit R W m n None u h mine apart w = back h w
continues_exit R W m n (Some e) u h mine apart w = on u mine apart

-- ---- labels of a switch

-- the name is that of a label of these items, the first of which is this node
abbrev Label : TypedItems → ℕ → Name → Type 0
Label TypedItems.Last m l = ⊥
Label (TypedItems.Further (TypedItem.Case v place) is) m l = (l.node ≡ m) ⊎ Label is (suc m) l
Label (TypedItems.Further (TypedItem.Default place) is) m l = (l.node ≡ m) ⊎ Label is (suc m) l
Label (TypedItems.Further (TypedItem.Item s) is) m l = Label is (m + stmt_nodes s) l

label_within : (is : TypedItems) (m : ℕ) (l : Name) → Label is m l → (m ≤ l.node) × (l.node < m + items_nodes is)
label_within TypedItems.Last m l h = absurd h
label_within (TypedItems.Further (TypedItem.Case v place) is) m l (inl e) = (omega (arith, e), omega (arith, e))
label_within (TypedItems.Further (TypedItem.Case v place) is) m l (inr h) =
    let w = label_within is (suc m) l h in (omega (arith, w.0), omega (arith, w.1))
label_within (TypedItems.Further (TypedItem.Default place) is) m l (inl e) = (omega (arith, e), omega (arith, e))
label_within (TypedItems.Further (TypedItem.Default place) is) m l (inr h) =
    let w = label_within is (suc m) l h in (omega (arith, w.0), omega (arith, w.1))
label_within (TypedItems.Further (TypedItem.Item s) is) m l h =
    let w = label_within is (m + stmt_nodes s) l h in (omega (arith, w.0), omega (arith, w.1))

module _ (T : Name → Type 0) where
  abbrev Grouped : Option Name → Type 0
  Grouped None = Unit {0}
  Grouped (Some g) = T g

  grouped : (g : Option Name) (m : ℕ) → Grouped g → T (label_of m) → T (group_at g m)
  grouped None m h own = own
  grouped (Some g) m h own = h

  -- the blocks of the cases, and of the default
  cases_are : (is : TypedItems) (m : ℕ) (g : Option Name) → ((l : Name) → Label is m l → T l) → Grouped g
      → Each (λ (c : ℤ × Name). T c.1) (cases_of is m g)
  cases_are TypedItems.Last m g each h = tt
  cases_are (TypedItems.Further (TypedItem.Case v place) is) m g each h =
      let own : T (group_at g m) = grouped g m h (each (label_of m) (inl refl)) in
      (own, cases_are is (suc m) (Some (group_at g m)) (λ l k. each l (inr k)) own)
  cases_are (TypedItems.Further (TypedItem.Default place) is) m g each h =
      cases_are is (suc m) (Some (group_at g m)) (λ l k. each l (inr k)) (grouped g m h (each (label_of m) (inl refl)))
  cases_are (TypedItems.Further (TypedItem.Item s) is) m g each h = cases_are is (m + stmt_nodes s) None each tt

  default_is : (is : TypedItems) (m : ℕ) (g : Option Name) (end : Name) → ((l : Name) → Label is m l → T l)
      → Grouped g → T end → T (default_of is m g end)
  default_is TypedItems.Last m g end each h e = e
  default_is (TypedItems.Further (TypedItem.Case v place) is) m g end each h e =
      default_is is (suc m) (Some (group_at g m)) end (λ l k. each l (inr k))
      (grouped g m h (each (label_of m) (inl refl))) e
  default_is (TypedItems.Further (TypedItem.Default place) is) m g end each h e =
      grouped g m h (each (label_of m) (inl refl))
  default_is (TypedItems.Further (TypedItem.Item s) is) m g end each h e =
      default_is is (m + stmt_nodes s) None end each tt e

-- ---- parts of statements

-- the names of these nodes are so
abbrev Own : (Name → Type 0) → ℕ → ℕ → Type 0
Own R m n = (l : Name) → m ≤ l.node → l.node < n → R l

-- from a later node on
own_from : (R : Name → Type 0) (m n i k : ℕ) → Own R m n → m ≤ i → k ≤ n → Own R i k
own_from R m n i k own low high l from to = own l (omega (arith, low, from)) (omega (arith, high, to))

-- where none of the nodes from one on is meant
own_mid : (R : Name → Type 0) (m n i j k : ℕ) → Own R m n → m ≤ i → j ≤ n → Own (Mid R j k) i j
own_mid R m n i j k own low high l from to = (own l (omega (arith, low, from)) (omega (arith, high, to)), inl to)

mid_part : (R : Name → Type 0) (m n i k : ℕ) (l : Name) → m ≤ i → k ≤ n → Mid R m n l → Mid R i k l
mid_part R m n i k l low high h = (h.0, apart_part m n i k l low high h.1)

module _ (R W : Name → Type 0) where
  goes_on : (c : Close) (line : Option ℕ) (is : List Item) → GoesOn R c → Live R W is
      → Live R W (Item.End c line ∷ is)
  goes_on c line is h a = live_end R W c line is (on_targets R W c h) (on_numbers R c h) a

  live_value : (e : TypedExpr) (m n : ℕ) → m + nodes e ≤ n → Own R m n → (rest : List Item) → Live R W rest
      → Live R W ((ways e m).value rest)
  live_value e m n le own rest a = puts_value (Live R W) R (live_begin R W) (live_act R W) goes_on e m n le own rest a

  live_test : (e : TypedExpr) (m n : ℕ) → m + nodes e ≤ n → Own R m n → (t f : Name) (rest : List Item) → R t → R f
      → Live R W rest → Live R W ((ways e m).test t f rest)
  live_test e m n le own t f rest bt bf a =
      puts_test (Live R W) R (live_begin R W) (live_act R W) goes_on e m n le own t f rest bt bf a

  live_dropped : (b : Base) (rest : List Item) → Live R W rest → Live R W (dropped b rest)
  live_dropped b rest a = puts_dropped (Live R W) R (live_begin R W) (live_act R W) goes_on b rest a

  live_tested : (e : Option TypedExpr) (m n : ℕ) → m + nodes_if e ≤ n → Own R m n → (t f : Name) (rest : List Item)
      → R t → R f → Live R W rest → Live R W (tested e m t f rest)
  live_tested e m n le own t f rest bt bf a =
      puts_tested (Live R W) R (live_begin R W) (live_act R W) goes_on e m n le own t f rest bt bf a

  live_stepped : (e : Option TypedExpr) (m n : ℕ) → m + nodes_if e ≤ n → Own R m n → (u : Name) (rest : List Item)
      → R u → Live R W rest → Live R W (stepped e m u rest)
  live_stepped e m n le own u rest bu a =
      puts_stepped (Live R W) R (live_begin R W) (live_act R W) goes_on e m n le own u rest bu a

  live_label : (g : Option Name) (m : ℕ) (rest : List Item) → R (label_of m) → Live R W rest
      → Live R W (labelled g m rest)
  live_label None m rest own a = live_begin R W (label_of m) None rest own a
  live_label (Some g) m rest own a = a

  live_exit : (m n : ℕ) (c : Close) (line : Option ℕ) (rest : List Item) → Exit R W m n c → Live R W rest
      → Live R W (Item.End c line ∷ rest)
  live_exit m n c line rest h a =
      live_end R W c line rest (exit_targets R W m n c h) (exit_fine R W m n c h).1 a

  -- the end of a loop: back to its head, which is one of W
  live_back : (l end : Name) (rest : List Item) → W l → R end → Live R W rest
      → Live R W (Item.End (Close.Back l) None ∷ Item.Begin end None ∷ rest)
  live_back l end rest w mine a =
      live_end R W (Close.Back l) None _ w tt (live_begin R W end None rest mine a)

live_less : (R Q W : Name → Type 0) (is : List Item) → ((l : Name) → Q l → R l) → Live R W is → Live Q W is
live_less R Q W is less a = live_more R Q W W is less (λ l w. w) a

-- one more name has begun
live_one : (R W : Name → Type 0) (l : Name) (is : List Item) → Live R W is → Live R (λ n. W n ⊎ (n ≡ l)) is
live_one R W l is a = live_more R R W (λ n. W n ⊎ (n ≡ l)) is (λ n h. h) (λ n w. inl w) a

-- a label of a switch, where the names that were seen are none of the nodes, or labels
live_labelled : (Q R W : Name → Type 0) (is : TypedItems) (m n : ℕ) (g : Option Name) (rest : List Item)
    → ((l : Name) → Q l → R l × (Apart m n l ⊎ ((l.node ≡ m) ⊎ Label is (suc m) l))) → R (label_of m)
    → Live (λ l. R l × (Apart (suc m) n l ⊎ Label is (suc m) l)) W rest → Live Q W (labelled g m rest)
live_labelled Q R W is m n g rest wide own a =
    let next : Name → Type 0 = λ l. R l × (Apart (suc m) n l ⊎ Label is (suc m) l) in
    live_less next Q W (labelled g m rest) (λ l q. ((wide l q).0, by l (wide l q).1))
    (live_label next W g m rest (own, inl (inl (omega arith))) a)
  where
    by : (l : Name) → Apart m n l ⊎ ((l.node ≡ m) ⊎ Label is (suc m) l) → Apart (suc m) n l ⊎ Label is (suc m) l
    by l (inl h) = inl (apart_part m n (suc m) n l (omega arith) (omega arith) h)
    by l (inr (inl e)) = inl (inl (omega (arith, e)))
    by l (inr (inr h)) = inr h

-- what was seen is none of these nodes
unseen : (Q R : Name → Type 0) (seen : Name → Bool) (m n : ℕ) → ((l : Name) → Q l → R l × Apart m n l)
    → ((l : Name) → seen l ≡ true → Q l) → (l : Name) → m ≤ l.node → l.node < n → seen l ≡ false
unseen Q R seen m n wide within l low high =
    false_from_ne_true (seen l) (λ e. not_apart m n l low high (wide l (within l e)).1)

-- behind what is dead all goes well
dead_rest : (Q R W : Name → Type 0) (rest : List Item) (seen names : Name → Bool) → ((l : Name) → Q l → R l)
    → ((l : Name) → seen l ≡ true → Q l) → ((l : Name) → W l → (seen l ≡ true) × (names l ≡ true)) → Live R W rest
    → Dead seen W rest
dead_rest Q R W rest seen names less within has a = record {
  keeps = λ later begun_. a.keeps seen later false (λ l e. less l (within l e)) (λ l w. ((has l w).0, begun_ l w));
}

-- a loop: where it begins dead it stays so
by_alive : (sc : Scope) (i : Inside) (Q R M W : Name → Type 0) (s : TypedStmt) (m n : ℕ) (b k : Close)
    (rest : List Item) → SoundStmt sc i s → n ≡ m + stmt_nodes s → ((l : Name) → Q l → R l × Apart m n l)
    → Exit R W m n b → Exit R W m n k → Live R W rest → ((l : Name) → Q l → M l)
    → FromAlive M W (code s m b k rest) → Live Q W (code s m b k rest)
by_alive sc i Q R M W s m n b k rest sound e wide eb ek a less live =
    record { keeps = λ seen names alive within has. by seen names alive within has }
  where
    by : (seen names : Name → Bool) (alive : Bool) → ((l : Name) → seen l ≡ true → Q l)
        → ((l : Name) → W l → (seen l ≡ true) × (names l ≡ true)) → Kept seen names alive (code s m b k rest)
    by seen names true within has = live.keeps seen names (λ l e. less l (within l e)) has
    by seen names false within has =
        (dead_code seen sc i W s m n b k rest sound (omega (arith, e)) (unseen Q R seen m n wide within)
        (exit_fine R W m n b eb) (exit_fine R W m n k ek)
        (dead_rest Q R W rest seen names (λ l q. (wide l q).0) within has a)).keeps names (λ l w. (has l w).1)

-- the same of what follows the first part of a `for`
round_alive : (sc : Scope) (Q R W : Name → Type 0) (test step : Option TypedExpr) (s : TypedStmt) (m j n : ℕ)
    (rest : List Item) → SoundStmt sc looped s → j + nodes_if test + stmt_nodes s + nodes_if step ≤ n
    → ((l : Name) → Q l → R l × Apart j n l × (l.node ≢ m)) → Live R W rest
    → FromAlive (Mid R j n) W (Item.Begin (head_of m) None ∷ tested test j (body_of m) (end_of m)
    (code s (j + nodes_if test) (Close.Jump (end_of m)) (continues_to step (step_of m) (head_of m))
    (stepped step (j + nodes_if test + stmt_nodes s) (step_of m)
    (Item.End (Close.Back (head_of m)) None ∷ Item.Begin (end_of m) None ∷ rest))))
    → Live Q W (Item.Begin (head_of m) None ∷ tested test j (body_of m) (end_of m)
    (code s (j + nodes_if test) (Close.Jump (end_of m)) (continues_to step (step_of m) (head_of m))
    (stepped step (j + nodes_if test + stmt_nodes s) (step_of m)
    (Item.End (Close.Back (head_of m)) None ∷ Item.Begin (end_of m) None ∷ rest))))
round_alive sc Q R W test step s m j n rest sound le wide a live =
    record { keeps = λ seen names alive within has. by seen names alive within has }
  where
    by : (seen names : Name → Bool) (alive : Bool) → ((l : Name) → seen l ≡ true → Q l)
        → ((l : Name) → W l → (seen l ≡ true) × (names l ≡ true))
        → Kept seen names alive (Item.Begin (head_of m) None ∷ tested test j (body_of m) (end_of m)
        (code s (j + nodes_if test) (Close.Jump (end_of m)) (continues_to step (step_of m) (head_of m))
        (stepped step (j + nodes_if test + stmt_nodes s) (step_of m)
        (Item.End (Close.Back (head_of m)) None ∷ Item.Begin (end_of m) None ∷ rest))))
    by seen names true within has =
        live.keeps seen names (λ l e. let w = wide l (within l e) in (w.0, w.1)) has
    by seen names false within has =
        (dead_round seen sc W test step s m j n rest sound le
        (λ part. false_from_ne_true (seen (at m part)) (λ e. (wide (at m part) (within (at m part) e)).2 refl))
        (unseen Q R seen j n (λ l q. let w = wide l q in (w.0, w.1)) within)
        (dead_rest Q R W rest seen names (λ l q. (wide l q).0) within has a)).keeps names (λ l w. (has l w).1)

-- a name apart from these nodes isn't one of the first of them
other_node : (m n : ℕ) (l : Name) → m < n → Apart m n l → l.node ≢ m
other_node m n l lt (inl h) e = omega (arith, h, e)
other_node m n l lt (inr h) e = omega (arith, lt, h, e)

-- names that were seen before an item of a switch, which isn't a label
past_item : (is : TypedItems) (m n p : ℕ) (l : Name) (P : Type 0) → m ≤ p → p ≤ n → P × (Apart m n l ⊎ Label is p l)
    → (P × (Apart p n l ⊎ Label is p l)) × Apart m p l
past_item is m n p l P low high (r, inl h) = (
  (r, inl (apart_part m n p n l low (omega arith) h)),
  apart_part m n m p l (omega arith) high h,
)
past_item is m n p l P low high (r, inr h) = ((r, inr h), inr (label_within is p l h).0)

mutual
  pub live_code : (sc : Scope) (i : Inside) (Q R W : Name → Type 0) (s : TypedStmt) (m n : ℕ) (b k : Close)
      (rest : List Item) → SoundStmt sc i s → n ≡ m + stmt_nodes s → Own R m n
      → ((l : Name) → Q l → R l × Apart m n l) → Exit R W m n b → Exit R W m n k → Live R W rest
      → Live Q W (code s m b k rest)
  live_code sc i Q R W (TypedStmt.Vars vars) m n b k rest sound e own wide eb ek a =
      live_less R Q W _ (λ l q. (wide l q).0)
      (puts_vars (Live R W) R (live_begin R W) (live_act R W) (goes_on R W) vars (suc m) n (omega (arith, e))
      (own_from R m n (suc m) n own (omega arith) (omega arith)) rest a)
  live_code sc i Q R W (TypedStmt.Block ss) m n b k rest sound e own wide eb ek a =
      live_codes sc i Q R W ss (suc m) n b k rest sound (omega (arith, e))
      (own_from R m n (suc m) n own (omega arith) (omega arith))
      (λ l q. mid_part R m n (suc m) n l (omega arith) (omega arith) (wide l q))
      (exit_part R R W m n (suc m) n (λ l r p. r) (omega arith) (omega arith) b eb)
      (exit_part R R W m n (suc m) n (λ l r p. r) (omega arith) (omega arith) k ek) a
  live_code sc i Q R W TypedStmt.Empty m n b k rest sound e own wide eb ek a =
      live_less R Q W rest (λ l q. (wide l q).0) a
  live_code sc i Q R W (TypedStmt.Value x) m n b k rest sound e own wide eb ek a =
      live_less R Q W _ (λ l q. (wide l q).0)
      (live_value R W x (suc m) n (omega (arith, e)) (own_from R m n (suc m) n own (omega arith) (omega arith)) _
      (live_dropped R W (base_of x) rest a))
  live_code sc i Q R W (TypedStmt.If c s OtherTyped.Nothing) m n b k rest sound e own wide eb ek a =
      let j : ℕ = suc m + nodes c in
      let M : Name → Type 0 = Mid R j n in
      let end : R (end_of m) = own (end_of m) (omega arith) (omega (arith, e)) in
      let body : R (body_of m) = own (body_of m) (omega arith) (omega (arith, e)) in
      live_less M Q W _ (λ l q. mid_part R m n j n l (omega arith) (omega arith) (wide l q))
      (live_test M W c (suc m) j (omega arith) (own_mid R m n (suc m) j n own (omega arith) (omega (arith, e)))
      (body_of m) (end_of m) _ (body, inl (omega arith)) (end, inl (omega arith))
      (live_begin M W (body_of m) None _ (body, inl (omega arith))
      (live_code sc i M R W s j n b k _ sound.1 (omega (arith, e))
      (own_from R m n j n own (omega arith) (omega arith)) (λ l h. h)
      (exit_part R R W m n j n (λ l r p. r) (omega arith) (omega arith) b eb)
      (exit_part R R W m n j n (λ l r p. r) (omega arith) (omega arith) k ek)
      (live_begin R W (end_of m) None rest end a))))
  live_code sc i Q R W (TypedStmt.If c s (OtherTyped.There t)) m n b k rest sound e own wide eb ek a =
      let j : ℕ = suc m + nodes c in
      let p : ℕ = suc m + nodes c + stmt_nodes s in
      let M : Name → Type 0 = Mid R j n in
      let N : Name → Type 0 = Mid R p n in
      let end : R (end_of m) = own (end_of m) (omega arith) (omega (arith, e)) in
      let body : R (body_of m) = own (body_of m) (omega arith) (omega (arith, e)) in
      let other : R (else_of m) = own (else_of m) (omega arith) (omega (arith, e)) in
      live_less M Q W _ (λ l q. mid_part R m n j n l (omega arith) (omega arith) (wide l q))
      (live_test M W c (suc m) j (omega arith) (own_mid R m n (suc m) j n own (omega arith) (omega (arith, e)))
      (body_of m) (else_of m) _ (body, inl (omega arith)) (other, inl (omega arith))
      (live_begin M W (body_of m) None _ (body, inl (omega arith))
      (live_code sc i M N W s j p b k _ sound.1 refl (own_mid R m n j p n own (omega arith) (omega (arith, e)))
      (λ l h. (
        mid_part R j n p n l (omega arith) (omega arith) h,
        apart_part j n j p l (omega arith)
            (omega (arith, e)) h.1,
      ))
      (exit_part R N W m n j p (λ l r h. (r, apart_part m n p n l (omega arith) (omega arith) h))
      (omega arith) (omega (arith, e)) b eb)
      (exit_part R N W m n j p (λ l r h. (r, apart_part m n p n l (omega arith) (omega arith) h))
      (omega arith) (omega (arith, e)) k ek)
      (live_end N W (Close.Jump (end_of m)) None _ (end, inl (omega arith)) tt
      (live_begin N W (else_of m) None _ (other, inl (omega arith))
      (live_code sc i N R W t p n b k _ sound.2 (omega (arith, e))
      (own_from R m n p n own (omega arith) (omega arith)) (λ l h. h)
      (exit_part R R W m n p n (λ l r h. r) (omega arith) (omega arith) b eb)
      (exit_part R R W m n p n (λ l r h. r) (omega arith) (omega arith) k ek)
      (live_begin R W (end_of m) None rest end a)))))))
  live_code sc i Q R W (TypedStmt.While c s) m n b k rest sound e own wide eb ek a =
      let j : ℕ = suc m + nodes c in
      let M : Name → Type 0 = Mid R j n in
      let V : Name → Type 0 = λ l. W l ⊎ (l ≡ head_of m) in
      let head : R (head_of m) = own (head_of m) (omega arith) (omega (arith, e)) in
      let body : R (body_of m) = own (body_of m) (omega arith) (omega (arith, e)) in
      let end : R (end_of m) = own (end_of m) (omega arith) (omega (arith, e)) in
      by_alive sc i Q R M W (TypedStmt.While c s) m n b k rest sound e wide eb ek a
      (λ l q. mid_part R m n j n l (omega arith) (omega arith) (wide l q))
      (live_head M W (head_of m) None _ (head, inl (omega arith))
      (live_test M V c (suc m) j (omega arith) (own_mid R m n (suc m) j n own (omega arith) (omega (arith, e)))
      (body_of m) (end_of m) _ (body, inl (omega arith)) (end, inl (omega arith))
      (live_begin M V (body_of m) None _ (body, inl (omega arith))
      (live_code sc looped M R V s j n (Close.Jump (end_of m)) (Close.Back (head_of m)) _ sound.1 (omega (arith, e))
      (own_from R m n j n own (omega arith) (omega arith)) (λ l h. h)
      (on (end_of m) end (inl (omega arith))) (back (head_of m) (inr refl))
      (live_back R V (head_of m) (end_of m) rest (inr refl) end (live_one R W (head_of m) rest a))))))
  live_code sc i Q R W (TypedStmt.DoWhile s c line) m n b k rest sound e own wide eb ek a =
      let j : ℕ = suc m + stmt_nodes s in
      let M : Name → Type 0 = Mid R (suc m) j in
      let V : Name → Type 0 = λ l. W l ⊎ (l ≡ body_of m) in
      let body : R (body_of m) = own (body_of m) (omega arith) (omega (arith, e)) in
      let test : R (test_of m) = own (test_of m) (omega arith) (omega (arith, e)) in
      let again : R (again_of m) = own (again_of m) (omega arith) (omega (arith, e)) in
      let end : R (end_of m) = own (end_of m) (omega arith) (omega (arith, e)) in
      by_alive sc i Q R M W (TypedStmt.DoWhile s c line) m n b k rest sound e wide eb ek a
      (λ l q. mid_part R m n (suc m) j l (omega arith) (omega (arith, e)) (wide l q))
      (live_head M W (body_of m) None _ (body, inl (omega arith))
      (live_code sc looped M R V s (suc m) j (Close.Jump (end_of m)) (Close.Jump (test_of m)) _ sound.0 refl
      (own_from R m n (suc m) j own (omega arith) (omega (arith, e))) (λ l h. h)
      (on (end_of m) end (inl (omega arith))) (on (test_of m) test (inl (omega arith)))
      (live_begin R V (test_of m) None _ test
      (live_test R V c j n (omega (arith, e)) (own_from R m n j n own (omega arith) (omega arith)) (again_of m)
      (end_of m) _ again end
      (live_begin R V (again_of m) (Some line) _ again
      (live_back R V (body_of m) (end_of m) rest (inr refl) end (live_one R W (body_of m) rest a)))))))
  live_code sc i Q R W (TypedStmt.For (TypedForHead.Head first test step) s) m n b k rest sound e own wide eb ek a =
      let j : ℕ = suc m + other_nodes first in
      let p : ℕ = j + nodes_if test in
      let q : ℕ = p + stmt_nodes s in
      let F : Name → Type 0 = λ l. R l × Apart j n l × (l.node ≢ m) in
      let M : Name → Type 0 = Mid R p q in
      let V : Name → Type 0 = λ l. W l ⊎ (l ≡ head_of m) in
      let head : R (head_of m) = own (head_of m) (omega arith) (omega (arith, e)) in
      let body : R (body_of m) = own (body_of m) (omega arith) (omega (arith, e)) in
      let next : R (step_of m) = own (step_of m) (omega arith) (omega (arith, e)) in
      let end : R (end_of m) = own (end_of m) (omega arith) (omega (arith, e)) in
      let inner : Scope = behind_first sc first in
      let widened : (l : Name) → R l → Apart m n l → F l =
      λ l r h. (r, apart_part m n j n l (omega arith) (omega arith) h, other_node m n l (omega (arith, e)) h) in
      live_other sc i Q F W first (suc m) j b k _ sound.0.1 refl
      (λ l low high. (own l (omega (arith, low)) (omega (arith, high, e)), inl high, λ same. omega (arith, low, same)))
      (λ l h. (
        widened l (wide l h).0 (wide l h).1,
        apart_part m n (suc m) j l (omega arith) (omega (arith, e))
            (wide l h).1,
      ))
      (exit_part R F W m n (suc m) j widened (omega arith) (omega (arith, e)) b eb)
      (exit_part R F W m n (suc m) j widened (omega arith) (omega (arith, e)) k ek)
      (round_alive inner F R W test step s m j n rest sound.1 (omega (arith, e)) (λ l h. h) a
      (live_head (Mid R j n) W (head_of m) None _ (head, inl (omega arith))
      (live_less M (Mid R j n) V _ (λ l h. mid_part R j n p q l (omega arith) (omega (arith, e)) h)
      (live_tested M V test j p (omega arith) (own_mid R m n j p q own (omega arith) (omega (arith, e))) (body_of m)
      (end_of m) _ (body, inl (omega arith)) (end, inl (omega arith))
      (live_code inner looped M R V s p q (Close.Jump (end_of m)) (continues_to step (step_of m) (head_of m)) _ sound.1
      refl (own_from R m n p q own (omega arith) (omega (arith, e))) (λ l h. h)
      (on (end_of m) end (inl (omega arith)))
      (continues_exit R V p q step (step_of m) (head_of m) next (inl (omega arith)) (inr refl))
      (live_stepped R V step q n (omega (arith, e)) (own_from R m n q n own (omega arith) (omega arith)) (step_of m) _
      next (live_back R V (head_of m) (end_of m) rest (inr refl) end (live_one R W (head_of m) rest a))))))))
  live_code sc i Q R W (TypedStmt.Switch x is) m n b k rest sound e own wide eb ek a =
      let j : ℕ = suc m + nodes x in
      let I : Name → Type 0 = λ l. R l × (Apart j n l ⊎ Label is j l) in
      let end : R (end_of m) = own (end_of m) (omega arith) (omega (arith, e)) in
      let labels : (l : Name) → Label is j l → I l =
      λ l h. (let w = label_within is j l h in own l (omega (arith, w.0)) (omega (arith, w.1, e)), inr h) in
      let outside : I (end_of m) = (end, inl (inl (omega arith))) in
      live_less I Q W _ (λ l q. ((wide l q).0, inl (apart_part m n j n l (omega arith) (omega arith) (wide l q).1)))
      (live_value I W x (suc m) j (omega arith)
      (λ l low high. (own l (omega (arith, low)) (omega (arith, high, e)), inl (inl high))) _
      (live_end I W (Close.Select (cases_of is j None) (default_of is j None (end_of m))) None _
      (cases_are I is j None labels tt, default_is I is j None (end_of m) labels tt outside)
      (cases_numbers sc _ (base_of x) is j None sound.4)
      (live_items sc _ I R W (base_of x) is j n None (Close.Jump (end_of m)) k _ sound.4 (omega (arith, e))
      (own_from R m n j n own (omega arith) (omega arith)) (λ l h. h) (on (end_of m) end (inl (omega arith)))
      (exit_part R R W m n j n (λ l r h. r) (omega arith) (omega arith) k ek)
      (live_begin R W (end_of m) None rest end a))))
  live_code sc i Q R W (TypedStmt.Break place line) m n b k rest sound e own wide eb ek a =
      live_less R Q W _ (λ l q. (wide l q).0) (live_exit R W m n b (Some line) rest eb a)
  live_code sc i Q R W (TypedStmt.Continue place line) m n b k rest sound e own wide eb ek a =
      live_less R Q W _ (λ l q. (wide l q).0) (live_exit R W m n k (Some line) rest ek a)
  live_code sc i Q R W (TypedStmt.Return x place line) m n b k rest sound e own wide eb ek a =
      live_less R Q W _ (λ l q. (wide l q).0)
      (puts_value_if (Live R W) R (live_begin R W) (live_act R W) (goes_on R W) x (suc m) n (omega (arith, e))
      (own_from R m n (suc m) n own (omega arith) (omega arith)) _
      (live_end R W Close.Leave (Some line) rest tt tt a))

  live_other : (sc : Scope) (i : Inside) (Q R W : Name → Type 0) (s : OtherTyped) (m n : ℕ) (b k : Close)
      (rest : List Item) → SoundOther sc i s → n ≡ m + other_nodes s → Own R m n
      → ((l : Name) → Q l → R l × Apart m n l) → Exit R W m n b → Exit R W m n k → Live R W rest
      → Live Q W (code_other s m b k rest)
  live_other sc i Q R W OtherTyped.Nothing m n b k rest sound e own wide eb ek a =
      live_less R Q W rest (λ l q. (wide l q).0) a
  live_other sc i Q R W (OtherTyped.There s) m n b k rest sound e own wide eb ek a =
      live_code sc i Q R W s m n b k rest sound e own wide eb ek a

  pub live_codes : (sc : Scope) (i : Inside) (Q R W : Name → Type 0) (ss : TypedStmts) (m n : ℕ) (b k : Close)
      (rest : List Item) → SoundStmts sc i ss → n ≡ m + stmts_nodes ss → Own R m n
      → ((l : Name) → Q l → R l × Apart m n l) → Exit R W m n b → Exit R W m n k → Live R W rest
      → Live Q W (codes_of ss m b k rest)
  live_codes sc i Q R W TypedStmts.End m n b k rest sound e own wide eb ek a =
      live_less R Q W rest (λ l q. (wide l q).0) a
  live_codes sc i Q R W (TypedStmts.More s ss) m n b k rest sound e own wide eb ek a =
      let p : ℕ = m + stmt_nodes s in
      let N : Name → Type 0 = Mid R p n in
      live_code sc i Q N W s m p b k _ sound.0 refl (own_mid R m n m p n own (omega arith) (omega (arith, e)))
      (λ l q. (
        mid_part R m n p n l (omega arith) (omega arith) (wide l q),
        apart_part m n m p l (omega arith)
            (omega (arith, e)) (wide l q).1,
      ))
      (exit_part R N W m n m p (λ l r h. (r, apart_part m n p n l (omega arith) (omega arith) h))
      (omega arith) (omega (arith, e)) b eb)
      (exit_part R N W m n m p (λ l r h. (r, apart_part m n p n l (omega arith) (omega arith) h))
      (omega arith) (omega (arith, e)) k ek)
      (live_codes (behind sc s) i N R W ss p n b k rest sound.1 (omega (arith, e))
      (own_from R m n p n own (omega arith) (omega arith)) (λ l h. h)
      (exit_part R R W m n p n (λ l r h. r) (omega arith) (omega arith) b eb)
      (exit_part R R W m n p n (λ l r h. r) (omega arith) (omega arith) k ek) a)

  live_items : (sc : Scope) (i : Inside) (Q R W : Name → Type 0) (t : Base) (is : TypedItems) (m n : ℕ)
      (g : Option Name) (b k : Close) (rest : List Item) → SoundItems sc i t is → n ≡ m + items_nodes is → Own R m n
      → ((l : Name) → Q l → R l × (Apart m n l ⊎ Label is m l)) → Exit R W m n b → Exit R W m n k → Live R W rest
      → Live Q W (code_items is m g b k rest)
  live_items sc i Q R W t TypedItems.Last m n g b k rest sound e own wide eb ek a =
      live_less R Q W rest (λ l q. (wide l q).0) a
  live_items sc i Q R W t (TypedItems.Further (TypedItem.Case v place) is) m n g b k rest sound e own wide eb ek a =
      live_labelled Q R W is m n g _ wide (own (label_of m) (omega arith) (omega (arith, e)))
      (live_items sc i (λ l. R l × (Apart (suc m) n l ⊎ Label is (suc m) l)) R W t is (suc m) n (Some (group_at g m)) b
      k rest sound.1 (omega (arith, e)) (own_from R m n (suc m) n own (omega arith) (omega arith)) (λ l h. h)
      (exit_part R R W m n (suc m) n (λ l r h. r) (omega arith) (omega arith) b eb)
      (exit_part R R W m n (suc m) n (λ l r h. r) (omega arith) (omega arith) k ek) a)
  live_items sc i Q R W t (TypedItems.Further (TypedItem.Default place) is) m n g b k rest sound e own wide eb ek a =
      live_labelled Q R W is m n g _ wide (own (label_of m) (omega arith) (omega (arith, e)))
      (live_items sc i (λ l. R l × (Apart (suc m) n l ⊎ Label is (suc m) l)) R W t is (suc m) n (Some (group_at g m)) b
      k rest sound.1 (omega (arith, e)) (own_from R m n (suc m) n own (omega arith) (omega arith)) (λ l h. h)
      (exit_part R R W m n (suc m) n (λ l r h. r) (omega arith) (omega arith) b eb)
      (exit_part R R W m n (suc m) n (λ l r h. r) (omega arith) (omega arith) k ek) a)
  live_items sc i Q R W t (TypedItems.Further (TypedItem.Item s) is) m n g b k rest sound e own wide eb ek a =
      let p : ℕ = m + stmt_nodes s in
      let N : Name → Type 0 = λ l. R l × (Apart p n l ⊎ Label is p l) in
      let widened : (l : Name) → R l → Apart m n l → N l =
      λ l r h. (r, inl (apart_part m n p n l (omega arith) (omega arith) h)) in
      live_code sc i Q N W s m p b k _ sound.0 refl
      (λ l low high. (own l (omega (arith, low)) (omega (arith, high, e)), inl (inl high)))
      (λ l q. past_item is m n p l (R l) (omega arith) (omega (arith, e)) (wide l q))
      (exit_part R N W m n m p widened (omega arith) (omega (arith, e)) b eb)
      (exit_part R N W m n m p widened (omega arith) (omega (arith, e)) k ek)
      (live_items (behind sc s) i N R W t is p n None b k rest sound.1 (omega (arith, e))
      (own_from R m n p n own (omega arith) (omega arith)) (λ l h. h)
      (exit_part R R W m n p n (λ l r h. r) (omega arith) (omega arith) b eb)
      (exit_part R R W m n p n (λ l r h. r) (omega arith) (omega arith) k ek) a)
