-- Along walks of a net its rows keep the bits of the prime paths under way, and gain those of the prime paths
-- contained.
use Rattle.std.proofs.Common.{
  ◌≡◌,
  refl,
  sym,
  ap,
  ap₂,
  subst,
  ◌∙◌,
  ℕ,
  zero,
  suc,
  ◌+◌,
  ◌≤◌,
  ◌<◌,
  ◌≢◌,
  ◌||◌,
  ◌&&◌,
  ◌==◌,
  cond,
  List,
  [],
  ◌∷◌,
  ◌++◌,
  map,
  length,
  replicate,
  Bool,
  true,
  false,
  ◌⊎◌,
  inl,
  inr,
  arith,
  fold,
  Option,
  Some,
  None,
  append_assoc,
  append-nil,
  eqb-true,
  eq-eqb,
  leb,
  Decides,
}
use Rattle.std.specs.Prelude.{Ok}
use Rattle.std.specs.List.{All, list_any, flat_map}
use Rattle.std.proofs.lemmas.Bool.{and_parts, and_from, or_parts, both_ways, ne_eqb, leb-true, le-leb, lt-leb, cases_lt}
use Rattle.std.proofs.lemmas.List.Elements.{All-nil, All-cons, All-append, All-head, All-tail}
use Rattle.cov_base.specs.Falls.{is_real}
use Rattle.cov_base.specs.Net.{NetValue, IsNet, joins, has_arc, is_outside, is_misplaced}
use Rattle.cov_base.specs.Walks.{moves_from, GoesAlong}
use Rattle.cov_base.specs.declared.net.FlowArc.{FlowArc}
use Rattle.cov_base.proofs.NetLaws.{HasShape, HasShape-from_IsNet}
use Rattle.word_rules.specs.WordRules.{
  Words,
  BeginEntry,
  PassEntry,
  begin_row,
  pass_row,
  begin_by,
  pass_by,
  pass_spelled,
}
use Rattle.word_rules.proofs.Spelling.{begin_read, pass_read}
use Rattle.prime_paths.specs.Paths.{
  among,
  Among,
  Contains,
  leads,
  is_inner,
  is_path,
  is_simple,
  goes_on,
  is_simple_path,
  ArePrimes,
}
use Rattle.prime_paths.specs.Lister.{numbers}
use Rattle.prime_paths.proofs.ListFacts.{among_right, numbers_length}
use Rattle.prime_paths.proofs.SimplePaths.{Some_in, some_path, last_split}
use Rattle.prime_paths.proofs.WaysLaws.{all_among}
use Rattle.path_masks.specs.UnderWay.{EndsWith, begins_at}
use Rattle.path_masks.specs.Masks.{
  is_front,
  contains,
  is_under_way,
  word_of,
  chunk,
  width,
  words_of,
  bits_of,
  begin_entry,
  pass_entry,
  touches,
  row_of_start,
  row_of_move,
  has_row,
  AreFit,
  StandFor,
}
use Rattle.path_masks.specs.Tables.{RowsValue, AreRows, row_of}
use Rattle.path_masks.specs.NetWalks.{
  row_along,
  passed_by,
  moved_by,
  walked_by,
  IsWalk,
  RowsNameWords,
  AreFollowable,
  PrimesAreFollowable,
  PathsAreFollowed,
  PathsAreSeen,
  PrimesAreFollowed,
  PrimesAreSeen,
}
use Rattle.path_masks.proofs.BitLaws.{snoc_ends}
use Rattle.path_masks.proofs.WalkBits.{decided, contains_decides, contains_more, contains_still}
use Rattle.path_masks.proofs.FitLaws.{fit_primes, real_arc, not_exit}
use Rattle.path_masks.proofs.WordLaws.{word_none}
use Rattle.path_masks.proofs.MaskLaws.{words_length, words_same, or_assoc, or_none, begin_stands, pass_stands}

-- ---- prime paths on a walk with its entry and its exit

-- all blocks are from 2 up
abbrev AreLow : List ℕ → Type 0
AreLow p = (x : ℕ) → Among x p → 2 ≤ x

inner_low : (net : NetValue) (b : ℕ) → is_inner net b ≡ true → 2 ≤ b
inner_low net b e = leb-true 2 b (and_parts _ _ e).0

goes_low : (net : NetValue) (a : ℕ) (p : List ℕ) → goes_on net a p ≡ true → AreLow p
goes_low net a [] e x m = absurd m
goes_low net a (b ∷ p) e x (inl s) =
    subst (λ n. 2 ≤ n) (sym s) (inner_low net b (and_parts _ _ (and_parts (leads net a b) _ e).1).0)
goes_low net a (b ∷ p) e x (inr m) = goes_low net b p (and_parts _ _ (and_parts (leads net a b) _ e).1).1 x m

path_low : (net : NetValue) (p : List ℕ) → is_path net p ≡ true → AreLow p
path_low net [] e x m = absurd m
path_low net (a ∷ p) e x (inl s) = subst (λ n. 2 ≤ n) (sym s) (inner_low net a (and_parts _ _ e).0)
path_low net (a ∷ p) e x (inr m) = goes_low net a p (and_parts (is_inner net a) _ e).1 x m

-- a path of blocks from 2 up
record IsLow (p : List ℕ) : Type 0 where
  some : Some_in p
  low : AreLow p

simple_low : (net : NetValue) (p : List ℕ) → is_simple_path net p ≡ true → IsLow p
simple_low net p h = record {
  some = some_path net p h;
  low = path_low net p (and_parts (is_path net p) (is_simple p) h).0;
}

-- the entry in front of a walk changes nothing for such a path
contains_entry : (w p : List ℕ) → IsLow p → contains (0 ∷ w) p ≡ contains w p
contains_entry w [] h = absurd h.some
contains_entry w (x ∷ p) h = go (x == 0) (ne_eqb x 0 (λ e. (let l = h.low x (inl refl) in omega (arith, e, l))))
  where
    go : (c : Bool) → c ≡ false → ((c && is_front p w) || contains w (x ∷ p)) ≡ contains w (x ∷ p)
    go true e = absurd (let never : true ≡ false = e in cc)
    go false e = refl

under_entry : (w p : List ℕ) → IsLow p → is_under_way (0 ∷ w) p ≡ is_under_way w p
under_entry w [] h = absurd h.some
under_entry w (x ∷ p) h = go (0 == x) (ne_eqb 0 x (λ e. (let l = h.low x (inl refl) in omega (arith, e, l))))
  where
    go : (c : Bool) → c ≡ false → ((c && is_front w p) || is_under_way w (x ∷ p)) ≡ is_under_way w (x ∷ p)
    go true e = absurd (let never : true ≡ false = e in cc)
    go false e = refl

-- nor does the exit behind it
not_at_exit : (w p : List ℕ) → IsLow p → EndsWith (w ++ 1 ∷ []) p → ⊥
not_at_exit w [] h k = absurd h.some
not_at_exit w (x ∷ q) h (before, e) =
    let l = last_split x q in
    let s = snoc_ends w (before ++ l.0) 1 l.1 (e ∙ ap (λ k. before ++ k) l.2 ∙ sym (append_assoc before l.0 (l.1 ∷ []))) in
    let low : 2 ≤ l.1 = h.low l.1 (subst (λ k. Among l.1 k) (sym l.2) (among_right l.1 l.0 (l.1 ∷ []) (inl refl))) in
    let last : 1 ≡ l.1 = s.1 in
    omega (arith, last, low)

contains_exit : (w p : List ℕ) → IsLow p → contains (w ++ 1 ∷ []) p ≡ contains w p
contains_exit w p h = decided _ _ (contains_decides (w ++ 1 ∷ []) p) (
  (λ e. contains_still w p 1 ((contains_decides w p).0 e)),
  (λ c. elim (contains_more w p 1 c) [
    | inl k ↦ (contains_decides w p).1 k
    | inr k ↦ absurd (not_at_exit w p h k)
  ]),
)

-- ---- the row of an arc

abbrev HasRow : List (List ℕ) → List FlowArc → ℕ → ℕ → Type 0
HasRow ps arcs a b = (arc : FlowArc) × Among arc arcs × (joins a b arc ≡ true)
    × (row_along arcs (map (row_of ps) arcs) a b ≡ row_of ps arc)

row_found : (ps : List (List ℕ)) (arcs : List FlowArc) (a b : ℕ) → has_arc arcs a b ≡ true → HasRow ps arcs a b
row_found ps [] a b e = absurd (let never : false ≡ true = e in cc)
row_found ps (arc ∷ arcs) a b e = go (joins a b arc) refl e (row_found ps arcs a b)
  where
    go : (c : Bool) → joins a b arc ≡ c → (c || has_arc arcs a b) ≡ true
        → (has_arc arcs a b ≡ true → HasRow ps arcs a b)
        → (y : FlowArc) × Among y (arc ∷ arcs) × (joins a b y ≡ true)
        × (cond c (row_of ps arc) (row_along arcs (map (row_of ps) arcs) a b) ≡ row_of ps y)
    go true j e rest = (arc, inl refl, j, refl)
    go false j e rest = (let r = rest e in (r.0, inr r.1, r.2, r.3))

-- an arc of a net, between these blocks
record IsArc (net : NetValue) (a b : ℕ) (arc : FlowArc) : Type 0 where
  from : arc.from ≡ a
  to : arc.to ≡ b
  not_into_entry : b ≢ 0
  not_from_exit : a ≢ 1
  kind : is_misplaced arc ≡ false

net_arc : (net : NetValue) → IsNet net → (a b : ℕ) (arc : FlowArc) → Among arc net.arcs → joins a b arc ≡ true
    → IsArc net a b arc
net_arc net is a b arc m j =
    let shape = HasShape-from_IsNet net is in
    let ends = and_parts (arc.from == a) (arc.to == b) j in
    let from : arc.from ≡ a = eqb-true arc.from a ends.0 in
    let to : arc.to ≡ b = eqb-true arc.to b ends.1 in
    let inside = all_among (λ arc. is_outside net.blocks arc ≡ false) net.arcs shape.inside arc m in
    record {
      from = from;
      to = to;
      not_into_entry = λ e. both_ways (arc.to == 0) (or_parts _ _ (or_parts _ _ inside).0).1 (eq-eqb arc.to 0 (to ∙ e));
      not_from_exit = λ e. not_exit net.blocks arc inside (from ∙ e);
      kind = all_among (λ arc. is_misplaced arc ≡ false) net.arcs shape.exits arc m;
    }

row_inside : (net : NetValue) (ps : List (List ℕ)) (a b : ℕ) (arc : FlowArc) → IsArc net a b arc → a ≢ 0 → 2 ≤ b
    → row_of ps arc ≡ Some (pass_spelled (row_of_move a b ps))
row_inside net ps a b arc h o l =
    has (and_from _ _ (real_arc arc h.kind (subst (λ n. 2 ≤ n) (sym h.to) l))
    (and_from (leb 2 arc.from) (leb 2 arc.to) (le-leb 2 arc.from (subst (λ n. 2 ≤ n) (sym h.from) (two a o h.not_from_exit)))
    (le-leb 2 arc.to (subst (λ n. 2 ≤ n) (sym h.to) l))))
    ∙ ap₂ (λ (x y : ℕ). Some (pass_spelled (row_of_move x y ps))) h.from h.to
  where
    two : (n : ℕ) → n ≢ 0 → n ≢ 1 → 2 ≤ n
    two zero z o = absurd (z refl)
    two (suc zero) z o = absurd (o refl)
    two (suc (suc n)) z o = omega arith

    has : has_row arc ≡ true → row_of ps arc ≡ Some (pass_spelled (row_of_move arc.from arc.to ps))
    has e = ap (λ c. cond c (Some (pass_spelled (row_of_move arc.from arc.to ps))) None) e

row_outside : (net : NetValue) (ps : List (List ℕ)) (a b : ℕ) (arc : FlowArc) → IsArc net a b arc → b < 2
    → row_of ps arc ≡ None
row_outside net ps a b arc h l =
    ap (λ c. cond c (Some (pass_spelled (row_of_move arc.from arc.to ps))) None)
    (not_both (is_real arc.kind) (leb 2 arc.from) (leb 2 arc.to) (lt-leb 2 arc.to (subst (λ n. n < 2) (sym h.to) l)))
  where
    not_both : (x y z : Bool) → z ≡ false → (x && (y && z)) ≡ false
    not_both true true z e = e
    not_both true false z e = refl
    not_both false y z e = refl

-- ---- a move of a walk

-- the paths, and their rows for the net
record Given (net : NetValue) (ps : List (List ℕ)) (rows : RowsValue) : Type 0 where
  net_is : IsNet net
  fit : AreFit 2 ps
  low : (p : List ℕ) → Among p ps → IsLow p
  rows_are : AreRows net.arcs ps rows

-- a block other than the entry is left by the row of the arc
by_row : (net : NetValue) (ps : List (List ℕ)) (rows : RowsValue) → Given net ps rows → (a b : ℕ) (ws : Words) → a ≢ 0
    → (row : Option (List ℕ)) → row_along net.arcs (map (row_of ps) net.arcs) a b ≡ row
    → moved_by net.arcs rows ws (a, b) ≡ passed_by row ws
by_row net ps rows given a b ws o row e =
    ap (λ c. cond c (begin_by (begin_row rows.begin) ws) (passed_by (row_along net.arcs rows.passes a b) ws)) (ne_eqb a 0 o)
    ∙ ap (λ (r : Option (List ℕ)). passed_by r ws)
    (ap (λ (rs : List (Option (List ℕ))). row_along net.arcs rs a b) given.rows_are.passes ∙ e)

moves_inside : (net : NetValue) (ps : List (List ℕ)) (rows : RowsValue) → Given net ps rows → (a b : ℕ) (ws : Words)
    → a ≢ 0 → has_arc net.arcs a b ≡ true → 2 ≤ b
    → moved_by net.arcs rows ws (a, b) ≡ pass_by (row_of_move a b ps) ws
moves_inside net ps rows given a b ws o has l =
    let r = row_found ps net.arcs a b has in
    by_row net ps rows given a b ws o (Some (pass_spelled (row_of_move a b ps)))
    (r.3 ∙ row_inside net ps a b r.0 (net_arc net given.net_is a b r.0 r.1 r.2) o l)
    ∙ ap (λ row. pass_by row ws) (pass_read (row_of_move a b ps))

moves_out : (net : NetValue) (ps : List (List ℕ)) (rows : RowsValue) → Given net ps rows → (a b : ℕ) (ws : Words)
    → a ≢ 0 → has_arc net.arcs a b ≡ true → b < 2
    → (moved_by net.arcs rows ws (a, b) ≡ ws) × (b ≡ 1)
moves_out net ps rows given a b ws o has l =
    let r = row_found ps net.arcs a b has in
    let arc = net_arc net given.net_is a b r.0 r.1 r.2 in
    (by_row net ps rows given a b ws o None (r.3 ∙ row_outside net ps a b r.0 arc l), one b l arc.not_into_entry)
  where
    one : (n : ℕ) → n < 2 → n ≢ 0 → n ≡ 1
    one zero k z = absurd (z refl)
    one (suc zero) k z = refl
    one (suc (suc n)) k z = absurd (omega (arith, k))

-- ---- along a walk

abbrev Along : List FlowArc → ℕ → List ℕ → Type 0
Along arcs v rest = All (λ move. has_arc arcs move.0 move.1 ≡ true) (moves_from v rest)

-- nothing goes on from the exit
ends_there : (net : NetValue) → IsNet net → (rest : List ℕ) → Along net.arcs 1 rest → rest ≡ []
ends_there net is [] h = refl
ends_there net is (b ∷ rest) h =
    let r = row_found [] net.arcs 1 b (All-head (λ m. has_arc net.arcs m.0 m.1 ≡ true) (1, b) (moves_from b rest) h) in
    absurd ((net_arc net is 1 b r.0 r.1 r.2).not_from_exit refl)

-- what the words are where a walk has come through these blocks, behind the entry
record Stand (old : List ℕ → Bool) (ps : List (List ℕ)) (came rest : List ℕ) (ws : Words) : Type 0 where
  wide : length ws.bits ≡ width ps
  bits : among 1 rest ≡ false → ws.bits ≡ words_of (λ p. is_under_way (came ++ rest) p) ps
  seen : ws.seen ≡ words_of (λ p. old p || contains (came ++ rest) p) ps

stand_here : (old : List ℕ → Bool) (ps : List (List ℕ)) (came : List ℕ) (ws : Words) → StandFor old ps came ws
    → Stand old ps came [] ws
stand_here old ps came ws h = record {
  wide = ap (λ (l : List ℕ). length l) h.0 ∙ words_length (λ p. is_under_way came p) ps;
  bits = λ e. subst (λ w. ws.bits ≡ words_of (λ p. is_under_way w p) ps) (sym (append-nil came)) h.0;
  seen = subst (λ w. ws.seen ≡ words_of (λ p. old p || contains w p) ps) (sym (append-nil came)) h.1;
}

-- the walk comes to the exit
stand_out : (old : List ℕ → Bool) (ps : List (List ℕ)) (came : List ℕ) (ws : Words)
    → ((p : List ℕ) → Among p ps → IsLow p) → StandFor old ps came ws → Stand old ps came (1 ∷ []) ws
stand_out old ps came ws low h = record {
  wide = ap (λ (l : List ℕ). length l) h.0 ∙ words_length (λ p. is_under_way came p) ps;
  bits = λ e. absurd (let never : true ≡ false = e in cc);
  seen = h.1 ∙ words_same _ _ ps (λ p m. ap (λ c. old p || c) (sym (contains_exit came p (low p m))));
}

-- the words along the rest of a walk that has come to a block
stands : (net : NetValue) (ps : List (List ℕ)) (rows : RowsValue) → Given net ps rows → (old : List ℕ → Bool)
    → (rest w0 : List ℕ) (v : ℕ) (ws : Words) → v ≢ 0 → Along net.arcs v rest → Contains (w0 ++ v ∷ []) (2 ∷ [])
    → StandFor old ps (w0 ++ v ∷ []) ws
    → Stand old ps (w0 ++ v ∷ []) rest (fold (moved_by net.arcs rows) ws (moves_from v rest))
stands net ps rows given old [] w0 v ws o along from h = stand_here old ps (w0 ++ v ∷ []) ws h
stands net ps rows given old (b ∷ rest) w0 v ws o along from h =
    go (cases_lt b 2) (stands net ps rows given old rest (w0 ++ v ∷ []) b)
  where
    has : has_arc net.arcs v b ≡ true
    has = All-head (λ m. has_arc net.arcs m.0 m.1 ≡ true) (v, b) (moves_from b rest) along

    further : Along net.arcs b rest
    further = All-tail (λ m. has_arc net.arcs m.0 m.1 ≡ true) (v, b) (moves_from b rest) along

    joined : ((w0 ++ v ∷ []) ++ b ∷ []) ++ rest ≡ (w0 ++ v ∷ []) ++ (b ∷ rest)
    joined = append_assoc (w0 ++ v ∷ []) (b ∷ []) rest

    go : (b < 2) ⊎ (2 ≤ b)
        → ((ws : Words) → b ≢ 0 → Along net.arcs b rest → Contains ((w0 ++ v ∷ []) ++ b ∷ []) (2 ∷ [])
        → StandFor old ps ((w0 ++ v ∷ []) ++ b ∷ []) ws
        → Stand old ps ((w0 ++ v ∷ []) ++ b ∷ []) rest (fold (moved_by net.arcs rows) ws (moves_from b rest)))
        → Stand old ps (w0 ++ v ∷ []) (b ∷ rest) (fold (moved_by net.arcs rows) (moved_by net.arcs rows ws (v, b)) (moves_from b rest))
    go (inl l) goes =
        let out = moves_out net ps rows given v b ws o has l in
        let none : rest ≡ [] = ends_there net given.net_is rest (subst (λ n. Along net.arcs n rest) out.1 further) in
        subst (λ n. Stand old ps (w0 ++ v ∷ []) (n ∷ rest) (fold (moved_by net.arcs rows) (moved_by net.arcs rows ws (v, b)) (moves_from b rest))) (sym out.1)
        (subst (λ x. Stand old ps (w0 ++ v ∷ []) (1 ∷ rest) (fold (moved_by net.arcs rows) x (moves_from b rest))) (sym out.0)
        (subst (λ r. Stand old ps (w0 ++ v ∷ []) (1 ∷ r) (fold (moved_by net.arcs rows) ws (moves_from b r))) (sym none)
        (stand_out old ps (w0 ++ v ∷ []) ws given.low h)))
    go (inr l) goes =
        let inside = moves_inside net ps rows given v b ws o has l in
        let next = goes (moved_by net.arcs rows ws (v, b)) (λ e. omega (arith, e, l)) further
        (contains_still (w0 ++ v ∷ []) (2 ∷ []) b from)
        (subst (λ x. StandFor old ps ((w0 ++ v ∷ []) ++ b ∷ []) x) (sym inside)
        (pass_stands 2 old ps w0 v b ws given.fit from h)) in
        let final : Words = fold (moved_by net.arcs rows) (moved_by net.arcs rows ws (v, b)) (moves_from b rest) in
        record {
          wide = next.wide;
          bits = λ e. subst (λ w. final.bits ≡ words_of (λ p. is_under_way w p) ps) joined
              (next.bits (or_parts (1 == b) (among 1 rest) e).1);
          seen = subst (λ w. final.seen ≡ words_of (λ p. old p || contains w p) ps) joined next.seen;
        }

-- the words along a whole walk
record Follow (old : List ℕ → Bool) (ps : List (List ℕ)) (walk : List ℕ) (ws : Words) : Type 0 where
  wide : length ws.bits ≡ width ps
  bits : among 1 walk ≡ false → ws.bits ≡ words_of (λ p. is_under_way walk p) ps
  seen : ws.seen ≡ words_of (λ p. old p || contains walk p) ps

follows : (net : NetValue) (ps : List (List ℕ)) (rows : RowsValue) → Given net ps rows → (old : List ℕ → Bool)
    → (walk : List ℕ) (ws : Words) → IsWalk net walk → length ws.bits ≡ width ps → ws.seen ≡ words_of old ps
    → Follow old ps walk (walked_by net.arcs rows ws walk)
follows net ps rows given old walk ws is wide seen =
    subst (λ w. Follow old ps w (walked_by net.arcs rows ws w)) (sym is.first)
    (begins is.rest (subst (λ w. GoesAlong net.arcs w) is.first is.along))
  where
    begun : (rest : List ℕ) → Along net.arcs 2 rest
        → Stand old ps (2 ∷ []) rest (fold (moved_by net.arcs rows) (begin_by (begin_row rows.begin) ws) (moves_from 2 rest))
    begun rest along =
        stands net ps rows given old rest [] 2 (begin_by (begin_row rows.begin) ws) (λ e. omega (arith, e)) along
        ([], [], refl)
        (subst (λ row. StandFor old ps (2 ∷ []) (begin_by row ws))
        (sym (ap begin_row given.rows_are.begin ∙ begin_read (row_of_start 2 ps)))
        (begin_stands 2 old ps ws given.fit wide seen))

    begins : (rest : List ℕ) → Along net.arcs 0 (2 ∷ rest)
        → Follow old ps (0 ∷ (2 ∷ rest)) (walked_by net.arcs rows ws (0 ∷ (2 ∷ rest)))
    begins rest along =
        let s = begun rest (All-tail (λ m. has_arc net.arcs m.0 m.1 ≡ true) (0, 2) (moves_from 2 rest) along) in
        record {
          wide = s.wide;
          bits = λ e. s.bits e ∙ words_same _ _ ps (λ p m. sym (under_entry (2 ∷ rest) p (given.low p m)));
          seen = s.seen
              ∙ words_same _ _ ps (λ p m. ap (λ c. old p || c) (sym (contains_entry (2 ∷ rest) p (given.low p m))));
        }

-- the words along walks, one behind another
all_follow : (net : NetValue) (ps : List (List ℕ)) (rows : RowsValue) → Given net ps rows → (old : List ℕ → Bool)
    → (walks : List (List ℕ)) (ws : Words) → All (IsWalk net) walks → length ws.bits ≡ width ps → ws.seen
    ≡ words_of old ps
    → (fold (walked_by net.arcs rows) ws walks).seen ≡ words_of (λ p. old p || list_any (λ w. contains w p) walks) ps
all_follow net ps rows given old [] ws are wide seen = seen ∙ words_same _ _ ps (λ p m. or_none (old p))
all_follow net ps rows given old (walk ∷ walks) ws are wide seen =
    let one = follows net ps rows given old walk ws (All-head (IsWalk net) walk walks are) wide seen in
    all_follow net ps rows given (λ p. old p || contains walk p) walks (walked_by net.arcs rows ws walk)
    (All-tail (IsWalk net) walk walks are) one.wide one.seen
    ∙ words_same _ _ ps (λ p m. or_assoc (old p) (contains walk p) (list_any (λ w. contains w p) walks))

-- ---- the words that entries name

each_below : {E : Type 0} (P : E → Type 0) (f : ℕ → List E) (from n : ℕ) → ((i : ℕ) → i < from + n → All P (f i))
    → All P (flat_map f (numbers from n))
each_below P f from zero h = All-nil P
each_below P f from (suc n) h = All-append P (f from) (flat_map f (numbers (suc from) n)) (h from (omega arith))
    (each_below P f (suc from) n (λ i l. h i (omega (arith, l))))

one_below : {E : Type 0} (P : E → Type 0) (c : Bool) (e : E) → P e → All P (cond c (e ∷ []) [])
one_below P true e h = All-cons P e [] h (All-nil P)
one_below P false e h = All-nil P

start_below : (s : ℕ) (ps : List (List ℕ)) → All (λ (e : BeginEntry). e.word < width ps) (row_of_start s ps)
start_below s ps = each_below (λ (e : BeginEntry). e.word < width ps)
    (λ i. cond (list_any (begins_at s) (chunk ps i)) (begin_entry s ps i ∷ []) []) 0 (width ps)
    (λ i l. one_below (λ (e : BeginEntry). e.word < width ps) (list_any (begins_at s) (chunk ps i)) (begin_entry s ps i)
    (omega (arith, l)))

move_below : (v b : ℕ) (ps : List (List ℕ)) → All (λ (e : PassEntry). e.word < width ps) (row_of_move v b ps)
move_below v b ps = each_below (λ (e : PassEntry). e.word < width ps)
    (λ i. cond (list_any (touches v b) (chunk ps i)) (pass_entry v b ps i ∷ []) []) 0 (width ps)
    (λ i l. one_below (λ (e : PassEntry). e.word < width ps) (list_any (touches v b) (chunk ps i)) (pass_entry v b ps i)
    (omega (arith, l)))

-- a row of the rows is that of some move
some_move : (ps : List (List ℕ)) (row : List ℕ) (arcs : List FlowArc) → Among (Some row) (map (row_of ps) arcs)
    → (v b : ℕ) × (row ≡ pass_spelled (row_of_move v b ps))
some_move ps row [] m = absurd m
some_move ps row (arc ∷ arcs) (inr m) = some_move ps row arcs m
some_move ps row (arc ∷ arcs) (inl e) = go (has_row arc) e
  where
    go : (c : Bool) → Some row ≡ cond c (Some (pass_spelled (row_of_move arc.from arc.to ps))) None
        → (v b : ℕ) × (row ≡ pass_spelled (row_of_move v b ps))
    go true e = (arc.from, arc.to, (let h : Some row ≡ Some (pass_spelled (row_of_move arc.from arc.to ps)) = e in cc))
    go false e = absurd (let never : Some row ≡ None = e in cc)

pub rows_name_words : RowsNameWords
rows_name_words arcs ps rows are = (
  subst (λ n. All (λ (e : BeginEntry). e.word < n) (begin_row rows.begin)) (sym are.width)
      (subst (λ row. All (λ (e : BeginEntry). e.word < width ps) row)
      (sym (ap begin_row are.begin ∙ begin_read (row_of_start 2 ps))) (start_below 2 ps)),
  (λ row m. named row (some_move ps row arcs (subst (λ rs. Among (Some row) rs) are.passes m))),
)
  where
    named : (row : List ℕ) → (v b : ℕ) × (row ≡ pass_spelled (row_of_move v b ps))
        → All (λ (e : PassEntry). e.word < rows.width) (pass_row row)
    named row h = subst (λ n. All (λ (e : PassEntry). e.word < n) (pass_row row)) (sym are.width)
        (subst (λ r. All (λ (e : PassEntry). e.word < width ps) r)
        (sym (ap pass_row h.2 ∙ pass_read (row_of_move h.0 h.1 ps))) (move_below h.0 h.1 ps))

-- ---- the laws

pub primes_followable : PrimesAreFollowable
primes_followable net paths is primes = record {
  simple = λ p m. (primes.sound p m).simple;
  size = (fit_primes net paths is primes).size;
}

given_by : (net : NetValue) (ps : List (List ℕ)) (rows : RowsValue) → IsNet net → AreFollowable net ps
    → AreRows net.arcs ps rows → Given net ps rows
given_by net ps rows is able are = record {
  net_is = is;
  fit = record { simple = λ p m. (and_parts (is_path net p) (is_simple p) (able.simple p m)).1; size = able.size };
  low = λ p m. simple_low net p (able.simple p m);
  rows_are = are;
}

pub paths_followed : PathsAreFollowed
paths_followed net paths rows is able are walk old ws walks wide seen =
    let f = follows net paths rows (given_by net paths rows is able are) old walk ws walks (wide ∙ are.width) seen in
    (f.bits, f.seen)

pub paths_seen : PathsAreSeen
paths_seen net paths rows is able are walks ws each wide seen =
    all_follow net paths rows (given_by net paths rows is able are) (λ p. false) walks ws each (wide ∙ are.width)
    (seen ∙ ap (λ n. replicate n 0) are.width ∙ zeros 0 (width paths))
  where
    zeros : (from n : ℕ) → replicate n 0 ≡ map (λ i. word_of (λ p. false) (chunk paths i)) (numbers from n)
    zeros from zero = refl
    zeros from (suc n) = ap₂ (λ (x : ℕ) (l : List ℕ). x ∷ l) (sym (word_none (λ p. false) (chunk paths from) (λ p m. refl)))
        (zeros (suc from) n)

pub primes_followed : PrimesAreFollowed
primes_followed net limit paths rows is lists =
    paths_followed net paths rows is (primes_followable net paths is lists.0)

pub primes_seen : PrimesAreSeen
primes_seen net limit paths rows is lists = paths_seen net paths rows is (primes_followable net paths is lists.0)
