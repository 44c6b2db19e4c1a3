-- Along any walk the words keep exactly the bits of the paths under way, and gain exactly those of the paths that it
-- contains.
use Rattle.std.proofs.Common.{
  ◌≡◌,
  refl,
  sym,
  ap,
  ap₂,
  subst,
  ◌∙◌,
  ℕ,
  zero,
  suc,
  ◌+◌,
  ◌*◌,
  ◌/◌,
  ◌%◌,
  ◌≤◌,
  ◌<◌,
  ◌||◌,
  ◌&&◌,
  List,
  [],
  ◌∷◌,
  ◌++◌,
  map,
  length,
  get_or,
  Bool,
  true,
  false,
  cond,
  ◌⊎◌,
  inl,
  inr,
  arith,
  fold,
  bit_and,
  bit_or,
  ◌≢◌,
  append_assoc,
  append-nil,
  take,
  drop,
  replicate,
}
use Rattle.std.specs.List.{list_any}
use Rattle.std.specs.Int.{bit_at}
use Rattle.std.proofs.lemmas.Bool.{or_parts, cases_lt}
use Rattle.std.proofs.lemmas.Nat.Bits.{bit_at-zero}
use Rattle.std.proofs.lemmas.List.{
  length-map,
  length-replicate,
  length-set,
  get_or-set_same,
  get_or-set_other,
  ext_get_or,
}
use Rattle.prime_paths.specs.Paths.{among, Among, Contains}
use Rattle.prime_paths.specs.Lister.{numbers}
use Rattle.prime_paths.proofs.ListFacts.{any_false, numbers_length}
use Rattle.prime_paths.proofs.SimplePaths.{Some_in}
use Rattle.path_masks.specs.UnderWay.{begins_at, has_move, ends_by_move, is_just}
use Rattle.word_rules.specs.WordRules.{BeginEntry, PassEntry, Words, begun, passed, begin_by, pass_by}
use Rattle.path_masks.specs.Masks.{
  contains,
  is_under_way,
  one_if,
  nth,
  word_of,
  chunk,
  width,
  words_of,
  bits_of,
  begin_entry,
  row_of_start,
  pass_entry,
  touches,
  row_of_move,
  goes_by,
  walks_by,
  all_walks_by,
  AreFit,
  StandFor,
}
use Rattle.path_masks.proofs.WalkBits.{under_first, contains_first, under_more, seen_more, not_under, contains_still}
use Rattle.path_masks.proofs.WordLaws.{
  bit_of_word,
  word_and,
  word_or,
  word_same,
  word_none,
  get_numbers,
  EachWord,
  each_word,
}

-- ---- members of a chunk

among_drop : {A : Type 0} (x : A) (n : ℕ) (xs : List A) → Among x (drop n xs) → Among x xs
among_drop x zero xs m = m
among_drop x (suc n) [] m = absurd m
among_drop x (suc n) (y ∷ ys) m = inr (among_drop x n ys m)

among_take : {A : Type 0} (x : A) (n : ℕ) (xs : List A) → Among x (take n xs) → Among x xs
among_take x zero xs m = absurd m
among_take x (suc n) [] m = absurd m
among_take x (suc n) (y ∷ ys) (inl e) = inl e
among_take x (suc n) (y ∷ ys) (inr m) = inr (among_take x n ys m)

pub among_chunk : (p : List ℕ) (ps : List (List ℕ)) (i : ℕ) → Among p (chunk ps i) → Among p ps
among_chunk p ps i m = among_drop p (64 * i) ps (among_take p 64 (drop (64 * i) ps) m)

-- ---- states

-- bits and seen words by tests of the paths
abbrev pub Holds : (List ℕ → Bool) → (List ℕ → Bool) → List (List ℕ) → Words → Type 0
Holds t u ps ws = (ws.bits ≡ words_of t ps) × (ws.seen ≡ words_of u ps)

-- so many words
abbrev Wide : List (List ℕ) → Words → Type 0
Wide ps ws = (length ws.bits ≡ width ps) × (length ws.seen ≡ width ps)

abbrev pair : ℕ → ℕ → ℕ × ℕ
pair x y = (x, y)

-- a word of the bits and one of the seen words
abbrev see : Words → ℕ → ℕ × ℕ
see ws j = pair (get_or ws.bits j 0) (get_or ws.seen j 0)

pub words_length : (t : List ℕ → Bool) (ps : List (List ℕ)) → length (words_of t ps) ≡ width ps
words_length t ps = length-map (numbers 0 (width ps)) (λ i. word_of t (chunk ps i)) ∙ numbers_length 0 (width ps)

word_in : (t : List ℕ → Bool) (ps : List (List ℕ)) (j : ℕ) → j < width ps → get_or (words_of t ps) j 0
    ≡ word_of t (chunk ps j)
word_in t ps j l = get_numbers (λ i. word_of t (chunk ps i)) 0 (width ps) j l ∙ ap (λ i. word_of t (chunk ps i)) same
  where
    same : 0 + j ≡ j
    same = omega arith

-- the words hold tests where each word does
holds_from : (t u : List ℕ → Bool) (ps : List (List ℕ)) (ws : Words) → Wide ps ws
    → ((j : ℕ) → j < width ps → see ws j ≡ pair (word_of t (chunk ps j)) (word_of u (chunk ps j))) → Holds t u ps ws
holds_from t u ps ws w h = (
  ext_get_or 0 ws.bits (words_of t ps) (w.0 ∙ sym (words_length t ps))
      (λ j l. ap (λ (x : ℕ × ℕ). x.0) (h j (subst (λ n. j < n) w.0 l))
      ∙ sym (word_in t ps j (subst (λ n. j < n) w.0 l))),
  ext_get_or 0 ws.seen (words_of u ps) (w.1 ∙ sym (words_length u ps))
      (λ j l. ap (λ (x : ℕ × ℕ). x.1) (h j (subst (λ n. j < n) w.1 l))
      ∙ sym (word_in u ps j (subst (λ n. j < n) w.1 l))),
)

-- ---- the begin row

abbrev begin_piece : ℕ → List (List ℕ) → ℕ → List BeginEntry
begin_piece s ps i = cond (list_any (begins_at s) (chunk ps i)) (begin_entry s ps i ∷ []) []

-- what it makes of a word that is 0, and of a word seen
abbrev begin_change : ℕ → List (List ℕ) → ℕ → ℕ × ℕ → ℕ × ℕ
begin_change s ps i x = cond (list_any (begins_at s) (chunk ps i))
    (pair (word_of (begins_at s) (chunk ps i)) (bit_or x.1 (word_of (is_just s) (chunk ps i)))) x

begin_each : (s : ℕ) (ps : List (List ℕ)) → EachWord begun (begin_piece s ps) see (begin_change s ps) (Wide ps)
    (width ps)
begin_each s ps = record {
  keeps = λ i ws l g. keeps i ws g (list_any (begins_at s) (chunk ps i));
  own = λ i ws l g. own i ws l g (list_any (begins_at s) (chunk ps i));
  other = λ i j ws l g o. other i j ws o (list_any (begins_at s) (chunk ps i));
}
  where
    keeps : (i : ℕ) (ws : Words) → Wide ps ws → (c : Bool)
        → Wide ps (fold begun ws (cond c (begin_entry s ps i ∷ []) []))
    keeps i ws g true = (length-set ws.bits i _ ∙ g.0, length-set ws.seen i _ ∙ g.1)
    keeps i ws g false = g

    own : (i : ℕ) (ws : Words) → i < width ps → Wide ps ws → (c : Bool)
        → see (fold begun ws (cond c (begin_entry s ps i ∷ []) [])) i
        ≡ cond c (pair (word_of (begins_at s) (chunk ps i)) (bit_or (get_or ws.seen i 0)
        (word_of (is_just s) (chunk ps i)))) (see ws i)
    own i ws l g true = ap₂ (λ (x y : ℕ). pair x y) (get_or-set_same ws.bits i _ 0 (subst (λ n. i < n) (sym g.0) l))
        (get_or-set_same ws.seen i _ 0 (subst (λ n. i < n) (sym g.1) l))
    own i ws l g false = refl

    other : (i j : ℕ) (ws : Words) → j ≢ i → (c : Bool) → see (fold begun ws (cond c (begin_entry s ps i ∷ []) [])) j
        ≡ see ws j
    other i j ws o true = ap₂ (λ (x y : ℕ). pair x y) (get_or-set_other ws.bits i j _ 0 o)
        (get_or-set_other ws.seen i j _ 0 o)
    other i j ws o false = refl

-- ---- an arc's row

abbrev pass_piece : ℕ → ℕ → List (List ℕ) → ℕ → List PassEntry
pass_piece v b ps i = cond (list_any (touches v b) (chunk ps i)) (pass_entry v b ps i ∷ []) []

abbrev kept_word : ℕ → ℕ → List (List ℕ) → ℕ → ℕ → ℕ
kept_word v b ps i x = bit_and x (word_of (has_move v b) (chunk ps i))

abbrev pass_change : ℕ → ℕ → List (List ℕ) → ℕ → ℕ × ℕ → ℕ × ℕ
pass_change v b ps i x = cond (list_any (touches v b) (chunk ps i))
    (pair (bit_or (kept_word v b ps i x.0) (word_of (begins_at b) (chunk ps i)))
    (bit_or x.1 (bit_and (kept_word v b ps i x.0) (word_of (ends_by_move v b) (chunk ps i))))) x

pass_each : (v b : ℕ) (ps : List (List ℕ)) → EachWord passed (pass_piece v b ps) see (pass_change v b ps) (Wide ps)
    (width ps)
pass_each v b ps = record {
  keeps = λ i ws l g. keeps i ws g (list_any (touches v b) (chunk ps i));
  own = λ i ws l g. own i ws l g (list_any (touches v b) (chunk ps i));
  other = λ i j ws l g o. other i j ws o (list_any (touches v b) (chunk ps i));
}
  where
    keeps : (i : ℕ) (ws : Words) → Wide ps ws → (c : Bool)
        → Wide ps (fold passed ws (cond c (pass_entry v b ps i ∷ []) []))
    keeps i ws g true = (length-set ws.bits i _ ∙ g.0, length-set ws.seen i _ ∙ g.1)
    keeps i ws g false = g

    own : (i : ℕ) (ws : Words) → i < width ps → Wide ps ws → (c : Bool)
        → see (fold passed ws (cond c (pass_entry v b ps i ∷ []) [])) i
        ≡ cond c (pair (bit_or (kept_word v b ps i (get_or ws.bits i 0)) (word_of (begins_at b) (chunk ps i)))
        (bit_or (get_or ws.seen i 0) (bit_and (kept_word v b ps i (get_or ws.bits i 0))
        (word_of (ends_by_move v b) (chunk ps i))))) (see ws i)
    own i ws l g true = ap₂ (λ (x y : ℕ). pair x y) (get_or-set_same ws.bits i _ 0 (subst (λ n. i < n) (sym g.0) l))
        (get_or-set_same ws.seen i _ 0 (subst (λ n. i < n) (sym g.1) l))
    own i ws l g false = refl

    other : (i j : ℕ) (ws : Words) → j ≢ i → (c : Bool) → see (fold passed ws (cond c (pass_entry v b ps i ∷ []) [])) j
        ≡ see ws j
    other i j ws o true = ap₂ (λ (x y : ℕ). pair x y) (get_or-set_other ws.bits i j _ 0 o)
        (get_or-set_other ws.seen i j _ 0 o)
    other i j ws o false = refl

-- ---- what the rows make of words that hold tests

-- words by tests, cut, finished and started by the tests of a move
pass_word : (v b : ℕ) (t u : List ℕ → Bool) (qs : List (List ℕ))
    → pair (bit_or (bit_and (word_of t qs) (word_of (has_move v b) qs)) (word_of (begins_at b) qs))
    (bit_or (word_of u qs) (bit_and (bit_and (word_of t qs) (word_of (has_move v b) qs))
    (word_of (ends_by_move v b) qs)))
    ≡ pair (word_of (λ p. (t p && has_move v b p) || begins_at b p) qs)
    (word_of (λ p. u p || ((t p && has_move v b p) && ends_by_move v b p)) qs)
pass_word v b t u qs =
    let k = word_and t (has_move v b) qs in
    ap₂ (λ (x y : ℕ). pair x y)
    (ap (λ x. bit_or x (word_of (begins_at b) qs)) k ∙ word_or (λ p. t p && has_move v b p) (begins_at b) qs)
    (ap (λ x. bit_or (word_of u qs) (bit_and x (word_of (ends_by_move v b) qs))) k
    ∙ ap (λ x. bit_or (word_of u qs) x) (word_and (λ p. t p && has_move v b p) (ends_by_move v b) qs)
    ∙ word_or u (λ p. (t p && has_move v b p) && ends_by_move v b p) qs)

-- a path that a move doesn't touch is not under way, before and after
untouched : (t : Bool) (v b : ℕ) (p : List ℕ) → touches v b p ≡ false → (among v p ≡ false → t ≡ false)
    → (t ≡ ((t && has_move v b p) || begins_at b p))
    × ((u : Bool) → u ≡ (u || ((t && has_move v b p) && ends_by_move v b p)))
untouched t v b p e h =
    let o = or_parts (among v p) (begins_at b p) e in
    go t (h o.0) (begins_at b p) o.1
  where
    go : (t : Bool) → t ≡ false → (c : Bool) → c ≡ false
        → (t ≡ ((t && has_move v b p) || c)) × ((u : Bool) → u ≡ (u || ((t && has_move v b p) && ends_by_move v b p)))
    go true a c k = absurd (let never : true ≡ false = a in cc)
    go false a true k = absurd (let never : true ≡ false = k in cc)
    go false a false k = (refl, same)
      where
        same : (u : Bool) → u ≡ (u || false)
        same true = refl
        same false = refl

-- the words after a move, by the tests of the move
pub pass_holds : (v b : ℕ) (t u : List ℕ → Bool) (ps : List (List ℕ)) (ws : Words) → Holds t u ps ws
    → ((p : List ℕ) → Among p ps → among v p ≡ false → t p ≡ false)
    → Holds (λ p. (t p && has_move v b p) || begins_at b p) (λ p. u p ||
    ((t p && has_move v b p) && ends_by_move v b p)) ps (pass_by (row_of_move v b ps) ws)
pass_holds v b t u ps ws h gone =
    let wide : Wide ps ws = (
      ap (λ (l : List ℕ). length l) h.0 ∙ words_length t ps,
      ap (λ (l : List ℕ). length l) h.1
          ∙ words_length u ps,
    ) in
    let e = each_word passed (pass_piece v b ps) see (pass_change v b ps) (Wide ps) (width ps) (pass_each v b ps) 0
    (width ps) ws (omega arith) wide in
    holds_from (λ p. (t p && has_move v b p) || begins_at b p)
    (λ p. u p || ((t p && has_move v b p) && ends_by_move v b p)) ps (pass_by (row_of_move v b ps) ws) e.0
    (λ j l. e.2 j (omega arith) (omega (arith, l)) ∙ ap (λ x. pass_change v b ps j x) (seen j l)
    ∙ word j (list_any (touches v b) (chunk ps j)) refl)
  where
    seen : (j : ℕ) → j < width ps → see ws j ≡ pair (word_of t (chunk ps j)) (word_of u (chunk ps j))
    seen j l = ap₂ (λ (x y : ℕ). pair x y) (ap (λ (w : List ℕ). get_or w j 0) h.0 ∙ word_in t ps j l)
        (ap (λ (w : List ℕ). get_or w j 0) h.1 ∙ word_in u ps j l)

    word : (j : ℕ) (c : Bool) → list_any (touches v b) (chunk ps j) ≡ c
        → cond c (pair (bit_or (kept_word v b ps j (word_of t (chunk ps j))) (word_of (begins_at b) (chunk ps j)))
        (bit_or (word_of u (chunk ps j)) (bit_and (kept_word v b ps j (word_of t (chunk ps j)))
        (word_of (ends_by_move v b) (chunk ps j)))))
        (pair (word_of t (chunk ps j)) (word_of u (chunk ps j)))
        ≡ pair (word_of (λ p. (t p && has_move v b p) || begins_at b p) (chunk ps j))
        (word_of (λ p. u p || ((t p && has_move v b p) && ends_by_move v b p)) (chunk ps j))
    word j true e = pass_word v b t u (chunk ps j)
    word j false e = ap₂ (λ (x y : ℕ). pair x y)
        (word_same t (λ p. (t p && has_move v b p) || begins_at b p) (chunk ps j) (λ p m. (none p m).0))
        (word_same u (λ p. u p || ((t p && has_move v b p) && ends_by_move v b p)) (chunk ps j)
        (λ p m. (none p m).1 (u p)))
      where
        none : (p : List ℕ) → Among p (chunk ps j) → (t p ≡ ((t p && has_move v b p) || begins_at b p))
            × ((u : Bool) → u ≡ (u || ((t p && has_move v b p) && ends_by_move v b p)))
        none p m = untouched (t p) v b p (any_false (touches v b) p (chunk ps j) e m) (gone p (among_chunk p ps j m))

-- words by tests that agree on the paths are equal
pub words_same : (t u : List ℕ → Bool) (ps : List (List ℕ)) → ((p : List ℕ) → Among p ps → t p ≡ u p) → words_of t ps
    ≡ words_of u ps
words_same t u ps h = each (numbers 0 (width ps))
  where
    each : (ns : List ℕ) → map (λ i. word_of t (chunk ps i)) ns ≡ map (λ i. word_of u (chunk ps i)) ns
    each [] = refl
    each (n ∷ ns) = ap₂ (λ (x : ℕ) (l : List ℕ). x ∷ l)
        (word_same t u (chunk ps n) (λ p m. h p (among_chunk p ps n m))) (each ns)

-- the words hold tests that agree with those that they hold
holds_same : (t t2 u u2 : List ℕ → Bool) (ps : List (List ℕ)) (ws : Words) → ((p : List ℕ) → Among p ps → t p ≡ t2 p)
    → ((p : List ℕ) → Among p ps → u p ≡ u2 p)
    → Holds t u ps ws → Holds t2 u2 ps ws
holds_same t t2 u u2 ps ws f g h = (h.0 ∙ words_same t t2 ps f, h.1 ∙ words_same u u2 ps g)

-- ---- along a walk

pub or_assoc : (a b c : Bool) → ((a || b) || c) ≡ (a || (b || c))
or_assoc true b c = refl
or_assoc false b c = refl

pub or_none : (a : Bool) → a ≡ (a || false)
or_none true = refl
or_none false = refl

-- after a move
pub pass_stands : (s : ℕ) (old : List ℕ → Bool) (ps : List (List ℕ)) (w0 : List ℕ) (v b : ℕ) (ws : Words) → AreFit s ps
    → Contains (w0 ++ v ∷ []) (s ∷ [])
    → StandFor old ps (w0 ++ v ∷ []) ws → StandFor old ps ((w0 ++ v ∷ []) ++ b ∷ []) (pass_by (row_of_move v b ps) ws)
pass_stands s old ps w0 v b ws fit from h =
    holds_same _ (λ p. is_under_way ((w0 ++ v ∷ []) ++ b ∷ []) p) _
    (λ p. old p || contains ((w0 ++ v ∷ []) ++ b ∷ []) p) ps (pass_by (row_of_move v b ps) ws)
    (λ p m. sym (under_more w0 p v b (fit.simple p m)))
    (λ p m. or_assoc (old p) (contains (w0 ++ v ∷ []) p) ((is_under_way
    (w0 ++ v ∷ []) p && has_move v b p) && ends_by_move v b p)
    ∙ ap (λ c. old p || c) (sym (seen_more w0 p v b (fit.simple p m) (size p (fit.size p m)))))
    (pass_holds v b (λ p. is_under_way (w0 ++ v ∷ []) p) (λ p. old p || contains (w0 ++ v ∷ []) p) ps ws h
    (λ p m. not_under w0 p v))
  where
    size : (p : List ℕ) → (2 ≤ length p) ⊎ (p ≡ s ∷ []) → (2 ≤ length p) ⊎ Contains (w0 ++ v ∷ []) p
    size p (inl l) = inl l
    size p (inr e) = inr (subst (λ l. Contains (w0 ++ v ∷ []) l) (sym e) from)

-- after the begin row: the walk is its first block
pub begin_stands : (s : ℕ) (old : List ℕ → Bool) (ps : List (List ℕ)) (ws : Words) → AreFit s ps → length ws.bits
    ≡ width ps → ws.seen ≡ words_of old ps
    → StandFor old ps (s ∷ []) (begin_by (row_of_start s ps) ws)
begin_stands s old ps ws fit long h =
    let wide : Wide ps (cleared ws) = (
      length-replicate (length ws.bits) 0 ∙ long,
      ap (λ (l : List ℕ). length l) h
          ∙ words_length old ps,
    ) in
    let e = each_word begun (begin_piece s ps) see (begin_change s ps) (Wide ps) (width ps) (begin_each s ps) 0
    (width ps) (cleared ws) (omega arith) wide in
    holds_from (λ p. is_under_way (s ∷ []) p) (λ p. old p || contains (s ∷ []) p) ps
    (begin_by (row_of_start s ps) ws) e.0
    (λ j l. e.2 j (omega arith) (omega (arith, l)) ∙ ap (λ x. begin_change s ps j x) (seen j l)
    ∙ word j (list_any (begins_at s) (chunk ps j)) refl)
  where
    cleared : Words → Words
    cleared ws = record { bits = replicate (length ws.bits) 0; seen = ws.seen }

    zero_at : (n j : ℕ) → get_or {A = ℕ} (replicate n 0) j 0 ≡ 0
    zero_at zero j = refl
    zero_at (suc n) zero = refl
    zero_at (suc n) (suc j) = zero_at n j

    seen : (j : ℕ) → j < width ps → see (cleared ws) j ≡ pair 0 (word_of old (chunk ps j))
    seen j l = ap₂ (λ (x y : ℕ). pair x y) (zero_at (length ws.bits) j)
        (ap (λ (w : List ℕ). get_or w j 0) h ∙ word_in old ps j l)

    some : (p : List ℕ) → (2 ≤ length p) ⊎ (p ≡ s ∷ []) → Some_in p
    some [] (inl l) = absurd (omega (arith, l))
    some [] (inr e) = absurd (let never : [] ≡ s ∷ [] = e in cc)
    some (x ∷ p) f = tt

    first : (j : ℕ) (p : List ℕ) → Among p (chunk ps j) → contains (s ∷ []) p ≡ is_just s p
    first j p m = contains_first s p (some p (fit.size p (among_chunk p ps j m)))

    just_none : (p : List ℕ) → begins_at s p ≡ false → is_just s p ≡ false
    just_none [] e = refl
    just_none (x ∷ []) e = e
    just_none (x ∷ (y ∷ p)) e = refl

    or_no : (a c : Bool) → c ≡ false → a ≡ (a || c)
    or_no true c e = refl
    or_no false c e = sym e

    word : (j : ℕ) (c : Bool) → list_any (begins_at s) (chunk ps j) ≡ c
        → cond c (pair (word_of (begins_at s) (chunk ps j)) (bit_or (word_of old (chunk ps j))
        (word_of (is_just s) (chunk ps j)))) (pair 0 (word_of old (chunk ps j)))
        ≡ pair (word_of (λ p. is_under_way (s ∷ []) p) (chunk ps j))
        (word_of (λ p. old p || contains (s ∷ []) p) (chunk ps j))
    word j true e = ap₂ (λ (x y : ℕ). pair x y)
        (word_same (begins_at s) (λ p. is_under_way (s ∷ []) p) (chunk ps j) (λ p m. sym (under_first s p)))
        (word_or old (is_just s) (chunk ps j)
        ∙ word_same (λ p. old p || is_just s p) (λ p. old p || contains (s ∷ []) p) (chunk ps j)
        (λ p m. ap (λ c. old p || c) (sym (first j p m))))
    word j false e = ap₂ (λ (x y : ℕ). pair x y)
        (sym (word_none (λ p. is_under_way (s ∷ []) p) (chunk ps j)
        (λ p m. under_first s p ∙ any_false (begins_at s) p (chunk ps j) e m)))
        (word_same old (λ p. old p || contains (s ∷ []) p) (chunk ps j)
        (λ p m. or_no (old p) (contains (s ∷ []) p) (first j p m
        ∙ just_none p (any_false (begins_at s) p (chunk ps j) e m))))

-- along the rest of a walk
goes_stand : (s : ℕ) (old : List ℕ → Bool) (ps : List (List ℕ)) (walk w0 : List ℕ) (v : ℕ) (ws : Words) → AreFit s ps
    → Contains (w0 ++ v ∷ []) (s ∷ [])
    → StandFor old ps (w0 ++ v ∷ []) ws → StandFor old ps ((w0 ++ v ∷ []) ++ walk) (goes_by ps v walk ws)
goes_stand s old ps [] w0 v ws fit from h = subst (λ w. StandFor old ps w ws) (sym (append-nil (w0 ++ v ∷ []))) h
goes_stand s old ps (b ∷ walk) w0 v ws fit from h =
    subst (λ w. StandFor old ps w (goes_by ps b walk (pass_by (row_of_move v b ps) ws)))
    (append_assoc (w0 ++ v ∷ []) (b ∷ []) walk)
    (goes_stand s old ps walk (w0 ++ v ∷ []) b (pass_by (row_of_move v b ps) ws) fit
    (contains_still (w0 ++ v ∷ []) (s ∷ []) b from)
    (pass_stands s old ps w0 v b ws fit from h))

-- along any walk from its first block the words keep exactly the bits of the paths under way, and those of the paths
-- that the walk contains are added to
-- the words seen
pub walks_stand : (s : ℕ) (old : List ℕ → Bool) (ps : List (List ℕ)) (walk : List ℕ) (ws : Words) → AreFit s ps
    → length ws.bits ≡ width ps → ws.seen ≡ words_of old ps
    → StandFor old ps (s ∷ walk) (walks_by ps s walk ws)
walks_stand s old ps walk ws fit long h =
    goes_stand s old ps walk [] s (begin_by (row_of_start s ps) ws) fit ([], [], refl)
    (begin_stands s old ps ws fit long h)

-- after some walks, one behind another
all_stand : (s : ℕ) (old : List ℕ → Bool) (ps walks : List (List ℕ)) (ws : Words) → AreFit s ps → length ws.bits
    ≡ width ps → ws.seen ≡ words_of old ps
    → (all_walks_by ps s walks ws).seen ≡ words_of (λ p. old p || list_any (λ w. contains w p)
    (map (λ walk. s ∷ walk) walks)) ps
all_stand s old ps [] ws fit long h = h ∙ words_same old (λ p. old p || false) ps (λ p m. or_none (old p))
all_stand s old ps (walk ∷ walks) ws fit long h =
    let one = walks_stand s old ps walk ws fit long h in
    all_stand s (λ p. old p || contains (s ∷ walk) p) ps walks (walks_by ps s walk ws) fit
    (ap (λ (l : List ℕ). length l) one.0 ∙ words_length (λ p. is_under_way (s ∷ walk) p) ps) one.1
    ∙ words_same _ _ ps (λ p m. or_assoc (old p) (contains (s ∷ walk) p)
    (list_any (λ w. contains w p) (map (λ walk. s ∷ walk) walks)))

pub all_seen : (s : ℕ) (ps walks : List (List ℕ)) (ws : Words) → AreFit s ps → length ws.bits ≡ width ps → ws.seen
    ≡ words_of (λ p. false) ps
    → (all_walks_by ps s walks ws).seen ≡ bits_of ps (map (λ walk. s ∷ walk) walks)
all_seen s ps walks ws fit long h = all_stand s (λ p. false) ps walks ws fit long h

-- ---- bits of words

nth_take : (t : List ℕ → Bool) (n : ℕ) (ps : List (List ℕ)) (k : ℕ) → k < n → nth t (take n ps) k ≡ nth t ps k
nth_take t zero ps k l = absurd (omega (arith, l))
nth_take t (suc n) [] k l = refl
nth_take t (suc n) (p ∷ ps) zero l = refl
nth_take t (suc n) (p ∷ ps) (suc k) l = nth_take t n ps k (omega (arith, l))

nth_drop : (t : List ℕ → Bool) (n : ℕ) (ps : List (List ℕ)) (k : ℕ) → nth t (drop n ps) k ≡ nth t ps (n + k)
nth_drop t zero ps k = ap (nth t ps) same
  where
    same : k ≡ 0 + k
    same = omega arith
nth_drop t (suc n) [] k = refl
nth_drop t (suc n) (p ∷ ps) k = nth_drop t n ps k ∙ ap (nth t (p ∷ ps)) same
  where
    same : suc (n + k) ≡ suc n + k
    same = omega arith

nth_none : (t : List ℕ → Bool) (ps : List (List ℕ)) (k : ℕ) → length ps ≤ k → nth t ps k ≡ false
nth_none t [] k l = refl
nth_none t (p ∷ ps) zero l = absurd (omega (arith, l))
nth_none t (p ∷ ps) (suc k) l = nth_none t ps k (omega (arith, l))

beyond_all : (ws : List ℕ) (j : ℕ) → length ws ≤ j → get_or ws j 0 ≡ 0
beyond_all [] j l = refl
beyond_all (w ∷ ws) zero l = absurd (omega (arith, l))
beyond_all (w ∷ ws) (suc j) l = beyond_all ws j (omega (arith, l))

-- bit k modulo 64 of word k / 64 tells of path k
pub bits_tell : (t : List ℕ → Bool) (ps : List (List ℕ)) (k : ℕ)
    → bit_at (get_or (words_of t ps) (k / 64) 0) (k % 64) ≡ one_if (nth t ps k)
bits_tell t ps k = go (cases_lt (k / 64) (width ps))
  where
    place : 64 * (k / 64) + k % 64 ≡ k
    place = omega arith

    go : (k / 64 < width ps) ⊎ (width ps ≤ k / 64) → bit_at (get_or (words_of t ps) (k / 64) 0) (k % 64) ≡ one_if
        (nth t ps k)
    go (inl l) =
        ap (λ w. bit_at w (k % 64)) (word_in t ps (k / 64) l) ∙ bit_of_word t (chunk ps (k / 64)) (k % 64)
        ∙ ap one_if (nth_take t 64 (drop (64 * (k / 64)) ps) (k % 64) (omega arith) ∙ nth_drop t (64 * (k / 64)) ps
        (k % 64)
        ∙ ap (nth t ps) place)
    go (inr l) =
        ap (λ w. bit_at w (k % 64)) (beyond_all (words_of t ps) (k / 64)
        (subst (λ n. n ≤ k / 64) (sym (words_length t ps)) l))
        ∙ bit_at-zero (k % 64) ∙ ap one_if (sym (nth_none t ps k (omega (arith, l))))
