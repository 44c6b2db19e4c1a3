-- The steps by which counts of lines are made give the count of each line.
use Rattle.std.proofs.Common.{◌≡◌, ◌≢◌, ℕ, zero, suc, ◌+◌, ◌*◌, ◌^◌, ◌<◌, ◌≤◌, Bool, true, false, cond, not, ◌&&◌, ◌||◌, inl, inr, List, [], ◌∷◌, length, get_or, set, drop, replicate, Option, Some, None, refl, sym, ◌∙◌, ap, subst, arith, eqb, ltb, leb, eq-eqb}
use Rattle.std.specs.Prelude.{unwrap_or}
use Rattle.std.specs.List.{All, list_any, sum_by}
use Rattle.std.proofs.lemmas.List.Sums.{sum_by-cons}
use Rattle.std.proofs.lemmas.Bool.{and_parts, and_right, or_from, or_left, or_parts, cond-true, cond-false, cond_both, cases_Bool, cases_eq, cases_lt, eqb-true, leb-false, ne_eqb, lt-ltb, le-ltb, ltb-true}
use Rattle.std.proofs.lemmas.List.Elements.{All-head, All-tail}
use Rattle.std.proofs.lemmas.List.{at_drop_more, length-replicate, drop_all, get_or-set_other, get_or-set_same, get_or-replicate, get_or_past, length-set}
use Rattle.cov_base.specs.Net.{NetValue, IsNet, is_outside, is_bare, suits, ascends}
use Rattle.cov_base.specs.Walks.{is_of_line}
use Rattle.cov_base.proofs.NetLaws.{HasShape-from_IsNet, suits-from_Suit}
use Rattle.cov_base.specs.declared.net.FlowArc.{FlowArc}
use Rattle.report_parts.specs.Lines.{holds, is_code_line, entering, line_count}
use Rattle.report_parts.specs.Shown.{ShownValue, IsShown, total}
use Rattle.report_parts.specs.CountSteps.{count_at, count_or_zero, begin_lines, begin_all, begin_functions, add_at, add_to_lines, lines_at, add_arc, add_arcs, add_functions}

-- lines that ascend from above a number don't hold it, nor a lesser one
absent : (low line : ℕ) (lines : List ℕ) → ascends low lines ≡ true → line ≤ low → holds lines line ≡ false
absent low line [] up le = refl
absent low line (x ∷ xs) up le =
    let parts = and_parts _ _ up in
    let above : low < x = ltb-true _ _ parts.0 in
    or_from _ _ (ne_eqb x line (λ e. omega arith)) (absent x line xs parts.1 (omega arith))

-- a step that adds to one line or to none leaves the others
other_kept : (b : Bool) (counts : List (Option ℕ)) (x line n : ℕ) → line ≢ x → count_at (cond b counts (add_at x n counts)) line ≡ count_at counts line
other_kept true counts x line n ne = refl
other_kept false counts x line n ne = get_or-set_other counts x line (Some (count_or_zero counts x + n)) None ne

-- and adds to the one, where it does
one_added : (b : Bool) (counts : List (Option ℕ)) (x n : ℕ) → x < length counts
    → count_at (cond b counts (add_at x n counts)) x ≡ cond (not b) (Some (count_or_zero counts x + n)) (count_at counts x)
one_added true counts x n low = refl
one_added false counts x n low = get_or-set_same counts x (Some (count_or_zero counts x + n)) None low

-- and keeps how many there are
step_length : (b : Bool) (counts : List (Option ℕ)) (x n : ℕ) → length (cond b counts (add_at x n counts)) ≡ length counts
step_length true counts x n = refl
step_length false counts x n = length-set counts x (Some (count_or_zero counts x + n))

-- a test with one that holds
and_held : (a b : Bool) → b ≡ true → a ≡ (a && b)
and_held true b h = sym h
and_held false b h = refl

-- What a line's count is after a number was added to those of lines that ascend, but for others.
pub added_law : (n : ℕ) (others lines : List ℕ) (low : ℕ) (counts : List (Option ℕ)) (line : ℕ) → ascends low lines ≡ true → line < length counts
    → count_at (add_to_lines n others lines counts) line
    ≡ cond (not (holds others line) && holds lines line) (Some (count_or_zero counts line + n)) (count_at counts line)
added_law n others [] low counts line up in_range = sym (cond-false _ _ _ (and_right (not (holds others line)) false refl))
added_law n others (x ∷ xs) low counts line up in_range =
    let parts = and_parts (ltb low x) (ascends x xs) up in
    let next = cond (holds others x) counts (add_at x n counts) in
    let e : length next ≡ length counts = step_length (holds others x) counts x n in
    let rest = added_law n others xs x next line parts.1 (omega arith) in
    elim (cases_eq line x) [
      | inl same ↦ (
          let P : ℕ → Type 0 = λ y. count_at (add_to_lines n others (x ∷ xs) counts) y
          ≡ cond (not (holds others y) && holds (x ∷ xs) y) (Some (count_or_zero counts y + n)) (count_at counts y) in
          let within : x < length counts = omega arith in
          let inside : x < length next = omega arith in
          subst P (sym same) (
          added_law n others xs x next x parts.1 inside
          ∙ cond-false _ _ _ (and_right (not (holds others x)) (holds xs x) (absent x x xs parts.1 (omega arith)))
          ∙ one_added (holds others x) counts x n within
          ∙ ap (λ b. cond b (Some (count_or_zero counts x + n)) (count_at counts x))
          (and_held (not (holds others x)) (holds (x ∷ xs) x) (or_left _ _ (eq-eqb x x refl)))))
      | inr differs ↦ (
          let kept : count_at next line ≡ count_at counts line = other_kept (holds others x) counts x line n differs in
          let tests : holds xs line ≡ holds (x ∷ xs) line = ap (λ b. b || holds xs line) (sym (ne_eqb x line (λ e. differs (sym e)))) in
          rest
          ∙ ap (λ c. cond (not (holds others line) && holds xs line) (Some (unwrap_or c 0 + n)) c) kept
          ∙ ap (λ b. cond (not (holds others line) && b) (Some (count_or_zero counts line + n)) (count_at counts line)) tests)
    ]

-- how many counts there are stays
added_length : (n : ℕ) (others lines : List ℕ) (counts : List (Option ℕ)) → length (add_to_lines n others lines counts) ≡ length counts
added_length n others [] counts = refl
added_length n others (x ∷ xs) counts =
    added_length n others xs (cond (holds others x) counts (add_at x n counts)) ∙ step_length (holds others x) counts x n

-- a number added to lines that ascend adds at most itself to the count of each line
pub added_le : (n : ℕ) (others lines : List ℕ) (counts : List (Option ℕ)) (line : ℕ) → ascends 0 lines ≡ true
    → count_or_zero (add_to_lines n others lines counts) line ≤ count_or_zero counts line + n
added_le n others lines counts line up =
    elim (cases_lt line (length counts)) [
      | inl low ↦ subst (λ c. unwrap_or c 0 ≤ count_or_zero counts line + n) (sym (added_law n others lines 0 counts line up low))
          (cond_both (not (holds others line) && holds lines line) (Some (count_or_zero counts line + n)) (count_at counts line)
          (λ c. unwrap_or c 0 ≤ count_or_zero counts line + n) (λ _. omega arith) (λ _. omega arith))
      | inr past ↦ (
          let none : count_at (add_to_lines n others lines counts) line ≡ None =
          get_or_past (add_to_lines n others lines counts) line None (omega (arith, added_length n others lines counts)) in
          let zero : count_or_zero (add_to_lines n others lines counts) line ≡ 0 = ap (λ c. unwrap_or c 0) none in
          omega (arith, zero))
    ]

-- an ascending list's members from an index on are above the one there
ascends_at : (low : ℕ) (lines : List ℕ) (i k : ℕ) → ascends low lines ≡ true → i < k → k < length lines → get_or lines i 0 < get_or lines k 0
ascends_at low [] i k up less within = absurd (omega arith)
ascends_at low (x ∷ xs) i zero up less within = absurd (omega arith)
ascends_at low (x ∷ xs) zero (suc k) up less within = above x xs k (and_parts (ltb low x) (ascends x xs) up).1 (omega arith)
  where
    above : (y : ℕ) (ys : List ℕ) (j : ℕ) → ascends y ys ≡ true → j < length ys → y < get_or ys j 0
    above y [] j g h = absurd (omega arith)
    above y (z ∷ zs) zero g h = ltb-true y z (and_parts (ltb y z) (ascends z zs) g).0
    above y (z ∷ zs) (suc j) g h =
        let parts = and_parts (ltb y z) (ascends z zs) g in
        let first : y < z = ltb-true y z parts.0 in
        let rest = above z zs j parts.1 (omega arith) in
        omega (arith, first, rest)
ascends_at low (x ∷ xs) (suc i) (suc k) up less within = ascends_at x xs i k (and_parts (ltb low x) (ascends x xs) up).1 (omega arith) (omega arith)

-- The counts of the lines that are still to come stay as they were.
pub fresh_more : (n : ℕ) (others lines : List ℕ) (counts first : List (Option ℕ)) (i : ℕ) → ascends 0 lines ≡ true
    → ((k : ℕ) → i ≤ k → k < length lines → count_or_zero counts (get_or lines k 0) ≡ count_or_zero first (get_or lines k 0))
    → (k : ℕ) → i + 1 ≤ k → k < length lines
    → count_or_zero (cond (holds others (get_or lines i 0)) counts (add_at (get_or lines i 0) n counts)) (get_or lines k 0) ≡ count_or_zero first (get_or lines k 0)
fresh_more n others lines counts first i up fresh k more within =
    let above = ascends_at 0 lines i k up (omega arith) within in
    ap (λ c. unwrap_or c 0) (other_kept (holds others (get_or lines i 0)) counts (get_or lines i 0) (get_or lines k 0) n (λ e. omega (arith, above)))
    ∙ fresh k (omega arith) within

-- lines that are begun have the count 0
begun_at : (lines : List ℕ) (counts : List (Option ℕ)) (line : ℕ) → line < length counts
    → count_at (begin_lines lines counts) line ≡ cond (holds lines line) (Some 0) (count_at counts line)
begun_at [] counts line low = refl
begun_at (x ∷ xs) counts line low =
    let next = set counts x (Some 0) in
    let rest = begun_at xs next line (omega (arith, length-set counts x (Some 0))) in
    elim (cases_eq line x) [
      | inl same ↦ (
          let P : ℕ → Type 0 = λ y. count_at next y ≡ Some 0 in
          let here = subst P (sym same) (get_or-set_same counts x (Some 0) None (omega arith)) in
          rest ∙ ap (λ c. cond (holds xs line) (Some 0) c) here ∙ one (holds xs line) (Some 0)
          ∙ sym (cond-true (holds (x ∷ xs) line) (Some 0) (count_at counts line) (or_left (eqb x line) (holds xs line) (eq-eqb x line (sym same)))))
      | inr differs ↦ rest
          ∙ ap (λ c. cond (holds xs line) (Some 0) c) (get_or-set_other counts x line (Some 0) None differs)
          ∙ ap (λ b. cond (b || holds xs line) (Some 0) (count_at counts line)) (sym (ne_eqb x line (λ e. differs (sym e))))
    ]
  where
    one : (b : Bool) (x : Option ℕ) → cond b x x ≡ x
    one true x = refl
    one false x = refl

-- how many counts there are stays where lines are begun
begun_length : (lines : List ℕ) (counts : List (Option ℕ)) → length (begin_lines lines counts) ≡ length counts
begun_length [] counts = refl
begun_length (x ∷ xs) counts = begun_length xs (set counts x (Some 0)) ∙ length-set counts x (Some 0)

-- some list holds the line
abbrev any_holds : List (List ℕ) → ℕ → Bool
any_holds lists line = list_any (λ lines. holds lines line) lists

-- lines that some list holds are begun, the others stay
all_begun_at : (lists : List (List ℕ)) (counts : List (Option ℕ)) (line : ℕ) → line < length counts
    → count_at (begin_all lists counts) line ≡ cond (any_holds lists line) (Some 0) (count_at counts line)
all_begun_at [] counts line low = refl
all_begun_at (lines ∷ lists) counts line low =
    all_begun_at lists (begin_lines lines counts) line (omega (arith, begun_length lines counts))
    ∙ ap (λ c. cond (any_holds lists line) (Some 0) c) (begun_at lines counts line low)
    ∙ joined (holds lines line) (any_holds lists line) (Some 0) (count_at counts line)
  where
    joined : (a b : Bool) (x y : Option ℕ) → cond b x (cond a x y) ≡ cond (a || b) x y
    joined true true x y = refl
    joined true false x y = refl
    joined false true x y = refl
    joined false false x y = refl

-- how many counts there are stays where all lists are begun
all_begun_length : (lists : List (List ℕ)) (counts : List (Option ℕ)) → length (begin_all lists counts) ≡ length counts
all_begun_length [] counts = refl
all_begun_length (lines ∷ lists) counts = all_begun_length lists (begin_lines lines counts) ∙ begun_length lines counts

-- Past the last of the lists nothing is left to begin.
pub all_begun_end : (lists : List (List ℕ)) (i : ℕ) (counts : List (Option ℕ)) → length lists ≤ i → begin_all (drop i lists) counts ≡ counts
all_begun_end lists i counts past = ap (λ l. begin_all l counts) (drop_all i lists past)

-- a line that no list holds isn't in the one at an index
none_holds : (lists : List (List ℕ)) (line i : ℕ) → any_holds lists line ≡ false → holds (get_or lists i []) line ≡ false
none_holds [] line i none = refl
none_holds (lines ∷ lists) line zero none = (or_parts (holds lines line) (any_holds lists line) none).0
none_holds (lines ∷ lists) line (suc i) none = none_holds lists line i (or_parts (holds lines line) (any_holds lists line) none).1

-- a list with no member
bare : (lines : List ℕ) → is_bare lines ≡ true → lines ≡ []
bare [] h = refl
bare (x ∷ xs) h = let e : suc (length xs) ≡ 0 = eqb-true (suc (length xs)) 0 h in absurd (omega arith)

-- the list of a block suits it
suits_at : (net : NetValue) → IsNet net → (block : ℕ) → block < net.blocks → suits block (lines_at net block) ≡ true
suits_at net is block low =
    let shape = HasShape-from_IsNet net is in
    let e : 0 + block ≡ block = omega arith in
    subst (λ b. suits b (lines_at net block) ≡ true) e (suits-from_Suit 0 net.lines shape.suit block (omega (arith, shape.lists)))

-- The lines of a net's block ascend.
pub lines_ascend : (net : NetValue) → IsNet net → (block : ℕ) → block < net.blocks → ascends 0 (lines_at net block) ≡ true
lines_ascend net is block low =
    elim (cases_lt block 2) [
      | inl outer ↦ ap (ascends 0) (bare (lines_at net block)
          (sym (cond-true (ltb block 2) (is_bare (lines_at net block)) (ascends 0 (lines_at net block)) (lt-ltb block 2 outer)) ∙ suits_at net is block low))
      | inr inner ↦ sym (cond-false (ltb block 2) (is_bare (lines_at net block)) (ascends 0 (lines_at net block)) (le-ltb block 2 inner)) ∙ suits_at net is block low
    ]

-- a block is of a line where its list holds it
of_line : (net : NetValue) → IsNet net → (block line : ℕ) → block < net.blocks → is_of_line net line block ≡ holds (lines_at net block) line
of_line net is block line low =
    elim (cases_lt block 2) [
      | inl outer ↦ (
          let none : holds (lines_at net block) line ≡ false = ap (λ lines. holds lines line) (bare (lines_at net block)
          (sym (cond-true (ltb block 2) (is_bare (lines_at net block)) (ascends 0 (lines_at net block)) (lt-ltb block 2 outer)) ∙ suits_at net is block low)) in
          and_right (ltb 1 block) (holds (lines_at net block) line) none ∙ sym none)
      | inr inner ↦ ap (λ b. b && holds (lines_at net block) line) (lt-ltb 1 block inner)
    ]

-- Both ends of an arc that isn't outside are blocks.
pub ends_within : (blocks : ℕ) (arc : FlowArc) → is_outside blocks arc ≡ false → (arc.from < blocks) × (arc.to < blocks)
ends_within blocks arc h =
    let last = or_parts (leb blocks arc.from || leb blocks arc.to || eqb arc.to 0) (eqb arc.from 1) h in
    let middle = or_parts (leb blocks arc.from || leb blocks arc.to) (eqb arc.to 0) last.0 in
    let first = or_parts (leb blocks arc.from) (leb blocks arc.to) middle.0 in
    (leb-false blocks arc.from first.0, leb-false blocks arc.to first.1)

-- Both ends of an arc of a net are blocks.
pub arc_within : (net : NetValue) → IsNet net → (i : ℕ) (d : FlowArc) → i < length net.arcs
    → ((get_or net.arcs i d).from < net.blocks) × ((get_or net.arcs i d).to < net.blocks)
arc_within net is i d low = ends_within net.blocks (get_or net.arcs i d) ((HasShape-from_IsNet net is).inside i d low)

-- an arc comes to the line from outside of it
abbrev enters : NetValue → ℕ → FlowArc → Bool
enters net line arc = not (is_of_line net line arc.from) && is_of_line net line arc.to

-- what a line's count is then
arc_law : (net : NetValue) → IsNet net → (arc : FlowArc) → is_outside net.blocks arc ≡ false → (n : ℕ) (counts : List (Option ℕ)) (line : ℕ) → line < length counts
    → count_at (add_arc net arc n counts) line ≡ cond (enters net line arc) (Some (count_or_zero counts line + n)) (count_at counts line)
arc_law net is arc inside n counts line low =
    let ends = ends_within net.blocks arc inside in
    added_law n (lines_at net arc.from) (lines_at net arc.to) 0 counts line (lines_ascend net is arc.to ends.1) low
    ∙ ap (λ b. cond (not b && holds (lines_at net arc.to) line) (Some (count_or_zero counts line + n)) (count_at counts line)) (sym (of_line net is arc.from line ends.0))
    ∙ ap (λ b. cond (not (is_of_line net line arc.from) && b) (Some (count_or_zero counts line + n)) (count_at counts line)) (sym (of_line net is arc.to line ends.1))

-- how many counts there are stays where an arc is added
arc_length : (net : NetValue) (arc : FlowArc) (n : ℕ) (counts : List (Option ℕ)) → length (add_arc net arc n counts) ≡ length counts
arc_length net arc n counts = added_length n (lines_at net arc.from) (lines_at net arc.to) counts

-- arcs with both ends among the blocks
abbrev AllInside : ℕ → List FlowArc → Type 0
AllInside blocks arcs = All (λ arc. is_outside blocks arc ≡ false) arcs

-- a count that was begun gets the counters of the arcs that enter the line
all_added_some : (net : NetValue) → IsNet net → (arcs : List FlowArc) → AllInside net.blocks arcs → (counters : List ℕ) (counts : List (Option ℕ)) (line count : ℕ)
    → line < length counts → count_at counts line ≡ Some count
    → count_at (add_arcs net arcs counters counts) line ≡ Some (count + total (enters net line) arcs counters)
all_added_some net is [] inside counters counts line count low was = was ∙ ap Some (omega arith)
all_added_some net is (arc ∷ arcs) inside [] counts line count low was = was ∙ ap Some (omega arith)
all_added_some net is (arc ∷ arcs) inside (n ∷ counters) counts line count low was =
    let here = All-head (λ a. is_outside net.blocks a ≡ false) arc arcs inside in
    let next = add_arc net arc n counts in
    let more : ℕ = cond (enters net line arc) n 0 in
    let is_next : count_at next line ≡ Some (count + more) =
    arc_law net is arc here n counts line low
    ∙ ap (λ c. cond (enters net line arc) (Some (unwrap_or c 0 + n)) c) was ∙ some_more (enters net line arc) in
    all_added_some net is arcs (All-tail (λ a. is_outside net.blocks a ≡ false) arc arcs inside) counters next line (count + more)
    (omega (arith, arc_length net arc n counts)) is_next
    ∙ ap Some (omega arith)
  where
    some_more : (b : Bool) → cond b (Some (count + n)) (Some count) ≡ Some (count + cond b n 0)
    some_more true = refl
    some_more false = ap Some (omega arith)

-- the count of a line of no block stays
all_added_none : (net : NetValue) → IsNet net → (arcs : List FlowArc) → AllInside net.blocks arcs → (counters : List ℕ) (counts : List (Option ℕ)) (line : ℕ)
    → line < length counts → any_holds net.lines line ≡ false → count_at (add_arcs net arcs counters counts) line ≡ count_at counts line
all_added_none net is [] inside counters counts line low none = refl
all_added_none net is (arc ∷ arcs) inside [] counts line low none = refl
all_added_none net is (arc ∷ arcs) inside (n ∷ counters) counts line low none =
    let here = All-head (λ a. is_outside net.blocks a ≡ false) arc arcs inside in
    let ends = ends_within net.blocks arc here in
    let next = add_arc net arc n counts in
    let not_to : is_of_line net line arc.to ≡ false = of_line net is arc.to line ends.1 ∙ none_holds net.lines line arc.to none in
    let not_in : enters net line arc ≡ false = and_right (not (is_of_line net line arc.from)) (is_of_line net line arc.to) not_to in
    all_added_none net is arcs (All-tail (λ a. is_outside net.blocks a ≡ false) arc arcs inside) counters next line
    (omega (arith, arc_length net arc n counts)) none
    ∙ arc_law net is arc here n counts line low
    ∙ cond-false (enters net line arc) (Some (count_or_zero counts line + n)) (count_at counts line) not_in

-- how many counts there are stays where all arcs are added
all_added_length : (net : NetValue) (arcs : List FlowArc) (counters : List ℕ) (counts : List (Option ℕ)) → length (add_arcs net arcs counters counts) ≡ length counts
all_added_length net [] counters counts = refl
all_added_length net (arc ∷ arcs) [] counts = refl
all_added_length net (arc ∷ arcs) (n ∷ counters) counts =
    all_added_length net arcs counters (add_arc net arc n counts) ∙ arc_length net arc n counts

-- The counters of one more arc.
pub all_added_more : (net : NetValue) (arcs : List FlowArc) (counters : List ℕ) (counts : List (Option ℕ)) (i : ℕ) (d : FlowArc)
    → i < length arcs → i < length counters
    → add_arcs net (drop i arcs) (drop i counters) counts
    ≡ add_arcs net (drop (i + 1) arcs) (drop (i + 1) counters) (add_arc net (get_or arcs i d) (get_or counters i 0) counts)
all_added_more net arcs counters counts i d in_arcs in_counters =
    at_drop_more (λ xs. add_arcs net xs (drop i counters) counts) arcs i d in_arcs
    ∙ at_drop_more (λ ns. add_arcs net (get_or arcs i d ∷ drop (i + 1) arcs) ns counts) counters i 0 in_counters

-- a line of these functions
abbrev coded : List ShownValue → ℕ → Bool
coded fs line = is_code_line fs line

-- lines of these functions are begun, the others stay
functions_begun_at : (fs : List ShownValue) (counts : List (Option ℕ)) (line : ℕ) → line < length counts
    → count_at (begin_functions fs counts) line ≡ cond (coded fs line) (Some 0) (count_at counts line)
functions_begun_at [] counts line low = refl
functions_begun_at (f ∷ fs) counts line low =
    functions_begun_at fs (begin_all f.net.lines counts) line (omega (arith, all_begun_length f.net.lines counts))
    ∙ ap (λ c. cond (coded fs line) (Some 0) c) (all_begun_at f.net.lines counts line low)
    ∙ both (any_holds f.net.lines line) (coded fs line) (Some 0) (count_at counts line)
  where
    both : (a b : Bool) (x y : Option ℕ) → cond b x (cond a x y) ≡ cond (a || b) x y
    both true true x y = refl
    both true false x y = refl
    both false true x y = refl
    both false false x y = refl

-- how many counts there are stays where all functions are begun
functions_begun_length : (fs : List ShownValue) (counts : List (Option ℕ)) → length (begin_functions fs counts) ≡ length counts
functions_begun_length [] counts = refl
functions_begun_length (f ∷ fs) counts =
    functions_begun_length fs (begin_all f.net.lines counts) ∙ all_begun_length f.net.lines counts

-- Counts that were begun are 0.
pub begun_zero : (fs : List ShownValue) (size line : ℕ) → count_or_zero (begin_functions fs (replicate size None)) line ≡ 0
begun_zero fs size line =
    elim (cases_lt line size) [
      | inl low ↦
          ap (λ c. unwrap_or c 0) (functions_begun_at fs (replicate size None) line (omega (arith, length-replicate {A = Option ℕ} size None)))
          ∙ ap (λ c. unwrap_or (cond (coded fs line) (Some 0) c) 0) (get_or-replicate size line None None low)
          ∙ zero (coded fs line)
      | inr past ↦ ap (λ c. unwrap_or c 0) (get_or_past (begin_functions fs (replicate size None)) line None
          (omega (arith, functions_begun_length fs (replicate size None), length-replicate {A = Option ℕ} size None)))
    ]
  where
    zero : (b : Bool) → ◌≡◌ {A = ℕ} (unwrap_or (cond b (Some 0) None) 0) 0
    zero true = refl
    zero false = refl

-- how many counts there are stays where all functions are added
functions_added_length : (fs : List ShownValue) (counts : List (Option ℕ)) → length (add_functions fs counts) ≡ length counts
functions_added_length [] counts = refl
functions_added_length (f ∷ fs) counts =
    functions_added_length fs (add_arcs f.net f.net.arcs f.counts counts) ∙ all_added_length f.net f.net.arcs f.counts counts

-- a count that was begun gets those of the arcs of all functions that enter the line
functions_added_some : (fs : List ShownValue) → All IsShown fs → (counts : List (Option ℕ)) (line count : ℕ)
    → line < length counts → count_at counts line ≡ Some count
    → count_at (add_functions fs counts) line ≡ Some (count + sum_by (entering line) fs)
functions_added_some [] all counts line count low was = was ∙ ap Some (omega arith)
functions_added_some (f ∷ fs) all counts line count low was =
    let here = All-head IsShown f fs all in
    let next = add_arcs f.net f.net.arcs f.counts counts in
    let is_next : count_at next line ≡ Some (count + entering line f) =
    all_added_some f.net here.net f.net.arcs (HasShape-from_IsNet f.net here.net).inside f.counts counts line count low was in
    functions_added_some fs (All-tail IsShown f fs all) next line (count + entering line f)
    (omega (arith, all_added_length f.net f.net.arcs f.counts counts)) is_next
    ∙ ap Some (omega (arith, sum_by-cons (entering line) f fs))

-- the count of a line of no function stays
functions_added_none : (fs : List ShownValue) → All IsShown fs → (counts : List (Option ℕ)) (line : ℕ)
    → line < length counts → coded fs line ≡ false → count_at (add_functions fs counts) line ≡ count_at counts line
functions_added_none [] all counts line low none = refl
functions_added_none (f ∷ fs) all counts line low none =
    let here = All-head IsShown f fs all in
    let parts = or_parts (any_holds f.net.lines line) (coded fs line) none in
    functions_added_none fs (All-tail IsShown f fs all) (add_arcs f.net f.net.arcs f.counts counts) line
    (omega (arith, all_added_length f.net f.net.arcs f.counts counts)) parts.1
    ∙ all_added_none f.net here.net f.net.arcs (HasShape-from_IsNet f.net here.net).inside f.counts counts line low parts.0

-- What the steps make is each line's count.
pub counts_law : (fs : List ShownValue) → All IsShown fs → (size line : ℕ) → line < size
    → count_at (add_functions fs (begin_functions fs (replicate size None))) line ≡ line_count fs line
counts_law fs all size line low =
    let first : List (Option ℕ) = replicate size None in
    let size_is : length first ≡ size = length-replicate size None in
    let begun_size : length (begin_functions fs first) ≡ size = functions_begun_length fs first ∙ size_is in
    let start : count_at (begin_functions fs first) line ≡ cond (coded fs line) (Some 0) None =
    functions_begun_at fs first line (omega arith) ∙ ap (λ c. cond (coded fs line) (Some 0) c) (get_or-replicate size line None None low) in
    elim (cases_Bool (coded fs line)) [
      | inl holds ↦
          functions_added_some fs all (begin_functions fs first) line 0 (omega arith) (start ∙ cond-true (coded fs line) (Some 0) None holds)
          ∙ ap Some (omega arith)
          ∙ sym (cond-true (coded fs line) (Some (sum_by (entering line) fs)) None holds)
      | inr none ↦
          functions_added_none fs all (begin_functions fs first) line (omega arith) none
          ∙ start ∙ cond-false (coded fs line) (Some 0) None none
          ∙ sym (cond-false (coded fs line) (Some (sum_by (entering line) fs)) None none)
    ]

-- After one more arc no count is above what it was and as many times the limit of a count.
pub arc_room : (net : NetValue) → IsNet net → (arc : FlowArc) (n : ℕ) (counts first : List (Option ℕ)) (i line : ℕ)
    → arc.to < net.blocks → n ≤ 2 ^ 80 → count_or_zero counts line ≤ count_or_zero first line + i * 2 ^ 80
    → count_or_zero (add_arc net arc n counts) line ≤ count_or_zero first line + (i + 1) * 2 ^ 80
arc_room net is arc n counts first i line low small room =
    let more = added_le n (lines_at net arc.from) (lines_at net arc.to) counts line (lines_ascend net is arc.to low) in
    omega (arith, more, small, room)
