-- What is spelled as the records of a file is read so.
use Rattle.std.proofs.Common.{◌≡◌, ◌<◌, ◌+◌, refl, sym, ap, subst, ◌∙◌, ℕ, zero, suc, true, false}
use Rattle.std.proofs.Common.{◌==◌, not, List, [], ◌∷◌, ◌++◌, length, Result, Ok}
use Rattle.std.proofs.Common.{append_assoc, arith}
use Rattle.std.specs.Prelude.{flat_map}
use Rattle.std.proofs.lemmas.Bool.{and_right, cond-true, cond-false, ne_eqb}
use Rattle.std.proofs.lemmas.List.{length-append}
use Rattle.gcov_items.specs.Items.{word_bytes}
use Rattle.gcov_records.specs.declared.fault.FileFault.{FileFault}
use Rattle.gcov_records.specs.Reading.{Got, Reading, on_got, ◌>>=◌, give}
use Rattle.gcov_records.proofs.Spelled.{word_spells}
use Rattle.gcno_format.specs.Marks.{Leaving}
use Rattle.gcno_format.specs.Spelling.{function_tag, arc_tag, line_tag, leaving_bytes}
use Rattle.gcno_format.specs.Layout.{LinesValue, LayoutValue, ProgressValue, begun, with_arcs, with_lines}
use Rattle.gcno_format.specs.Layout.{all_begun, is_due, is_without_lines}
use Rattle.gcno_format.specs.Reading.{fail, arcs_into, function_into, wrong_tag}
use Rattle.gcno_format.specs.Reading.{by_tag, next_record, is_over, records}
use Rattle.gcno_format.proofs.LineLaws.{record_bytes}
use Rattle.gcno_format.proofs.HeadLaws.{FitHead, behind_tag, head_spells}
use Rattle.gcno_format.proofs.RecordLaws.{FitLeaving, FitLines, behind_arcs, behind_lines, leaving_spells, lines_spell}
use Rattle.gcno_format.proofs.LayoutLaws.{arcs_behind_tag, lines_behind_tag, Leavings, LineRecords}
use Rattle.gcno_format.proofs.TakenLaws.{head_parts, head_joined}

-- a progress with what is left, as read
abbrev read : ProgressValue → List ℕ → ℕ → Result (Got ProgressValue) FileFault
read p rest at = Ok (record { value = p; rest = rest; at = at })

-- the next record is read
pub record Steps (p : ProgressValue) (bytes : List ℕ) (at : ℕ) (q : ProgressValue) (rest : List ℕ) : Type 0 where
  pub next : ℕ
  pub step : next_record p bytes at ≡ read q rest next
  pub less : length rest < length bytes

tagged : (p q : ProgressValue) (tag : ℕ) (behind rest bytes : List ℕ) (at next : ℕ) → tag < 4294967296
    → word_bytes tag ++ (behind ++ rest) ≡ bytes
    → by_tag p at tag (behind ++ rest) (at + length (word_bytes tag)) ≡ read q rest next → Steps p bytes at q rest
tagged p q tag behind rest bytes at next lt same h = record {
  next = next;
  step = ap (λ (l : List ℕ). next_record p l at) (sym same)
      ∙ (ap (λ o. on_got o (λ tag. by_tag p at tag)) (word_spells.again tag (behind ++ rest) at lt) ∙ h);
  less = (let e = ap length same in let l = length-append (word_bytes tag) (behind ++ rest) in
      let k = length-append behind rest in let w : length (word_bytes tag) ≡ 4 = refl in omega (arith, e, l, k, w));
}

pub arcs_step : (p : ProgressValue) (l : Leaving) (rest : List ℕ) (at : ℕ) → FitLeaving p.arcs_from l
    → is_without_lines p.now ≡ true → Steps p (leaving_bytes l ++ rest) at (with_arcs p l) rest
arcs_step p l rest at f bare =
    let start : ℕ = at + length (word_bytes arc_tag) in
    tagged p (with_arcs p l) arc_tag (behind_arcs l) rest (leaving_bytes l ++ rest) at
    (start + length (behind_arcs l)) (omega arith) (arcs_behind_tag l rest)
    (ap (λ (r : Reading ProgressValue). r (behind_arcs l ++ rest) start)
    (cond-true (is_without_lines p.now) (arcs_into p) (fail (wrong_tag p at)) bare)
    ∙ ap (λ o. on_got o (λ l. give (with_arcs p l))) ((leaving_spells p.arcs_from).again l rest start f))

pub lines_step : (p : ProgressValue) (r : LinesValue) (rest : List ℕ) (at : ℕ) → FitLines at p.lines_from r
    → Steps p (record_bytes r ++ rest) at (with_lines p r) rest
lines_step p r rest at f =
    let start : ℕ = at + length (word_bytes line_tag) in
    tagged p (with_lines p r) line_tag (behind_lines r) rest (record_bytes r ++ rest) at
    (start + length (behind_lines r)) (omega arith) (lines_behind_tag r rest)
    (ap (λ o. on_got o (λ r. give (with_lines p r))) ((lines_spell at p.lines_from).again r rest start f))

pub function_step : (p : ProgressValue) (l : LayoutValue) (rest : List ℕ) (at : ℕ) → p.next < 4294967296
    → is_due p ≡ true → FitHead at l
    → Steps p (head_parts p.next l ++ rest) at (begun (all_begun p) l (p.next + 1) p.count) rest
function_step p l rest at few due f =
    let start : ℕ = at + length (word_bytes function_tag) in
    tagged p (begun (all_begun p) l (p.next + 1) p.count) function_tag (behind_tag p.next l) rest
    (head_parts p.next l ++ rest) at (start + length (behind_tag p.next l)) (omega arith) (head_joined p.next l rest)
    (ap (λ (r : Reading ProgressValue). r (behind_tag p.next l ++ rest) start)
    (cond-true (is_due p) (function_into p at) (fail (wrong_tag p at)) due)
    ∙ ap (λ o. on_got o (λ now. give (begun (all_begun p) now (p.next + 1) p.count)))
    ((head_spells p.next at few).again l rest start f))

-- ---- many records

-- records are read up to here, and so many more may follow
pub record Reaches (n : ℕ) (p : ProgressValue) (bytes : List ℕ) (at : ℕ) (q : ProgressValue) (rest : List ℕ) : Type 0 where
  pub more : ℕ
  pub next : ℕ
  pub enough : length rest < more
  pub same : records n p bytes at ≡ records more q rest next

pub stays : (n : ℕ) (p : ProgressValue) (bytes : List ℕ) (at : ℕ) → length bytes < n → Reaches n p bytes at p bytes
stays n p bytes at lt = record { more = n; next = at; enough = lt; same = refl }

pub onward : (n : ℕ) (p q r : ProgressValue) (bytes rest last : List ℕ) (at : ℕ) (h : Reaches n p bytes at q rest)
    → Reaches h.more q rest h.next r last → Reaches n p bytes at r last
onward n p q r bytes rest last at h k =
    record { more = k.more; next = k.next; enough = k.enough; same = h.same ∙ k.same }

pub one_step : (n : ℕ) (p q : ProgressValue) (bytes rest : List ℕ) (at : ℕ) → length bytes < n
    → Steps p bytes at q rest → Reaches n p bytes at q rest
one_step zero p q bytes rest at lt s = absurd (omega (arith, lt))
one_step (suc n) p q bytes rest at lt s =
    let less = s.less in
    let here : is_over p bytes ≡ false =
    and_right (not (is_due p)) (length bytes == 0) (ne_eqb (length bytes) 0 (λ e. absurd (omega (arith, e, less)))) in
    record {
      more = n;
      next = s.next;
      enough = omega (arith, less, lt);
      same = cond-false (is_over p bytes) (give p bytes at) ((next_record p >>= λ q. records n q) bytes at) here
          ∙ ap (λ o. on_got o (λ q. records n q)) s.step;
    }

-- records of arcs
unfoldable pub with_leavings : ProgressValue → List Leaving → ProgressValue
with_leavings p [] = p
with_leavings p (l ∷ ls) = with_leavings (with_arcs p l) ls

pub leavings_reach : (n : ℕ) (p : ProgressValue) (ls : List Leaving) (end : ℕ) (rest : List ℕ) (at : ℕ)
    → Leavings p.arcs_from end ls → is_without_lines p.now ≡ true → length (flat_map leaving_bytes ls ++ rest) < n
    → Reaches n p (flat_map leaving_bytes ls ++ rest) at (with_leavings p ls) rest
unfolding with_leavings
leavings_reach n p [] end rest at h bare lt = stays n p rest at lt
leavings_reach n p (l ∷ ls) end rest at h bare lt =
    let split = append_assoc (leaving_bytes l) (flat_map leaving_bytes ls) rest in
    let here = one_step n p (with_arcs p l) (leaving_bytes l ++ (flat_map leaving_bytes ls ++ rest))
    (flat_map leaving_bytes ls ++ rest) at (subst (λ (b : List ℕ). length b < n) split lt)
    (arcs_step p l (flat_map leaving_bytes ls ++ rest) at h.0 bare) in
    subst (λ (b : List ℕ). Reaches n p b at (with_leavings (with_arcs p l) ls) rest) (sym split)
    (onward n p (with_arcs p l) (with_leavings (with_arcs p l) ls) (leaving_bytes l ++ (flat_map leaving_bytes ls ++
    rest)) (flat_map leaving_bytes ls ++ rest) rest at here
    (leavings_reach here.more (with_arcs p l) ls end rest here.next h.1 bare here.enough))

-- the same records of lines, but for their places
abbrev pub SameLines : List LinesValue → List LinesValue → Type 0
SameLines [] [] = Unit {0}
SameLines (r ∷ rs) (q ∷ qs) = (q.block ≡ r.block) × (q.lines ≡ r.lines) × SameLines rs qs
SameLines _ _ = ⊥

unfoldable pub with_records : ProgressValue → List LinesValue → ProgressValue
with_records p [] = p
with_records p (r ∷ rs) = with_records (with_lines p r) rs

-- records of lines were read
pub record ReachesLines (n : ℕ) (p : ProgressValue) (rs : List LinesValue) (rest : List ℕ) (at : ℕ) : Type 0 where
  pub lines : List LinesValue
  pub alike : SameLines rs lines
  pub reaches : Reaches n p (flat_map record_bytes rs ++ rest) at (with_records p lines) rest

pub lines_reach : (n : ℕ) (p : ProgressValue) (rs : List LinesValue) (end : ℕ) (rest : List ℕ) (at : ℕ)
    → LineRecords p.lines_from end rs → length (flat_map record_bytes rs ++ rest) < n
    → ReachesLines n p rs rest at
unfolding with_records
lines_reach n p [] end rest at h lt = record { lines = []; alike = tt; reaches = stays n p rest at lt }
lines_reach n p (r ∷ rs) end rest at h lt =
    let m : LinesValue = record { place = at; block = r.block; lines = r.lines } in
    let f = h.0 in
    let fit : FitLines at p.lines_from m =
    record { here = refl; word = f.word; order = f.order; some = f.some; short = f.short; lines = f.lines } in
    let split = append_assoc (record_bytes r) (flat_map record_bytes rs) rest in
    let here = one_step n p (with_lines p m) (record_bytes r ++ (flat_map record_bytes rs ++ rest))
    (flat_map record_bytes rs ++ rest) at (subst (λ (b : List ℕ). length b < n) split lt)
    (lines_step p m (flat_map record_bytes rs ++ rest) at fit) in
    let more = lines_reach here.more (with_lines p m) rs end rest here.next h.1 here.enough in
    record {
      lines = m ∷ more.lines;
      alike = (refl, refl, more.alike);
      reaches = subst (λ (b : List ℕ). Reaches n p b at (with_records (with_lines p m) more.lines) rest) (sym split)
          (onward n p (with_lines p m) (with_records (with_lines p m) more.lines)
          (record_bytes r ++ (flat_map record_bytes rs ++ rest)) (flat_map record_bytes rs ++ rest) rest at here
          more.reaches);
    }
