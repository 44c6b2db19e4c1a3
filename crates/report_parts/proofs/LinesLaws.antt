-- Laws of the lines of a text, and of the text that the report has of them.
use Rattle.std.proofs.Common.{◌≡◌, ℕ, suc, ◌+◌, ◌-◌, ◌<◌, ◌≤◌, ◌==◌, Bool, true, false, if◌then◌else◌, cond, nat_lt, List, [], ◌∷◌, ◌++◌, length, take, drop, Option, Some, None, refl, ap₂, arith, length-drop, add-one}
use Rattle.std.proofs.Math.Numerals.{one-add}
use Rattle.std.proofs.lemmas.List.{take_all}
use Rattle.std.proofs.lemmas.Bool.{ltb-true, ltb-false}
use Rattle.std.proofs.Common.{zero, ap, codes}
use Rattle.std.specs.List.{position, position_or_len, count_by, sum_by}
use Rattle.std.proofs.lemmas.List.Sums.{sum_by-cons}
use Rattle.prime_paths.specs.Lister.{numbers}
use Rattle.report_parts.specs.declared.sums.Part.TheVariants as part
use Rattle.report_parts.specs.Shown.{ShownValue}
use Rattle.report_parts.specs.Summary.{summary_by, sum_line, lines_with, is_told, is_run, amount}
use Rattle.report_parts.specs.Lines.{is_newline}
use Rattle.report_parts.specs.Lines.{lines_in, onto_first, report_line, report_lines, count_text}

-- the place of the first newline, or the length where there is none
abbrev end_of : List ℕ → ℕ
end_of text = position_or_len is_newline text

-- the lines of a text that begins with a newline
cut_at_newline : (b : ℕ) (text : List ℕ) → (b == 10) ≡ true → lines_in (b ∷ text) ≡ take (end_of (b ∷ text)) (b ∷ text) ∷ lines_in (drop (end_of (b ∷ text) + 1) (b ∷ text))
cut_at_newline b text e = rw e

-- the lines of a text that begins with another byte, where those of the rest are known
cut_behind : (b : ℕ) (text : List ℕ) → (b == 10) ≡ false → lines_in text ≡ take (end_of text) text ∷ lines_in (drop (end_of text + 1) text) → lines_in (b ∷ text) ≡ take (end_of (b ∷ text)) (b ∷ text) ∷ lines_in (drop (end_of (b ∷ text) + 1) (b ∷ text))
cut_behind b text e rest = rw (e, one-add, add-one, (rw add-one at rest))

-- the first line of a text ends at the first newline
lines_in-cut : (text : List ℕ) → end_of text < length text → lines_in text ≡ take (end_of text) text ∷ lines_in (drop (end_of text + 1) text)
lines_in-cut [] inside = absurd (omega arith)
lines_in-cut (b ∷ text) inside =
    (elim (b == 10) as (λ t. (b == 10) ≡ t → lines_in (b ∷ text) ≡ take (end_of (b ∷ text)) (b ∷ text) ∷ lines_in (drop (end_of (b ∷ text) + 1) (b ∷ text))) [
      | true ↦ λ e. cut_at_newline b text e
      | false ↦ λ e. cut_behind b text e (lines_in-cut text (omega (arith, rw e at inside)))
    ]) refl

-- the lines of a text without a newline
abbrev last_piece : List ℕ → List (List ℕ)
last_piece [] = []
last_piece (b ∷ text) = (b ∷ text) ∷ []

-- a byte in front of the last piece
onto_first-last_piece : (b : ℕ) (text : List ℕ) → onto_first b (last_piece text) ≡ (b ∷ text) ∷ []
onto_first-last_piece b [] = refl
onto_first-last_piece b (c ∷ text) = refl

-- a text that begins with no newline, where the rest is a last piece
last_behind : (b : ℕ) (text : List ℕ) → (b == 10) ≡ false → lines_in text ≡ last_piece text → lines_in (b ∷ text) ≡ (b ∷ text) ∷ []
last_behind b text e rest = rw (e, rest) (onto_first-last_piece b text)

-- a text without a newline is a last piece
lines_in-last : (text : List ℕ) → length text ≤ end_of text → lines_in text ≡ last_piece text
lines_in-last [] none = refl
lines_in-last (b ∷ text) none =
    (elim (b == 10) as (λ t. (b == 10) ≡ t → lines_in (b ∷ text) ≡ last_piece (b ∷ text)) [
      | true ↦ λ e. absurd (omega (arith, rw e at none))
      | false ↦ λ e. last_behind b text e (lines_in-last text (omega (arith, rw e at none)))
    ]) refl

-- what is left behind a place is all that the text has from there on
rest_all : (text : List ℕ) (i : ℕ) → take (length text - i) (drop i text) ≡ drop i text
rest_all text i = take_all (length text - i) (drop i text) (omega (arith, length-drop i text))

-- the first line ends at the place of the first newline
line_at : (text : List ℕ) (i : ℕ) (t : Bool) → nat_lt (end_of text) (length text) ≡ t → Some i ≡ cond t (Some (end_of text)) None → lines_in text ≡ take i text ∷ lines_in (drop (i + 1) text)
line_at text i true inside found =
    let e : i ≡ end_of text = cc in
    rw e (lines_in-cut text (ltb-true (end_of text) (length text) inside))
line_at text i false inside found = absurd (let wrong : ⊥ = cc in wrong)

-- the first line of a text with a newline, and what is left
pub lines_in-found : (text : List ℕ) (i : ℕ) → Some i ≡ position is_newline text → lines_in text ≡ take i text ∷ lines_in (take (length text - (i + 1)) (drop (i + 1) text))
lines_in-found text i found =
    rw rest_all (line_at text i (nat_lt (end_of text) (length text)) refl found)

-- a text without a newline that isn't empty is one line
line_whole : (text : List ℕ) (t : Bool) → nat_lt (end_of text) (length text) ≡ t → None ≡ cond t (Some (end_of text)) None → 0 < length text → lines_in text ≡ text ∷ []
line_whole text true inside none some = absurd (let wrong : ⊥ = cc in wrong)
line_whole [] false inside none some = absurd (omega arith)
line_whole (b ∷ text) false inside none some =
    lines_in-last (b ∷ text) (ltb-false (end_of (b ∷ text)) (length (b ∷ text)) inside)

-- the same, where no newline is found
pub lines_in-none : (text : List ℕ) → None ≡ position is_newline text → 0 < length text → lines_in text ≡ text ∷ []
lines_in-none text none some = line_whole text (nat_lt (end_of text) (length text)) refl none some

-- a list of lines isn't longer than its text
length-onto_first : (b : ℕ) (lines : List (List ℕ)) → length (onto_first b lines) ≤ suc (length lines)
length-onto_first b [] = omega arith
length-onto_first b (line ∷ lines) = omega arith

-- a byte in front adds at most a line
length-step : (t : Bool) (b : ℕ) (lines : List (List ℕ)) (n : ℕ) → length lines ≤ n → length (if t then [] ∷ lines else onto_first b lines) ≤ suc n
length-step true b lines n h = omega arith
length-step false b lines n h = omega (arith, length-onto_first b lines)

-- a text has at most as many lines as bytes
pub length-lines_in : (text : List ℕ) → length (lines_in text) ≤ length text
length-lines_in [] = omega arith
length-lines_in (b ∷ text) = length-step (b == 10) b (lines_in text) (length text) (length-lines_in text)

-- the text of the lines is the same under counts that are the same at their numbers
pub report_lines-same : (f g : ℕ → Option ℕ) (number : ℕ) (lines : List (List ℕ)) → ((k : ℕ) → number ≤ k → k < number + length lines → f k ≡ g k) → report_lines f number lines ≡ report_lines g number lines
report_lines-same f g number [] same = refl
report_lines-same f g number (line ∷ lines) same =
    ap₂ (λ (count : Option ℕ) (rest : List ℕ). report_line (count_text count) number line ++ rest)
    (same number (omega arith) (omega arith))
    (report_lines-same f g (number + 1) lines (λ k from below. same k (omega arith) (omega arith)))

-- how many numbers pass a test is the same under tests that are the same at these numbers
pub count_by-same : (f g : ℕ → Bool) (from n : ℕ) → ((k : ℕ) → from ≤ k → k < from + n → f k ≡ g k)
    → count_by f (numbers from n) ≡ count_by g (numbers from n)
count_by-same f g from zero same = refl
count_by-same f g from (suc n) same =
    let first : cond (f from) 1 0 ≡ cond (g from) 1 0 = ap (λ (b : Bool). cond {A = ℕ} b 1 0) (same from (omega arith) (omega arith)) in
    let rest = count_by-same f g (suc from) n (λ k low high. same k (omega (arith, low)) (omega (arith, high))) in
    omega (
      arith,
      first,
      rest,
      sum_by-cons (λ k. cond (f k) 1 0) from (numbers (suc from) n),
      sum_by-cons (λ k. cond (g k) 1 0) from (numbers (suc from) n),
    )

-- The sums of a report are the same under counts that are the same at the numbers of its lines.
pub summary-same : (f g : ℕ → Option ℕ) (lines : ℕ) (functions : List ShownValue) → ((k : ℕ) → k < 1 + lines → f k ≡ g k)
    → summary_by f lines functions ≡ summary_by g lines functions
unfolding summary_by
summary-same f g lines functions same =
    let told : lines_with is_told f lines ≡ lines_with is_told g lines =
    count_by-same (λ k. is_told (f k)) (λ k. is_told (g k)) 1 lines (λ k low high. ap is_told (same k high)) in
    let run : lines_with is_run f lines ≡ lines_with is_run g lines =
    count_by-same (λ k. is_run (f k)) (λ k. is_run (g k)) 1 lines (λ k low high. ap is_run (same k high)) in
    ap₂ (λ (a b : ℕ). sum_line (codes "lines") a b
    ++ (sum_line (codes "branches") (sum_by (amount part.BranchesTaken) functions) (sum_by (amount part.Branches) functions)
    ++ (sum_line (codes "calls") (sum_by (amount part.CallsBack) functions) (sum_by (amount part.Calls) functions)
    ++ sum_line (codes "paths") (sum_by (amount part.PathsCovered) functions) (sum_by (amount part.Paths) functions))))
    run told
