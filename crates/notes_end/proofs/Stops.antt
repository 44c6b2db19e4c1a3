-- Where Extra is told, a whole file stands in front.
use Rattle.std.proofs.Common.{◌≡◌, ◌≢◌, ◌≤◌, ◌<◌, ◌+◌, refl, sym, ap, subst, ◌∙◌, ℕ, zero, suc, Bool, true, false}
use Rattle.std.proofs.Common.{cond, ◌&&◌, ◌==◌, not, List, [], ◌∷◌, ◌++◌, length, Result, Ok, Err, append_assoc, arith}
use Rattle.std.proofs.lemmas.Bool.{and_from, and_right, or_from, not_from_false, cond-true, cond-false, eqb-false}
use Rattle.std.proofs.lemmas.Bool.{ne_eqb}
use Rattle.std.proofs.lemmas.List.{length-append}
use Rattle.gcov_items.specs.Items.{word_bytes}
use Rattle.gcov_records.specs.declared.fault.FileFault.{FileFault}
use Rattle.gcov_records.specs.declared.fault.FileFault.TheVariants as fault
use Rattle.gcov_records.specs.Reading.{Got, Reading, on_got, ◌>>=◌, give, word, fixed, ended}
use Rattle.gcov_records.proofs.Spelled.{IsBytes, word_spells}
use Rattle.gcov_records.proofs.Steady.{Steady, Holds, word_steady, fixed_steady}
use Rattle.gcno_format.specs.Spelling.{magic, version, function_tag, arc_tag, line_tag}
use Rattle.gcno_format.specs.Layout.{LayoutValue, FileValue, ProgressValue, begun, all_begun, is_due, is_without_lines}
use Rattle.gcno_format.specs.Reading.{fail, arcs_into, lines_into, function_into, wrong_tag, by_tag, next_record}
use Rattle.gcno_format.specs.Reading.{is_over}
use Rattle.gcno_format.specs.Reading.{records, first_function, limit_word, notes_file, laid_out}
use Rattle.gcno_format.proofs.LayoutLaws.{FitProgress}
use Rattle.gcno_format.proofs.TakenLaws.{record_taken, records_taken, first_bytes, first_taken, first_fits}
use Rattle.gcno_format.proofs.FileLaws.{from_functions, from_count, from_limit, from_stamp, from_version}
use Rattle.notes_end.specs.Ends.{IsBarred, EndsBefore, HasBehind}
use Rattle.notes_end.proofs.Stands.{Stands, Local, word_local, fixed_local, limit_local, limit_steady}
use Rattle.notes_end.proofs.Stands.{first_local, first_steady, record_local, arcs_steady, line_steady, function_steady}

-- no item by itself is Extra
no_extra : {A : Type 0} (item : Reading A) (bytes : List ℕ) (at n : ℕ) → Steady item
    → item bytes at ≡ Err (fault.Extra n) → ⊥
no_extra item bytes at n s e = subst (Holds item bytes at) e (s.holds bytes at)

-- records end within the bytes, and the last of them doesn't go on with what stands there
pub record Cut (p : ProgressValue) (bytes : List ℕ) (at k : ℕ) : Type 0 where
  pub front : List ℕ
  pub more : List ℕ
  pub last : ProgressValue
  pub parts : bytes ≡ front ++ more
  pub size : k ≡ at + length front
  pub reads : (n : ℕ) → length front < n → records n p front at ≡ Ok (record { value = last; rest = []; at = k })
  pub barred : IsBarred last.now more

-- a record before those that end
cut_on : (p : ProgressValue) (q : Got ProgressValue) (bytes : List ℕ) (at k : ℕ) → Stands (next_record p) bytes at q
    → length q.rest < length bytes → Cut q.value q.rest q.at k → Cut p bytes at k
cut_on p q bytes at k a less c =
    let sum = length-append a.front c.front in
    let place = a.place in
    let size = c.size in
    record {
      front = a.front ++ c.front;
      more = c.more;
      last = c.last;
      parts = a.parts ∙ (ap (λ (l : List ℕ). a.front ++ l) c.parts ∙ sym (append_assoc a.front c.front c.more));
      size = omega (arith, sum, place, size);
      reads = reads;
      barred = c.barred;
    }
  where
    some : 0 < length a.front
    some =
        let e = ap length a.parts in
        let l = length-append a.front q.rest in
        omega (arith, e, l, less)

    here : is_over p (a.front ++ c.front) ≡ false
    here =
        let l = length-append a.front c.front in
        and_right (not (is_due p)) (length (a.front ++ c.front) == 0)
        (ne_eqb (length (a.front ++ c.front)) 0 (λ e. absurd (omega (arith, e, l, some))))

    reads : (n : ℕ) → length (a.front ++ c.front) < n
        → records n p (a.front ++ c.front) at ≡ Ok (record { value = c.last; rest = []; at = k })
    reads zero lt = absurd (omega (arith, lt))
    reads (suc m) lt =
        let l = length-append a.front c.front in
        cond-false (is_over p (a.front ++ c.front)) (give p (a.front ++ c.front) at)
        ((next_record p >>= λ q. records m q) (a.front ++ c.front) at) here
        ∙ (ap (λ o. on_got o (λ q. records m q)) (a.again c.front) ∙ c.reads m (omega (arith, l, lt, some)))

-- no record follows
stopped : (p : ProgressValue) (bytes : List ℕ) (at k : ℕ) → IsBytes bytes → next_record p bytes at ≡ Err (fault.Extra k)
    → Cut p bytes at k
stopped p bytes at k fits e = go (word bytes at) refl e
  where
    none_left : (g : Got ℕ) → word bytes at ≡ Ok g → is_due p ≡ false → at ≡ k
        → ((g.value == arc_tag) && is_without_lines p.now) ≡ false → (g.value == line_tag) ≡ false → Cut p bytes at k
    none_left g h d same t u =
        let w = word_spells.takes bytes at g fits h in
        let lt = w.1 in
        record {
          front = [];
          more = bytes;
          last = p;
          parts = refl;
          size = omega (arith, same);
          reads = reads;
          barred = record {
            tag = g.value;
            rest = g.rest;
            word = omega (arith, lt);
            parts = w.0;
            none = or_from (g.value == line_tag) ((g.value == arc_tag) && is_without_lines p.now) u t;
          };
        }
      where
        reads : (n : ℕ) → length {A = ℕ} [] < n
            → records n p [] at ≡ Ok (record { value = p; rest = []; at = k })
        reads zero lt = absurd (omega (arith, lt))
        reads (suc m) lt =
            cond-true (is_over p []) (give p [] at) ((next_record p >>= λ q. records m q) [] at)
            (and_from (not (is_due p)) (length {A = ℕ} [] == 0) (not_from_false (is_due p) d) refl)
            ∙ ap (λ a. Ok (record { value = p; rest = []; at = a })) same

    same : (g : Got ℕ) → fail {A = ProgressValue} (fault.Extra at) g.rest g.at ≡ Err (fault.Extra k) → at ≡ k
    same g f = cc

    over : (g : Got ℕ) → word bytes at ≡ Ok g → ((g.value == arc_tag) && is_without_lines p.now) ≡ false
        → (g.value == line_tag) ≡ false → (x : Bool) → is_due p ≡ x
        → fail {A = ProgressValue} (cond x (fault.Tag at) (fault.Extra at)) g.rest g.at ≡ Err (fault.Extra k)
        → Cut p bytes at k
    over g h t u true d f = absurd cc
    over g h t u false d f = none_left g h d (same g f) t u

    functions : (g : Got ℕ) → word bytes at ≡ Ok g → ((g.value == arc_tag) && is_without_lines p.now) ≡ false
        → (g.value == line_tag) ≡ false → (x : Bool)
        → cond x (function_into p at) (fail (wrong_tag p at)) g.rest g.at ≡ Err (fault.Extra k) → Cut p bytes at k
    functions g h t u true f = absurd (no_extra (function_into p at) g.rest g.at k (function_steady p at) f)
    functions g h t u false f = over g h t u (is_due p) refl f

    lines : (g : Got ℕ) → word bytes at ≡ Ok g → ((g.value == arc_tag) && is_without_lines p.now) ≡ false
        → (x : Bool) → (g.value == line_tag) ≡ x
        → cond x (lines_into p at) (cond ((g.value == function_tag) && is_due p) (function_into p at)
        (fail (wrong_tag p at))) g.rest g.at ≡ Err (fault.Extra k) → Cut p bytes at k
    lines g h t true u f = absurd (no_extra (lines_into p at) g.rest g.at k (line_steady p at) f)
    lines g h t false u f = functions g h t u ((g.value == function_tag) && is_due p) f

    arcs : (g : Got ℕ) → word bytes at ≡ Ok g → (x : Bool) → ((g.value == arc_tag) && is_without_lines p.now) ≡ x
        → cond x (arcs_into p) (cond (g.value == line_tag) (lines_into p at)
        (cond ((g.value == function_tag) && is_due p) (function_into p at) (fail (wrong_tag p at)))) g.rest g.at
        ≡ Err (fault.Extra k) → Cut p bytes at k
    arcs g h true t f = absurd (no_extra (arcs_into p) g.rest g.at k (arcs_steady p) f)
    arcs g h false t f = lines g h t (g.value == line_tag) refl f

    go : (o : Result (Got ℕ) FileFault) → word bytes at ≡ o → on_got o (λ tag. by_tag p at tag) ≡ Err (fault.Extra k)
        → Cut p bytes at k
    go (Err found) h f =
        absurd (no_extra word bytes at k word_steady
        (h ∙ (let same : found ≡ fault.Extra k = cc in ap (λ (x : FileFault). Err x) same)))
    go (Ok g) h f = arcs g h ((g.value == arc_tag) && is_without_lines p.now) refl f

records_cut : (n : ℕ) (p : ProgressValue) (bytes : List ℕ) (at k : ℕ) → FitProgress p → IsBytes bytes
    → records n p bytes at ≡ Err (fault.Extra k) → Cut p bytes at k
records_cut zero p bytes at k fit fits e = absurd cc
records_cut (suc n) p bytes at k fit fits e =
    go (is_over p bytes) e (λ q. records_cut n q.value q.rest q.at k)
  where
    step : (o : Result (Got ProgressValue) FileFault) → next_record p bytes at ≡ o
        → on_got o (λ q. records n q) ≡ Err (fault.Extra k)
        → ((q : Got ProgressValue) → FitProgress q.value → IsBytes q.rest
        → records n q.value q.rest q.at ≡ Err (fault.Extra k) → Cut q.value q.rest q.at k)
        → Cut p bytes at k
    step (Ok q) h f ih =
        let t = record_taken p bytes at q fit fits h in
        cut_on p q bytes at k ((record_local p fit).stands bytes at q fits h) t.less (ih q t.fits t.left f)
    step (Err found) h f ih =
        stopped p bytes at k fits
        (h ∙ (let same : found ≡ fault.Extra k = cc in ap (λ (x : FileFault). Err x) same))

    go : (x : Bool) → cond x (give p bytes at) ((next_record p >>= λ q. records n q) bytes at) ≡ Err (fault.Extra k)
        → ((q : Got ProgressValue) → FitProgress q.value → IsBytes q.rest
        → records n q.value q.rest q.at ≡ Err (fault.Extra k) → Cut q.value q.rest q.at k)
        → Cut p bytes at k
    go true f ih = absurd cc
    go false f ih = step (next_record p bytes at) refl f ih

-- ---- files

-- A file ends within the bytes and doesn't go on with what stands there; it is read wherever the number of records that
-- may follow, and so much more, is above the number of its bytes.
pub record Stopped (after : ℕ → Reading FileValue) (room : ℕ) (bytes : List ℕ) (at k : ℕ) : Type 0 where
  pub front : List ℕ
  pub more : List ℕ
  pub file : FileValue
  pub parts : bytes ≡ front ++ more
  pub size : k ≡ at + length front
  pub some : more ≢ []
  pub reads : (n : ℕ) → length front < n + room → ended (after n front at) ≡ Ok file
  pub ends : EndsBefore file.functions more

abbrev pub together : ℕ → ℕ → List LayoutValue → FileValue
together stamp limit functions = record { stamp = stamp; limit = limit; functions = functions }

-- what a function is that is the last of some
pub ends_last : (before : List LayoutValue) (l : LayoutValue) (bytes : List ℕ)
    → EndsBefore (before ++ l ∷ []) bytes ≡ IsBarred l bytes
ends_last [] l bytes = refl
ends_last (b ∷ []) l bytes = refl
ends_last (b ∷ c ∷ before) l bytes = ends_last (c ∷ before) l bytes

-- bytes that begin with a word
pub some_word : (l : LayoutValue) (bytes : List ℕ) → IsBarred l bytes → bytes ≢ []
some_word l bytes b z =
    let e = ap length b.parts in
    let none = ap length z in
    let sum = length-append (word_bytes b.tag) b.rest in
    let w : length (word_bytes b.tag) ≡ 4 = refl in
    let nil : length {A = ℕ} [] ≡ 0 = refl in
    absurd (omega (arith, e, none, sum, w, nil))

-- bytes behind what was read whole
left_over : {A : Type 0} (x : Bool) (n : ℕ) (value : A) (at k : ℕ) → (n == 0) ≡ x
    → cond x (Ok value) (Err (fault.Extra at)) ≡ Err (fault.Extra k) → (n ≢ 0) × (at ≡ k)
left_over true n value at k t e = absurd cc
left_over false n value at k t e = (eqb-false n 0 t, cc)

-- after the items in front of records
abbrev pub behind_first : ℕ → ℕ → LayoutValue → Reading (List LayoutValue)
behind_first count n now = records n (begun [] now 1 count) >>= λ p. give (all_begun p)

functions_stopped : (most count stamp limit : ℕ) (bytes : List ℕ) (at k : ℕ) → IsBytes bytes → count < 4294967296
    → length bytes < most → ended (from_functions most stamp limit count bytes at) ≡ Err (fault.Extra k)
    → Stopped (λ n. from_functions n stamp limit count) 0 bytes at k
functions_stopped most zero stamp limit bytes at k fits few lt e =
    let h = left_over (length bytes == 0) (length bytes) (together stamp limit []) at k refl e in
    let same = h.1 in
    record {
      front = [];
      more = bytes;
      file = together stamp limit [];
      parts = refl;
      size = omega (arith, same);
      some = λ z. h.0 (ap length z);
      reads = λ n le. refl;
      ends = tt;
    }
functions_stopped most (suc c) stamp limit bytes at k fits few lt e = go (first_function bytes at) refl e
  where
    first : (g : Got LayoutValue) → first_function bytes at ≡ Ok g
        → Cut (begun [] g.value 1 (suc c)) g.rest g.at k
        → Stopped (λ n. from_functions n stamp limit (suc c)) 0 bytes at k
    first g h u =
        let a = first_local.stands bytes at g fits h in
        let sum = length-append a.front u.front in
        let place = a.place in
        let size = u.size in
        record {
          front = a.front ++ u.front;
          more = u.more;
          file = together stamp limit (all_begun u.last);
          parts = a.parts ∙ (ap (λ (l : List ℕ). a.front ++ l) u.parts ∙ sym (append_assoc a.front u.front u.more));
          size = omega (arith, sum, place, size);
          some = some_word u.last.now u.more u.barred;
          reads = λ n le.
              ap (λ o. ended (on_got (on_got o (behind_first (suc c) n)) (λ fs. give (together stamp limit fs))))
              (a.again u.front)
              ∙ ap (λ o. ended (on_got (on_got o (λ p. give (all_begun p))) (λ fs. give (together stamp limit fs))))
              (u.reads n (omega (arith, sum, le)));
          ends = subst (λ (P : Type 0). P) (sym (ends_last u.last.before u.last.now u.more)) u.barred;
        }

    rest_of : (g : Got LayoutValue) (o : Result (Got ProgressValue) FileFault)
        → first_function bytes at ≡ Ok g → records most (begun [] g.value 1 (suc c)) g.rest g.at ≡ o
        → ended (on_got (on_got o (λ p. give (all_begun p))) (λ fs. give (together stamp limit fs)))
        ≡ Err (fault.Extra k) → Stopped (λ n. from_functions n stamp limit (suc c)) 0 bytes at k
    rest_of g (Ok q) h r f =
        let t = first_taken bytes at g fits h in
        let i = ap length t.0 in
        let j = length-append (first_bytes g.value) g.rest in
        let all = records_taken most (begun [] g.value 1 (suc c)) g.rest g.at q
        (first_fits g.value (suc c) at t.1 (omega arith) few) t.2 (omega (arith, i, j, lt)) r in
        absurd ((left_over (length q.rest == 0) (length q.rest) (together stamp limit (all_begun q.value)) q.at k refl
        f).0 (ap length all.over))
    rest_of g (Err found) h r f =
        let t = first_taken bytes at g fits h in
        first g h (records_cut most (begun [] g.value 1 (suc c)) g.rest g.at k
        (first_fits g.value (suc c) at t.1 (omega arith) few) t.2
        (r ∙ (let same : found ≡ fault.Extra k = cc in ap (λ (x : FileFault). Err x) same)))

    go : (o : Result (Got LayoutValue) FileFault) → first_function bytes at ≡ o
        → ended (on_got (on_got o (behind_first (suc c) most)) (λ fs. give (together stamp limit fs)))
        ≡ Err (fault.Extra k) → Stopped (λ n. from_functions n stamp limit (suc c)) 0 bytes at k
    go (Ok g) h f = rest_of g (records most (begun [] g.value 1 (suc c)) g.rest g.at) h refl f
    go (Err found) h f =
        absurd (no_extra first_function bytes at k first_steady
        (h ∙ (let same : found ≡ fault.Extra k = cc in ap (λ (x : FileFault). Err x) same)))

-- an item before the rest of a file
then_stopped : {A : Type 0} (item : Reading A) (now : A → Reading FileValue) (after : ℕ → A → Reading FileValue)
    (inner outer : ℕ) (bytes : List ℕ) (at k : ℕ) → Local item → Steady item → IsBytes bytes
    → ((g : Got A) → item bytes at ≡ Ok g → (s : Stands item bytes at g) → outer ≤ inner + length s.front)
    → ((g : Got A) → item bytes at ≡ Ok g → Stands item bytes at g
    → ended (now g.value g.rest g.at) ≡ Err (fault.Extra k) → Stopped (λ n. after n g.value) inner g.rest g.at k)
    → ended ((item >>= now) bytes at) ≡ Err (fault.Extra k) → Stopped (λ n. item >>= after n) outer bytes at k
then_stopped {A} item now after inner outer bytes at k l s fits wide next e = go (item bytes at) refl e
  where
    go : (o : Result (Got A) FileFault) → item bytes at ≡ o → ended (on_got o now) ≡ Err (fault.Extra k)
        → Stopped (λ n. item >>= after n) outer bytes at k
    go (Ok g) h f =
        let a = l.stands bytes at g fits h in
        let u = next g h a f in
        let room = wide g h a in
        let sum = length-append a.front u.front in
        let place = a.place in
        let size = u.size in
        record {
          front = a.front ++ u.front;
          more = u.more;
          file = u.file;
          parts = a.parts ∙ (ap (λ (l : List ℕ). a.front ++ l) u.parts ∙ sym (append_assoc a.front u.front u.more));
          size = omega (arith, sum, place, size);
          some = u.some;
          reads = λ n le. ap (λ o. ended (on_got o (after n))) (a.again u.front)
              ∙ u.reads n (omega (arith, sum, le, room));
          ends = u.ends;
        }
    go (Err found) h f =
        absurd (no_extra item bytes at k s
        (h ∙ (let same : found ≡ fault.Extra k = cc in ap (λ (x : FileFault). Err x) same)))

-- one of the first words, behind which as many records may follow
next_stopped : {A : Type 0} (item : Reading A) (now : A → Reading FileValue) (after : ℕ → A → Reading FileValue)
    (bytes : List ℕ) (at k : ℕ) → Local item → Steady item → IsBytes bytes
    → ((g : Got A) → item bytes at ≡ Ok g → Stands item bytes at g
    → ended (now g.value g.rest g.at) ≡ Err (fault.Extra k) → Stopped (λ n. after n g.value) 1 g.rest g.at k)
    → ended ((item >>= now) bytes at) ≡ Err (fault.Extra k) → Stopped (λ n. item >>= after n) 1 bytes at k
next_stopped item now after bytes at k l s fits next e =
    then_stopped item now after 1 1 bytes at k l s fits (λ g h a. omega arith) next e

count_stopped : (most stamp limit : ℕ) (bytes : List ℕ) (at k : ℕ) → IsBytes bytes → length bytes ≤ most
    → ended (from_count most stamp limit bytes at) ≡ Err (fault.Extra k)
    → Stopped (λ n. from_count n stamp limit) 1 bytes at k
count_stopped most stamp limit bytes at k fits le e =
    then_stopped word (λ count. from_functions most stamp limit count) (λ n count. from_functions n stamp limit count)
    0 1 bytes at k word_local word_steady fits
    (λ g h a. (let i = ap length (word_spells.takes bytes at g fits h).0 in
    let j = length-append (word_bytes g.value) g.rest in
    let w : length (word_bytes g.value) ≡ 4 = refl in
    let m = ap length a.parts in
    let o = length-append a.front g.rest in omega (arith, i, j, w, m, o)))
    (λ g h a f. (let t = word_spells.takes bytes at g fits h in
    let i = ap length t.0 in
    let j = length-append (word_bytes g.value) g.rest in
    let w : length (word_bytes g.value) ≡ 4 = refl in
    functions_stopped most g.value stamp limit g.rest g.at k a.left t.1 (omega (arith, i, j, w, le)) f)) e

-- fewer bytes are left behind an item
pub fewer : {A : Type 0} (item : Reading A) (bytes : List ℕ) (at : ℕ) (g : Got A) → Stands item bytes at g
    → length g.rest ≤ length bytes
fewer item bytes at g a =
    let m = ap length a.parts in
    let o = length-append a.front g.rest in
    omega (arith, m, o)

file_stopped : (most : ℕ) (bytes : List ℕ) (k : ℕ) → IsBytes bytes → length bytes ≤ most
    → ended (notes_file most bytes 0) ≡ Err (fault.Extra k) → Stopped (λ n. notes_file n) 1 bytes 0 k
file_stopped most bytes k fits le e =
    let s1 = fixed_steady magic fault.Magic (λ at. tt) in
    let s2 = fixed_steady version fault.Version (λ at. tt) in
    next_stopped (fixed magic fault.Magic) (λ v. from_version most) (λ n v. from_version n) bytes 0 k
    (fixed_local magic fault.Magic s1) s1 fits (λ g1 h1 a1 e1.
    next_stopped (fixed version fault.Version) (λ v. from_stamp most) (λ n v. from_stamp n) g1.rest g1.at k
    (fixed_local version fault.Version s2) s2 a1.left (λ g2 h2 a2 e2.
    next_stopped word (λ stamp. from_limit most stamp) (λ n stamp. from_limit n stamp) g2.rest g2.at k word_local
    word_steady a2.left (λ g3 h3 a3 e3.
    next_stopped limit_word (λ limit. from_count most g3.value limit) (λ n limit. from_count n g3.value limit) g3.rest
    g3.at k limit_local limit_steady a3.left (λ g4 h4 a4 e4.
    (let l1 = fewer (fixed magic fault.Magic) bytes 0 g1 a1 in
    let l2 = fewer (fixed version fault.Version) g1.rest g1.at g2 a2 in
    let l3 = fewer word g2.rest g2.at g3 a3 in
    let l4 = fewer limit_word g3.rest g3.at g4 a4 in
    count_stopped most g3.value g4.value g4.rest g4.at k a4.left (omega (arith, l1, l2, l3, l4, le)) e4)) e3) e2) e1) e

pub has_behind : (bytes : List ℕ) (n : ℕ) → IsBytes bytes → laid_out bytes ≡ Err (fault.Extra n) → HasBehind bytes n
has_behind bytes n fits e =
    let u = file_stopped (length bytes) bytes n fits (omega arith) e in
    let size = u.size in
    record {
      front = u.front;
      more = u.more;
      file = u.file;
      parts = u.parts;
      some = u.some;
      reads = u.reads (length u.front) (omega arith);
      ends = u.ends;
      size = omega (arith, size);
    }
