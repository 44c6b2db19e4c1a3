-- Behind a whole file that doesn't go on with them, bytes are Extra.
use Rattle.std.proofs.Common.{◌≡◌, ◌≢◌, ◌≤◌, ◌<◌, ◌+◌, refl, sym, ap, subst, ◌∙◌, ℕ, zero, suc, Bool, true, false}
use Rattle.std.proofs.Common.{cond, ◌&&◌, ◌==◌, not, List, [], ◌++◌, length, Result, Ok, Err}
use Rattle.std.proofs.Common.{arith, inl, inr}
use Rattle.std.proofs.lemmas.Bool.{and_parts, and_right, or_parts, cases_lt, cond-false, eqb-true, ne_eqb}
use Rattle.std.proofs.lemmas.List.{length-append, nil_from_length, get_or_append_left, get_or_past}
use Rattle.gcov_items.specs.Items.{word_bytes}
use Rattle.gcov_records.specs.declared.fault.FileFault.{FileFault}
use Rattle.gcov_records.specs.declared.fault.FileFault.TheVariants as fault
use Rattle.gcov_records.specs.Reading.{Got, Reading, on_got, ◌>>=◌, give, word, fixed, ended}
use Rattle.gcov_records.proofs.Spelled.{IsBytes, ok_is, word_spells}
use Rattle.gcov_records.proofs.Steady.{behind, fixed_steady}
use Rattle.gcno_format.specs.Spelling.{magic, version, function_tag, arc_tag, line_tag}
use Rattle.gcno_format.specs.Layout.{LayoutValue, FileValue, ProgressValue, begun, all_begun, is_due, is_without_lines}
use Rattle.gcno_format.specs.Reading.{fail, arcs_into, lines_into, function_into, wrong_tag, by_tag, next_record}
use Rattle.gcno_format.specs.Reading.{is_over}
use Rattle.gcno_format.specs.Reading.{records, first_function, limit_word, notes_file, laid_out}
use Rattle.gcno_format.proofs.LayoutLaws.{FitProgress}
use Rattle.gcno_format.proofs.TakenLaws.{on_ok, record_taken, first_bytes, first_taken, first_fits}
use Rattle.gcno_format.proofs.FileLaws.{from_functions, from_count, from_limit, from_stamp, from_version}
use Rattle.notes_end.specs.Ends.{IsBarred, EndsBefore, HasBehind}
use Rattle.notes_end.proofs.Stands.{Stands, Local, longer, end_same, word_local, fixed_local, limit_local, first_local}
use Rattle.notes_end.proofs.Stands.{record_local}
use Rattle.notes_end.proofs.Stops.{behind_first, ends_last, fewer, some_word, together}

-- a record that doesn't go on
barred_record : (p : ProgressValue) (more : List ℕ) (at : ℕ) → is_due p ≡ false → IsBarred p.now more
    → next_record p more at ≡ Err (fault.Extra at)
barred_record p more at d b =
    let parts = or_parts (b.tag == line_tag) ((b.tag == arc_tag) && is_without_lines p.now) b.none in
    let lt = b.word in
    ap (λ (l : List ℕ). next_record p l at) b.parts
    ∙ (ap (λ o. on_got o (λ tag. by_tag p at tag)) (word_spells.again b.tag b.rest at (omega (arith, lt)))
    ∙ ap (λ (r : Reading ProgressValue). r b.rest (at + length (word_bytes b.tag)))
    (cond-false ((b.tag == arc_tag) && is_without_lines p.now) (arcs_into p)
    (cond (b.tag == line_tag) (lines_into p at) (cond ((b.tag == function_tag) && is_due p) (function_into p at)
    (fail (wrong_tag p at)))) parts.1
    ∙ (cond-false (b.tag == line_tag) (lines_into p at) (cond ((b.tag == function_tag) && is_due p) (function_into p at)
    (fail (wrong_tag p at))) parts.0
    ∙ (cond-false ((b.tag == function_tag) && is_due p) (function_into p at) (fail (wrong_tag p at))
    (and_right (b.tag == function_tag) (is_due p) d)
    ∙ ap (λ (f : FileFault). fail {A = ProgressValue} f) (cond-false (is_due p) (fault.Tag at) (fault.Extra at) d)))))

-- where some bytes stand, records aren't over
some_bytes : (p : ProgressValue) (bytes : List ℕ) → bytes ≢ [] → is_over p bytes ≡ false
some_bytes p bytes some =
    and_right (not (is_due p)) (length bytes == 0)
    (ne_eqb (length bytes) 0 (λ e. some (nil_from_length bytes e)))

records_behind : (n m : ℕ) (p : ProgressValue) (front more : List ℕ) (at : ℕ) (g : Got ProgressValue) → FitProgress p
    → IsBytes front → length front < n → length (front ++ more) < m → records n p front at ≡ Ok g
    → IsBarred g.value.now more → records m p (front ++ more) at ≡ Err (fault.Extra (at + length front))
records_behind zero m p front more at g fit fits lt lt' e b = absurd (omega (arith, lt))
records_behind (suc n) zero p front more at g fit fits lt lt' e b = absurd (omega (arith, lt'))
records_behind (suc n) (suc m) p front more at g fit fits lt lt' e b =
    go (is_over p front) refl e
    (λ q fit fits lt lt' e. records_behind n m q.value q.rest more q.at g fit fits lt lt' e b)
  where
    some : front ++ more ≢ []
    some z =
        let l = length-append front more in
        let none = ap length z in
        let nil : length {A = ℕ} [] ≡ 0 = refl in
        some_word g.value.now more b (nil_from_length more (omega (arith, l, none, nil)))

    further : ℕ → ProgressValue → Reading ProgressValue
    further n p = next_record p >>= λ q. records n q

    onward : (o : Result (Got ProgressValue) FileFault) → next_record p (front ++ more) at ≡ o
        → on_got o (λ q. records m q) ≡ Err (fault.Extra (at + length front))
        → records (suc m) p (front ++ more) at ≡ Err (fault.Extra (at + length front))
    onward o h f =
        cond-false (is_over p (front ++ more)) (give p (front ++ more) at)
        ((next_record p >>= λ q. records m q) (front ++ more) at) (some_bytes p (front ++ more) some)
        ∙ (ap (λ o. on_got o (λ q. records m q)) h ∙ f)

    go : (x : Bool) → is_over p front ≡ x
        → cond x (give p front at) ((next_record p >>= λ q. records n q) front at) ≡ Ok g
        → ((q : Got ProgressValue) → FitProgress q.value → IsBytes q.rest → length q.rest < n
        → length (q.rest ++ more) < m → records n q.value q.rest q.at ≡ Ok g
        → records m q.value (q.rest ++ more) q.at ≡ Err (fault.Extra (q.at + length q.rest)))
        → records (suc m) p (front ++ more) at ≡ Err (fault.Extra (at + length front))
    go true t f ih =
        let k = and_parts (not (is_due p)) (length front == 0) t in
        let none = eqb-true (length front) 0 k.1 in
        let same : record { value = p; rest = front; at = at } ≡ g = ok_is _ _ f in
        let now : IsBarred p.now more = subst (λ (g : Got ProgressValue). IsBarred g.value.now more) (sym same) b in
        onward (Err (fault.Extra (at + length front)))
        (ap (λ (l : List ℕ). next_record p (l ++ more) at) (nil_from_length front none)
        ∙ (barred_record p more at (negated (is_due p) k.0) now
        ∙ ap (λ n. Err (fault.Extra n)) (omega (arith, none)))) refl
      where
        negated : (b : Bool) → not b ≡ true → b ≡ false
        negated true e = absurd cc
        negated false e = refl
    go false t f ih =
        let q = on_ok (next_record p front at) (λ q. records n q) g f in
        let a = (record_local p fit).stands front at q.0 fits q.1 in
        let k = record_taken p front at q.0 fit fits q.1 in
        let less = k.less in
        let i = length-append front more in
        let j = length-append q.0.rest more in
        let end = end_same (next_record p) front at q.0 a in
        onward (Ok (behind q.0 more)) (longer (next_record p) front more at q.0 a)
        (ih q.0 k.fits k.left (omega (arith, less, lt)) (omega (arith, less, lt', i, j)) q.2
        ∙ ap (λ n. Err (fault.Extra n)) end)

-- ---- files

-- what was read whole
whole_read : {A : Type 0} (x : Bool) (n : ℕ) (made value : A) (at : ℕ) → (n == 0) ≡ x
    → cond x (Ok made) (Err (fault.Extra at)) ≡ Ok value → (n ≡ 0) × (made ≡ value)
whole_read true n made value at t e = (eqb-true n 0 t, ok_is made value e)
whole_read false n made value at t e = absurd cc

-- the file of functions that were read, and of records
abbrev telling : ℕ → ℕ → Result (Got (List LayoutValue)) FileFault → Result FileValue FileFault
telling stamp limit o = ended (on_got o (λ fs. give (together stamp limit fs)))

abbrev closing : ℕ → ℕ → Result (Got ProgressValue) FileFault → Result FileValue FileFault
closing stamp limit o = telling stamp limit (on_got o (λ p. give (all_begun p)))

functions_behind : (most m count stamp limit : ℕ) (front more : List ℕ) (at : ℕ) (file : FileValue) → IsBytes front
    → count < 4294967296 → length front < most → length (front ++ more) < m → more ≢ []
    → EndsBefore file.functions more → ended (from_functions most stamp limit count front at) ≡ Ok file
    → ended (from_functions m stamp limit count (front ++ more) at) ≡ Err (fault.Extra (at + length front))
functions_behind most m zero stamp limit front more at file fits few lt lt' some ends e =
    let h = whole_read (length front == 0) (length front) (together stamp limit []) file at refl e in
    let none = h.0 in
    let l = length-append front more in
    cond-false (length (front ++ more) == 0) (Ok (together stamp limit [])) (Err (fault.Extra at))
    (ne_eqb (length (front ++ more)) 0 (λ z. some (nil_from_length more (omega (arith, z, l)))))
    ∙ ap (λ n. Err (fault.Extra n)) (omega (arith, none))
functions_behind most m (suc c) stamp limit front more at file fits few lt lt' some ends e =
    go (first_function front at) refl e
  where
    rest_of : (g : Got LayoutValue) (o : Result (Got ProgressValue) FileFault)
        → first_function front at ≡ Ok g → records most (begun [] g.value 1 (suc c)) g.rest g.at ≡ o
        → closing stamp limit o ≡ Ok file
        → records m (begun [] g.value 1 (suc c)) (g.rest ++ more) g.at ≡ Err (fault.Extra (g.at + length g.rest))
    rest_of g (Ok q) h r f =
        let t = first_taken front at g fits h in
        let i = ap length t.0 in
        let j = length-append (first_bytes g.value) g.rest in
        let u = length-append front more in
        let v = length-append g.rest more in
        let k = whole_read (length q.rest == 0) (length q.rest) (together stamp limit (all_begun q.value)) file q.at
        refl
        f in
        let functions : all_begun q.value ≡ file.functions = ap (λ (f : FileValue). f.functions) k.1 in
        let last : EndsBefore (all_begun q.value) more = subst (λ ls. EndsBefore ls more) (sym functions) ends in
        records_behind most m (begun [] g.value 1 (suc c)) g.rest more g.at q
        (first_fits g.value (suc c) at t.1 (omega arith) few) t.2 (omega (arith, i, j, lt))
        (omega (arith, i, j, u, v, lt'))
        r (subst (λ (P : Type 0). P) (ends_last q.value.before q.value.now more) last)
    rest_of g (Err found) h r f = absurd cc

    go : (o : Result (Got LayoutValue) FileFault) → first_function front at ≡ o
        → telling stamp limit (on_got o (behind_first (suc c) most)) ≡ Ok file
        → ended (from_functions m stamp limit (suc c) (front ++ more) at) ≡ Err (fault.Extra (at + length front))
    go (Ok g) h f =
        let a = first_local.stands front at g fits h in
        let end = end_same first_function front at g a in
        ap (λ o. telling stamp limit (on_got o (behind_first (suc c) m))) (longer first_function front more at g a)
        ∙ (ap (closing stamp limit) (rest_of g (records most (begun [] g.value 1 (suc c)) g.rest g.at) h refl f)
        ∙ ap (λ n. Err (fault.Extra n)) end)
    go (Err found) h f = absurd cc

-- an item before the rest of a file
then_behind : {A : Type 0} (item : Reading A) (now after : A → Reading FileValue) (front more : List ℕ) (at : ℕ)
    (file : FileValue) → Local item → IsBytes front
    → ((g : Got A) → item front at ≡ Ok g → Stands item front at g → ended (now g.value g.rest g.at) ≡ Ok file
    → ended (after g.value (g.rest ++ more) g.at) ≡ Err (fault.Extra (g.at + length g.rest)))
    → ended ((item >>= now) front at) ≡ Ok file
    → ended ((item >>= after) (front ++ more) at) ≡ Err (fault.Extra (at + length front))
then_behind {A} item now after front more at file l fits next e = go (item front at) refl e
  where
    go : (o : Result (Got A) FileFault) → item front at ≡ o → ended (on_got o now) ≡ Ok file
        → ended ((item >>= after) (front ++ more) at) ≡ Err (fault.Extra (at + length front))
    go (Ok g) h f =
        let a = l.stands front at g fits h in
        let end = end_same item front at g a in
        ap (λ o. ended (on_got o after)) (longer item front more at g a)
        ∙ (next g h a f ∙ ap (λ n. Err (fault.Extra n)) end)
    go (Err found) h f = absurd cc

count_behind : (most m stamp limit : ℕ) (front more : List ℕ) (at : ℕ) (file : FileValue) → IsBytes front
    → length front ≤ most → length (front ++ more) ≤ m → more ≢ [] → EndsBefore file.functions more
    → ended (from_count most stamp limit front at) ≡ Ok file
    → ended (from_count m stamp limit (front ++ more) at) ≡ Err (fault.Extra (at + length front))
count_behind most m stamp limit front more at file fits le le' some ends e =
    then_behind word (λ count. from_functions most stamp limit count) (λ count. from_functions m stamp limit count)
    front
    more at file word_local fits (λ g h a f.
    (let t = word_spells.takes front at g fits h in
    let i = ap length t.0 in
    let j = length-append (word_bytes g.value) g.rest in
    let w : length (word_bytes g.value) ≡ 4 = refl in
    let u = length-append front more in
    let v = length-append g.rest more in
    functions_behind most m g.value stamp limit g.rest more g.at file a.left t.1 (omega (arith, i, j, w, le))
    (omega (arith, i, j, w, u, v, le')) some ends f)) e

file_behind : (most m : ℕ) (front more : List ℕ) (file : FileValue) → IsBytes front → length front ≤ most
    → length (front ++ more) ≤ m → more ≢ [] → EndsBefore file.functions more
    → ended (notes_file most front 0) ≡ Ok file
    → ended (notes_file m (front ++ more) 0) ≡ Err (fault.Extra (0 + length front))
file_behind most m front more file fits le le' some ends e =
    then_behind (fixed magic fault.Magic) (λ v. from_version most) (λ v. from_version m) front more 0 file
    (fixed_local magic fault.Magic (fixed_steady magic fault.Magic (λ at. tt))) fits (λ g1 h1 a1 e1.
    then_behind (fixed version fault.Version) (λ v. from_stamp most) (λ v. from_stamp m) g1.rest more g1.at file
    (fixed_local version fault.Version (fixed_steady version fault.Version (λ at. tt))) a1.left (λ g2 h2 a2 e2.
    then_behind word (λ stamp. from_limit most stamp) (λ stamp. from_limit m stamp) g2.rest more g2.at file word_local
    a2.left (λ g3 h3 a3 e3.
    then_behind limit_word (λ limit. from_count most g3.value limit) (λ limit. from_count m g3.value limit) g3.rest more
    g3.at file limit_local a3.left (λ g4 h4 a4 e4.
    (let l1 = fewer (fixed magic fault.Magic) front 0 g1 a1 in
    let l2 = fewer (fixed version fault.Version) g1.rest g1.at g2 a2 in
    let l3 = fewer word g2.rest g2.at g3 a3 in
    let l4 = fewer limit_word g3.rest g3.at g4 a4 in
    let u = length-append front more in
    let v = length-append g4.rest more in
    count_behind most m g3.value g4.value g4.rest more g4.at file a4.left (omega (arith, l1, l2, l3, l4, le))
    (omega (arith, l1, l2, l3, l4, u, v, le')) some ends e4)) e3) e2) e1) e

-- the bytes in front of others are bytes
front_bytes : (front more : List ℕ) → IsBytes (front ++ more) → IsBytes front
front_bytes front more fits i =
    elim (cases_lt i (length front)) [
      | inl lt ↦ subst (λ n. n < 256) (get_or_append_left front more 0 i lt) (fits i)
      | inr le ↦ rw (get_or_past front i 0 le) (omega arith)
    ]

pub extra_there : (bytes : List ℕ) (n : ℕ) → IsBytes bytes → HasBehind bytes n → laid_out bytes ≡ Err (fault.Extra n)
extra_there bytes n fits h =
    let size = h.size in
    let parts = h.parts in
    let there = file_behind (length h.front) (length (h.front ++ h.more)) h.front h.more h.file
    (front_bytes h.front h.more (subst IsBytes parts fits)) (omega arith) (omega arith) h.some h.ends h.reads in
    ap laid_out parts ∙ (there ∙ ap (λ n. Err (fault.Extra n)) (omega (arith, size)))
