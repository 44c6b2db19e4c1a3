-- What is told of bytes stays with more bytes behind: a fault stays one, but for Short.
use Rattle.std.proofs.Common.{◌≡◌, ◌≢◌, ◌≤◌, ◌<◌, ◌+◌, refl, sym, ap, subst, ◌∙◌, ℕ, zero, suc, Bool, true, false, cond}
use Rattle.std.proofs.Common.{◌&&◌, ◌==◌, leb, not, List, [], ◌++◌, length, Result, Ok, Err, arith, inl, inr, ◌⊎◌}
use Rattle.std.proofs.lemmas.Bool.{cond-true, cond-false, ne_eqb}
use Rattle.std.proofs.lemmas.List.{length-append}
use Rattle.gcov_records.specs.declared.fault.FileFault.{FileFault}
use Rattle.gcov_records.specs.declared.fault.FileFault.TheVariants as fault
use Rattle.gcov_records.specs.Reading.{Got, Reading, on_got, ◌>>=◌, give, word, fixed, ended}
use Rattle.gcov_records.proofs.Steady.{Steady, Holds, Fails, behind, word_steady, fixed_steady, tested_steady}
use Rattle.gcov_records.proofs.Steady.{give_steady, bind_steady}
use Rattle.gcno_format.specs.Notes.{path_limit}
use Rattle.gcno_format.specs.Spelling.{magic, version, function_tag, arc_tag, line_tag}
use Rattle.gcno_format.specs.Layout.{LayoutValue, FileValue, ProgressValue, begun, with_arcs, with_lines, all_begun}
use Rattle.gcno_format.specs.Layout.{is_due, is_without_lines}
use Rattle.gcno_format.specs.Reading.{fail, placed, head_at, leaving_at, lines_at, arcs_into, lines_into, function_into}
use Rattle.gcno_format.specs.Reading.{wrong_tag, by_tag, next_record, is_over, records, first_function, functions_of}
use Rattle.gcno_format.specs.Reading.{limit_word, laid_out}
use Rattle.gcov_items.specs.Items.{word_bytes}
use Rattle.std.proofs.Common.{eq-eqb}
use Rattle.gcov_records.proofs.Spelled.{IsBytes, Spells, IsThis, word_spells, fixed_spells, tested_spells}
use Rattle.gcno_format.proofs.LayoutLaws.{FitProgress}
use Rattle.gcno_format.proofs.TakenLaws.{record_taken, records_taken, first_taken, first_fits, first_bytes}
use Rattle.gcno_format.proofs.FileLaws.{from_functions, from_count, from_limit, from_stamp, from_version}
use Rattle.gcno_format.proofs.HeadLaws.{placed_steady, head_steady}
use Rattle.gcno_format.proofs.RecordLaws.{leaving_steady, lines_steady}

-- a fault other than Short
abbrev Lasting : FileFault → Type 0
Lasting (fault.Short n) = ⊥
Lasting _ = Unit {0}

abbrev failing : {A : Type 0} → FileFault → Result A FileFault
failing found = Err found

-- reading ends with a lasting fault
abbrev EndsBad : {A : Type 0} → Result A FileFault → Type 0
EndsBad (Ok g) = ⊥
EndsBad (Err found) = Lasting found

-- what was read stays so, and so does each lasting fault
record Lasts {A : Type 0} (item : Reading A) : Type 0 where
  ok : (bytes more : List ℕ) (at : ℕ) (g : Got A) → item bytes at ≡ Ok g → item (bytes ++ more) at ≡ Ok (behind g more)
  err : (bytes more : List ℕ) (at : ℕ) (found : FileFault) → item bytes at ≡ Err found → Lasting found
      → EndsBad (item (bytes ++ more) at)

fails_bad : {A : Type 0} (o : Result (Got A) FileFault) → Fails o → EndsBad o
fails_bad (Ok g) h = absurd h
fails_bad (Err (fault.Short n)) h = absurd h
fails_bad (Err (fault.Extra n)) h = tt
fails_bad (Err (fault.Magic n)) h = tt
fails_bad (Err (fault.Version n)) h = tt
fails_bad (Err (fault.Tag n)) h = tt
fails_bad (Err (fault.Length n)) h = tt
fails_bad (Err (fault.Text n)) h = tt
fails_bad (Err (fault.Order n)) h = tt
fails_bad (Err (fault.Net n)) h = tt
fails_bad (Err (fault.Number n)) h = tt

held_bad : {A : Type 0} (item : Reading A) (bytes more : List ℕ) (at : ℕ) (found : FileFault)
    → Holds item bytes at (Err found) → Lasting found → EndsBad (item (bytes ++ more) at)
held_bad item bytes more at (fault.Short n) h l = absurd l
held_bad item bytes more at (fault.Extra n) h l = absurd h
held_bad item bytes more at (fault.Magic n) h l = fails_bad (item (bytes ++ more) at) (h more)
held_bad item bytes more at (fault.Version n) h l = fails_bad (item (bytes ++ more) at) (h more)
held_bad item bytes more at (fault.Tag n) h l = fails_bad (item (bytes ++ more) at) (h more)
held_bad item bytes more at (fault.Length n) h l = fails_bad (item (bytes ++ more) at) (h more)
held_bad item bytes more at (fault.Text n) h l = fails_bad (item (bytes ++ more) at) (h more)
held_bad item bytes more at (fault.Order n) h l = fails_bad (item (bytes ++ more) at) (h more)
held_bad item bytes more at (fault.Net n) h l = fails_bad (item (bytes ++ more) at) (h more)
held_bad item bytes more at (fault.Number n) h l = fails_bad (item (bytes ++ more) at) (h more)

steady_lasts : {A : Type 0} (item : Reading A) → Steady item → Lasts item
steady_lasts item s = record {
  ok = λ bytes more at g e. (subst (Holds item bytes at) e (s.holds bytes at)).0 more;
  err = λ bytes more at found e l. held_bad item bytes more at found (subst (Holds item bytes at) e (s.holds bytes at)) l;
}

on_bad : {A B : Type 0} (o : Result (Got A) FileFault) (next : A → Reading B) → EndsBad o → EndsBad (on_got o next)
on_bad (Ok g) next h = absurd h
on_bad (Err found) next h = h

bind_lasts : {A B : Type 0} (item : Reading A) (next : A → Reading B) → Lasts item → ((x : A) → Lasts (next x))
    → Lasts (item >>= next)
bind_lasts {A} {B} item next s t = record {
  ok = λ bytes more at g e. ok bytes more at g (item bytes at) refl e;
  err = λ bytes more at found e l. err bytes more at found (item bytes at) refl e l;
}
  where
    ok : (bytes more : List ℕ) (at : ℕ) (g : Got B) (o : Result (Got A) FileFault) → item bytes at ≡ o
        → on_got o next ≡ Ok g → (item >>= next) (bytes ++ more) at ≡ Ok (behind g more)
    ok bytes more at g (Ok h) e f =
        ap (λ o. on_got o next) (s.ok bytes more at h e) ∙ (t h.value).ok h.rest more h.at g f
    ok bytes more at g (Err found) e f = absurd cc

    err : (bytes more : List ℕ) (at : ℕ) (found : FileFault) (o : Result (Got A) FileFault) → item bytes at ≡ o
        → on_got o next ≡ Err found → Lasting found → EndsBad ((item >>= next) (bytes ++ more) at)
    err bytes more at found (Ok h) e f l =
        subst EndsBad (sym (ap (λ o. on_got o next) (s.ok bytes more at h e)))
        ((t h.value).err h.rest more h.at found f l)
    err bytes more at found (Err other) e f l =
        on_bad (item (bytes ++ more) at) next
        (s.err bytes more at other e (let same : other ≡ found = cc in subst Lasting (sym same) l))

first_lasts : Lasts first_function
first_lasts =
    steady_lasts first_function (placed_steady (λ place. fixed function_tag fault.Tag >>= λ t. head_at 0 place)
    (λ place. bind_steady (fixed function_tag fault.Tag) (λ t. head_at 0 place)
    (fixed_steady function_tag fault.Tag (λ at. tt)) (λ t. head_steady 0 place)))

-- two faults that are one
lasting : {A : Type 0} (other found : FileFault) → failing {A = A} other ≡ failing found → Lasting found → Lasting other
lasting other found e l = (let same : other ≡ found = cc in subst Lasting (sym same) l)

either_lasts : {A : Type 0} (x : Bool) (one other : Reading A) → Lasts one → Lasts other → Lasts (cond x one other)
either_lasts true one other s t = s
either_lasts false one other s t = t

placed_lasts : {A : Type 0} (item : ℕ → Reading A) → ((at : ℕ) → Lasts (item at)) → Lasts (placed item)
placed_lasts item s = record {
  ok = λ bytes more at g e. (s at).ok bytes more at g e;
  err = λ bytes more at found e l. (s at).err bytes more at found e l;
}

fail_lasts : {A : Type 0} (found : FileFault) → Lasting found → Lasts {A = A} (fail found)
fail_lasts found l = record { ok = λ bytes more at g e. absurd cc; err = λ bytes more at other e k. l }

wrong_lasting : (p : ProgressValue) (place : ℕ) → Lasting (wrong_tag p place)
wrong_lasting p place = go (is_due p)
  where
    go : (x : Bool) → Lasting (cond x (fault.Tag place) (fault.Extra place))
    go true = tt
    go false = tt

tag_lasts : (p : ProgressValue) (place tag : ℕ) → Lasts (by_tag p place tag)
tag_lasts p place tag =
    either_lasts ((tag == arc_tag) && is_without_lines p.now) (arcs_into p) _
    (steady_lasts (arcs_into p) (bind_steady (leaving_at p.arcs_from) (λ l. give (with_arcs p l))
    (leaving_steady p.arcs_from) (λ l. give_steady (with_arcs p l))))
    (either_lasts (tag == line_tag) (lines_into p place) _
    (steady_lasts (lines_into p place) (bind_steady (lines_at place p.lines_from) (λ r. give (with_lines p r))
    (lines_steady place p.lines_from) (λ r. give_steady (with_lines p r))))
    (either_lasts ((tag == function_tag) && is_due p) (function_into p place) (fail (wrong_tag p place))
    (steady_lasts (function_into p place) (bind_steady (head_at p.next place)
    (λ now. give (begun (all_begun p) now (p.next + 1) p.count)) (head_steady p.next place)
    (λ now. give_steady (begun (all_begun p) now (p.next + 1) p.count))))
    (fail_lasts (wrong_tag p place) (wrong_lasting p place))))

record_lasts : (p : ProgressValue) → Lasts (next_record p)
record_lasts p =
    placed_lasts (λ place. word >>= λ tag. by_tag p place tag)
    (λ place. bind_lasts word (λ tag. by_tag p place tag) (steady_lasts word word_steady) (λ tag. tag_lasts p place tag))

-- with more bytes behind, records aren't over where they weren't
not_over : (p : ProgressValue) (bytes more : List ℕ) → is_over p bytes ≡ false → is_over p (bytes ++ more) ≡ false
not_over p bytes more h = go (is_due p) h
  where
    go : (x : Bool) → (not x && (length bytes == 0)) ≡ false → (not x && (length (bytes ++ more) == 0)) ≡ false
    go true h = refl
    go false h =
        ne_eqb (length (bytes ++ more)) 0 (λ e. (let l = length-append bytes more in
        let k : true ≡ false = sym (eq-eqb (length bytes) 0 (omega (arith, e, l))) ∙ h in cc))

-- a lasting fault of records stays, whatever follows, and however many records may be read beyond the bytes
records_last : (n : ℕ) (p : ProgressValue) (bytes more : List ℕ) (at m : ℕ) (found : FileFault) → FitProgress p
    → IsBytes bytes → records n p bytes at ≡ Err found → Lasting found → length (bytes ++ more) < m
    → EndsBad (records m p (bytes ++ more) at)
records_last zero p bytes more at m found fit fits e l lt = absurd cc
records_last (suc n) p bytes more at zero found fit fits e l lt = absurd (omega (arith, lt))
records_last (suc n) p bytes more at (suc m) found fit fits e l lt =
    go (is_over p bytes) refl e (λ q k b f less. records_last n q.value q.rest more q.at m found k b f l less)
  where
    step : (o : Result (Got ProgressValue) FileFault) → next_record p bytes at ≡ o
        → on_got o (λ q. records n q) ≡ Err found
        → ((q : Got ProgressValue) → FitProgress q.value → IsBytes q.rest → records n q.value q.rest q.at ≡ Err found
        → length (q.rest ++ more) < m → EndsBad (records m q.value (q.rest ++ more) q.at))
        → EndsBad (on_got (next_record p (bytes ++ more) at) (λ q. records m q))
    step (Ok q) h f ih =
        let k = record_taken p bytes at q fit fits h in
        let less = k.less in
        let a = length-append bytes more in
        let b = length-append q.rest more in
        subst EndsBad (sym (ap (λ o. on_got o (λ q. records m q)) ((record_lasts p).ok bytes more at q h)))
        (ih q k.fits k.left f (omega (arith, less, lt, a, b)))
    step (Err other) h f ih =
        on_bad (next_record p (bytes ++ more) at) (λ q. records m q)
        ((record_lasts p).err bytes more at other h (lasting other found f l))

    go : (x : Bool) → is_over p bytes ≡ x
        → cond x (give p bytes at) ((next_record p >>= λ q. records n q) bytes at) ≡ Err found
        → ((q : Got ProgressValue) → FitProgress q.value → IsBytes q.rest → records n q.value q.rest q.at ≡ Err found
        → length (q.rest ++ more) < m → EndsBad (records m q.value (q.rest ++ more) q.at))
        → EndsBad (records (suc m) p (bytes ++ more) at)
    go true t f ih = absurd cc
    go false t f ih =
        subst EndsBad (sym (cond-false (is_over p (bytes ++ more)) (give p (bytes ++ more) at)
        ((next_record p >>= λ q. records m q) (bytes ++ more) at) (not_over p bytes more t)))
        (step (next_record p bytes at) refl f ih)

-- ---- files

ended_bad : {A : Type 0} (o : Result (Got A) FileFault) → EndsBad o → EndsBad (ended o)
ended_bad (Ok g) h = absurd h
ended_bad (Err found) h = h

-- one item, and then what comes behind it
then_last : {A : Type 0} (item : Reading A) (spell : A → List ℕ) (Fits : A → Type 0) (n1 n2 : A → Reading FileValue)
    (bytes more : List ℕ) (at : ℕ) (found : FileFault) → Lasts item → Spells item spell Fits → IsBytes bytes
    → Lasting found
    → ((g : Got A) → Fits g.value → IsBytes g.rest → length g.rest ≤ length bytes
    → ended (n1 g.value g.rest g.at) ≡ Err found → EndsBad (ended (n2 g.value (g.rest ++ more) g.at)))
    → ended ((item >>= n1) bytes at) ≡ Err found → EndsBad (ended ((item >>= n2) (bytes ++ more) at))
then_last {A} item spell Fits n1 n2 bytes more at found s w fits l next e = go (item bytes at) refl e
  where
    go : (o : Result (Got A) FileFault) → item bytes at ≡ o → ended (on_got o n1) ≡ Err found
        → EndsBad (ended ((item >>= n2) (bytes ++ more) at))
    go (Ok g) h f =
        let t = w.takes bytes at g fits h in
        let k = ap length t.0 in
        let j = length-append (spell g.value) g.rest in
        subst EndsBad (sym (ap (λ o. ended (on_got o n2)) (s.ok bytes more at g h)))
        (next g t.1 t.2 (omega (arith, k, j)) f)
    go (Err other) h f =
        ended_bad ((item >>= n2) (bytes ++ more) at) (on_bad (item (bytes ++ more) at) n2
        (s.err bytes more at other h (lasting other found f l)))

abbrev together : ℕ → ℕ → List LayoutValue → FileValue
together stamp limit functions = record { stamp = stamp; limit = limit; functions = functions }

some_left : (n at : ℕ) (v : FileValue) (found : FileFault) → cond (n == 0) (Ok v) (Err (fault.Extra at)) ≡ Err found
    → n ≢ 0
some_left n at v found e z =
    (let h : cond (n == 0) (Ok v) (Err (fault.Extra at)) ≡ Ok v = cond-true (n == 0) (Ok v) (Err (fault.Extra at))
    (eq-eqb n 0 z) in cc)

left_bad : (n at : ℕ) (v : FileValue) → n ≢ 0 → EndsBad (cond (n == 0) (Ok v) (Err (fault.Extra at)))
left_bad n at v ne =
    subst EndsBad (sym (cond-false (n == 0) (Ok v) (Err (fault.Extra at)) (ne_eqb n 0 ne))) tt

functions_last : (most m count stamp limit : ℕ) (bytes more : List ℕ) (at : ℕ) (found : FileFault) → IsBytes bytes
    → count < 4294967296 → length bytes < most → length (bytes ++ more) < m → Lasting found
    → ended ((functions_of most count >>= λ fs. give (together stamp limit fs)) bytes at) ≡ Err found
    → EndsBad (ended ((functions_of m count >>= λ fs. give (together stamp limit fs)) (bytes ++ more) at))
functions_last most m zero stamp limit bytes more at found fits few lt lt' l e =
    let k = length-append bytes more in
    let n = some_left (length bytes) at (together stamp limit []) found e in
    left_bad (length (bytes ++ more)) at (together stamp limit []) (λ z. n (omega (arith, z, k)))
functions_last most m (suc c) stamp limit bytes more at found fits few lt lt' l e =
    go (first_function bytes at) refl e
  where
    behind_first : ℕ → LayoutValue → Reading (List LayoutValue)
    behind_first most now = records most (begun [] now 1 (suc c)) >>= λ p. give (all_begun p)

    rest_of : (g : Got LayoutValue) (o : Result (Got ProgressValue) FileFault)
        → first_function bytes at ≡ Ok g → records most (begun [] g.value 1 (suc c)) g.rest g.at ≡ o
        → ended (on_got (on_got o (λ p. give (all_begun p))) (λ fs. give (together stamp limit fs))) ≡ Err found
        → EndsBad (records m (begun [] g.value 1 (suc c)) (g.rest ++ more) g.at)
    rest_of g (Ok q) h r f =
        let t = first_taken bytes at g fits h in
        let k = ap length t.0 in
        let j = length-append (first_bytes g.value) g.rest in
        let all = records_taken most (begun [] g.value 1 (suc c)) g.rest g.at q
        (first_fits g.value (suc c) at t.1 (omega arith) few) t.2 (omega (arith, k, j, lt)) r in
        absurd (some_left (length q.rest) q.at (together stamp limit (all_begun q.value)) found f (ap length all.over))
    rest_of g (Err other) h r f =
        let t = first_taken bytes at g fits h in
        let k = ap length t.0 in
        let j = length-append (first_bytes g.value) g.rest in
        let a = length-append bytes more in
        let b = length-append g.rest more in
        records_last most (begun [] g.value 1 (suc c)) g.rest more g.at m other
        (first_fits g.value (suc c) at t.1 (omega arith) few) t.2 r (lasting other found f l)
        (omega (arith, k, j, a, b, lt'))

    go : (o : Result (Got LayoutValue) FileFault) → first_function bytes at ≡ o
        → ended (on_got (on_got o (behind_first most)) (λ fs. give (together stamp limit fs))) ≡ Err found
        → EndsBad (ended ((functions_of m (suc c) >>= λ fs. give (together stamp limit fs)) (bytes ++ more) at))
    go (Ok g) h f =
        subst EndsBad (sym (ap (λ o. ended (on_got (on_got o (behind_first m)) (λ fs. give (together stamp limit fs))))
        (first_lasts.ok bytes more at g h)))
        (ended_bad (on_got (behind_first m g.value (g.rest ++ more) g.at) (λ fs. give (together stamp limit fs)))
        (on_bad (behind_first m g.value (g.rest ++ more) g.at) (λ fs. give (together stamp limit fs))
        (on_bad (records m (begun [] g.value 1 (suc c)) (g.rest ++ more) g.at) (λ p. give (all_begun p))
        (rest_of g (records most (begun [] g.value 1 (suc c)) g.rest g.at) h refl f))))
    go (Err other) h f =
        ended_bad ((functions_of m (suc c) >>= λ fs. give (together stamp limit fs)) (bytes ++ more) at)
        (on_bad (functions_of m (suc c) (bytes ++ more) at) (λ fs. give (together stamp limit fs))
        (on_bad (first_function (bytes ++ more) at) (behind_first m)
        (first_lasts.err bytes more at other h (lasting other found f l))))

laid_last : (bytes more : List ℕ) (found : FileFault) → IsBytes bytes → laid_out bytes ≡ Err found → Lasting found
    → EndsBad (laid_out (bytes ++ more))
laid_last bytes more found fits e l =
    let most : ℕ = length bytes in
    let m : ℕ = length (bytes ++ more) in
    then_last (fixed magic fault.Magic) word_bytes (IsThis magic) (λ v. from_version most) (λ v. from_version m) bytes more
    0 found (steady_lasts (fixed magic fault.Magic) (fixed_steady magic fault.Magic (λ at. tt)))
    (fixed_spells magic fault.Magic) fits l (λ g1 f1 b1 l1 e1.
    then_last (fixed version fault.Version) word_bytes (IsThis version) (λ v. from_stamp most) (λ v. from_stamp m)
    g1.rest more g1.at found
    (steady_lasts (fixed version fault.Version) (fixed_steady version fault.Version (λ at. tt)))
    (fixed_spells version fault.Version) b1 l (λ g2 f2 b2 l2 e2.
    then_last word word_bytes (λ n. n < 4294967296) (λ stamp. from_limit most stamp) (λ stamp. from_limit m stamp)
    g2.rest more g2.at found (steady_lasts word word_steady) word_spells b2 l (λ g3 f3 b3 l3 e3.
    then_last limit_word word_bytes (λ n. (n < 4294967296) × (leb n path_limit ≡ true))
    (λ limit. from_count most g3.value limit) (λ limit. from_count m g3.value limit) g3.rest more g3.at found
    (steady_lasts limit_word (tested_steady (λ limit. leb limit path_limit) fault.Number word (λ at. tt) word_steady))
    (tested_spells word word_bytes (λ n. n < 4294967296) (λ n. leb n path_limit) fault.Number word_spells) b3 l
    (λ g4 f4 b4 l4 e4.
    then_word g4.rest more g4.at most m g3.value g4.value found b4 l
    (let k = length-append bytes more in let j = length-append g4.rest more in
    (omega (arith, l1, l2, l3, l4), omega (arith, k, j, l1, l2, l3, l4))) e4) e3) e2) e1) e
  where
    then_word : (rest more : List ℕ) (at most m stamp limit : ℕ) (found : FileFault) → IsBytes rest → Lasting found
        → (length rest ≤ most) × (length (rest ++ more) ≤ m)
        → ended (from_count most stamp limit rest at) ≡ Err found
        → EndsBad (ended (from_count m stamp limit (rest ++ more) at))
    then_word rest more at most m stamp limit found fits l le e = go (word rest at) refl e
      where
        go : (o : Result (Got ℕ) FileFault) → word rest at ≡ o
            → ended (on_got o (λ count. from_functions most stamp limit count)) ≡ Err found
            → EndsBad (ended (from_count m stamp limit (rest ++ more) at))
        go (Ok g) h f =
            let t = word_spells.takes rest at g fits h in
            let k = ap length t.0 in
            let j = length-append (word_bytes g.value) g.rest in
            let w : length (word_bytes g.value) ≡ 4 = refl in
            let a = length-append rest more in
            let b = length-append g.rest more in
            let le0 = le.0 in
            let le1 = le.1 in
            subst EndsBad (sym (ap (λ o. ended (on_got o (λ count. from_functions m stamp limit count)))
            ((steady_lasts word word_steady).ok rest more at g h)))
            (functions_last most m g.value stamp limit g.rest more g.at found t.2 t.1 (omega (arith, k, j, w, le0))
            (omega (arith, k, j, w, a, b, le1)) l f)
        go (Err other) h f =
            ended_bad (from_count m stamp limit (rest ++ more) at)
            (on_bad (word (rest ++ more) at) (λ count. from_functions m stamp limit count)
            ((steady_lasts word word_steady).err rest more at other h (lasting other found f l)))

-- with more bytes behind them laid out, bytes are laid out or end too early
pub laid_or_short : (bytes more : List ℕ) (file : FileValue) → IsBytes bytes → laid_out (bytes ++ more) ≡ Ok file
    → ((f : FileValue) × (laid_out bytes ≡ Ok f)) ⊎ ((n : ℕ) × (laid_out bytes ≡ Err (fault.Short n)))
laid_or_short bytes more file fits h = go (laid_out bytes) refl
  where
    bad : (found : FileFault) → laid_out bytes ≡ Err found → Lasting found → ⊥
    bad found e l = subst EndsBad h (laid_last bytes more found fits e l)

    go : (o : Result FileValue FileFault) → laid_out bytes ≡ o
        → ((f : FileValue) × (laid_out bytes ≡ Ok f)) ⊎ ((n : ℕ) × (laid_out bytes ≡ Err (fault.Short n)))
    go (Ok f) e = inl (f, e)
    go (Err (fault.Short n)) e = inr (n, e)
    go (Err (fault.Magic n)) e = absurd (bad (fault.Magic n) e tt)
    go (Err (fault.Version n)) e = absurd (bad (fault.Version n) e tt)
    go (Err (fault.Tag n)) e = absurd (bad (fault.Tag n) e tt)
    go (Err (fault.Length n)) e = absurd (bad (fault.Length n) e tt)
    go (Err (fault.Text n)) e = absurd (bad (fault.Text n) e tt)
    go (Err (fault.Order n)) e = absurd (bad (fault.Order n) e tt)
    go (Err (fault.Net n)) e = absurd (bad (fault.Net n) e tt)
    go (Err (fault.Number n)) e = absurd (bad (fault.Number n) e tt)
    go (Err (fault.Extra n)) e = absurd (bad (fault.Extra n) e tt)
