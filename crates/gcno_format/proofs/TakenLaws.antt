-- What is read as the records of a file is spelled so.
use Rattle.std.proofs.Common.{◌≡◌, ◌≤◌, ◌<◌, ◌+◌, refl, sym, ap, subst, ◌∙◌, ℕ, zero, suc, Bool, true, false, cond}
use Rattle.std.proofs.Common.{◌&&◌, ◌==◌, not, leb, List, [], ◌∷◌, ◌++◌, length, Result, Ok, Err}
use Rattle.std.proofs.Common.{append-nil, append_assoc, eqb-true, arith}
use Rattle.std.specs.List.{All}
use Rattle.std.proofs.lemmas.Bool.{and_parts, ltb-true, ltb-false, leb-true}
use Rattle.std.proofs.lemmas.List.{length-append, nil_from_length}
use Rattle.std.proofs.lemmas.List.Elements.{All-nil, All-cons, All-append}
use Rattle.gcov_items.specs.Items.{word_bytes}
use Rattle.gcov_records.specs.declared.fault.FileFault.{FileFault}
use Rattle.gcov_records.specs.declared.fault.FileFault.TheVariants as fault
use Rattle.gcov_records.specs.Records.{spelled_from}
use Rattle.gcov_records.specs.Reading.{Got, Reading, on_got, ◌>>=◌, give, word, fixed, ended}
use Rattle.gcov_records.proofs.Spelled.{IsBytes, ok_is, bind_takes, word_spells, fixed_spells, tested_spells}
use Rattle.gcov_records.proofs.Spelled.{IsThis, is_this}
use Rattle.gcno_format.specs.Notes.{path_limit}
use Rattle.gcno_format.specs.Spelling.{magic, version, function_tag, arc_tag, line_tag, leaving_bytes, head_bytes}
use Rattle.gcno_format.specs.Spelling.{blocks_bytes}
use Rattle.gcno_format.specs.Layout.{LayoutValue, FileValue, ProgressValue, begun, with_arcs, with_lines}
use Rattle.gcno_format.specs.Layout.{all_begun, is_due, is_without_lines}
use Rattle.gcno_format.specs.Reading.{fail, head_at, leaving_at, lines_at, arcs_into, lines_into, function_into, wrong_tag}
use Rattle.gcno_format.specs.Reading.{by_tag, next_record, is_over, records, first_function, functions_of, limit_word}
use Rattle.gcno_format.specs.Reading.{notes_file, laid_out}
use Rattle.gcno_format.proofs.LineLaws.{record_bytes}
use Rattle.gcno_format.proofs.HeadLaws.{FitHead, behind_tag, head_spells}
use Rattle.gcno_format.proofs.RecordLaws.{FitLeaving, FitLines, behind_arcs, behind_lines, leaving_spells, lines_spell}
use Rattle.gcno_format.proofs.LayoutLaws.{layout_bytes, arcs_behind_tag, lines_behind_tag, head_behind_tag, FitLayout}
use Rattle.gcno_format.proofs.LayoutLaws.{FitProgress, spelled, spelled_append, with_arcs_spelled, with_arcs_fits}
use Rattle.gcno_format.proofs.LayoutLaws.{with_lines_spelled, with_lines_fits, head_spelled, head_fits, begun_spelled}
use Rattle.gcno_format.proofs.LayoutLaws.{begun_fits}

-- a further record was read: what was read is spelled longer, by what is left shorter
pub record Took (p : ProgressValue) (bytes : List ℕ) (g : Got ProgressValue) : Type 0 where
  pub parts : spelled p ++ bytes ≡ spelled g.value ++ g.rest
  pub fits : FitProgress g.value
  pub left : IsBytes g.rest
  pub less : length g.rest < length bytes
  pub count : g.value.count ≡ p.count

-- bytes are a tag and what stands behind it
took : (p q : ProgressValue) (bytes behind record_ rest : List ℕ) (tag at : ℕ) → bytes ≡ word_bytes tag ++ (behind ++ rest)
    → word_bytes tag ++ (behind ++ rest) ≡ record_ ++ rest → spelled q ≡ spelled p ++ record_ → FitProgress q
    → IsBytes rest → q.count ≡ p.count → Took p bytes (record { value = q; rest = rest; at = at })
took p q bytes behind record_ rest tag at e same more fits whole_ count = record {
  parts = ap (λ (l : List ℕ). spelled p ++ l) (e ∙ same)
      ∙ (sym (append_assoc (spelled p) record_ rest) ∙ ap (λ (l : List ℕ). l ++ rest) (sym more));
  fits = fits;
  left = whole_;
  less = (let l = ap length e in let m = length-append (word_bytes tag) (behind ++ rest) in
      let k = length-append behind rest in
      let w : length (word_bytes tag) ≡ 4 = refl in omega (arith, l, m, k, w));
  count = count;
}

arcs_taken : (p : ProgressValue) (bytes rest : List ℕ) (tag at : ℕ) (g : Got ProgressValue) → FitProgress p
    → IsBytes rest → bytes ≡ word_bytes tag ++ rest → tag ≡ arc_tag → is_without_lines p.now ≡ true
    → arcs_into p rest at ≡ Ok g → Took p bytes g
arcs_taken p bytes rest tag at g fit whole_ e t bare h =
    let q = bind_takes (leaving_at p.arcs_from) behind_arcs (FitLeaving p.arcs_from) (λ l. give (with_arcs p l))
    (leaving_spells p.arcs_from) rest at g whole_ h in
    let same = ok_is (record { value = with_arcs p q.0.value; rest = q.0.rest; at = q.0.at }) g q.4 in
    subst (Took p bytes) same
    (took p (with_arcs p q.0.value) bytes (behind_arcs q.0.value) (leaving_bytes q.0.value) q.0.rest tag q.0.at
    (e ∙ ap (λ (l : List ℕ). word_bytes tag ++ l) q.1)
    (ap (λ n. word_bytes n ++ (behind_arcs q.0.value ++ q.0.rest)) t ∙ arcs_behind_tag q.0.value q.0.rest)
    (with_arcs_spelled p q.0.value fit q.2 bare) (with_arcs_fits p q.0.value fit q.2) q.3 refl)

lines_taken : (p : ProgressValue) (place : ℕ) (bytes rest : List ℕ) (tag at : ℕ) (g : Got ProgressValue)
    → FitProgress p → IsBytes rest → bytes ≡ word_bytes tag ++ rest → tag ≡ line_tag
    → lines_into p place rest at ≡ Ok g → Took p bytes g
lines_taken p place bytes rest tag at g fit whole_ e t h =
    let q = bind_takes (lines_at place p.lines_from) behind_lines (FitLines place p.lines_from)
    (λ r. give (with_lines p r)) (lines_spell place p.lines_from) rest at g whole_ h in
    let same = ok_is (record { value = with_lines p q.0.value; rest = q.0.rest; at = q.0.at }) g q.4 in
    subst (Took p bytes) same
    (took p (with_lines p q.0.value) bytes (behind_lines q.0.value) (record_bytes q.0.value) q.0.rest tag q.0.at
    (e ∙ ap (λ (l : List ℕ). word_bytes tag ++ l) q.1)
    (ap (λ n. word_bytes n ++ (behind_lines q.0.value ++ q.0.rest)) t ∙ lines_behind_tag q.0.value q.0.rest)
    (with_lines_spelled p q.0.value) (with_lines_fits p place q.0.value fit q.2) q.3 refl)

-- a function's head and its blocks
abbrev pub head_parts : ℕ → LayoutValue → List ℕ
head_parts k l = head_bytes k l.checksum l.name l.line ++ (blocks_bytes l.blocks ++ [])

pub head_joined : (k : ℕ) (l : LayoutValue) (rest : List ℕ)
    → word_bytes function_tag ++ (behind_tag k l ++ rest) ≡ head_parts k l ++ rest
head_joined k l rest =
    head_behind_tag k l rest
    ∙ (ap (λ (t : List ℕ). head_bytes k l.checksum l.name l.line ++ (t ++ rest)) (sym (append-nil (blocks_bytes l.blocks)))
    ∙ sym (append_assoc (head_bytes k l.checksum l.name l.line) (blocks_bytes l.blocks ++ []) rest))

function_taken : (p : ProgressValue) (place : ℕ) (bytes rest : List ℕ) (tag at : ℕ) (g : Got ProgressValue)
    → FitProgress p → IsBytes rest → bytes ≡ word_bytes tag ++ rest → tag ≡ function_tag → is_due p ≡ true
    → function_into p place rest at ≡ Ok g → Took p bytes g
function_taken p place bytes rest tag at g fit whole_ e t due h =
    let lt = ltb-true p.next p.count due in
    let few = fit.word in
    let q = bind_takes (head_at p.next place) (behind_tag p.next) (FitHead place)
    (λ now. give (begun (all_begun p) now (p.next + 1) p.count)) (head_spells p.next place (omega (arith, lt, few)))
    rest at g whole_ h in
    let same = ok_is (record { value = begun (all_begun p) q.0.value (p.next + 1) p.count; rest = q.0.rest; at = q.0.at })
    g q.4 in
    subst (Took p bytes) same
    (took p (begun (all_begun p) q.0.value (p.next + 1) p.count) bytes (behind_tag p.next q.0.value)
    (head_parts p.next q.0.value) q.0.rest tag q.0.at (e ∙ ap (λ (l : List ℕ). word_bytes tag ++ l) q.1)
    (ap (λ n. word_bytes n ++ (behind_tag p.next q.0.value ++ q.0.rest)) t ∙ head_joined p.next q.0.value q.0.rest)
    (begun_spelled p place q.0.value fit q.2) (begun_fits p place q.0.value fit lt q.2) q.3 refl)

tag_taken : (p : ProgressValue) (place : ℕ) (bytes rest : List ℕ) (tag at : ℕ) (g : Got ProgressValue)
    → FitProgress p → IsBytes rest → bytes ≡ word_bytes tag ++ rest → by_tag p place tag rest at ≡ Ok g → Took p bytes g
tag_taken p place bytes rest tag at g fit whole_ e h =
    arcs ((tag == arc_tag) && is_without_lines p.now) refl h
  where
    functions : (x : Bool) → ((tag == function_tag) && is_due p) ≡ x
        → cond x (function_into p place) (fail (wrong_tag p place)) rest at ≡ Ok g → Took p bytes g
    functions true t h =
        let k = and_parts (tag == function_tag) (is_due p) t in
        function_taken p place bytes rest tag at g fit whole_ e (eqb-true tag function_tag k.0) k.1 h
    functions false t h = absurd cc

    lines : (x : Bool) → (tag == line_tag) ≡ x
        → cond x (lines_into p place)
        (cond ((tag == function_tag) && is_due p) (function_into p place) (fail (wrong_tag p place))) rest at ≡ Ok g
        → Took p bytes g
    lines true t h = lines_taken p place bytes rest tag at g fit whole_ e (eqb-true tag line_tag t) h
    lines false t h = functions ((tag == function_tag) && is_due p) refl h

    arcs : (x : Bool) → ((tag == arc_tag) && is_without_lines p.now) ≡ x
        → cond x (arcs_into p) (cond (tag == line_tag) (lines_into p place)
        (cond ((tag == function_tag) && is_due p) (function_into p place) (fail (wrong_tag p place)))) rest at ≡ Ok g
        → Took p bytes g
    arcs true t h =
        let k = and_parts (tag == arc_tag) (is_without_lines p.now) t in
        arcs_taken p bytes rest tag at g fit whole_ e (eqb-true tag arc_tag k.0) k.1 h
    arcs false t h = lines (tag == line_tag) refl h

pub record_taken : (p : ProgressValue) (bytes : List ℕ) (at : ℕ) (g : Got ProgressValue) → FitProgress p → IsBytes bytes
    → next_record p bytes at ≡ Ok g → Took p bytes g
record_taken p bytes at g fit fits h =
    let q = bind_takes word word_bytes (λ n. n < 4294967296) (λ tag. by_tag p at tag) word_spells bytes at g fits h in
    tag_taken p at bytes q.0.rest q.0.value q.0.at g fit q.3 q.1 q.4

-- all records were read
pub record TookAll (p : ProgressValue) (bytes : List ℕ) (g : Got ProgressValue) : Type 0 where
  pub parts : spelled p ++ bytes ≡ spelled g.value
  pub fits : FitProgress g.value
  pub over : g.rest ≡ []
  pub done : g.value.next ≡ g.value.count
  pub count : g.value.count ≡ p.count

pub on_ok : {A B : Type 0} (o : Result (Got A) FileFault) (next : A → Reading B) (g : Got B) → on_got o next ≡ Ok g
    → (h : Got A) × (o ≡ Ok h) × (next h.value h.rest h.at ≡ Ok g)
on_ok (Ok h) next g e = (h, refl, e)
on_ok (Err f) next g e = absurd cc

pub records_taken : (n : ℕ) (p : ProgressValue) (bytes : List ℕ) (at : ℕ) (g : Got ProgressValue) → FitProgress p
    → IsBytes bytes → length bytes < n → records n p bytes at ≡ Ok g → TookAll p bytes g
records_taken zero p bytes at g fit fits lt h = absurd (omega (arith, lt))
records_taken (suc n) p bytes at g fit fits lt h =
    go (is_over p bytes) refl h (λ q. records_taken n q.value q.rest q.at g)
  where
    go : (x : Bool) → is_over p bytes ≡ x
        → cond x (give p bytes at) ((next_record p >>= λ q. records n q) bytes at) ≡ Ok g
        → ((q : Got ProgressValue) → FitProgress q.value → IsBytes q.rest → length q.rest < n
        → records n q.value q.rest q.at ≡ Ok g → TookAll q.value q.rest g)
        → TookAll p bytes g
    go true t h ih =
        let k = and_parts (not (is_due p)) (length bytes == 0) t in
        let none = nil_from_length bytes (eqb-true (length bytes) 0 k.1) in
        let past = ltb-false p.next p.count (negated (is_due p) k.0) in
        let most = fit.most in
        subst (TookAll p bytes) (ok_is (record { value = p; rest = bytes; at = at }) g h) (record {
          parts = ap (λ (l : List ℕ). spelled p ++ l) none ∙ append-nil (spelled p);
          fits = fit;
          over = none;
          done = omega (arith, past, most);
          count = refl;
        })
      where
        negated : (b : Bool) → not b ≡ true → b ≡ false
        negated true e = absurd cc
        negated false e = refl
    go false t h ih =
        let q = on_ok (next_record p bytes at) (λ q. records n q) g h in
        let k = record_taken p bytes at q.0 fit fits q.1 in
        let less = k.less in
        let all = ih q.0 k.fits k.left (omega (arith, less, lt)) q.2 in
        record { parts = k.parts ∙ all.parts; fits = all.fits; over = all.over; done = all.done; count = all.count ∙ k.count }

-- ---- files

-- the first function, with its tag
abbrev pub first_bytes : LayoutValue → List ℕ
first_bytes l = head_parts 0 l

-- functions, of which each is spelled with its number
abbrev pub functions_bytes : List LayoutValue → List ℕ
functions_bytes ls = spelled_from 0 layout_bytes ls

-- the file of records
abbrev pub file_bytes : FileValue → List ℕ
file_bytes f =
    word_bytes magic ++ (word_bytes version ++ (word_bytes f.stamp ++ (word_bytes f.limit
    ++ (word_bytes (length f.functions) ++ functions_bytes f.functions))))

-- records of notes
pub record FitFile (f : FileValue) : Type 0 where
  pub stamp : f.stamp < 4294967296
  pub limit : f.limit ≤ path_limit
  pub few : length f.functions < 4294967296
  pub functions : All FitLayout f.functions

pub first_taken : (bytes : List ℕ) (at : ℕ) (g : Got LayoutValue) → IsBytes bytes → first_function bytes at ≡ Ok g
    → (bytes ≡ first_bytes g.value ++ g.rest) × FitHead at g.value × IsBytes g.rest
first_taken bytes at g fits h =
    let q = bind_takes (fixed function_tag fault.Tag) word_bytes (IsThis function_tag) (λ t. head_at 0 at)
    (fixed_spells function_tag fault.Tag) bytes at g fits h in
    let k = (head_spells 0 at (omega arith)).takes q.0.rest q.0.at g q.3 q.4 in (
      q.1 ∙ (ap (λ n. word_bytes n ++ q.0.rest) (sym (is_this function_tag q.0.value q.2))
          ∙ (ap (λ (l : List ℕ). word_bytes function_tag ++ l) k.0 ∙ head_joined 0 g.value g.rest)),
      k.1,
      k.2,
    )

-- the functions that were read
pub record TookFunctions (count : ℕ) (bytes : List ℕ) (g : Got (List LayoutValue)) : Type 0 where
  pub parts : bytes ≡ functions_bytes g.value ++ g.rest
  pub many : length g.value ≡ count
  pub fits : All FitLayout g.value

pub first_fits : (l : LayoutValue) (count at : ℕ) → FitHead at l → 0 < count → count < 4294967296
    → FitProgress (begun [] l 1 count)
first_fits l count at f some few = record {
  before = All-nil FitLayout;
  now = head_fits at l f;
  next = refl;
  most = some;
  word = few;
}

functions_taken : (most count : ℕ) (bytes : List ℕ) (at : ℕ) (g : Got (List LayoutValue)) → IsBytes bytes
    → length bytes < most → count < 4294967296 → functions_of most count bytes at ≡ Ok g → TookFunctions count bytes g
functions_taken most zero bytes at g fits lt few h =
    subst (TookFunctions 0 bytes) (ok_is (record { value = []; rest = bytes; at = at }) g h)
    (record { parts = refl; many = refl; fits = All-nil FitLayout })
functions_taken most (suc n) bytes at g fits lt few h =
    let a = on_ok (first_function bytes at) (λ now. records most (begun [] now 1 (suc n)) >>= λ p. give (all_begun p)) g h in
    let f = first_taken bytes at a.0 fits a.1 in
    let b = on_ok (records most (begun [] a.0.value 1 (suc n)) a.0.rest a.0.at) (λ p. give (all_begun p)) g a.2 in
    let shorter : length a.0.rest < most = (let l = ap length f.0 in let m = length-append (first_bytes a.0.value) a.0.rest in
    omega (arith, l, m, lt)) in
    let k = records_taken most (begun [] a.0.value 1 (suc n)) a.0.rest a.0.at b.0
    (first_fits a.0.value (suc n) at f.1 (omega arith) few) f.2 shorter b.1 in
    let p = b.0.value in
    let many = length-append p.before (p.now ∷ []) in
    let next = k.fits.next in
    let done = k.done in
    let same = k.count in
    subst (TookFunctions (suc n) bytes) (ok_is (record { value = all_begun p; rest = b.0.rest; at = b.0.at }) g b.2)
    (record {
      parts = f.0 ∙ (ap (λ (l : List ℕ). l ++ a.0.rest) (sym (head_spelled 0 at a.0.value f.1))
          ∙ (k.parts ∙ (sym (spelled_append 0 layout_bytes p.before p.now ∙ ap (λ k. spelled_from 0 layout_bytes
          p.before ++ layout_bytes k p.now) (omega arith))
          ∙ (sym (append-nil (functions_bytes (all_begun p)))
          ∙ ap (λ (l : List ℕ). functions_bytes (all_begun p) ++ l) (sym k.over)))));
      many = omega (arith, many, next, done, same);
      fits = All-append FitLayout p.before (p.now ∷ []) k.fits.before
          (All-cons FitLayout p.now []
          (record { arcs_end = p.arcs_from; lines_end = p.lines_from; fit = k.fits.now }) (All-nil FitLayout));
    })

abbrev were : Got FileValue → Result (Got FileValue) FileFault
were g = Ok g

-- bytes that are records of notes are their spelling
pub laid_out_taken : (bytes : List ℕ) (file : FileValue) → IsBytes bytes → laid_out bytes ≡ Ok file
    → (bytes ≡ file_bytes file) × FitFile file
laid_out_taken bytes file fits h =
    let a = ended_ok (notes_file (length bytes) bytes 0) file h in
    let m = bind_takes (fixed magic fault.Magic) word_bytes (IsThis magic) _ (fixed_spells magic fault.Magic) bytes 0
    a.0 fits a.1 in
    let v = bind_takes (fixed version fault.Version) word_bytes (IsThis version) _
    (fixed_spells version fault.Version) m.0.rest m.0.at a.0 m.3 m.4 in
    let s = bind_takes word word_bytes (λ n. n < 4294967296) _ word_spells v.0.rest v.0.at a.0 v.3 v.4 in
    let l = bind_takes limit_word word_bytes (λ n. (n < 4294967296) × (leb n path_limit ≡ true)) _
    (tested_spells word word_bytes (λ n. n < 4294967296) (λ n. leb n path_limit) fault.Number word_spells)
    s.0.rest s.0.at a.0 s.3 s.4 in
    let c = bind_takes word word_bytes (λ n. n < 4294967296) _ word_spells l.0.rest l.0.at a.0 l.3 l.4 in
    let f = on_ok (functions_of (length bytes) c.0.value c.0.rest c.0.at) _ a.0 c.4 in
    let shorter : length c.0.rest < length bytes = (let lm = ap length m.1 in let am = length-append (word_bytes m.0.value) m.0.rest in
    let lv = ap length v.1 in let av = length-append (word_bytes v.0.value) v.0.rest in
    let ls = ap length s.1 in let sa = length-append (word_bytes s.0.value) s.0.rest in
    let ll = ap length l.1 in let al = length-append (word_bytes l.0.value) l.0.rest in
    let lc = ap length c.1 in let ac = length-append (word_bytes c.0.value) c.0.rest in
    let w : length (word_bytes m.0.value) ≡ 4 = refl in
    omega (arith, lm, am, lv, av, ls, sa, ll, al, lc, ac, w)) in
    let t = functions_taken (length bytes) c.0.value c.0.rest c.0.at f.0 c.3 shorter c.2 f.1 in
    let made = ok_is (record {
      value = record { stamp = s.0.value; limit = l.0.value; functions = f.0.value };
      rest = f.0.rest;
      at = f.0.at;
    }) a.0 f.2 in
    let over : f.0.rest ≡ [] = ap (λ (g : Got FileValue). g.rest) made ∙ a.2.0 in
    subst (λ (file : FileValue). (bytes ≡ file_bytes file) × FitFile file)
    (ap (λ (g : Got FileValue). g.value) made ∙ a.2.1) (
      m.1 ∙ (joined_words (is_this magic m.0.value m.2) (v.1 ∙ (joined_words (is_this version v.0.value v.2)
          (s.1 ∙ ap (λ (r : List ℕ). word_bytes s.0.value ++ r) (l.1 ∙ ap (λ (r : List ℕ). word_bytes l.0.value ++ r)
          (c.1 ∙ (ap (λ n. word_bytes n ++ c.0.rest) (sym t.many)
          ∙ ap (λ (r : List ℕ). word_bytes (length f.0.value) ++ r)
          (t.parts ∙ (ap (λ (r : List ℕ). functions_bytes f.0.value ++ r) over
          ∙ append-nil (functions_bytes f.0.value)))))))))),
      record {
        stamp = s.2;
        limit = leb-true l.0.value path_limit l.2.1;
        few = (let m = t.many in let k = c.2 in omega (arith, m, k));
        functions = t.fits;
      },
    )
  where
    joined_words : {n w : ℕ} {rest other : List ℕ} → n ≡ w → rest ≡ other
        → word_bytes w ++ rest ≡ word_bytes n ++ other
    joined_words {n} {w} {rest} {other} e h =
        ap (λ k. word_bytes k ++ rest) (sym e) ∙ ap (λ (l : List ℕ). word_bytes n ++ l) h

    ended_ok : (o : Result (Got FileValue) FileFault) (file : FileValue) → ended o ≡ Ok file
        → (g : Got FileValue) × (o ≡ Ok g) × ((g.rest ≡ []) × (g.value ≡ file))
    ended_ok (Err found) file e = absurd cc
    ended_ok (Ok g) file e = go (length g.rest == 0) refl e
      where
        go : (x : Bool) → (length g.rest == 0) ≡ x → cond x (Ok g.value) (Err (fault.Extra g.at)) ≡ Ok file
            → (h : Got FileValue) × (were g ≡ Ok h) × ((h.rest ≡ []) × (h.value ≡ file))
        go true t e = (g, refl, (nil_from_length g.rest (eqb-true (length g.rest) 0 t), ok_is g.value file e))
        go false t e = absurd cc
