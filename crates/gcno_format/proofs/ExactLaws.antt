-- What the reader's answers say of the bytes.
use Rattle.std.proofs.Common.{◌≡◌, ◌+◌, refl, sym, ap, subst, ◌∙◌, ℕ, zero, suc, Bool, true, false, cond}
use Rattle.std.proofs.Common.{◌&&◌, ◌==◌, leb, List, [], ◌∷◌, length, Result, Ok, Err, arith, inl, inr, ◌⊎◌}
use Rattle.std.specs.Prelude.{None, Some}
use Rattle.cov_base.specs.declared.refusal.Refusal.{Refusal}
use Rattle.cov_base.specs.declared.refusal.Refusal.TheVariants as refusal
use Rattle.gcov_records.specs.declared.fault.FileFault.{FileFault}
use Rattle.gcov_records.specs.declared.fault.FileFault.TheVariants as fault
use Rattle.gcov_records.specs.Reading.{Got, Reading, on_got, ◌>>=◌, give, word, fixed, ended}
use Rattle.gcov_records.proofs.Spelled.{IsBytes}
use Rattle.gcov_records.proofs.Steady.{Steady, Holds, word_steady, fixed_steady, tested_steady, give_steady}
use Rattle.gcno_format.specs.Notes.{NotesValue, path_limit}
use Rattle.gcno_format.specs.Spelling.{magic, version, function_tag, arc_tag, line_tag, notes_bytes, IsNotes}
use Rattle.gcno_format.specs.Layout.{LayoutValue, FileValue, ProgressValue, begun, with_arcs, with_lines, all_begun}
use Rattle.gcno_format.specs.Layout.{is_due, is_without_lines}
use Rattle.gcno_format.specs.Reading.{fail, placed, head_at, leaving_at, lines_at, arcs_into, lines_into, function_into}
use Rattle.gcno_format.specs.Reading.{wrong_tag, by_tag, next_record, is_over, records, first_function, functions_of}
use Rattle.gcno_format.specs.Reading.{limit_word, notes_file, laid_out}
use Rattle.gcno_format.specs.Values.{HoldsNet, Fails, FirstFails, AllHold, notes_of, Told}
use Rattle.gcno_format.specs.Exact.{IsExactly, IsLaidOut}
use Rattle.gcno_format.proofs.StayLaws.{laid_or_short}
use Rattle.gcno_format.proofs.HeadLaws.{head_steady}
use Rattle.gcno_format.proofs.RecordLaws.{leaving_steady, lines_steady}
use Rattle.gcno_format.proofs.TakenLaws.{laid_out_taken}
use Rattle.gcno_format.proofs.HeldLaws.{file_held}
use Rattle.gcno_format.proofs.NotesLaws.{notes_again}

-- records that hold nets have no fault
holds_or_fails : (l : LayoutValue) (found : FileFault) → HoldsNet l → Fails l found → ⊥
holds_or_fails l (fault.Net n) h (inl f) = f.1 h.arcs
holds_or_fails l (fault.Net n) h (inr f) = (let e : None ≡ Some n = sym h.lines ∙ f.1 in cc)
holds_or_fails l (fault.Short n) h f = f
holds_or_fails l (fault.Magic n) h f = f
holds_or_fails l (fault.Version n) h f = f
holds_or_fails l (fault.Tag n) h f = f
holds_or_fails l (fault.Length n) h f = f
holds_or_fails l (fault.Text n) h f = f
holds_or_fails l (fault.Order n) h f = f
holds_or_fails l (fault.Number n) h f = f
holds_or_fails l (fault.Extra n) h f = f

none_fails : (ls : List LayoutValue) (found : FileFault) → AllHold ls → FirstFails ls found → ⊥
none_fails [] found h f = f
none_fails (l ∷ ls) found h (inl f) = holds_or_fails l found h.0 f
none_fails (l ∷ ls) found h (inr f) = none_fails ls found h.1 f.1

-- a fault of a net isn't Short
no_short : (ls : List LayoutValue) (n : ℕ) → FirstFails ls (fault.Short n) → ⊥
no_short [] n f = f
no_short (l ∷ ls) n (inl f) = f
no_short (l ∷ ls) n (inr f) = no_short ls n f.1

-- ---- where bytes end

-- reading goes on behind what it read, and is Short at the end of the bytes alone
pub record Ends {A : Type 0} (item : Reading A) : Type 0 where
  pub ok : (bytes : List ℕ) (at : ℕ) (g : Got A) → item bytes at ≡ Ok g → g.at + length g.rest ≡ at + length bytes
  pub short : (bytes : List ℕ) (at k : ℕ) → item bytes at ≡ Err (fault.Short k) → k ≡ at + length bytes

steady_ends : {A : Type 0} (item : Reading A) → Steady item → Ends item
steady_ends {A} item s = record {
  ok = λ bytes at g e. (subst (Holds item bytes at) e (s.holds bytes at)).1;
  short = λ bytes at k e. subst (Holds item bytes at) e (s.holds bytes at);
}

bind_ends : {A B : Type 0} (item : Reading A) (next : A → Reading B) → Ends item → ((x : A) → Ends (next x))
    → Ends (item >>= next)
bind_ends {A} {B} item next s t = record {
  ok = λ bytes at g e. ok bytes at g (item bytes at) refl e;
  short = λ bytes at k e. short bytes at k (item bytes at) refl e;
}
  where
    ok : (bytes : List ℕ) (at : ℕ) (g : Got B) (o : Result (Got A) FileFault) → item bytes at ≡ o → on_got o next ≡ Ok g
        → g.at + length g.rest ≡ at + length bytes
    ok bytes at g (Ok h) e f = (t h.value).ok h.rest h.at g f ∙ s.ok bytes at h e
    ok bytes at g (Err found) e f = absurd cc

    short : (bytes : List ℕ) (at k : ℕ) (o : Result (Got A) FileFault) → item bytes at ≡ o
        → on_got o next ≡ Err (fault.Short k) → k ≡ at + length bytes
    short bytes at k (Ok h) e f = (t h.value).short h.rest h.at k f ∙ s.ok bytes at h e
    short bytes at k (Err found) e f =
        s.short bytes at k (e ∙ (let same : found ≡ fault.Short k = cc in ap (λ (x : FileFault). Err x) same))

give_ends : {A : Type 0} (x : A) → Ends (give x)
give_ends x = steady_ends (give x) (give_steady x)

placed_ends : {A : Type 0} (item : ℕ → Reading A) → ((at : ℕ) → Ends (item at)) → Ends (placed item)
placed_ends item s = record {
  ok = λ bytes at g e. (s at).ok bytes at g e;
  short = λ bytes at k e. (s at).short bytes at k e;
}

-- of two readings by a test
either_ends : {A : Type 0} (x : Bool) (one other : Reading A) → Ends one → Ends other → Ends (cond x one other)
either_ends true one other s t = s
either_ends false one other s t = t

wrong_ends : (p : ProgressValue) (place : ℕ) → Ends {A = ProgressValue} (fail (wrong_tag p place))
wrong_ends p place = go (is_due p)
  where
    go : (x : Bool) → Ends {A = ProgressValue} (fail (cond x (fault.Tag place) (fault.Extra place)))
    go true = record { ok = λ bytes at g e. absurd cc; short = λ bytes at k e. absurd cc }
    go false = record { ok = λ bytes at g e. absurd cc; short = λ bytes at k e. absurd cc }

tag_ends : (p : ProgressValue) (place tag : ℕ) → Ends (by_tag p place tag)
tag_ends p place tag =
    either_ends ((tag == arc_tag) && is_without_lines p.now) (arcs_into p) _
    (bind_ends (leaving_at p.arcs_from) (λ l. give (with_arcs p l))
    (steady_ends (leaving_at p.arcs_from) (leaving_steady p.arcs_from)) (λ l. give_ends (with_arcs p l)))
    (either_ends (tag == line_tag) (lines_into p place) _
    (bind_ends (lines_at place p.lines_from) (λ r. give (with_lines p r))
    (steady_ends (lines_at place p.lines_from) (lines_steady place p.lines_from)) (λ r. give_ends (with_lines p r)))
    (either_ends ((tag == function_tag) && is_due p) (function_into p place) (fail (wrong_tag p place))
    (bind_ends (head_at p.next place) (λ now. give (begun (all_begun p) now (p.next + 1) p.count))
    (steady_ends (head_at p.next place) (head_steady p.next place))
    (λ now. give_ends (begun (all_begun p) now (p.next + 1) p.count)))
    (wrong_ends p place)))

record_ends : (p : ProgressValue) → Ends (next_record p)
record_ends p =
    placed_ends (λ place. word >>= λ tag. by_tag p place tag)
    (λ place. bind_ends word (λ tag. by_tag p place tag) (steady_ends word word_steady) (λ tag. tag_ends p place tag))

records_end : (n : ℕ) (p : ProgressValue) → Ends (records n p)
records_end zero p = give_ends p
records_end (suc n) p =
    let more = bind_ends (next_record p) (λ q. records n q) (record_ends p) (λ q. records_end n q) in
    record {
      ok = λ bytes at g e. ok more bytes at g (is_over p bytes) e;
      short = λ bytes at k e. short more bytes at k (is_over p bytes) e;
    }
  where
    ok : Ends (next_record p >>= λ q. records n q) → (bytes : List ℕ) (at : ℕ) (g : Got ProgressValue) (x : Bool)
        → cond x (give p bytes at) ((next_record p >>= λ q. records n q) bytes at) ≡ Ok g
        → g.at + length g.rest ≡ at + length bytes
    ok more bytes at g true e = (give_ends p).ok bytes at g e
    ok more bytes at g false e = more.ok bytes at g e

    short : Ends (next_record p >>= λ q. records n q) → (bytes : List ℕ) (at k : ℕ) (x : Bool)
        → cond x (give p bytes at) ((next_record p >>= λ q. records n q) bytes at) ≡ Err (fault.Short k)
        → k ≡ at + length bytes
    short more bytes at k true e = absurd cc
    short more bytes at k false e = more.short bytes at k e

first_ends : Ends first_function
first_ends =
    placed_ends (λ place. fixed function_tag fault.Tag >>= λ t. head_at 0 place)
    (λ place. bind_ends (fixed function_tag fault.Tag) (λ t. head_at 0 place)
    (steady_ends (fixed function_tag fault.Tag) (fixed_steady function_tag fault.Tag (λ at. tt)))
    (λ t. steady_ends (head_at 0 place) (head_steady 0 place)))

functions_end : (most count : ℕ) → Ends (functions_of most count)
functions_end most zero = give_ends []
functions_end most (suc n) =
    bind_ends first_function (λ now. records most (begun [] now 1 (suc n)) >>= λ p. give (all_begun p)) first_ends
    (λ now. bind_ends (records most (begun [] now 1 (suc n))) (λ p. give (all_begun p))
    (records_end most (begun [] now 1 (suc n))) (λ p. give_ends (all_begun p)))

file_ends : (most : ℕ) → Ends (notes_file most)
file_ends most =
    bind_ends (fixed magic fault.Magic) _
    (steady_ends (fixed magic fault.Magic) (fixed_steady magic fault.Magic (λ at. tt)))
    (λ m. bind_ends (fixed version fault.Version) _
    (steady_ends (fixed version fault.Version) (fixed_steady version fault.Version (λ at. tt)))
    (λ v. bind_ends word _ (steady_ends word word_steady)
    (λ stamp. bind_ends limit_word _
    (steady_ends limit_word (tested_steady (λ limit. leb limit path_limit) fault.Number word (λ at. tt) word_steady))
    (λ limit. bind_ends word _ (steady_ends word word_steady)
    (λ count. bind_ends (functions_of most count) _ (functions_end most count)
    (λ functions. give_ends (record { stamp = stamp; limit = limit; functions = functions })))))))

short_at_end : (bytes : List ℕ) (n : ℕ) → laid_out bytes ≡ Err (fault.Short n) → n ≡ length bytes
short_at_end bytes n e = go (notes_file (length bytes) bytes 0) refl e
  where
    go : (o : Result (Got FileValue) FileFault) → notes_file (length bytes) bytes 0 ≡ o
        → ended o ≡ Err (fault.Short n) → n ≡ length bytes
    go (Ok g) e h = absurd (by (length g.rest == 0) h)
      where
        by : (x : Bool) → cond x (Ok g.value) (Err (fault.Extra g.at)) ≡ Err (fault.Short n) → ⊥
        by true h = cc
        by false h = cc
    go (Err found) e h =
        let k = (file_ends (length bytes)).short bytes 0 n (e ∙ (let same : found ≡ fault.Short n = cc in ap (λ (x : FileFault). Err x) same))
        in omega (arith, k)

-- ---- the law

told_ok : (bytes : List ℕ) (n : NotesValue) (read : Result FileValue FileFault) → IsBytes bytes → laid_out bytes ≡ read
    → Told read (Ok n) → IsNotes n × (bytes ≡ notes_bytes n)
told_ok bytes n (Err found) fits e t = absurd t
told_ok bytes n (Ok file) fits e t =
    let k = laid_out_taken bytes file fits e in
    let h = file_held file k.1 t.0 in
    subst (λ n. IsNotes n × (bytes ≡ notes_bytes n)) (sym t.1) (h.0, k.0 ∙ h.1)

told_only : (n : NotesValue) (file : FileValue) (answer : Result NotesValue (Refusal FileFault)) → AllHold file.functions
    → notes_of file ≡ n → Told (Ok file) answer → (answer ≡ Ok n) ⊎ (answer ≡ Err refusal.NoMemory)
told_only n file (Ok m) h same t = inl (ap (λ (x : NotesValue). Ok x) (t.1 ∙ same))
told_only n file (Err (refusal.Refused found)) h same t = absurd (none_fails file.functions found h t)
told_only n file (Err refusal.NoMemory) h same t = inr refl

told_short : (bytes : List ℕ) (n : ℕ) (read : Result FileValue FileFault) → laid_out bytes ≡ read
    → Told read (Err (refusal.Refused (fault.Short n))) → n ≡ length bytes
told_short bytes n (Ok file) e t = absurd (no_short file.functions n t)
told_short bytes n (Err found) e t = short_at_end bytes n (e ∙ ap (λ (f : FileFault). Err f) (sym t))

front_of : (bytes : List ℕ) → ((f : FileValue) × (laid_out bytes ≡ Ok f)) ⊎ ((n : ℕ) × (laid_out bytes ≡ Err (fault.Short
    n))) → IsLaidOut bytes ⊎ (laid_out bytes ≡ Err (fault.Short (length bytes)))
front_of bytes (inl h) = inl h
front_of bytes (inr h) =
    inr (h.1 ∙ ap (λ n. Err (fault.Short n)) (short_at_end bytes h.0 h.1))

pub exactly : (bytes : List ℕ) → IsBytes bytes → IsExactly bytes
exactly bytes fits = record {
  ok = λ n t. told_ok bytes n (laid_out bytes) fits refl t;
  only = λ n answer h e t. (let k = notes_again n h in
      told_only n k.file answer k.hold k.same (subst (λ r. Told r answer) (ap laid_out e ∙ k.reads) t));
  short = λ n t. told_short bytes n (laid_out bytes) refl t;
  front = λ more h. front_of bytes (laid_or_short bytes more h.0 fits h.1);
}
