-- What an item is read from stands at the front of the bytes, and whatever follows is left.
use Rattle.std.proofs.Common.{◌≡◌, ◌<◌, ◌+◌, refl, sym, ap, subst, ◌∙◌, ℕ, Bool, true, false, cond}
use Rattle.std.proofs.Common.{◌&&◌, ◌==◌, leb, List, [], ◌++◌, length, Ok, append_assoc, arith}
use Rattle.std.proofs.lemmas.List.{length-append}
use Rattle.gcov_records.specs.declared.fault.FileFault.{FileFault}
use Rattle.gcov_records.specs.declared.fault.FileFault.TheVariants as fault
use Rattle.gcov_records.specs.Reading.{Got, Reading, on_got, ◌>>=◌, give, word, fixed}
use Rattle.gcov_items.specs.Items.{word_bytes}
use Rattle.gcov_records.proofs.Spelled.{IsBytes, Spells, IsThis, word_spells, fixed_spells, tested_spells}
use Rattle.gcov_records.proofs.Steady.{Steady, Holds, behind, word_steady, fixed_steady, tested_steady}
use Rattle.gcov_records.proofs.Steady.{give_steady, bind_steady}
use Rattle.gcno_format.specs.Notes.{path_limit}
use Rattle.gcno_format.specs.Spelling.{function_tag, arc_tag, line_tag}
use Rattle.gcno_format.specs.Layout.{ProgressValue, begun, with_arcs, with_lines, all_begun}
use Rattle.gcno_format.specs.Layout.{is_due, is_without_lines}
use Rattle.gcno_format.specs.Reading.{fail, placed, head_at, leaving_at, lines_at, arcs_into, lines_into, function_into}
use Rattle.gcno_format.specs.Reading.{wrong_tag, by_tag, next_record, first_function, limit_word}
use Rattle.gcno_format.proofs.LayoutLaws.{FitProgress}
use Rattle.gcno_format.proofs.TakenLaws.{on_ok}
use Rattle.gcno_format.proofs.HeadLaws.{FitHead, behind_tag, placed_steady, head_steady, head_spells}
use Rattle.gcno_format.proofs.RecordLaws.{FitLeaving, FitLines, behind_arcs, behind_lines, leaving_steady, lines_steady}
use Rattle.gcno_format.proofs.RecordLaws.{leaving_spells, lines_spell}

-- the bytes that an item was read from, with the bytes behind them
pub record Stands {A : Type 0} (item : Reading A) (bytes : List ℕ) (at : ℕ) (g : Got A) : Type 0 where
  pub front : List ℕ
  pub parts : bytes ≡ front ++ g.rest
  pub place : g.at ≡ at + length front
  pub left : IsBytes g.rest
  pub again : (rest : List ℕ) → item (front ++ rest) at ≡ Ok (record { value = g.value; rest = rest; at = g.at })

-- what is read stands at the front
pub record Local {A : Type 0} (item : Reading A) : Type 0 where
  pub stands : (bytes : List ℕ) (at : ℕ) (g : Got A) → IsBytes bytes → item bytes at ≡ Ok g → Stands item bytes at g

-- with more bytes behind, the same is read
pub longer : {A : Type 0} (item : Reading A) (bytes more : List ℕ) (at : ℕ) (g : Got A) → Stands item bytes at g
    → item (bytes ++ more) at ≡ Ok (behind g more)
longer item bytes more at g s =
    ap (λ (l : List ℕ). item l at) (ap (λ (l : List ℕ). l ++ more) s.parts ∙ append_assoc s.front g.rest more)
    ∙ s.again (g.rest ++ more)

-- the bytes behind are as many as their place says
pub end_same : {A : Type 0} (item : Reading A) (bytes : List ℕ) (at : ℕ) (g : Got A) → Stands item bytes at g
    → g.at + length g.rest ≡ at + length bytes
end_same item bytes at g s =
    let e = ap length s.parts in
    let l = length-append s.front g.rest in
    let p = s.place in
    omega (arith, e, l, p)

spelled_local : {A : Type 0} (item : Reading A) (spell : A → List ℕ) (Fits : A → Type 0) → Spells item spell Fits
    → Steady item → Local item
spelled_local {A} item spell Fits s m = record { stands = stands }
  where
    stands : (bytes : List ℕ) (at : ℕ) (g : Got A) → IsBytes bytes → item bytes at ≡ Ok g → Stands item bytes at g
    stands bytes at g fits e =
        let t = s.takes bytes at g fits e in
        let len = ap length t.0 in
        let sum = length-append (spell g.value) g.rest in
        let end = (subst (Holds item bytes at) e (m.holds bytes at)).1 in
        let place : g.at ≡ at + length (spell g.value) = omega (arith, len, sum, end) in
        record {
          front = spell g.value;
          parts = t.0;
          place = place;
          left = t.2;
          again = λ rest. s.again g.value rest at t.1
              ∙ ap (λ a. Ok (record { value = g.value; rest = rest; at = a })) (sym place);
        }

-- one behind the other
joined : {A B : Type 0} (item : Reading A) (next : A → Reading B) (bytes : List ℕ) (at : ℕ) (h : Got A) (g : Got B)
    → Stands item bytes at h → Stands (next h.value) h.rest h.at g → Stands (item >>= next) bytes at g
joined item next bytes at h g a b =
    let sum = length-append a.front b.front in
    let i = a.place in
    let j = b.place in
    record {
      front = a.front ++ b.front;
      parts = a.parts ∙ (ap (λ (l : List ℕ). a.front ++ l) b.parts ∙ sym (append_assoc a.front b.front g.rest));
      place = omega (arith, sum, i, j);
      left = b.left;
      again = λ rest. ap (λ (l : List ℕ). (item >>= next) l at) (append_assoc a.front b.front rest)
          ∙ (ap (λ o. on_got o next) (a.again (b.front ++ rest)) ∙ b.again rest);
    }

bind_local : {A B : Type 0} (item : Reading A) (next : A → Reading B) → Local item → ((x : A) → Local (next x))
    → Local (item >>= next)
bind_local item next s t = record {
  stands = λ bytes at g fits e. (let p = on_ok (item bytes at) next g e in
      let a = s.stands bytes at p.0 fits p.1 in
      joined item next bytes at p.0 g a ((t p.0.value).stands p.0.rest p.0.at g a.left p.2));
}

give_local : {A : Type 0} (x : A) → Local (give x)
give_local {A} x = record { stands = λ bytes at g fits e. stands bytes at g fits e }
  where
    stands : (bytes : List ℕ) (at : ℕ) (g : Got A) → IsBytes bytes → give x bytes at ≡ Ok g → Stands (give x) bytes at g
    stands bytes at g fits e =
        let same : record { value = x; rest = bytes; at = at } ≡ g = cc in
        subst (Stands (give x) bytes at) same
        (record { front = []; parts = refl; place = omega arith; left = fits; again = λ rest. refl })

placed_local : {A : Type 0} (item : ℕ → Reading A) → ((at : ℕ) → Local (item at)) → Local (placed item)
placed_local item s = record {
  stands = λ bytes at g fits e. (let a = (s at).stands bytes at g fits e in
      record { front = a.front; parts = a.parts; place = a.place; left = a.left; again = λ rest. a.again rest });
}

either_local : {A : Type 0} (x : Bool) (one other : Reading A) → Local one → Local other → Local (cond x one other)
either_local true one other s t = s
either_local false one other s t = t

fail_local : {A : Type 0} (found : FileFault) → Local {A = A} (fail found)
fail_local found = record { stands = λ bytes at g fits e. absurd cc }

-- ---- items of notes

pub word_local : Local word
word_local = spelled_local word word_bytes (λ n. n < 4294967296) word_spells word_steady

pub fixed_local : (n : ℕ) (found : ℕ → FileFault) → Steady (fixed n found) → Local (fixed n found)
fixed_local n found s = spelled_local (fixed n found) word_bytes (IsThis n) (fixed_spells n found) s

pub limit_steady : Steady limit_word
limit_steady = tested_steady (λ limit. leb limit path_limit) fault.Number word (λ at. tt) word_steady

pub limit_local : Local limit_word
limit_local =
    spelled_local limit_word word_bytes (λ n. (n < 4294967296) × (leb n path_limit ≡ true))
    (tested_spells word word_bytes (λ n. n < 4294967296) (λ n. leb n path_limit) fault.Number word_spells) limit_steady

pub function_fixed : Steady (fixed function_tag fault.Tag)
function_fixed = fixed_steady function_tag fault.Tag (λ at. tt)

pub first_steady : Steady first_function
first_steady =
    placed_steady (λ place. fixed function_tag fault.Tag >>= λ t. head_at 0 place)
    (λ place. bind_steady (fixed function_tag fault.Tag) (λ t. head_at 0 place) function_fixed
    (λ t. head_steady 0 place))

pub first_local : Local first_function
first_local =
    placed_local (λ place. fixed function_tag fault.Tag >>= λ t. head_at 0 place)
    (λ place. bind_local (fixed function_tag fault.Tag) (λ t. head_at 0 place)
    (fixed_local function_tag fault.Tag function_fixed)
    (λ t. spelled_local (head_at 0 place) (behind_tag 0) (FitHead place) (head_spells 0 place (omega arith))
    (head_steady 0 place)))

-- the three records that may follow
pub arcs_steady : (p : ProgressValue) → Steady (arcs_into p)
arcs_steady p =
    bind_steady (leaving_at p.arcs_from) (λ l. give (with_arcs p l)) (leaving_steady p.arcs_from)
    (λ l. give_steady (with_arcs p l))

pub line_steady : (p : ProgressValue) (place : ℕ) → Steady (lines_into p place)
line_steady p place =
    bind_steady (lines_at place p.lines_from) (λ r. give (with_lines p r)) (lines_steady place p.lines_from)
    (λ r. give_steady (with_lines p r))

pub function_steady : (p : ProgressValue) (place : ℕ) → Steady (function_into p place)
function_steady p place =
    bind_steady (head_at p.next place) (λ now. give (begun (all_begun p) now (p.next + 1) p.count))
    (head_steady p.next place) (λ now. give_steady (begun (all_begun p) now (p.next + 1) p.count))

tag_local : (p : ProgressValue) (place tag : ℕ) → FitProgress p → Local (by_tag p place tag)
tag_local p place tag fit =
    either_local ((tag == arc_tag) && is_without_lines p.now) (arcs_into p) _
    (bind_local (leaving_at p.arcs_from) (λ l. give (with_arcs p l))
    (spelled_local (leaving_at p.arcs_from) behind_arcs (FitLeaving p.arcs_from) (leaving_spells p.arcs_from)
    (leaving_steady p.arcs_from)) (λ l. give_local (with_arcs p l)))
    (either_local (tag == line_tag) (lines_into p place) _
    (bind_local (lines_at place p.lines_from) (λ r. give (with_lines p r))
    (spelled_local (lines_at place p.lines_from) behind_lines (FitLines place p.lines_from)
    (lines_spell place p.lines_from) (lines_steady place p.lines_from)) (λ r. give_local (with_lines p r)))
    (either_local ((tag == function_tag) && is_due p) (function_into p place) (fail (wrong_tag p place))
    (bind_local (head_at p.next place) (λ now. give (begun (all_begun p) now (p.next + 1) p.count))
    (spelled_local (head_at p.next place) (behind_tag p.next) (FitHead place) (head_spells p.next place few)
    (head_steady p.next place)) (λ now. give_local (begun (all_begun p) now (p.next + 1) p.count)))
    (fail_local (wrong_tag p place))))
  where
    few : p.next < 4294967296
    few =
        let most = fit.most in
        let size = fit.word in
        omega (arith, most, size)

pub record_local : (p : ProgressValue) → FitProgress p → Local (next_record p)
record_local p fit =
    placed_local (λ place. word >>= λ tag. by_tag p place tag)
    (λ place. bind_local word (λ tag. by_tag p place tag) word_local (λ tag. tag_local p place tag fit))
