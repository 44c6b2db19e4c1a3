-- The file of records is read as it is spelled.
use Rattle.std.proofs.Common.{◌≡◌, ◌≤◌, ◌<◌, ◌+◌, refl, sym, ap, subst, ◌∙◌, ℕ, zero, suc, Bool, true, false, cond}
use Rattle.std.proofs.Common.{◌&&◌, ◌==◌, not, leb, List, [], ◌∷◌, ◌++◌, length, Ok}
use Rattle.std.proofs.Common.{append-nil, append_assoc, arith}
use Rattle.std.specs.Prelude.{flat_map}
use Rattle.std.specs.List.{All}
use Rattle.std.proofs.lemmas.Bool.{cond-true, lt-ltb, le-ltb, le-leb}
use Rattle.std.proofs.lemmas.List.{length-append}
use Rattle.std.proofs.lemmas.List.Elements.{All-head, All-tail}
use Rattle.gcov_items.specs.Items.{word_bytes}
use Rattle.gcov_records.specs.declared.fault.FileFault.{FileFault}
use Rattle.gcov_records.specs.declared.fault.FileFault.TheVariants as fault
use Rattle.gcov_records.specs.Records.{spelled_from}
use Rattle.gcov_records.specs.Reading.{Reading, on_got, ◌>>=◌, give, word, fixed, ended}
use Rattle.gcov_records.proofs.Spelled.{word_spells, fixed_spells, tested_spells, this_is}
use Rattle.gcno_format.specs.declared.marks.Marked.{Marked}
use Rattle.gcno_format.specs.Marks.{Leaving, joined, leavings}
use Rattle.gcno_format.specs.Notes.{path_limit, is_name}
use Rattle.gcno_format.specs.Spelling.{magic, version, function_tag, arcs_bytes, head_bytes, blocks_bytes}
use Rattle.gcno_format.specs.Layout.{LinesValue, LayoutValue, FileValue, ProgressValue, begun, with_arcs, with_lines}
use Rattle.gcno_format.specs.Layout.{all_begun, is_due}
use Rattle.gcno_format.specs.Reading.{head_at, is_over, records, first_function, functions_of, limit_word, notes_file}
use Rattle.gcno_format.specs.Reading.{laid_out}
use Rattle.gcno_format.proofs.LineLaws.{record_bytes}
use Rattle.gcno_format.proofs.HeadLaws.{FitHead, headed, behind_tag, head_spells}
use Rattle.gcno_format.proofs.LayoutLaws.{layout_bytes, Leavings, LineRecords}
use Rattle.gcno_format.proofs.TakenLaws.{head_parts, head_joined, functions_bytes, file_bytes}
use Rattle.gcno_format.proofs.AgainLaws.{Reaches, onward, one_step, function_step, with_leavings, leavings_reach}
use Rattle.gcno_format.proofs.AgainLaws.{SameLines, with_records, lines_reach}

-- the records of a function in order, with lengths and numbers of one word
pub record FitSpelled (l : LayoutValue) : Type 0 where
  pub name : is_name l.name ≡ true
  pub short : length l.name + 17 < 4294967296
  pub checksum : l.checksum < 4294967296
  pub line : l.line < 4294967296
  pub blocks : l.blocks < 4294967296
  pub arcs_end : ℕ
  pub lines_end : ℕ
  pub arcs : Leavings 0 arcs_end (leavings l.arcs)
  pub lines : LineRecords 0 lines_end l.lines

-- ---- what was added

-- arcs and records of lines were added to the function
pub record Added (p : ProgressValue) (arcs : List Marked) (lines : List LinesValue) (q : ProgressValue) : Type 0 where
  pub before : q.before ≡ p.before
  pub next : q.next ≡ p.next
  pub count : q.count ≡ p.count
  pub name : q.now.name ≡ p.now.name
  pub line : q.now.line ≡ p.now.line
  pub checksum : q.now.checksum ≡ p.now.checksum
  pub blocks : q.now.blocks ≡ p.now.blocks
  pub arcs_now : q.now.arcs ≡ p.now.arcs ++ arcs
  pub lines_now : q.now.lines ≡ p.now.lines ++ lines

abbrev arcs_in : List Leaving → List Marked
arcs_in ls = flat_map (λ l. l.arcs) ls

leavings_added : (p : ProgressValue) (ls : List Leaving)
    → Added p (arcs_in ls) [] (with_leavings p ls) × ((with_leavings p ls).lines_from ≡ p.lines_from)
unfolding with_leavings
leavings_added p [] = (
  record {
    before = refl;
    next = refl;
    count = refl;
    name = refl;
    line = refl;
    checksum = refl;
    blocks = refl;
    arcs_now = sym (append-nil p.now.arcs);
    lines_now = sym (append-nil p.now.lines);
  },
  refl,
)
leavings_added p (l ∷ ls) =
    let h = leavings_added (with_arcs p l) ls in
    let a = h.0 in (
      record {
        before = a.before;
        next = a.next;
        count = a.count;
        name = a.name;
        line = a.line;
        checksum = a.checksum;
        blocks = a.blocks;
        arcs_now = a.arcs_now ∙ append_assoc p.now.arcs l.arcs (arcs_in ls);
        lines_now = a.lines_now;
      },
      h.1,
    )

records_added : (p : ProgressValue) (rs : List LinesValue) → Added p [] rs (with_records p rs)
unfolding with_records
records_added p [] = record {
  before = refl;
  next = refl;
  count = refl;
  name = refl;
  line = refl;
  checksum = refl;
  blocks = refl;
  arcs_now = sym (append-nil p.now.arcs);
  lines_now = sym (append-nil p.now.lines);
}
records_added p (r ∷ rs) =
    let a = records_added (with_lines p r) rs in
    record {
      before = a.before;
      next = a.next;
      count = a.count;
      name = a.name;
      line = a.line;
      checksum = a.checksum;
      blocks = a.blocks;
      arcs_now = a.arcs_now;
      lines_now = a.lines_now ∙ append_assoc p.now.lines (r ∷ []) rs;
    }

joined_arcs : (m : Marked) (ls : List Leaving) → arcs_in (joined m ls) ≡ m ∷ arcs_in ls
joined_arcs m [] = refl
joined_arcs m (l ∷ ls) = go (l.block == m.from)
  where
    go : (x : Bool) → arcs_in (cond x (record { block = l.block; arcs = m ∷ l.arcs } ∷ ls)
        (record { block = m.from; arcs = m ∷ [] } ∷ l ∷ ls)) ≡ m ∷ arcs_in (l ∷ ls)
    go true = refl
    go false = refl

leavings_arcs : (ms : List Marked) → arcs_in (leavings ms) ≡ ms
leavings_arcs [] = refl
leavings_arcs (m ∷ ms) = joined_arcs m (leavings ms) ∙ ap (λ (l : List Marked). m ∷ l) (leavings_arcs ms)

-- ---- functions

-- the same records of a function, but for their places
pub record SameLayout (l q : LayoutValue) : Type 0 where
  pub name : q.name ≡ l.name
  pub line : q.line ≡ l.line
  pub checksum : q.checksum ≡ l.checksum
  pub blocks : q.blocks ≡ l.blocks
  pub arcs : q.arcs ≡ l.arcs
  pub lines : SameLines l.lines q.lines

-- the head of a function at a place
abbrev head_of : ℕ → LayoutValue → LayoutValue
head_of place l = headed place l.name l.line l.checksum l.blocks

head_fit : (place : ℕ) (l : LayoutValue) → FitSpelled l → FitHead place (head_of place l)
head_fit place l f = record {
  name = f.name;
  short = f.short;
  checksum = f.checksum;
  line = f.line;
  blocks = f.blocks;
  bare = refl;
}

-- the arcs and lines behind a function's head were read
pub record Body (n : ℕ) (p : ProgressValue) (l : LayoutValue) (rest : List ℕ) (at : ℕ) : Type 0 where
  pub value : ProgressValue
  pub reaches : Reaches n p (arcs_bytes l.arcs ++ (flat_map record_bytes l.lines ++ rest)) at value rest
  pub before : value.before ≡ p.before
  pub next : value.next ≡ p.next
  pub count : value.count ≡ p.count
  pub alike : SameLayout l value.now

body : (n place next count at : ℕ) (before : List LayoutValue) (l : LayoutValue) (rest : List ℕ) → FitSpelled l
    → length (arcs_bytes l.arcs ++ (flat_map record_bytes l.lines ++ rest)) < n
    → Body n (begun before (head_of place l) next count) l rest at
body n place next count at before l rest f lt =
    let p : ProgressValue = begun before (head_of place l) next count in
    let ls : List Leaving = leavings l.arcs in
    let q : ProgressValue = with_leavings p ls in
    let a = leavings_reach n p ls f.arcs_end (flat_map record_bytes l.lines ++ rest) at f.arcs refl lt in
    let added = leavings_added p ls in
    let records_fit = subst (λ k. LineRecords k f.lines_end l.lines) (sym added.1) f.lines in
    let b = lines_reach a.more q l.lines f.lines_end rest a.next records_fit a.enough in
    let r = records_added q b.lines in
    let arcs = added.0 in
    record {
      value = with_records q b.lines;
      reaches = onward n p q (with_records q b.lines) (arcs_bytes l.arcs ++ (flat_map record_bytes l.lines ++ rest))
          (flat_map record_bytes l.lines ++ rest) rest at a b.reaches;
      before = r.before ∙ arcs.before;
      next = r.next ∙ arcs.next;
      count = r.count ∙ arcs.count;
      alike = record {
        name = r.name ∙ arcs.name;
        line = r.line ∙ arcs.line;
        checksum = r.checksum ∙ arcs.checksum;
        blocks = r.blocks ∙ arcs.blocks;
        arcs = r.arcs_now ∙ (append-nil q.now.arcs ∙ (arcs.arcs_now ∙ leavings_arcs l.arcs));
        lines = subst (SameLines l.lines)
            (sym (r.lines_now ∙ ap (λ (x : List LinesValue). x ++ b.lines) arcs.lines_now)) b.alike;
      };
    }

-- the same records of functions
abbrev pub SameLayouts : List LayoutValue → List LayoutValue → Type 0
SameLayouts [] [] = Unit {0}
SameLayouts (l ∷ ls) (q ∷ qs) = SameLayout l q × SameLayouts ls qs
SameLayouts _ _ = ⊥

-- a function's bytes before others
parted : (k : ℕ) (l : LayoutValue) (rest : List ℕ)
    → layout_bytes k l ++ rest ≡ head_parts k l ++ (arcs_bytes l.arcs ++ (flat_map record_bytes l.lines ++ rest))
parted k l rest = five (head_bytes k l.checksum l.name l.line) (blocks_bytes l.blocks) (arcs_bytes l.arcs)
    (flat_map record_bytes l.lines) rest
  where
    five : (a b c d e : List ℕ) → (a ++ (b ++ (c ++ d))) ++ e ≡ (a ++ (b ++ [])) ++ (c ++ (d ++ e))
    five a b c d e =
        append_assoc a (b ++ (c ++ d)) e
        ∙ (ap (λ (l : List ℕ). a ++ l) (append_assoc b (c ++ d) e ∙ ap (λ (l : List ℕ). b ++ l) (append_assoc c d e))
        ∙ (sym (append_assoc a b (c ++ (d ++ e)))
        ∙ ap (λ (l : List ℕ). (a ++ l) ++ (c ++ (d ++ e))) (sym (append-nil b))))

-- the functions to the end were read
pub record ToEnd (n : ℕ) (p : ProgressValue) (ls : List LayoutValue) (bytes : List ℕ) (at : ℕ) : Type 0 where
  pub value : ProgressValue
  pub next : ℕ
  pub more : List LayoutValue
  pub reads : records n p bytes at ≡ Ok (record { value = value; rest = []; at = next })
  pub begun_ : all_begun value ≡ all_begun p ++ more
  pub alike : SameLayouts ls more

ends : (n : ℕ) (p : ProgressValue) (at : ℕ) → p.next ≡ p.count → 0 < n → ToEnd n p [] [] at
ends zero p at e lt = absurd (omega (arith, lt))
ends (suc n) p at e lt =
    let over : is_over p [] ≡ true = ap (λ b. not b && true) (le-ltb p.next p.count (omega (arith, e))) in
    record {
      value = p;
      next = at;
      more = [];
      reads = cond-true (is_over p []) _ _ over;
      begun_ = sym (append-nil (all_begun p));
      alike = tt;
    }

pub functions_reach : (ls : List LayoutValue) (n : ℕ) (p : ProgressValue) (at : ℕ) → p.next + length ls ≡ p.count
    → p.count < 4294967296 → All FitSpelled ls → length (spelled_from p.next layout_bytes ls) < n
    → ToEnd n p ls (spelled_from p.next layout_bytes ls) at
functions_reach [] n p at e few f lt = ends n p at (omega (arith, e)) lt
functions_reach (l ∷ ls) n p at e few f lt =
    let fit = All-head FitSpelled l ls f in
    let rest : List ℕ = spelled_from (p.next + 1) layout_bytes ls in
    let tail_ : List ℕ = arcs_bytes l.arcs ++ (flat_map record_bytes l.lines ++ rest) in
    let whole_ : spelled_from p.next layout_bytes (l ∷ ls) ≡ head_parts p.next l ++ tail_ = parted p.next l rest in
    let lt' : length (head_parts p.next l ++ tail_) < n = subst (λ (b : List ℕ). length b < n) whole_ lt in
    let next_ : ProgressValue = begun (all_begun p) (head_of at l) (p.next + 1) p.count in
    let due : is_due p ≡ true = lt-ltb p.next p.count (omega (arith, e)) in
    let a = one_step n p next_ (head_parts p.next l ++ tail_) tail_ at lt'
    (function_step p (head_of at l) tail_ at (omega (arith, e, few)) due (head_fit at l fit)) in
    let b = body a.more at (p.next + 1) p.count a.next (all_begun p) l rest fit a.enough in
    let q : ProgressValue = b.value in
    let there : q.next ≡ p.next + 1 = b.next in
    let count : q.count ≡ p.count = b.count in
    let c = functions_reach ls b.reaches.more q b.reaches.next (omega (arith, e, there, count)) (omega (arith, few, count))
    (All-tail FitSpelled l ls f)
    (subst (λ k. length (spelled_from k layout_bytes ls) < b.reaches.more) (sym there) b.reaches.enough) in
    record {
      value = c.value;
      next = c.next;
      more = q.now ∷ c.more;
      reads = ap (λ (l : List ℕ). records n p l at) whole_ ∙ (a.same ∙ (b.reaches.same
          ∙ (ap (λ k. records b.reaches.more q (spelled_from k layout_bytes ls) b.reaches.next) (sym there) ∙ c.reads)));
      begun_ = c.begun_ ∙ (ap (λ (l : List LayoutValue). (l ++ q.now ∷ []) ++ c.more) b.before
          ∙ append_assoc (all_begun p) (q.now ∷ []) c.more);
      alike = (b.alike, c.alike);
    }

-- ---- files

-- the first function is read
record First (l : LayoutValue) (bytes rest : List ℕ) (at : ℕ) : Type 0 where
  next : ℕ
  reads : first_function bytes at ≡ Ok (record { value = l; rest = rest; at = next })

first_again : (l : LayoutValue) (rest : List ℕ) (at : ℕ) → FitHead at l → First l (head_parts 0 l ++ rest) rest at
first_again l rest at f =
    let start : ℕ = at + length (word_bytes function_tag) in
    record {
      next = start + length (behind_tag 0 l);
      reads = ap (λ (b : List ℕ). first_function b at) (sym (head_joined 0 l rest))
          ∙ (ap (λ o. on_got o (λ t. head_at 0 at)) ((fixed_spells function_tag fault.Tag).again function_tag
          (behind_tag 0 l ++ rest) at (this_is function_tag (omega arith)))
          ∙ (head_spells 0 at (omega arith)).again l rest start f);
    }

-- functions are read
record FunctionsRead (most : ℕ) (ls : List LayoutValue) (at : ℕ) : Type 0 where
  value : List LayoutValue
  next : ℕ
  reads : functions_of most (length ls) (functions_bytes ls) at ≡ Ok (record { value = value; rest = []; at = next })
  alike : SameLayouts ls value

functions_again : (most : ℕ) (ls : List LayoutValue) (at : ℕ) → All FitSpelled ls → length ls < 4294967296
    → length (functions_bytes ls) < most → FunctionsRead most ls at
functions_again most [] at f few lt = record { value = []; next = at; reads = refl; alike = tt }
functions_again most (l ∷ ls) at f few lt =
    let fit = All-head FitSpelled l ls f in
    let rest : List ℕ = spelled_from 1 layout_bytes ls in
    let tail_ : List ℕ = arcs_bytes l.arcs ++ (flat_map record_bytes l.lines ++ rest) in
    let split : functions_bytes (l ∷ ls) ≡ head_parts 0 l ++ tail_ = parted 0 l rest in
    let long = length-append (head_parts 0 l) tail_ in
    let same = ap length split in
    let a = first_again (head_of at l) tail_ at (head_fit at l fit) in
    let start : ProgressValue = begun [] (head_of at l) 1 (length (l ∷ ls)) in
    let b = body most at 1 (length (l ∷ ls)) a.next [] l rest fit (omega (arith, long, same, lt)) in
    let q : ProgressValue = b.value in
    let there : q.next ≡ 1 = b.next in
    let count : q.count ≡ length (l ∷ ls) = b.count in
    let c = functions_reach ls b.reaches.more q b.reaches.next (omega (arith, there, count)) (omega (arith, few, count))
    (All-tail FitSpelled l ls f)
    (subst (λ k. length (spelled_from k layout_bytes ls) < b.reaches.more) (sym there) b.reaches.enough) in
    let reads : records most start tail_ a.next ≡ Ok (record { value = c.value; rest = []; at = c.next }) =
    b.reaches.same ∙ (ap (λ k. records b.reaches.more q (spelled_from k layout_bytes ls) b.reaches.next) (sym there)
    ∙ c.reads) in
    let all : all_begun c.value ≡ q.now ∷ c.more =
    c.begun_ ∙ ap (λ (l : List LayoutValue). (l ++ q.now ∷ []) ++ c.more) b.before in
    record {
      value = q.now ∷ c.more;
      next = c.next;
      reads = ap (λ (b : List ℕ). functions_of most (length (l ∷ ls)) b at) split
          ∙ (ap (λ o. on_got o (λ now. records most (begun [] now 1 (length (l ∷ ls))) >>= λ p. give (all_begun p)))
          a.reads
          ∙ (ap (λ o. on_got o (λ p. give (all_begun p))) reads
          ∙ ap (λ (v : List LayoutValue). Ok (record { value = v; rest = []; at = c.next })) all));
      alike = (b.alike, c.alike);
    }

word_step : {B : Type 0} (n : ℕ) (next : ℕ → Reading B) (rest : List ℕ) (at : ℕ) → n < 4294967296
    → (word >>= next) (word_bytes n ++ rest) at ≡ next n rest (at + length (word_bytes n))
word_step n next rest at lt = ap (λ o. on_got o next) (word_spells.again n rest at lt)

fixed_step : {B : Type 0} (n : ℕ) (found : ℕ → FileFault) (next : ℕ → Reading B) (rest : List ℕ) (at : ℕ)
    → n < 4294967296
    → (fixed n found >>= next) (word_bytes n ++ rest) at ≡ next n rest (at + length (word_bytes n))
fixed_step n found next rest at lt = ap (λ o. on_got o next) ((fixed_spells n found).again n rest at (this_is n lt))

limit_step : {B : Type 0} (n : ℕ) (next : ℕ → Reading B) (rest : List ℕ) (at : ℕ) → n ≤ path_limit
    → (limit_word >>= next) (word_bytes n ++ rest) at ≡ next n rest (at + length (word_bytes n))
limit_step n next rest at le =
    ap (λ o. on_got o next) ((tested_spells word word_bytes (λ n. n < 4294967296) (λ n. leb n path_limit) fault.Number
    word_spells).again n rest at (omega (arith, le), le-leb n path_limit le))

-- the readings of a file, item by item
abbrev pub from_functions : ℕ → ℕ → ℕ → ℕ → Reading FileValue
from_functions most stamp limit count =
    functions_of most count >>= λ functions. give (record { stamp = stamp; limit = limit; functions = functions })

abbrev pub from_count : ℕ → ℕ → ℕ → Reading FileValue
from_count most stamp limit = word >>= λ count. from_functions most stamp limit count

abbrev pub from_limit : ℕ → ℕ → Reading FileValue
from_limit most stamp = limit_word >>= λ limit. from_count most stamp limit

abbrev pub from_stamp : ℕ → Reading FileValue
from_stamp most = word >>= λ stamp. from_limit most stamp

abbrev pub from_version : ℕ → Reading FileValue
from_version most = fixed version fault.Version >>= λ v. from_stamp most

-- a file is read
pub record FileRead (f : FileValue) : Type 0 where
  pub functions : List LayoutValue
  pub reads : laid_out (file_bytes f) ≡ Ok (record { stamp = f.stamp; limit = f.limit; functions = functions })
  pub alike : SameLayouts f.functions functions

pub file_again : (f : FileValue) → f.stamp < 4294967296 → f.limit ≤ path_limit → length f.functions < 4294967296
    → All FitSpelled f.functions → FileRead f
file_again f stamp limit few fits =
    let most : ℕ = length (file_bytes f) in
    let rest : List ℕ = functions_bytes f.functions in
    let r4 : List ℕ = word_bytes (length f.functions) ++ rest in
    let r3 : List ℕ = word_bytes f.limit ++ r4 in
    let r2 : List ℕ = word_bytes f.stamp ++ r3 in
    let r1 : List ℕ = word_bytes version ++ r2 in
    let l1 = length-append (word_bytes magic) r1 in
    let l2 = length-append (word_bytes version) r2 in
    let l3 = length-append (word_bytes f.stamp) r3 in
    let l4 = length-append (word_bytes f.limit) r4 in
    let l5 = length-append (word_bytes (length f.functions)) rest in
    let w : length (word_bytes magic) ≡ 4 = refl in
    let shorter : length rest < most = omega (arith, w, l1, l2, l3, l4, l5) in
    let a1 : ℕ = 0 + length (word_bytes magic) in
    let a2 : ℕ = a1 + length (word_bytes version) in
    let a3 : ℕ = a2 + length (word_bytes f.stamp) in
    let a4 : ℕ = a3 + length (word_bytes f.limit) in
    let a5 : ℕ = a4 + length (word_bytes (length f.functions)) in
    let a = functions_again most f.functions a5 fits few shorter in
    let path : notes_file most (file_bytes f) 0
    ≡ Ok (record {
      value = record { stamp = f.stamp; limit = f.limit; functions = a.value };
      rest = [];
      at = a.next;
    }) =
    fixed_step magic fault.Magic (λ m. from_version most) r1 0 (omega arith)
    ∙ (fixed_step version fault.Version (λ v. from_stamp most) r2 a1 (omega arith)
    ∙ (word_step f.stamp (λ stamp. from_limit most stamp) r3 a2 stamp
    ∙ (limit_step f.limit (λ limit. from_count most f.stamp limit) r4 a3 limit
    ∙ (word_step (length f.functions) (λ count. from_functions most f.stamp f.limit count) rest a4 few
    ∙ ap (λ o. on_got o (λ functions. give (record {
      stamp = f.stamp;
      limit = f.limit;
      functions = functions;
    }))) a.reads)))) in
    record { functions = a.value; reads = ap ended path; alike = a.alike }
