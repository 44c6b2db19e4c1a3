-- A function's own record and that of its blocks are read as they are spelled, without looking ahead.
use Rattle.std.proofs.Common.{◌≡◌, ◌<◌, ◌+◌, refl, sym, ap, subst, ◌∙◌, ℕ, suc, true, ◌==◌, leb}
use Rattle.std.proofs.Common.{List, [], ◌∷◌, ◌++◌, length, Result, Ok, Err, append-nil, eqb-true, eq-eqb, arith}
use Rattle.std.specs.List.{All}
use Rattle.std.proofs.lemmas.Bool.{le-leb}
use Rattle.std.proofs.lemmas.List.{length-append}
use Rattle.std.proofs.lemmas.List.Elements.{All-append, All-cons, All-nil}
use Rattle.gcov_items.specs.Items.{word_bytes, header_bytes, string_bytes}
use Rattle.gcov_records.specs.declared.fault.FileFault.{FileFault}
use Rattle.gcov_records.specs.declared.fault.FileFault.TheVariants as fault
use Rattle.gcov_records.specs.Records.{spelled_from}
use Rattle.gcov_records.specs.Reading.{Got, Reading, ◌>>=◌, give, tested, word, fixed, header, each}
use Rattle.gcov_records.proofs.Steady.{Steady, Holds, give_steady, bind_steady, tested_steady, each_steady, word_steady}
use Rattle.gcov_records.proofs.Steady.{fixed_steady, header_steady}
use Rattle.gcov_records.proofs.Spelled.{IsBytes, Spells, IsThis, this_is, is_this, ok_is, give_spells, bind_spells}
use Rattle.gcov_records.proofs.Spelled.{respelled, tested_spells, each_spells, fixed_spells, header_spells, word_spells}
use Rattle.gcno_format.specs.Notes.{is_name}
use Rattle.gcno_format.specs.Spelling.{block_tag}
use Rattle.gcno_format.specs.Layout.{LayoutValue}
use Rattle.gcno_format.specs.Reading.{placed, byte, text_in, is_name_string, name_at, head_size, head_at}
use Rattle.gcno_format.proofs.NameLaws.{name_text, nul_behind, with_nul, name_string}

-- what the place is for
pub placed_spells : {A : Type 0} (item : ℕ → Reading A) (spell : A → List ℕ) (Fits : A → Type 0)
    → ((at : ℕ) → Spells (item at) spell Fits) → Spells (placed item) spell Fits
placed_spells item spell Fits s = record {
  takes = λ bytes at. (s at).takes bytes at;
  again = λ x rest at. (s at).again x rest at;
}

pub placed_steady : {A : Type 0} (item : ℕ → Reading A) → ((at : ℕ) → Steady (item at)) → Steady (placed item)
placed_steady {A} item s = record { holds = λ bytes at. go bytes at (item at bytes at) ((s at).holds bytes at) }
  where
    go : (bytes : List ℕ) (at : ℕ) (o : Result (Got A) FileFault) → Holds (item at) bytes at o
        → Holds (placed item) bytes at o
    go bytes at (Ok g) h = h
    go bytes at (Err (fault.Short n)) h = h
    go bytes at (Err (fault.Extra n)) h = h
    go bytes at (Err (fault.Magic n)) h = h
    go bytes at (Err (fault.Version n)) h = h
    go bytes at (Err (fault.Tag n)) h = h
    go bytes at (Err (fault.Length n)) h = h
    go bytes at (Err (fault.Text n)) h = h
    go bytes at (Err (fault.Order n)) h = h
    go bytes at (Err (fault.Net n)) h = h
    go bytes at (Err (fault.Number n)) h = h

-- ---- bytes

abbrev single : ℕ → List ℕ
single b = b ∷ []

byte_spells : Spells byte single (λ b. b < 256)
byte_spells = record { takes = takes; again = λ b rest at h. refl }
  where
    takes : (bytes : List ℕ) (at : ℕ) (g : Got ℕ) → IsBytes bytes → byte bytes at ≡ Ok g
        → (bytes ≡ single g.value ++ g.rest) × (g.value < 256) × IsBytes g.rest
    takes [] at g fits e = absurd cc
    takes (b ∷ rest) at g fits e =
        subst (λ (g : Got ℕ). (b ∷ rest ≡ single g.value ++ g.rest) × (g.value < 256) × IsBytes g.rest)
        (ok_is (record { value = b; rest = rest; at = at + 1 }) g e) (refl, fits 0, λ i. fits (suc i))

byte_steady : Steady byte
byte_steady = record { holds = holds }
  where
    holds : (bytes : List ℕ) (at : ℕ) → Holds byte bytes at (byte bytes at)
    holds [] at = omega arith
    holds (b ∷ rest) at = ((λ more. refl), omega arith)

singles : (i : ℕ) (bs : List ℕ) → spelled_from i (λ i. single) bs ≡ bs
singles i [] = refl
singles i (b ∷ bs) = ap (λ (l : List ℕ). b ∷ l) (singles (i + 1) bs)

bytes_spell : (n : ℕ) → Spells (each 0 n (λ i. byte)) (λ bs. bs) (λ bs. (length bs ≡ n) × All (λ b. b < 256) bs)
bytes_spell n =
    respelled (each 0 n (λ i. byte)) (spelled_from 0 (λ i. single)) (λ bs. bs)
    (λ bs. (length bs ≡ n) × All (λ b. b < 256) bs) (λ bs. (length bs ≡ n) × All (λ b. b < 256) bs)
    (each_spells (λ i. byte) (λ i. single) (λ b. b < 256) 0 n (λ j l. byte_spells)) (λ x h. h) (λ x h. h)
    (λ x h. singles 0 x)

-- ---- names

-- what the bytes of a string are in a record of a length
abbrev FitBytes : ℕ → ℕ → List ℕ → Type 0
FitBytes n size bs =
    (((length bs ≡ n) × All (λ b. b < 256) bs) × ((n + 16 == size) ≡ true)) × (is_name_string bs ≡ true)

abbrev string_item : ℕ → ℕ → ℕ → ℕ → Reading (List ℕ)
string_item size_place size place n =
    tested is_name_string (λ at. fault.Text place)
    (tested (λ bytes. n + 16 == size) (λ at. fault.Length size_place) (each 0 n (λ i. byte)))

-- a name in a record of a length
pub record FitName (room : ℕ) (text : List ℕ) : Type 0 where
  pub name : is_name text ≡ true
  pub size : room ≡ length text + 17

string_spells : (size_place size place n : ℕ)
    → Spells (string_item size_place size place n >>= λ bytes. give (text_in bytes))
    (λ name. (name ++ 0 ∷ []) ++ []) (λ name. FitBytes n size (name ++ 0 ∷ []) × (name ≡ text_in (name ++ 0 ∷ [])))
string_spells size_place size place n =
    bind_spells (string_item size_place size place n) (λ bytes. give (text_in bytes)) (λ bs. bs) (λ name. [])
    (FitBytes n size) (λ bs name. name ≡ text_in bs) (λ name. name ++ 0 ∷ [])
    (tested_spells (tested (λ bytes. n + 16 == size) (λ at. fault.Length size_place) (each 0 n (λ i. byte)))
    (λ bs. bs) (λ bs. ((length bs ≡ n) × All (λ b. b < 256) bs) × ((n + 16 == size) ≡ true)) is_name_string
    (λ at. fault.Text place)
    (tested_spells (each 0 n (λ i. byte)) (λ bs. bs) (λ bs. (length bs ≡ n) × All (λ b. b < 256) bs)
    (λ bytes. n + 16 == size) (λ at. fault.Length size_place) (bytes_spell n)))
    (λ bs f. give_spells (text_in bs))
    (λ bs name f e. ap (λ (l : List ℕ). l ++ 0 ∷ []) e ∙ (nul_behind bs f.1).0)

abbrev FitWord : ℕ → List ℕ → Type 0
FitWord size name =
    (length name + 1 < 4294967296)
    × (FitBytes (length name + 1) size (name ++ 0 ∷ []) × (name ≡ text_in (name ++ 0 ∷ [])))

name_spells : (size_place size : ℕ) → size < 4294967296 → Spells (name_at size_place size) string_bytes (FitName size)
name_spells size_place size lt =
    respelled (name_at size_place size) (λ name. word_bytes (length name + 1) ++ ((name ++ 0 ∷ []) ++ [])) string_bytes
    (FitWord size) (FitName size)
    (placed_spells
    (λ place. word >>= λ n. string_item size_place size place n >>= λ bytes. give (text_in bytes))
    (λ name. word_bytes (length name + 1) ++ ((name ++ 0 ∷ []) ++ [])) (FitWord size)
    (λ place. bind_spells word (λ n. string_item size_place size place n >>= λ bytes. give (text_in bytes)) word_bytes
    (λ name. (name ++ 0 ∷ []) ++ []) (λ n. n < 4294967296)
    (λ n name. FitBytes n size (name ++ 0 ∷ []) × (name ≡ text_in (name ++ 0 ∷ []))) (λ name. length name + 1)
    word_spells (λ n f. string_spells size_place size place n)
    (λ n name f h. (let l = length-append name (0 ∷ []) in let k = h.0.0.0.0 in omega (arith, l, k)))))
    to from
    (λ name h. (let f = to name h in ap (λ (l : List ℕ). word_bytes (length name + 1) ++ l) (append-nil (name ++ 0 ∷ []))
    ∙ sym (name_string name (name_text name f.name).some)))
  where
    to : (name : List ℕ) → FitWord size name → FitName size name
    to name h =
        let e = eqb-true (length name + 1 + 16) size h.1.0.0.1 in record {
          name = ap is_name h.1.1 ∙ (nul_behind (name ++ 0 ∷ []) h.1.0.1).1;
          size = omega (arith, e);
        }

    from : (name : List ℕ) → FitName size name → FitWord size name
    from name f =
        let e = f.size in
        let w = with_nul name f.name in
        let t = name_text name f.name in (
          omega (arith, e, lt),
          (
            (
              (
                (
                  w.2,
                  All-append (λ b. b < 256) name (0 ∷ []) t.bytes
                      (All-cons (λ b. b < 256) 0 [] (omega arith) (All-nil (λ b. b < 256))),
                ),
                eq-eqb (length name + 1 + 16) size (omega (arith, e)),
              ),
              w.0,
            ),
            sym w.1,
          ),
        )

name_steady : (size_place size : ℕ) → Steady (name_at size_place size)
name_steady size_place size =
    placed_steady (λ place. word >>= λ n. string_item size_place size place n >>= λ bytes. give (text_in bytes))
    (λ place. bind_steady word (λ n. string_item size_place size place n >>= λ bytes. give (text_in bytes)) word_steady
    (λ n. bind_steady (string_item size_place size place n) (λ bytes. give (text_in bytes))
    (tested_steady is_name_string (λ at. fault.Text place)
    (tested (λ bytes. n + 16 == size) (λ at. fault.Length size_place) (each 0 n (λ i. byte))) (λ at. tt)
    (tested_steady (λ bytes. n + 16 == size) (λ at. fault.Length size_place) (each 0 n (λ i. byte)) (λ at. tt)
    (each_steady 0 n (λ i. byte) (λ i. byte_steady))))
    (λ bytes. give_steady (text_in bytes))))

-- ---- heads

-- a function before its arcs
abbrev pub headed : ℕ → List ℕ → ℕ → ℕ → ℕ → LayoutValue
headed place name line checksum blocks = record {
  place = place;
  name = name;
  line = line;
  checksum = checksum;
  blocks = blocks;
  arcs = [];
  lines = [];
}

-- the head of a function at a place
pub record FitHead (place : ℕ) (l : LayoutValue) : Type 0 where
  pub name : is_name l.name ≡ true
  pub short : length l.name + 17 < 4294967296
  pub checksum : l.checksum < 4294967296
  pub line : l.line < 4294967296
  pub blocks : l.blocks < 4294967296
  pub bare : l ≡ headed place l.name l.line l.checksum l.blocks

-- what stands behind the tag of a function's own record
abbrev pub behind_tag : ℕ → LayoutValue → List ℕ
behind_tag k l =
    word_bytes (length l.name + 17) ++ (word_bytes k ++ (word_bytes l.checksum
    ++ (string_bytes l.name ++ (word_bytes l.line ++ (header_bytes (block_tag, 4) ++ (word_bytes l.blocks ++ []))))))

-- the readings of the head, item by item
abbrev made : ℕ → List ℕ → ℕ → ℕ → ℕ → Reading LayoutValue
made place name line checksum blocks = give (headed place name line checksum blocks)

abbrev from_line : ℕ → List ℕ → ℕ → Reading LayoutValue
from_line place name checksum =
    word >>= λ line. header block_tag 4 >>= λ h. word >>= λ blocks. made place name line checksum blocks

abbrev from_name : ℕ → ℕ → ℕ → ℕ → Reading LayoutValue
from_name place size_place size checksum = name_at size_place size >>= λ name. from_line place name checksum

abbrev from_number : ℕ → ℕ → ℕ → ℕ → Reading LayoutValue
from_number k place size_place size =
    fixed k fault.Order >>= λ number. word >>= λ checksum. from_name place size_place size checksum

blocks_spell : (place : ℕ) (name : List ℕ) (line checksum : ℕ)
    → Spells (word >>= λ blocks. made place name line checksum blocks) (λ l. word_bytes l.blocks ++ [])
    (λ l. (l.blocks < 4294967296) × (l ≡ headed place name line checksum l.blocks))
blocks_spell place name line checksum =
    bind_spells word (λ blocks. made place name line checksum blocks) word_bytes (λ l. []) (λ n. n < 4294967296)
    (λ n l. l ≡ headed place name line checksum n) (λ l. l.blocks) word_spells
    (λ n f. give_spells (headed place name line checksum n)) (λ n l f e. ap (λ (l : LayoutValue). l.blocks) e)

line_spells : (place : ℕ) (name : List ℕ) (checksum : ℕ)
    → Spells (from_line place name checksum)
    (λ l. word_bytes l.line ++ (header_bytes (block_tag, 4) ++ (word_bytes l.blocks ++ [])))
    (λ l. (l.line < 4294967296) × ((l.blocks < 4294967296) × (l ≡ headed place name l.line checksum l.blocks)))
line_spells place name checksum =
    bind_spells word (λ line. header block_tag 4 >>= λ h. word >>= λ blocks. made place name line checksum blocks)
    word_bytes (λ l. header_bytes (block_tag, 4) ++ (word_bytes l.blocks ++ [])) (λ n. n < 4294967296)
    (λ n l. (l.blocks < 4294967296) × (l ≡ headed place name n checksum l.blocks)) (λ l. l.line) word_spells
    (λ n f. header_spells block_tag 4 (word >>= λ blocks. made place name n checksum blocks)
    (λ l. word_bytes l.blocks ++ []) (λ l. (l.blocks < 4294967296) × (l ≡ headed place name n checksum l.blocks))
    (omega arith) (omega arith) (blocks_spell place name n checksum))
    (λ n l f e. ap (λ (l : LayoutValue). l.line) e.1)

abbrev FromName : ℕ → ℕ → ℕ → LayoutValue → Type 0
FromName place size checksum l =
    FitName size l.name
    × ((l.line < 4294967296) × ((l.blocks < 4294967296) × (l ≡ headed place l.name l.line checksum l.blocks)))

from_name_spells : (place size_place size checksum : ℕ) → size < 4294967296
    → Spells (from_name place size_place size checksum)
    (λ l. string_bytes l.name ++ (word_bytes l.line ++ (header_bytes (block_tag, 4) ++ (word_bytes l.blocks ++ []))))
    (FromName place size checksum)
from_name_spells place size_place size checksum lt =
    bind_spells (name_at size_place size) (λ name. from_line place name checksum) string_bytes
    (λ l. word_bytes l.line ++ (header_bytes (block_tag, 4) ++ (word_bytes l.blocks ++ []))) (FitName size)
    (λ name l. (l.line < 4294967296) × ((l.blocks < 4294967296) × (l ≡ headed place name l.line checksum l.blocks)))
    (λ l. l.name) (name_spells size_place size lt) (λ name f. line_spells place name checksum)
    (λ name l f e. ap (λ (l : LayoutValue). l.name) e.1.1)

abbrev FromNumber : ℕ → ℕ → LayoutValue → Type 0
FromNumber place size l = (l.checksum < 4294967296) × FromName place size l.checksum l

from_number_spells : (k place size_place size : ℕ) → size < 4294967296
    → Spells (from_number k place size_place size)
    (λ l. word_bytes k ++ (word_bytes l.checksum
    ++ (string_bytes l.name ++ (word_bytes l.line ++ (header_bytes (block_tag, 4) ++ (word_bytes l.blocks ++ []))))))
    (λ l. IsThis k k × FromNumber place size l)
from_number_spells k place size_place size lt =
    bind_spells (fixed k fault.Order) (λ number. word >>= λ checksum. from_name place size_place size checksum)
    word_bytes
    (λ l. word_bytes l.checksum
    ++ (string_bytes l.name ++ (word_bytes l.line ++ (header_bytes (block_tag, 4) ++ (word_bytes l.blocks ++ [])))))
    (IsThis k) (λ n l. FromNumber place size l) (λ l. k) (fixed_spells k fault.Order)
    (λ n f. bind_spells word (λ checksum. from_name place size_place size checksum) word_bytes
    (λ l. string_bytes l.name ++ (word_bytes l.line ++ (header_bytes (block_tag, 4) ++ (word_bytes l.blocks ++ []))))
    (λ n. n < 4294967296) (λ c l. FromName place size c l) (λ l. l.checksum) word_spells
    (λ c f. from_name_spells place size_place size c lt) (λ c l f e. ap (λ (l : LayoutValue). l.checksum) e.1.1.1))
    (λ n l f e. is_this k n f)

abbrev FitSize : ℕ → Type 0
FitSize size = (size < 4294967296) × (leb 18 size ≡ true)

pub head_spells : (k place : ℕ) → k < 4294967296 → Spells (head_at k place) (behind_tag k) (FitHead place)
head_spells k place lt =
    respelled (head_at k place) (behind_tag k) (behind_tag k)
    (λ l. FitSize (length l.name + 17) × (IsThis k k × FromNumber place (length l.name + 17) l)) (FitHead place)
    (placed_spells (λ size_place. head_size >>= λ size. from_number k place size_place size) (behind_tag k)
    (λ l. FitSize (length l.name + 17) × (IsThis k k × FromNumber place (length l.name + 17) l))
    (λ size_place. bind_spells head_size (λ size. from_number k place size_place size) word_bytes
    (λ l. word_bytes k ++ (word_bytes l.checksum
    ++ (string_bytes l.name ++ (word_bytes l.line ++ (header_bytes (block_tag, 4) ++ (word_bytes l.blocks ++ []))))))
    FitSize (λ size l. IsThis k k × FromNumber place size l) (λ l. length l.name + 17)
    (tested_spells word word_bytes (λ n. n < 4294967296) (λ size. leb 18 size) fault.Length word_spells)
    (λ size f. from_number_spells k place size_place size f.0)
    (λ size l f e. (let s = e.1.1.0.size in omega (arith, s)))))
    (λ l h. record {
      name = h.1.1.1.0.name;
      short = h.0.0;
      checksum = h.1.1.0;
      line = h.1.1.1.1.0;
      blocks = h.1.1.1.1.1.0;
      bare = h.1.1.1.1.1.1;
    })
    (λ l f. (let t = (name_text l.name f.name).some in (
      (f.short, le-leb 18 (length l.name + 17) (omega (arith, t))),
      (
        this_is k lt,
        (f.checksum, (record { name = f.name; size = refl }, (f.line, (f.blocks, f.bare)))),
      ),
    )))
    (λ l f. refl)

pub head_steady : (k place : ℕ) → Steady (head_at k place)
head_steady k place =
    placed_steady (λ size_place. head_size >>= λ size. from_number k place size_place size)
    (λ size_place. bind_steady head_size (λ size. from_number k place size_place size)
    (tested_steady (λ size. leb 18 size) fault.Length word (λ at. tt) word_steady)
    (λ size. bind_steady (fixed k fault.Order) (λ number. word >>= λ checksum. from_name place size_place size checksum)
    (fixed_steady k fault.Order (λ at. tt))
    (λ n. bind_steady word (λ checksum. from_name place size_place size checksum) word_steady
    (λ checksum. bind_steady (name_at size_place size) (λ name. from_line place name checksum)
    (name_steady size_place size)
    (λ name. bind_steady word
    (λ line. header block_tag 4 >>= λ h. word >>= λ blocks. made place name line checksum blocks) word_steady
    (λ line. bind_steady (header block_tag 4) (λ h. word >>= λ blocks. made place name line checksum blocks)
    (header_steady block_tag 4)
    (λ h. bind_steady word (λ blocks. made place name line checksum blocks) word_steady
    (λ blocks. give_steady (headed place name line checksum blocks)))))))))
