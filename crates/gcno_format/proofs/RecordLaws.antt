-- Records of arcs and of lines are read as they are spelled, without looking ahead.
use Rattle.std.proofs.Common.{◌≡◌, ◌≤◌, ◌<◌, ◌+◌, ◌-◌, ◌*◌, ◌/◌, ◌%◌, refl, ap, ℕ, true}
use Rattle.std.proofs.Common.{◌&&◌, ◌==◌, leb, List, [], ◌∷◌, ◌++◌, length, append-nil, eqb-true, eq-eqb}
use Rattle.std.proofs.Common.{arith}
use Rattle.std.specs.Prelude.{flat_map}
use Rattle.std.specs.List.{All}
use Rattle.std.proofs.lemmas.Bool.{leb-true, le-leb, and_parts, and_from}
use Rattle.gcov_items.specs.Items.{word_bytes}
use Rattle.gcov_records.specs.declared.fault.FileFault.TheVariants as fault
use Rattle.gcov_records.specs.Records.{spelled_from}
use Rattle.gcov_records.specs.Reading.{◌>>=◌, give, word, each}
use Rattle.gcov_records.proofs.Steady.{Steady, give_steady, bind_steady, tested_steady, each_steady, word_steady}
use Rattle.gcov_records.proofs.Spelled.{Spells, give_spells, bind_spells, respelled, tested_spells, each_spells}
use Rattle.gcov_records.proofs.Spelled.{word_spells}
use Rattle.gcno_format.specs.declared.marks.Marked.{Marked}
use Rattle.gcno_format.specs.Marks.{Leaving}
use Rattle.gcno_format.specs.Spelling.{way_bytes}
use Rattle.gcno_format.specs.Layout.{LinesValue}
use Rattle.gcno_format.specs.Reading.{way, ordered, arcs_size, lines_size, leaving_at, lines_at}

-- the same spelling for each value, one behind the other
flat : {A : Type 0} (spell : A → List ℕ) (i : ℕ) (xs : List A) → spelled_from i (λ i. spell) xs ≡ flat_map spell xs
flat spell i [] = refl
flat spell i (x ∷ xs) = ap (λ (l : List ℕ). spell x ++ l) (flat spell (i + 1) xs)

-- ---- arcs

-- an arc that leaves a block
pub record FitWay (block : ℕ) (m : Marked) : Type 0 where
  pub from : m.from ≡ block
  pub to : m.to < 4294967296
  pub flags : m.flags < 4294967296

abbrev marking : ℕ → ℕ → ℕ → Marked
marking block to flags = record { from = block; to = to; flags = flags }

way_spells : (block i : ℕ) → Spells (way block i) way_bytes (FitWay block)
way_spells block i =
    respelled (way block i) (λ m. word_bytes m.to ++ (word_bytes m.flags ++ [])) way_bytes
    (λ m. (m.to < 4294967296) × ((m.flags < 4294967296) × (m ≡ marking block m.to m.flags))) (FitWay block)
    (bind_spells word (λ to. word >>= λ flags. give (marking block to flags)) word_bytes
    (λ m. word_bytes m.flags ++ []) (λ n. n < 4294967296)
    (λ to m. (m.flags < 4294967296) × (m ≡ marking block to m.flags)) (λ m. m.to) word_spells
    (λ to f. bind_spells word (λ flags. give (marking block to flags)) word_bytes (λ m. []) (λ n. n < 4294967296)
    (λ flags m. m ≡ marking block to flags) (λ m. m.flags) word_spells (λ flags f. give_spells (marking block to flags))
    (λ flags m f e. ap (λ (m : Marked). m.flags) e))
    (λ to m f e. ap (λ (m : Marked). m.to) e.1))
    (λ m h. record { from = ap (λ (m : Marked). m.from) h.1.1; to = h.0; flags = h.1.0 })
    (λ m f. (f.to, (f.flags, own m f.from)))
    (λ m f. ap (λ (l : List ℕ). word_bytes m.to ++ l) (append-nil (word_bytes m.flags)))
  where
    own : (m : Marked) → m.from ≡ block → m ≡ marking block m.to m.flags
    own m e = ap (λ b. marking b m.to m.flags) e

way_steady : (block i : ℕ) → Steady (way block i)
way_steady block i =
    bind_steady word (λ to. word >>= λ flags. give (marking block to flags)) word_steady
    (λ to. bind_steady word (λ flags. give (marking block to flags)) word_steady
    (λ flags. give_steady (marking block to flags)))

abbrev Ordered : ℕ → ℕ → Type 0
Ordered least block = (block < 4294967296) × (leb least block ≡ true)

ordered_spells : (least : ℕ) → Spells (ordered least) word_bytes (Ordered least)
ordered_spells least =
    tested_spells word word_bytes (λ n. n < 4294967296) (λ block. leb least block) fault.Order word_spells

ordered_steady : (least : ℕ) → Steady (ordered least)
ordered_steady least = tested_steady (λ block. leb least block) fault.Order word (λ at. tt) word_steady

-- arcs that leave a block that is at least this
pub record FitLeaving (least : ℕ) (l : Leaving) : Type 0 where
  pub word : l.block < 4294967296
  pub order : least ≤ l.block
  pub some : 0 < length l.arcs
  pub short : 4 + 8 * length l.arcs < 4294967296
  pub arcs : All (FitWay l.block) l.arcs

-- what stands behind the tag of a record of arcs
abbrev pub behind_arcs : Leaving → List ℕ
behind_arcs l = word_bytes (4 + 8 * length l.arcs) ++ (word_bytes l.block ++ (flat_map way_bytes l.arcs ++ []))

abbrev leaving : ℕ → List Marked → Leaving
leaving block arcs = record { block = block; arcs = arcs }

abbrev AreWays : ℕ → ℕ → List Marked → Type 0
AreWays n block arcs = (length arcs ≡ n) × All (FitWay block) arcs

ways_spell : (n block : ℕ)
    → Spells (each 0 n (way block) >>= λ arcs. give (leaving block arcs)) (λ l. flat_map way_bytes l.arcs ++ [])
    (λ l. AreWays n block l.arcs × (l ≡ leaving block l.arcs))
ways_spell n block =
    bind_spells (each 0 n (way block)) (λ arcs. give (leaving block arcs)) (flat_map way_bytes) (λ l. [])
    (AreWays n block) (λ arcs l. l ≡ leaving block arcs) (λ l. l.arcs)
    (respelled (each 0 n (way block)) (spelled_from 0 (λ i. way_bytes)) (flat_map way_bytes) (AreWays n block)
    (AreWays n block) (each_spells (way block) (λ i. way_bytes) (FitWay block) 0 n (λ j lt. way_spells block j))
    (λ x h. h) (λ x h. h) (λ x h. flat way_bytes 0 x))
    (λ arcs f. give_spells (leaving block arcs)) (λ arcs l f e. ap (λ (l : Leaving). l.arcs) e)

abbrev ArcsSize : ℕ → Type 0
ArcsSize size = (size < 4294967296) × ((leb 12 size && (size % 8 == 4)) ≡ true)

abbrev FromBlock : ℕ → ℕ → Leaving → Type 0
FromBlock least size l = Ordered least l.block × (AreWays (size / 8) l.block l.arcs × (l ≡ leaving l.block l.arcs))

pub leaving_spells : (least : ℕ) → Spells (leaving_at least) behind_arcs (FitLeaving least)
leaving_spells least =
    respelled (leaving_at least) behind_arcs behind_arcs
    (λ l. ArcsSize (4 + 8 * length l.arcs) × FromBlock least (4 + 8 * length l.arcs) l) (FitLeaving least)
    (bind_spells arcs_size
    (λ size. ordered least >>= λ block. each 0 (size / 8) (way block) >>= λ arcs. give (leaving block arcs)) word_bytes
    (λ l. word_bytes l.block ++ (flat_map way_bytes l.arcs ++ [])) ArcsSize (FromBlock least)
    (λ l. 4 + 8 * length l.arcs)
    (tested_spells word word_bytes (λ n. n < 4294967296) (λ size. leb 12 size && (size % 8 == 4)) fault.Length
    word_spells)
    (λ size f. bind_spells (ordered least) (λ block. each 0 (size / 8) (way block) >>= λ arcs. give (leaving block arcs))
    word_bytes (λ l. flat_map way_bytes l.arcs ++ []) (Ordered least)
    (λ block l. AreWays (size / 8) block l.arcs × (l ≡ leaving block l.arcs)) (λ l. l.block) (ordered_spells least)
    (λ block f. ways_spell (size / 8) block) (λ block l f e. ap (λ (l : Leaving). l.block) e.1))
    (λ size l f e. whole size (length l.arcs) (and_parts (leb 12 size) (size % 8 == 4) f.1).1 e.1.0.0))
    (λ l h. record {
      word = h.1.0.0;
      order = leb-true least l.block h.1.0.1;
      some = least_arcs (length l.arcs) (and_parts (leb 12 (4 + 8 * length l.arcs)) ((4 + 8 * length l.arcs) % 8 == 4) h.0.1).0;
      short = h.0.0;
      arcs = h.1.1.0.1;
    })
    (λ l f. (
      (
        f.short,
        and_from (leb 12 (4 + 8 * length l.arcs)) ((4 + 8 * length l.arcs) % 8 == 4)
            (le-leb 12 (4 + 8 * length l.arcs) (let s = f.some in omega (arith, s)))
            (eq-eqb ((4 + 8 * length l.arcs) % 8) 4 (rest_is (length l.arcs))),
      ),
      ((f.word, le-leb least l.block f.order), ((part_is (length l.arcs), f.arcs), refl)),
    ))
    (λ l f. refl)
  where
    whole : (size n : ℕ) → (size % 8 == 4) ≡ true → n ≡ size / 8 → 4 + 8 * n ≡ size
    whole size n t e = let r = eqb-true (size % 8) 4 t in omega (arith, r, e)

    least_arcs : (n : ℕ) → leb 12 (4 + 8 * n) ≡ true → 0 < n
    least_arcs n t = let l = leb-true 12 (4 + 8 * n) t in omega (arith, l)

    rest_is : (n : ℕ) → (4 + 8 * n) % 8 ≡ 4
    rest_is n = omega arith

    part_is : (n : ℕ) → n ≡ (4 + 8 * n) / 8
    part_is n = omega arith

pub leaving_steady : (least : ℕ) → Steady (leaving_at least)
leaving_steady least =
    bind_steady arcs_size
    (λ size. ordered least >>= λ block. each 0 (size / 8) (way block) >>= λ arcs. give (leaving block arcs))
    (tested_steady (λ size. leb 12 size && (size % 8 == 4)) fault.Length word (λ at. tt) word_steady)
    (λ size. bind_steady (ordered least) (λ block. each 0 (size / 8) (way block) >>= λ arcs. give (leaving block arcs))
    (ordered_steady least)
    (λ block. bind_steady (each 0 (size / 8) (way block)) (λ arcs. give (leaving block arcs))
    (each_steady 0 (size / 8) (way block) (way_steady block)) (λ arcs. give_steady (leaving block arcs))))

-- ---- lines

-- lines of a block that is at least this, in a record at a place
pub record FitLines (place least : ℕ) (r : LinesValue) : Type 0 where
  pub here : r.place ≡ place
  pub word : r.block < 4294967296
  pub order : least ≤ r.block
  pub some : 0 < length r.lines
  pub short : 4 + 4 * length r.lines < 4294967296
  pub lines : All (λ n. n < 4294967296) r.lines

-- what stands behind the tag of a record of lines
abbrev pub behind_lines : LinesValue → List ℕ
behind_lines r = word_bytes (4 + 4 * length r.lines) ++ (word_bytes r.block ++ (flat_map word_bytes r.lines ++ []))

abbrev lining : ℕ → ℕ → List ℕ → LinesValue
lining place block lines = record { place = place; block = block; lines = lines }

abbrev AreWords : ℕ → List ℕ → Type 0
AreWords n lines = (length lines ≡ n) × All (λ n. n < 4294967296) lines

words_spell : (n place block : ℕ)
    → Spells (each 0 n (λ i. word) >>= λ lines. give (lining place block lines)) (λ r. flat_map word_bytes r.lines ++ [])
    (λ r. AreWords n r.lines × (r ≡ lining place block r.lines))
words_spell n place block =
    bind_spells (each 0 n (λ i. word)) (λ lines. give (lining place block lines)) (flat_map word_bytes) (λ r. [])
    (AreWords n) (λ lines r. r ≡ lining place block lines) (λ r. r.lines)
    (respelled (each 0 n (λ i. word)) (spelled_from 0 (λ i. word_bytes)) (flat_map word_bytes) (AreWords n) (AreWords n)
    (each_spells (λ i. word) (λ i. word_bytes) (λ n. n < 4294967296) 0 n (λ j lt. word_spells))
    (λ x h. h) (λ x h. h) (λ x h. flat word_bytes 0 x))
    (λ lines f. give_spells (lining place block lines)) (λ lines r f e. ap (λ (r : LinesValue). r.lines) e)

abbrev LinesSize : ℕ → Type 0
LinesSize size = (size < 4294967296) × ((leb 8 size && (size % 4 == 0)) ≡ true)

abbrev LinesFrom : ℕ → ℕ → ℕ → LinesValue → Type 0
LinesFrom place least size r =
    Ordered least r.block × (AreWords (size / 4 - 1) r.lines × (r ≡ lining place r.block r.lines))

pub lines_spell : (place least : ℕ) → Spells (lines_at place least) behind_lines (FitLines place least)
lines_spell place least =
    respelled (lines_at place least) behind_lines behind_lines
    (λ r. LinesSize (4 + 4 * length r.lines) × LinesFrom place least (4 + 4 * length r.lines) r) (FitLines place least)
    (bind_spells lines_size
    (λ size. ordered least >>= λ block. each 0 (size / 4 - 1) (λ i. word) >>= λ lines. give (lining place block lines))
    word_bytes (λ r. word_bytes r.block ++ (flat_map word_bytes r.lines ++ [])) LinesSize (LinesFrom place least)
    (λ r. 4 + 4 * length r.lines)
    (tested_spells word word_bytes (λ n. n < 4294967296) (λ size. leb 8 size && (size % 4 == 0)) fault.Length
    word_spells)
    (λ size f. bind_spells (ordered least)
    (λ block. each 0 (size / 4 - 1) (λ i. word) >>= λ lines. give (lining place block lines))
    word_bytes (λ r. flat_map word_bytes r.lines ++ []) (Ordered least)
    (λ block r. AreWords (size / 4 - 1) r.lines × (r ≡ lining place block r.lines)) (λ r. r.block)
    (ordered_spells least) (λ block f. words_spell (size / 4 - 1) place block)
    (λ block r f e. ap (λ (r : LinesValue). r.block) e.1))
    (λ size r f e. whole size (length r.lines) (and_parts (leb 8 size) (size % 4 == 0) f.1) e.1.0.0))
    (λ r h. record {
      here = ap (λ (r : LinesValue). r.place) h.1.1.1;
      word = h.1.0.0;
      order = leb-true least r.block h.1.0.1;
      some = least_lines (length r.lines)
          (and_parts (leb 8 (4 + 4 * length r.lines)) ((4 + 4 * length r.lines) % 4 == 0) h.0.1).0;
      short = h.0.0;
      lines = h.1.1.0.1;
    })
    (λ r f. (
      (
        f.short,
        and_from (leb 8 (4 + 4 * length r.lines)) ((4 + 4 * length r.lines) % 4 == 0)
            (le-leb 8 (4 + 4 * length r.lines) (let s = f.some in omega (arith, s)))
            (eq-eqb ((4 + 4 * length r.lines) % 4) 0 (rest_is (length r.lines))),
      ),
      (
        (f.word, le-leb least r.block f.order),
        ((part_is (length r.lines), f.lines), own r f.here),
      ),
    ))
    (λ r f. refl)
  where
    whole : (size n : ℕ) → (leb 8 size ≡ true) × ((size % 4 == 0) ≡ true) → n ≡ size / 4 - 1 → 4 + 4 * n ≡ size
    whole size n t e = let l = leb-true 8 size t.0 in let r = eqb-true (size % 4) 0 t.1 in omega (arith, l, r, e)

    least_lines : (n : ℕ) → leb 8 (4 + 4 * n) ≡ true → 0 < n
    least_lines n t = let l = leb-true 8 (4 + 4 * n) t in omega (arith, l)

    rest_is : (n : ℕ) → (4 + 4 * n) % 4 ≡ 0
    rest_is n = omega arith

    part_is : (n : ℕ) → n ≡ (4 + 4 * n) / 4 - 1
    part_is n = omega arith

    own : (r : LinesValue) → r.place ≡ place → r ≡ lining place r.block r.lines
    own r e = ap (λ p. lining p r.block r.lines) e

pub lines_steady : (place least : ℕ) → Steady (lines_at place least)
lines_steady place least =
    bind_steady lines_size
    (λ size. ordered least >>= λ block. each 0 (size / 4 - 1) (λ i. word) >>= λ lines. give (lining place block lines))
    (tested_steady (λ size. leb 8 size && (size % 4 == 0)) fault.Length word (λ at. tt) word_steady)
    (λ size. bind_steady (ordered least)
    (λ block. each 0 (size / 4 - 1) (λ i. word) >>= λ lines. give (lining place block lines)) (ordered_steady least)
    (λ block. bind_steady (each 0 (size / 4 - 1) (λ i. word)) (λ lines. give (lining place block lines))
    (each_steady 0 (size / 4 - 1) (λ i. word) (λ i. word_steady)) (λ lines. give_steady (lining place block lines))))
