-- The records of notes have the order and the lengths of a file's.
use Rattle.std.proofs.Common.{◌≡◌, ◌≤◌, ◌<◌, ◌+◌, ◌*◌, refl, sym, ap, ◌∙◌, ℕ, suc, Bool, true, false, cond}
use Rattle.std.proofs.Common.{◌&&◌, ◌||◌, ◌==◌, ltb, leb, not, List, [], ◌∷◌, length, eqb-true, eq-eqb, inl, inr, arith}
use Rattle.std.specs.List.{All}
use Rattle.std.proofs.lemmas.Bool.{and_parts, or_cases, or_parts, ltb-true, leb-false, cases_lt}
use Rattle.std.proofs.lemmas.List.Elements.{All-nil, All-cons, All-head, All-tail}
use Rattle.cov_base.specs.Falls.{is_real, falls}
use Rattle.cov_base.specs.Net.{NetValue, IsNet, is_above, is_outside}
use Rattle.cov_base.specs.declared.net.FlowArc.{FlowArc}
use Rattle.cov_base.proofs.NetLaws.{Ascend, AscendAfter, HasShape-from_IsNet}
use Rattle.span_tree.specs.declared.arrival.Arrival.{Arrival}
use Rattle.span_tree.specs.Tree.{arrivals, is_linked}
use Rattle.gcno_format.specs.declared.marks.Marked.{Marked}
use Rattle.gcno_format.specs.Marks.{Leaving, mark_of, marked_from, marked, joined, leavings}
use Rattle.gcno_format.specs.Notes.{FitsRecord, word_limit}
use Rattle.gcno_format.specs.Layout.{LinesValue}
use Rattle.gcno_format.proofs.RecordLaws.{FitWay, FitLines}
use Rattle.gcno_format.proofs.LayoutLaws.{Leavings, LineRecords}
use Rattle.gcno_format.proofs.MadeLaws.{records_from}

-- ---- arcs

-- the blocks that arcs leave don't descend, from one on
abbrev Rises : ℕ → List Marked → Type 0
Rises least [] = Unit {0}
Rises least (m ∷ ms) = (least ≤ m.from) × Rises m.from ms

-- an arc whose parts are words
pub record IsSmall (m : Marked) : Type 0 where
  pub from : m.from < 4294967296
  pub to : m.to < 4294967296
  pub flags : m.flags < 4294967296

-- a group of at most so many arcs
pub record Group (most least : ℕ) (l : Leaving) : Type 0 where
  pub word : l.block < 4294967296
  pub order : least ≤ l.block
  pub some : 0 < length l.arcs
  pub few : length l.arcs ≤ most
  pub arcs : All (FitWay l.block) l.arcs

abbrev Groups : ℕ → ℕ → List Leaving → Type 0
Groups most least [] = Unit {0}
Groups most least (l ∷ ls) = Group most least l × Groups most (l.block + 1) ls

wider : (most more least : ℕ) (ls : List Leaving) → most ≤ more → Groups most least ls → Groups more least ls
wider most more least [] le h = tt
wider most more least (l ∷ ls) le h =
    let g = h.0 in
    let few = g.few in (
      record { word = g.word; order = g.order; some = g.some; few = omega (arith, few, le); arcs = g.arcs },
      wider most more (l.block + 1) ls le h.1,
    )

own_way : (m : Marked) → IsSmall m → FitWay m.from m
own_way m s = record { from = refl; to = s.to; flags = s.flags }

alone : (m : Marked) (least most : ℕ) → IsSmall m → least ≤ m.from → 1 ≤ most
    → Group most least (record { block = m.from; arcs = m ∷ [] })
alone m least most s le one = record {
  word = s.from;
  order = le;
  some = omega arith;
  few = one;
  arcs = All-cons (FitWay m.from) m [] (own_way m s) (All-nil (FitWay m.from));
}

join_groups : (m : Marked) (n least : ℕ) (ls : List Leaving) → IsSmall m → least ≤ m.from → Groups n m.from ls
    → Groups (suc n) least (joined m ls)
join_groups m n least [] s le h = (alone m least (suc n) s le (omega arith), tt)
join_groups m n least (l ∷ ls) s le h = go (l.block == m.from) refl
  where
    go : (x : Bool) → (l.block == m.from) ≡ x
        → Groups (suc n) least (cond x (record { block = l.block; arcs = m ∷ l.arcs } ∷ ls)
        (record { block = m.from; arcs = m ∷ [] } ∷ l ∷ ls))
    go true t =
        let e = eqb-true l.block m.from t in
        let g = h.0 in
        let few = g.few in (
          record {
            word = g.word;
            order = omega (arith, e, le);
            some = omega arith;
            few = omega (arith, few);
            arcs = All-cons (FitWay l.block) m l.arcs (record { from = sym e; to = s.to; flags = s.flags }) g.arcs;
          },
          wider n (suc n) (l.block + 1) ls (omega arith) h.1,
        )
    go false t =
        let g = h.0 in
        let few = g.few in
        let order = g.order in (
          alone m least (suc n) s le (omega arith),
          (
            record {
              word = g.word;
              order = elim (cases_lt m.from l.block) [
                | inl lt ↦ omega (arith, lt)
                | inr ge ↦ absurd (let k : true ≡ false = sym (eq-eqb l.block m.from (omega (arith, ge, order))) ∙ t in cc)
              ];
              some = g.some;
              few = omega (arith, few);
              arcs = g.arcs;
            },
            wider n (suc n) (l.block + 1) ls (omega arith) h.1,
          ),
        )

grouped : (least : ℕ) (ms : List Marked) → Rises least ms → All IsSmall ms → Groups (length ms) least (leavings ms)
grouped least [] r s = tt
grouped least (m ∷ ms) r s =
    join_groups m (length ms) least (leavings ms) (All-head IsSmall m ms s) r.0
    (grouped m.from ms r.1 (All-tail IsSmall m ms s))

-- where groups end
pub group_end : ℕ → List Leaving → ℕ
group_end least [] = least
group_end least (l ∷ ls) = group_end (l.block + 1) ls

groups_fit : (most least : ℕ) (ls : List Leaving) → most ≤ 4096 → Groups most least ls
    → Leavings least (group_end least ls) ls
unfolding group_end
groups_fit most least [] le h = refl
groups_fit most least (l ∷ ls) le h =
    let g = h.0 in
    let few = g.few in (
      record { word = g.word; order = g.order; some = g.some; short = omega (arith, few, le); arcs = g.arcs },
      groups_fit most (l.block + 1) ls le h.1,
    )

flags_small : (on fall call : Bool) → cond on 1 0 + cond call 2 0 + cond fall 4 0 < 4294967296
flags_small true true true = omega arith
flags_small true true false = omega arith
flags_small true false true = omega arith
flags_small true false false = omega arith
flags_small false true true = omega arith
flags_small false true false = omega arith
flags_small false false true = omega arith
flags_small false false false = omega arith

-- both ends of an arc are blocks
abbrev HasEnds : ℕ → FlowArc → Type 0
HasEnds blocks arc = is_outside blocks arc ≡ false

inside : (blocks : ℕ) (arc : FlowArc) → HasEnds blocks arc → (arc.from < blocks) × (arc.to < blocks)
inside blocks arc h =
    let p = or_parts ((leb blocks arc.from || leb blocks arc.to) || (arc.to == 0)) (arc.from == 1) h in
    let q = or_parts (leb blocks arc.from || leb blocks arc.to) (arc.to == 0) p.0 in
    let r = or_parts (leb blocks arc.from) (leb blocks arc.to) q.0 in
    (leb-false blocks arc.from r.0, leb-false blocks arc.to r.1)

marks_small : (blocks : ℕ) (came : List Arrival) (i : ℕ) (arcs : List FlowArc) → blocks ≤ 512
    → All (HasEnds blocks) arcs → All IsSmall (marked_from came i arcs)
marks_small blocks came i [] le h = All-nil IsSmall
marks_small blocks came i (arc ∷ arcs) le h =
    let e = inside blocks arc (All-head (HasEnds blocks) arc arcs h) in
    let from = e.0 in
    let to = e.1 in
    All-cons IsSmall (mark_of (is_linked came i) arc) (marked_from came (i + 1) arcs) (record {
      from = omega (arith, from, le);
      to = omega (arith, to, le);
      flags = flags_small (is_linked came i) (falls arc) (not (is_real arc.kind));
    }) (marks_small blocks came (i + 1) arcs le (All-tail (HasEnds blocks) arc arcs h))

above_rises : (before arc : FlowArc) → is_above arc before ≡ true → before.from ≤ arc.from
above_rises before arc h =
    elim (or_cases (ltb before.from arc.from) ((before.from == arc.from) && ltb before.to arc.to) h) [
      | inl lt ↦ (let l = ltb-true before.from arc.from lt in omega (arith, l))
      | inr same ↦ (let e = eqb-true before.from arc.from
          (and_parts (before.from == arc.from) (ltb before.to arc.to) same).0 in omega (arith, e))
    ]

marks_rise : (before : FlowArc) (came : List Arrival) (i : ℕ) (arcs : List FlowArc) → AscendAfter before arcs
    → Rises before.from (marked_from came i arcs)
marks_rise before came i [] h = tt
marks_rise before came i (arc ∷ arcs) h = (above_rises before arc h.0, marks_rise arc came (i + 1) arcs h.1)

all_rise : (came : List Arrival) (arcs : List FlowArc) → Ascend arcs → Rises 0 (marked_from came 0 arcs)
all_rise came [] h = tt
all_rise came (arc ∷ arcs) h = (omega arith, marks_rise arc came 1 arcs h)

as_many : (came : List Arrival) (i : ℕ) (arcs : List FlowArc) → length (marked_from came i arcs) ≡ length arcs
as_many came i [] = refl
as_many came i (arc ∷ arcs) = ap suc (as_many came (i + 1) arcs)

pub arcs_fit : (net : NetValue) → IsNet net
    → Leavings 0 (group_end 0 (leavings (marked net))) (leavings (marked net))
arcs_fit net n =
    let s = HasShape-from_IsNet net n in
    let many = as_many (arrivals net) 0 net.arcs in
    let few = s.few in
    groups_fit (length (marked net)) 0 (leavings (marked net)) (omega (arith, many, few))
    (grouped 0 (marked net) (all_rise (arrivals net) net.arcs s.ascend)
    (marks_small net.blocks (arrivals net) 0 net.arcs s.most s.inside))

-- ---- lines

abbrev LineChain : ℕ → List LinesValue → Type 0
LineChain least [] = Unit {0}
LineChain least (r ∷ rs) = FitLines r.place least r × LineChain (r.block + 1) rs

pub line_end : ℕ → List LinesValue → ℕ
line_end least [] = least
line_end least (r ∷ rs) = line_end (r.block + 1) rs

line_records : (least : ℕ) (rs : List LinesValue) → LineChain least rs → LineRecords least (line_end least rs) rs
unfolding line_end
line_records least [] h = refl
line_records least (r ∷ rs) h = (h.0, line_records (r.block + 1) rs h.1)

lower : (least more : ℕ) (rs : List LinesValue) → least ≤ more → LineChain more rs → LineChain least rs
lower least more [] le h = tt
lower least more (r ∷ rs) le h =
    let f = h.0 in
    let order = f.order in (
      record {
        here = refl;
        word = f.word;
        order = omega (arith, order, le);
        some = f.some;
        short = f.short;
        lines = f.lines;
      },
      h.1,
    )

abbrev AreWords : List ℕ → Type 0
AreWords lines = All (λ n. n ≤ word_limit) lines

words_below : (ns : List ℕ) → AreWords ns → All (λ n. n < 4294967296) ns
words_below [] h = All-nil (λ n. n < 4294967296)
words_below (n ∷ ns) h =
    let l = All-head (λ n. n ≤ word_limit) n ns h in
    All-cons (λ n. n < 4294967296) n ns (omega (arith, l)) (words_below ns (All-tail (λ n. n ≤ word_limit) n ns h))

line_chain : (b : ℕ) (lists : List (List ℕ)) → b + length lists ≤ 512 → All FitsRecord lists → All AreWords lists
    → LineChain b (records_from b lists)
line_chain b [] le s w = tt
line_chain b ([] ∷ more) le s w =
    lower b (b + 1) (records_from (b + 1) more) (omega arith)
    (line_chain (b + 1) more (omega (arith, le)) (All-tail FitsRecord [] more s) (All-tail AreWords [] more w))
line_chain b ((x ∷ xs) ∷ more) le s w =
    let short : FitsRecord (x ∷ xs) = All-head FitsRecord (x ∷ xs) more s in (
      record {
        here = refl;
        word = omega (arith, le);
        order = omega arith;
        some = omega arith;
        short = omega (arith, short);
        lines = words_below (x ∷ xs) (All-head AreWords (x ∷ xs) more w);
      },
      line_chain (b + 1) more (omega (arith, le)) (All-tail FitsRecord (x ∷ xs) more s)
          (All-tail AreWords (x ∷ xs) more w),
    )

pub lines_fit : (lists : List (List ℕ)) → length lists ≤ 512 → All FitsRecord lists → All AreWords lists
    → LineRecords 0 (line_end 0 (records_from 0 lists)) (records_from 0 lists)
lines_fit lists le s w = line_records 0 (records_from 0 lists) (line_chain 0 lists (omega (arith, le)) s w)

-- the arcs of a net fit a record
pub marks_few : (net : NetValue) → IsNet net → (ms : List Marked) → ms ≡ marked net → 4 + 8 * length ms < 4294967296
marks_few net n ms e =
    let few = (HasShape-from_IsNet net n).few in
    let many = as_many (arrivals net) 0 net.arcs in
    let same = ap length e in
    omega (arith, few, many, same)
