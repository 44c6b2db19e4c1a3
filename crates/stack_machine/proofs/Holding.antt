-- What holds while a run goes on: it is at a point of a run of the code, within its room.
use Rattle.std.proofs.Common.{◌≡◌, refl, sym, ap, subst, ◌∙◌, ℕ, zero, suc, ◌+◌, ◌-◌, ◌*◌, ◌<◌, ◌≤◌, ◌^◌, true, List, []}
use Rattle.std.proofs.Common.{◌∷◌, length, take, drop, get_or, Option, Some, None, arith, length-drop, mul-le-mul_right, mul-le-mul_left}
use Rattle.std.specs.Prelude.{ℤ, map, reverse, nat_lt, slice_get, slice_index_or}
use Rattle.std.proofs.lemmas.Bool.{ltb-true}
use Rattle.std.proofs.lemmas.Option.{same_Some, none-some, slice_get_within, slice_get_read}
use Rattle.std.proofs.lemmas.List.{length-reverse, length-take-le, length-map}
use Rattle.stack_ops.specs.declared.endings.Outcome.{Outcome}
use Rattle.stack_ops.specs.declared.operation.Op.{Op}
use Rattle.stack_ops.specs.declared.operation.Op.TheVariants as op
use Rattle.stack_ops.specs.Code.{FunctionValue, CodeValue}
use Rattle.stack_ops.specs.Shapes.{given_by}
use Rattle.code_runs.specs.CodeRun.{Point, Ran, Goes_on, Over, move, goes, does, bits_in}
use Rattle.code_runs.specs.Checks.{counter_there, row_there}
use Rattle.code_runs.specs.Sound.{Suits}
use Rattle.code_runs.specs.Fits.{Waits, Fits}
use Rattle.code_runs.specs.Counts.{size_of, left, waiting, sizes, weight, value, counter}
use Rattle.code_runs.specs.Laws.{FitsOn, LighterThan}
use Rattle.code_runs.specs.Tables.{words_in, behind_row, passes_from}
use Rattle.code_runs.proofs.CheckLaws.{and-both}
use Rattle.code_runs.proofs.NeverStuck.{keeps, first_fits}
use Rattle.code_runs.proofs.Ends.{lighter}
use Rattle.stack_machine.specs.Counts.{CountsValue}
use Rattle.stack_machine.specs.Store.{taken}
use Rattle.stack_machine.specs.Tables.{TableFits, StartsAt}
use Rattle.stack_machine.specs.declared.frame.Frame.{Frame}
use Rattle.stack_machine.specs.declared.run.Run.{Run}
use Rattle.stack_machine.specs.Points.{Ghosts, callers_of, tail_of, counters_of, words_of, point, told, with_bytes, after}
use Rattle.stack_machine.specs.Points.{where_on, entered, marking, FramesFit, Keeps}
use Rattle.stack_machine.specs.Points as points
use Rattle.stack_machine.specs.Ready.{Ready, CounterFits, RowFits}
use Rattle.stack_machine.specs.Held.{Sized, Roomy, at_start, Begins}
use Rattle.stack_machine.proofs.TidyMoves.{Tidy, TidyMove, AllWide, move_tidy, first_tidy}
use Rattle.stack_machine.proofs.CodeFacts.{FunctionFacts, CodeFacts}

pub record Holds (c : CodeValue) (k : ℕ) (r : Run) (s : Ghosts) : Type 0 where
  pub fits : Fits c (point r s)
  pub tidy : Tidy c k (point r s)
  pub frames : FramesFit (reverse r.frames.items) (length r.store.below) (length r.bits.below)
  pub few : length r.frames.items ≤ 1999
  pub roomy : Roomy c r

-- the run from a point comes to this
abbrev pub EndsSo : CodeValue → Point → Ran → Type 0
EndsSo c p ran = (k : ℕ) × (goes k c p ≡ Some ran)

-- ---- rooms

abbrev Sizes : CodeValue → ℕ → ℕ → Type 0
Sizes c most width =
    (i : ℕ) (f : FunctionValue) → slice_get c.functions i ≡ Some f → (f.cells + f.depth ≤ most) × (words_in f.paths ≤ width)

-- the calls that wait take at most so many numbers
numbers-few : (c : CodeValue) (most width : ℕ) → Sizes c most width → (g : FunctionValue) (fs : List Frame) (calls : List ℕ)
    (n b : ℕ) (below : List ℤ) (bits : List ℕ) → n ≡ length below → FramesFit fs n b
    → Waits c g (callers_of fs calls below bits) → n ≤ length fs * most
numbers-few c most width small g [] calls n b below bits e frames waits = rw frames.0 (omega arith)
numbers-few c most width small g (f ∷ fs) calls n b below bits e frames waits =
    let at = waits.1 in
    let cells : length (take (f.floor - f.base) (drop f.base below)) ≡ waits.0.cells = at.cells in
    let size : length (take (f.floor - f.base) (drop f.base below)) ≡ f.floor - f.base =
    length-take-le (f.floor - f.base) (drop f.base below)
    (rw (length-drop f.base below) (omega (arith, e, frames.0, frames.1))) in
    let deep : length (reverse (drop f.floor below)) + given_by g ≤ waits.0.depth = at.typed.within f.at _ at.at in
    let long : length (reverse (drop f.floor below)) ≡ length below - f.floor =
    length-reverse (drop f.floor below) ∙ length-drop f.floor below in
    let low : f.base ≡ length (take f.base below) =
    sym (length-take-le f.base below (omega (arith, e, frames.0, frames.1))) in
    let rest : f.base ≤ length fs * most =
    numbers-few c most width small waits.0 fs (tail_of calls) f.base f.bits (take f.base below) (take f.bits bits) low
    frames.3 waits.2 in
    let within : waits.0.cells + waits.0.depth ≤ most = (small f.function waits.0 at.there).0 in
    omega (arith, e, cells, size, deep, long, rest, within, frames.0, frames.1)

bits-within : (c : CodeValue) (most width i : ℕ) → Sizes c most width → (o : Option FunctionValue)
    → slice_get c.functions i ≡ o → bits_in o ≤ width
bits-within c most width i small None is = omega arith
bits-within c most width i small (Some f) is = (small i f is).1

-- and at most so many path words
words-few : (c : CodeValue) (most width : ℕ) → Sizes c most width → (fs : List Frame) (calls : List ℕ) (n b : ℕ)
    (below : List ℤ) (bits : List ℕ) → b ≡ length bits → FramesFit fs n b → AllWide c (callers_of fs calls below bits)
    → b ≤ length fs * width
words-few c most width small [] calls n b below bits e frames wide = rw frames.1 (omega arith)
words-few c most width small (f ∷ fs) calls n b below bits e frames wide =
    let own : length (drop f.bits bits) ≡ bits_in (slice_get c.functions f.function) = wide.0 in
    let within : bits_in (slice_get c.functions f.function) ≤ width =
    bits-within c most width f.function small (slice_get c.functions f.function) refl in
    let long : length (drop f.bits bits) ≡ length bits - f.bits = length-drop f.bits bits in
    let low : f.bits ≡ length (take f.bits bits) = sym (length-take-le f.bits bits (omega (arith, e, frames.2))) in
    let rest : f.bits ≤ length fs * width =
    words-few c most width small fs (tail_of calls) f.base f.bits (take f.base below) (take f.bits bits) low frames.3
    wide.1 in
    omega (arith, e, own, within, long, rest, frames.2)

module _ (c : CodeValue) (k : ℕ) (r : Run) (s : Ghosts) (h : Holds c k r s) where
  few-frames : length (reverse r.frames.items) ≤ 1999
  few-frames = rw (length-reverse r.frames.items) h.few

  -- all numbers of a run
  pub taken-few : taken r.store ≤ 2000 * h.roomy.most
  taken-few =
      let f = h.fits.fits in
      let most : ℕ = h.roomy.most in
      let low : length r.store.below ≤ length (reverse r.frames.items) * most =
      numbers-few c most h.roomy.width h.roomy.size h.fits.function (reverse r.frames.items) s.calls
      (length r.store.below) (length r.bits.below) r.store.below r.bits.below refl h.frames f.waits in
      let deep : length r.store.operands ≤ h.fits.function.depth = f.typed.within r.at _ f.at in
      let within : h.fits.function.cells + h.fits.function.depth ≤ most =
      (h.roomy.size r.function h.fits.function f.there).0 in
      let cells : length r.store.cells ≡ h.fits.function.cells = f.cells in
      let few : length (reverse r.frames.items) * most ≤ 1999 * most = mul-le-mul_right most few-frames in
      omega (arith, low, deep, within, cells, few)

  -- all path words of a run
  pub words-taken : length r.bits.below + length r.bits.bits ≤ 2000 * h.roomy.width
  words-taken =
      let width : ℕ = h.roomy.width in
      let low : length r.bits.below ≤ length (reverse r.frames.items) * width =
      words-few c h.roomy.most width h.roomy.size (reverse r.frames.items) s.calls (length r.store.below)
      (length r.bits.below) r.store.below r.bits.below refl h.frames h.tidy.callers in
      let own : length r.bits.bits ≡ bits_in (slice_get c.functions r.function) = h.tidy.own in
      let within : bits_in (slice_get c.functions r.function) ≤ width =
      bits-within c h.roomy.most width r.function h.roomy.size (slice_get c.functions r.function) refl in
      let few : length (reverse r.frames.items) * width ≤ 1999 * width = mul-le-mul_right width few-frames in
      omega (arith, low, own, within, few)

  pub roomy-end : (n : Run) → Keeps r n → Roomy c n
  roomy-end n kept = record {
    most = h.roomy.most;
    width = h.roomy.width;
    size = h.roomy.size;
    cap = rw kept.cap h.roomy.cap;
    room = rw kept.room h.roomy.room;
    bits_room = rw kept.bits_room h.roomy.bits_room;
  }

-- ---- counts

value-index : (n : ℕ) (xs : List ℕ) → slice_index_or xs n 0 ≡ value n xs
value-index n [] = refl
value-index zero (x ∷ xs) = refl
value-index (suc n) (x ∷ xs) = value-index n xs

counter-index : (cs : List CountsValue) (i n : ℕ) (v : CountsValue) → slice_get cs i ≡ Some v
    → slice_index_or v.counters n 0 ≡ counter i n (counters_of cs)
counter-index [] i n v is = absurd (none-some v is)
counter-index (x ∷ xs) zero n v is =
    value-index n v.counters ∙ ap (λ (w : CountsValue). value n w.counters) (sym (same_Some x v is))
counter-index (x ∷ xs) (suc i) n v is = counter-index xs i n v is

-- lists of as many lengths as functions have sizes
sized-at : (part : CountsValue → List ℕ) (size : FunctionValue → ℕ) (cs : List CountsValue) (fs : List FunctionValue)
    → map (λ ns. length ns) (map part cs) ≡ map size fs → (i : ℕ) (v : CountsValue) (f : FunctionValue)
    → slice_get cs i ≡ Some v → slice_get fs i ≡ Some f → length (part v) ≡ size f
sized-at part size [] fs e i v f is there = absurd (none-some v is)
sized-at part size (x ∷ xs) [] e i v f is there = absurd (none-some f there)
sized-at part size (x ∷ xs) (g ∷ fs) e zero v f is there =
    let a : length (part x) ≡ size g = cc in
    subst (λ w. length (part w) ≡ size f) (same_Some x v is) (subst (λ h. length (part x) ≡ size h) (same_Some g f there) a)
sized-at part size (x ∷ xs) (g ∷ fs) e (suc i) v f is there =
    let a : map (λ ns. length ns) (map part xs) ≡ map size fs = cc in
    sized-at part size xs fs a i v f is there

pub sized-long : (c : CodeValue) (cs : List CountsValue) → Sized c (counters_of cs) (words_of cs) → length cs ≡ length c.functions
sized-long c cs h =
    let a : length (map (λ ns. length ns) (counters_of cs)) ≡ length (map (λ f. f.counters) c.functions) =
    ap (λ l. length l) h.counters in
    let b : length (map (λ ns. length ns) (counters_of cs)) ≡ length cs =
    length-map (counters_of cs) (λ ns. length ns) ∙ length-map cs (λ v. v.counters) in
    let d : length (map (λ f. f.counters) c.functions) ≡ length c.functions = length-map c.functions (λ f. f.counters) in
    omega (arith, a, b, d)

counter_fits : (f : FunctionValue) (o : Op) (v : CountsValue) → counter_there f o ≡ true → length v.counters ≡ f.counters
    → ((n : ℕ) → slice_index_or v.counters n 0 + 1 < 2 ^ 64) → CounterFits o v
counter_fits f (op.Count n) v h long few =
    let lt : n < f.counters = ltb-true n f.counters h in (omega (arith, lt, long), few n)
counter_fits f o v h long few = tt

row_fits : (f : FunctionValue) (starts : List ℕ) (o : Op) (words : ℕ) → row_there f o ≡ true → words ≡ words_in f.paths
    → TableFits f → StartsAt f starts → RowFits o f starts words
row_fits f starts op.PathBegin words h e table at = rw e (table.begin (ltb-true 0 f.paths h))
row_fits f starts (op.PathPass w) words h e table at =
    let both = and-both (nat_lt 0 f.paths) (nat_lt w f.passes) h in
    let some = ltb-true 0 f.paths both.0 in
    let lt = ltb-true w f.passes both.1 in
    let start = at some w lt in (
      slice_get_within starts w start.0 start.1,
      λ place got.
          let same : start.0 ≡ place = same_Some start.0 place (sym start.1 ∙ got) in
          let on : drop place f.table ≡ passes_from w (behind_row 3 f.table) =
          subst (λ (i : ℕ). drop i f.table ≡ passes_from w (behind_row 3 f.table)) same start.2 in
          (on, rw (e, on) (table.passes some w lt)),
    )
row_fits f starts o words h e table at = tt

-- ---- an instruction

module _ (c : CodeValue) (facts : CodeFacts c) (k : ℕ) (r : Run) (s : Ghosts) (h : Holds c k r s) where
  pub there : r.function < length c.functions
  there = slice_get_within c.functions r.function h.fits.function h.fits.fits.there

  pub at-there : (f : FunctionValue) → slice_get c.functions r.function ≡ Some f → r.at < length f.ops
  at-there f is =
      let same : h.fits.function ≡ f = same_Some h.fits.function f (sym h.fits.fits.there ∙ is) in
      let lt : r.at < length h.fits.depths = slice_get_within h.fits.depths r.at _ h.fits.fits.at in
      let size : length h.fits.depths ≡ length h.fits.function.ops = h.fits.fits.typed.size in
      rw (sym same) (omega (arith, lt, size))

  suits-at : (f : FunctionValue) (o : Op) → slice_get c.functions r.function ≡ Some f → slice_get f.ops r.at ≡ Some o
      → Suits c f h.fits.depths r.at o (length r.store.operands)
  suits-at f o is at =
      let same : h.fits.function ≡ f = same_Some h.fits.function f (sym h.fits.fits.there ∙ is) in
      subst (λ g. Suits c g h.fits.depths r.at o (length r.store.operands)) same
      (h.fits.fits.typed.each r.at o (length r.store.operands) (rw same at) h.fits.fits.at)

  words-at : (f : FunctionValue) → slice_get c.functions r.function ≡ Some f → length r.bits.bits ≡ words_in f.paths
  words-at f is = h.tidy.own ∙ ap bits_in is

  pub ready : (f : FunctionValue) (o : Op) (starts : List ℕ) → slice_get c.functions r.function ≡ Some f
      → slice_get f.ops r.at ≡ Some o → StartsAt f starts → k ≤ 2 ^ 62 → Ready c f starts o r
  ready f o starts is at rows small =
      let same : h.fits.function ≡ f = same_Some h.fits.function f (sym h.fits.fits.there ∙ is) in
      let suits = suits-at f o is at in
      let here : FunctionFacts f = facts.functions r.function f is in
      let few : taken r.store ≤ 2000 * h.roomy.most = taken-few c k r s h in
      let wide : length r.bits.below + length r.bits.bits ≤ 2000 * h.roomy.width = words-taken c k r s h in
      let room : 2001 * h.roomy.most + 1 ≤ r.store.room = h.roomy.room in
      let more : 2001 * h.roomy.width ≤ r.bits.room = h.roomy.bits_room in
      let lt : r.at < length f.ops = at-there f is in
      let size : length f.ops ≤ 1048576 = here.ops in
      let long : length r.counts.items ≡ length c.functions = sized-long c r.counts.items h.tidy.sized in
      record {
        number = here.numbers r.at o at;
        at = omega (arith, lt, size);
        operands = suits.taken;
        cells = h.fits.fits.cells ∙ ap (λ (g : FunctionValue). g.cells) same;
        globals = h.fits.fits.globals;
        cell = suits.cell;
        room = omega (arith, few, room);
        called = λ i g called. (
          (facts.sound.each i g called).params,
          (let a : g.cells + g.depth ≤ h.roomy.most = (h.roomy.size i g called).0 in omega (arith, few, room, a)),
          (let a : words_in g.paths ≤ h.roomy.width = (h.roomy.size i g called).1 in omega (arith, wide, more, a)),
        );
        cap = h.roomy.cap;
        frames = h.frames;
        function = (let a = there in omega (arith, a, long));
        words = λ v got.
            sized-at (λ (w : CountsValue). w.words) (λ g. words_in g.paths) r.counts.items c.functions h.tidy.sized.words
            r.function v f got is ∙ sym (words-at f is);
        counter = λ v got. counter_fits f o v suits.counter
            (sized-at (λ (w : CountsValue). w.counters) (λ g. g.counters) r.counts.items c.functions h.tidy.sized.counters
            r.function v f got is)
            (λ n. (let a = h.tidy.within r.function n in let b = counter-index r.counts.items r.function n v got in
            omega (arith, a, b, small)));
        row = row_fits f starts o (length r.bits.bits) suits.row (words-at f is) here.table rows;
      }

  pub move-is : (f : FunctionValue) (o : Op) → slice_get c.functions r.function ≡ Some f → slice_get f.ops r.at ≡ Some o
      → move c (point r s) ≡ does c f o (point r s)
  move-is f o is at = rw (is, at) refl

  pub holds-on : (n : Run) (t : Ghosts) → Keeps r n → move c (point r s) ≡ Goes_on (point n t) → Holds c (suc k) n t
  holds-on n t kept is = record {
    fits = subst (FitsOn c) is (keeps c facts.sound (point r s) h.fits);
    tidy = subst (TidyMove c (suc k)) is (move_tidy c k (point r s) h.tidy);
    frames = kept.frames h.frames;
    few = kept.few h.few;
    roomy = roomy-end c k r s h n kept;
  }

  pub falls : (n : Run) (t : Ghosts) → move c (point r s) ≡ Goes_on (point n t) → weight c (point n t) < weight c (point r s)
  falls n t is = subst (LighterThan c (weight c (point r s))) is (lighter c (point r s) h.fits)

  pub ends-on : (n : Run) (t : Ghosts) (ran : Ran) → move c (point r s) ≡ Goes_on (point n t) → EndsSo c (point n t) ran
      → EndsSo c (point r s) ran
  ends-on n t ran is e = (suc e.0, rw is e.1)

  pub ends-now : (ran : Ran) → move c (point r s) ≡ Over ran → EndsSo c (point r s) ran
  ends-now ran is = (1, rw is refl)

  pub sized-end : (ran : Ran) → move c (point r s) ≡ Over ran → Sized c ran.tally.counters ran.tally.words
  sized-end ran is = subst (TidyMove c (suc k)) is (move_tidy c k (point r s) h.tidy)

-- ---- what the run doesn't hold

-- the weight doesn't hang on it
same-waiting : (c : CodeValue) (fs : List Frame) (xs ys : List ℕ) (below : List ℤ) (bits : List ℕ)
    → waiting c (callers_of fs xs below bits) ≡ waiting c (callers_of fs ys below bits)
same-waiting c [] xs ys below bits = refl
same-waiting c (f ∷ fs) xs ys below bits =
    ap (λ n. left c f.function f.at + n) (same-waiting c fs (tail_of xs) (tail_of ys) (take f.base below) (take f.bits bits))

pub same-weight : (c : CodeValue) (r : Run) (s t : Ghosts) → weight c (point r s) ≡ weight c (point r t)
same-weight c r s t =
    ap (λ n. r.turns * suc (sizes c.functions) + (left c r.function r.at + n))
    (same-waiting c (reverse r.frames.items) s.calls t.calls r.store.below r.bits.below)

abbrev pub nothing : Ghosts
nothing = record { call = 0; calls = []; marks = []; input = []; output = [] }

where-with : (result : Option Outcome) (on s : Ghosts) (input output : List ℕ)
    → where_on result (with_bytes input output on) (with_bytes input output s) ≡ with_bytes input output (where_on result on s)
where-with None on s input output = refl
where-with (Some e) on s input output = refl

-- bytes are read and put apart from it
pub after-with : (o : Op) (result : Option Outcome) (s : Ghosts) (input output : List ℕ)
    → after o result (with_bytes input output s) ≡ with_bytes input output (after o result s)
after-with (op.Call g line) result s input output = where-with result (entered g s) s input output
after-with op.Return result s input output = where-with result (points.left s) s input output
after-with (op.Count n) result s input output = refl
after-with op.PathBegin result s input output = refl
after-with (op.PathPass w) result s input output = refl
after-with o result s input output = refl

-- ---- the start

left-few : (c : CodeValue) (fs : List FunctionValue) (i at : ℕ) → size_of (slice_get fs i) - at ≤ sizes fs
left-few c [] i at = omega arith
left-few c (f ∷ fs) zero at = omega arith
left-few c (f ∷ fs) (suc i) at = let h = left-few c fs i at in omega (arith, h)

pub start-weight : (c : CodeValue) (r : Run) (s : Ghosts) → CodeFacts c → r.turns ≤ 2 ^ 40 → r.frames.items ≡ []
    → weight c (point r s) ≤ 2 ^ 62
start-weight c r s facts few none =
    let n : ℕ = suc (sizes c.functions) in
    let all : sizes c.functions ≤ 1048576 = facts.sizes in
    let a : r.turns * n ≤ 2 ^ 40 * n = mul-le-mul_right n few in
    let m : n ≤ 1048577 = omega (arith, all) in
    let b : 2 ^ 40 * n ≤ 2 ^ 40 * 1048577 = mul-le-mul_left (2 ^ 40) m in
    let d : left c r.function r.at ≤ sizes c.functions = left-few c c.functions r.function r.at in
    let w : waiting c (callers_of (reverse r.frames.items) s.calls r.store.below r.bits.below) ≡ 0 = rw none refl in
    omega (arith, a, b, d, w, all)

pub holds-start : (c : CodeValue) (r : Run) (input : List ℕ) → CodeFacts c → Roomy c r → Begins c r
    → Holds c 0 r (at_start c input)
holds-start c r input facts roomy begins = record {
  fits = subst (Fits c) (sym (begins.started input)) (first_fits c facts.sound input r.turns);
  tidy = subst (Tidy c 0) (sym (begins.started input)) (first_tidy c input r.turns);
  frames = rw (begins.frames, begins.below, begins.bits_below) (refl, refl);
  few = rw begins.frames (omega arith);
  roomy = roomy;
}

-- ---- one instruction more

-- what a read of a list tells
pub got : {A : Type 0} (xs ys : List A) (i : ℕ) (x : A) → ys ≡ xs → i < length xs → x ≡ get_or ys i x
    → slice_get xs i ≡ Some x
got xs ys i x e lt is = slice_get_read xs _ i x refl lt (subst (λ l. x ≡ get_or l i x) e is)

-- a run went on: what held holds with one count more, and less is to do
pub record WentOn (c : CodeValue) (k : ℕ) (r n : Run) (t : Ghosts) : Type 0 where
  pub holds : Holds c (suc k) n t
  pub lighter : weight c (point n nothing) < weight c (point r nothing)
  pub few : suc k + weight c (point n nothing) ≤ 2 ^ 62

module _ (c : CodeValue) (facts : CodeFacts c) (k : ℕ) (r : Run) (s : Ghosts) (h : Holds c k r s) where
  pub went-on : (n : Run) (t : Ghosts) → Keeps r n → k + weight c (point r nothing) ≤ 2 ^ 62
      → move c (point r s) ≡ Goes_on (point n t) → WentOn c k r n t
  went-on n t kept few is =
      let less : weight c (point n t) < weight c (point r s) = falls c facts k r s h n t is in
      let a : weight c (point n t) ≡ weight c (point n nothing) = same-weight c n t nothing in
      let b : weight c (point r s) ≡ weight c (point r nothing) = same-weight c r s nothing in
      record {
        holds = holds-on c facts k r s h n t kept is;
        lighter = omega (arith, less, a, b);
        few = omega (arith, less, a, b, few);
      }

-- ---- a run under way

-- a run is at a point of the code's run, with few counts, and what comes from there comes from the start
abbrev pub Under : CodeValue → List ℕ → List ℕ → Run → Point → Type 0
Under c input output r start =
    (t : Ghosts) × (k : ℕ) × Holds c k r (with_bytes input output t) × (k + weight c (point r nothing) ≤ 2 ^ 62)
    × ((ran : Ran) → EndsSo c (point r (with_bytes input output t)) ran → EndsSo c start ran)
