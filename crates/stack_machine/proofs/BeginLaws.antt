-- What a run begins with.
use Rattle.std.proofs.Common.{◌≡◌, refl, sym, ap, subst, ◌∙◌, ℕ, zero, suc, ◌-◌, ◌<◌, List, [], ◌∷◌, ◌++◌, length}
use Rattle.std.proofs.Common.{take, drop, set, get_or, Some, arith}
use Rattle.std.specs.Prelude.{map, replicate, slice_get}
use Rattle.std.proofs.lemmas.List.{length-replicate}
use Rattle.stack_ops.specs.declared.endings.Outcome.{Outcome}
use Rattle.code_runs.specs.CodeRun.{Ran, CodeRun}
use Rattle.code_runs.proofs.Ends.{one_run}
use Rattle.stack_machine.specs.Machine.{MachineValue, at_rest, Shows}
use Rattle.stack_ops.specs.Code.{FunctionValue, CodeValue}
use Rattle.code_runs.specs.Tables.{words_in}
use Rattle.std.proofs.lemmas.Option.{slice_get_within}
use Rattle.stack_machine.proofs.CodeFacts.{CodeFacts}
use Rattle.stack_machine.proofs.Holding.{got}
use Rattle.stack_machine.specs.Bits.{begun_with, no_bits_in}
use Rattle.stack_machine.specs.Store.{begun, nothing_in}
use Rattle.stack_machine.specs.declared.run.Run.{Run}
use Rattle.stack_machine.specs.Counts.{CountsValue, zeros_of, cleared}
use Rattle.stack_machine.specs.Held.{Sized, Begins, ComesTo}
use Rattle.stack_machine.specs.Points.{counters_of, words_of}

-- one more of the counts is cleared
pub cleared-more : (xs : List CountsValue) (i : ℕ) (x : CountsValue) → i < length xs
    → set (map cleared (take i xs) ++ drop i xs) i (cleared (get_or (map cleared (take i xs) ++ drop i xs) i x))
    ≡ map cleared (take (suc i) xs) ++ drop (suc i) xs
cleared-more [] i x lt = absurd (omega (arith, lt))
cleared-more (y ∷ ys) zero x lt = refl
cleared-more (y ∷ ys) (suc i) x lt = ap (λ l. cleared y ∷ l) (cleared-more ys i x (omega (arith, lt)))

-- cleared lists of as many lengths as functions have sizes
zeros : (part : CountsValue → List ℕ) (size : FunctionValue → ℕ) (cs : List CountsValue) (fs : List FunctionValue)
    → map (λ ns. length ns) (map part cs) ≡ map size fs
    → map (λ v. replicate {A = ℕ} (length (part v)) 0) cs ≡ map (λ f. replicate {A = ℕ} (size f) 0) fs
zeros part size [] [] e = refl
zeros part size [] (f ∷ fs) e = absurd (cc)
zeros part size (x ∷ xs) [] e = absurd (cc)
zeros part size (x ∷ xs) (f ∷ fs) e =
    let a : length (part x) ≡ size f = cc in
    let b : map (λ ns. length ns) (map part xs) ≡ map size fs = cc in
    rw (a, zeros part size xs fs b) refl

counters-cleared : (cs : List CountsValue)
    → counters_of (map cleared cs) ≡ map (λ v. replicate (length v.counters) 0) cs
counters-cleared [] = refl
counters-cleared (x ∷ xs) = ap (λ l. replicate (length x.counters) 0 ∷ l) (counters-cleared xs)

words-cleared : (cs : List CountsValue) → words_of (map cleared cs) ≡ map (λ v. replicate (length v.words) 0) cs
words-cleared [] = refl
words-cleared (x ∷ xs) = ap (λ l. replicate (length x.words) 0 ∷ l) (words-cleared xs)

-- cleared counts are those with which a run of the code begins
pub cleared-counters : (c : CodeValue) (cs : List CountsValue) → Sized c (counters_of cs) (words_of cs)
    → counters_of (map cleared cs) ≡ map (λ f. replicate f.counters 0) c.functions
cleared-counters c cs h = counters-cleared cs ∙ zeros (λ v. v.counters) (λ f. f.counters) cs c.functions h.counters

pub cleared-words : (c : CodeValue) (cs : List CountsValue) → Sized c (counters_of cs) (words_of cs)
    → words_of (map cleared cs) ≡ map (λ f. replicate (words_in f.paths) 0) c.functions
cleared-words c cs h = words-cleared cs ∙ zeros (λ v. v.words) (λ f. words_in f.paths) cs c.functions h.words

-- the counts of a machine that has not run
pub zero-counters : (fs : List FunctionValue) → counters_of (map zeros_of fs) ≡ map (λ f. replicate f.counters 0) fs
zero-counters [] = refl
zero-counters (f ∷ fs) = ap (λ l. replicate f.counters 0 ∷ l) (zero-counters fs)

pub zero-words : (fs : List FunctionValue) → words_of (map zeros_of fs) ≡ map (λ f. replicate (words_in f.paths) 0) fs
zero-words [] = refl
zero-words (f ∷ fs) = ap (λ l. replicate (words_in f.paths) 0 ∷ l) (zero-words fs)

-- a run that has what its code begins with is at its start
pub begins : (c : CodeValue) (r : Run) (f : FunctionValue) (cs : List CountsValue) (room wide : ℕ)
    → slice_get c.functions c.main ≡ Some f → r.store ≡ begun 0 f.cells (nothing_in room)
    → r.bits ≡ begun_with (words_in f.paths) (no_bits_in wide) → r.globals ≡ c.globals → r.counts.items ≡ map cleared cs
    → Sized c (counters_of cs) (words_of cs) → r.frames.items ≡ [] → r.function ≡ c.main → r.at ≡ 0 → Begins c r
begins c r f cs room wide is store bits globals counts sized frames function at =
    let cells : f.cells - 0 ≡ f.cells = omega arith in
    record {
      frames = frames;
      below = rw store refl;
      bits_below = rw bits refl;
      started = λ input. rw (
        store,
        bits,
        globals,
        counts,
        frames,
        function,
        at,
        is,
        cells,
        cleared-counters c cs sized,
        cleared-words c cs sized,
      ) refl;
    }

-- they are as many as the code says
counters-long : (fs : List FunctionValue)
    → map (λ ns. length ns) (counters_of (map zeros_of fs)) ≡ map (λ f. f.counters) fs
counters-long [] = refl
counters-long (f ∷ fs) = rw (length-replicate {A = ℕ} f.counters 0, counters-long fs) refl

words-long : (fs : List FunctionValue)
    → map (λ ns. length ns) (words_of (map zeros_of fs)) ≡ map (λ f. words_in f.paths) fs
words-long [] = refl
words-long (f ∷ fs) = rw (length-replicate {A = ℕ} (words_in f.paths) 0, words-long fs) refl

pub zero-sized : (c : CodeValue) (cs : List CountsValue) → cs ≡ map zeros_of c.functions
    → Sized c (counters_of cs) (words_of cs)
zero-sized c cs e =
    let a : map (λ ns. length ns) (counters_of cs) ≡ map (λ f. f.counters) c.functions =
    rw e (counters-long c.functions) in
    let b : map (λ ns. length ns) (words_of cs) ≡ map (λ f. words_in f.paths) c.functions =
    rw e (words-long c.functions) in
    record { counters = a; words = b }

-- a machine with them and without output has not run
pub rests : (c : CodeValue) (turns : ℕ) (output : List ℕ) (cs : List CountsValue) → output ≡ []
    → cs ≡ map zeros_of c.functions
    → record { code = c; turns = turns; output = output; counters = counters_of cs; words = words_of cs }
    ≡ at_rest c turns
rests c turns output cs none e = rw (none, e, zero-counters c.functions, zero-words c.functions) refl

-- what a run came to is what the machine shows
pub shows : (c d : CodeValue) (input left : List ℕ) (turns given : ℕ) (answer : Outcome) (output : List ℕ) (r : Run)
    (m : MachineValue)
    → d ≡ c → left ≡ input → given ≡ turns → m.output ≡ output → m.counters ≡ counters_of r.counts.items
    → m.words ≡ words_of r.counts.items → ComesTo d left given answer output r
    → (ran : Ran) × CodeRun c input turns ran × Shows ran answer m
shows c d input left turns given answer output r m e1 e2 e3 e4 e5 e6 h =
    let ran : Ran = record {
      output = output;
      ending = answer;
      tally = record { counters = counters_of r.counts.items; words = words_of r.counts.items; marks = h.0 };
    } in
    let a : CodeRun c left given ran = subst (λ (v : CodeValue). CodeRun v left given ran) e1 h.1 in
    let b : CodeRun c input given ran = subst (λ (l : List ℕ). CodeRun c l given ran) e2 a in
    let is : CodeRun c input turns ran = subst (λ (n : ℕ). CodeRun c input n ran) e3 b in
    (ran, is, record { ending = refl; output = e4; counters = e5; words = e6 })

-- and it comes to nothing else
pub shows-each : (c : CodeValue) (input : List ℕ) (turns : ℕ) (answer : Outcome) (m : MachineValue)
    → (ran : Ran) × CodeRun c input turns ran × Shows ran answer m
    → (ran : Ran) → CodeRun c input turns ran → Shows ran answer m
shows-each c input turns answer m h ran is =
    subst (λ (v : Ran). Shows v answer m) (sym (one_run c input turns h.0 ran h.1 is)) h.2

-- the first function, as a code is held
pub main-got : (c : CodeValue) (known : CodeFacts c) (main : ℕ) (fs : List FunctionValue) (f : FunctionValue)
    → main ≡ c.main → fs ≡ c.functions → f ≡ get_or fs main f → slice_get c.functions c.main ≡ Some f
main-got c known main fs f e is at =
    let lt : c.main < length c.functions = slice_get_within c.functions c.main known.sound.main known.sound.there in
    got c.functions fs c.main f is lt (subst (λ (i : ℕ). f ≡ get_or fs i f) e at)
