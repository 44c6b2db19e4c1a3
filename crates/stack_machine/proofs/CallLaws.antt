-- A call that begins: what a run of the machine makes of it is what a run of the code does.
use Rattle.std.proofs.Common.{◌≡◌, refl, ap, ◌∙◌, ℕ, suc, ◌+◌, ◌-◌, ◌<◌, ◌≤◌, List, [], ◌∷◌, ◌++◌, length, take, drop, cond}
use Rattle.std.proofs.Common.{Option, Some, arith}
use Rattle.std.specs.Prelude.{ℤ, nat_lt, reverse}
use Rattle.std.proofs.lemmas.List.{reverse-reverse, length-reverse}
use Rattle.std.proofs.lemmas.Bool.{lt-ltb, le-ltb}
use Rattle.std.proofs.Math.Seq.{drop-append_seam, take-append_seam, drop-append-add}
use Rattle.stack_ops.specs.declared.endings.Outcome.TheVariants as outcome
use Rattle.stack_ops.specs.declared.endings.Trap.TheVariants as trap
use Rattle.stack_ops.specs.Code.{FunctionValue}
use Rattle.code_runs.specs.CodeRun.{Point, Goes_on}
use Rattle.code_runs.specs.CodeRun as code
use Rattle.code_runs.specs.Tables.{words_in}
use Rattle.stack_machine.specs.Bits.{begun_with}
use Rattle.stack_machine.specs.Store.{begun}
use Rattle.stack_machine.specs.declared.frame.Frame.{Frame}
use Rattle.stack_machine.specs.declared.run.Run.{Run}
use Rattle.stack_machine.specs.Points.{Ghosts, callers_of, tail_of, point, entered}

called : (o : Option FunctionValue) (h : FunctionValue) (g line t : ℕ) (p : Point) → o ≡ Some h → p.turns ≡ suc t
    → code.calls o g line p
    ≡ cond (nat_lt (suc (length p.callers)) 2000) (code.begins h g (record p { turns = t }))
    (code.over (outcome.Trapped trap.CallDepth line) (record p { turns = t }))
called o h g line t p is e = rw (is, e) refl

length-callers : (fs : List Frame) (calls : List ℕ) (below : List ℤ) (bits : List ℕ)
    → length (callers_of fs calls below bits) ≡ length fs
length-callers [] calls below bits = refl
length-callers (f ∷ fs) calls below bits =
    ap suc (length-callers fs (tail_of calls) (take f.base below) (take f.bits bits))

-- the numbers and bits below a call that begins, seen as its caller
below-operands : (below cells os : List ℤ) (n : ℕ) → n ≡ length below + length cells
    → reverse (drop n (below ++ (cells ++ reverse os))) ≡ os
below-operands below cells os n e =
    rw (
      e,
      drop-append-add below (cells ++ reverse os) (length cells),
      drop-append_seam cells (reverse os),
      reverse-reverse os,
    ) refl

below-cells : (below cells rest : List ℤ) (b n : ℕ) → b ≡ length below → n ≡ length below + length cells
    → take (n - b) (drop b (below ++ (cells ++ rest))) ≡ cells
below-cells below cells rest b n e f =
    let d : n - b ≡ length cells = omega (arith, e, f) in
    rw (d, e, drop-append_seam below (cells ++ rest), take-append_seam cells rest) refl

below-rest : {A : Type 0} (below rest : List A) (b : ℕ) → b ≡ length below → take b (below ++ rest) ≡ below
below-rest below rest b e = rw (e, take-append_seam below rest) refl

above-rest : {A : Type 0} (below rest : List A) (b : ℕ) → b ≡ length below → drop b (below ++ rest) ≡ rest
above-rest below rest b e = rw (e, drop-append_seam below rest) refl

pub begins-is : (h : FunctionValue) (g t : ℕ) (m n : Run) (s : Ghosts) (frame : Frame)
    → n.store ≡ begun h.params h.cells m.store → n.bits ≡ begun_with (words_in h.paths) m.bits
    → reverse n.frames.items ≡ frame ∷ reverse m.frames.items → frame.function ≡ m.function → frame.at ≡ suc m.at
    → frame.base ≡ length m.store.below → frame.floor ≡ length m.store.below + length m.store.cells
    → frame.bits ≡ length m.bits.below → n.function ≡ g → n.at ≡ 0 → n.turns ≡ t → n.globals ≡ m.globals
    → n.counts ≡ m.counts → code.begins h g (record (point m s) { turns = t }) ≡ Goes_on (point n (entered g s))
begins-is h g t m n s frame store bits frames e1 e2 e3 e4 e5 e6 e7 e8 e9 e10 =
    rw (
      store,
      bits,
      frames,
      e1,
      e2,
      e6,
      e7,
      e8,
      e9,
      e10,
      below-operands m.store.below m.store.cells (drop h.params m.store.operands) frame.floor e4,
      below-cells m.store.below m.store.cells (reverse (drop h.params m.store.operands)) frame.base frame.floor e3 e4,
      below-rest m.store.below (m.store.cells ++ reverse (drop h.params m.store.operands)) frame.base e3,
      above-rest m.bits.below m.bits.bits frame.bits e5,
      below-rest m.bits.below m.bits.bits frame.bits e5,
    ) refl

pub too-deep : (o : Option FunctionValue) (h : FunctionValue) (g line t : ℕ) (m n : Run) (s : Ghosts) → o ≡ Some h
    → m.turns ≡ suc t → 1999 ≤ length m.frames.items → n.counts ≡ m.counts
    → code.calls o g line (point m s) ≡ code.over (outcome.Trapped trap.CallDepth line) (point n s)
too-deep o h g line t m n s is e deep same =
    called o h g line t (point m s) is e
    ∙ (rw (
      length-callers (reverse m.frames.items) s.calls m.store.below m.bits.below,
      length-reverse m.frames.items,
      le-ltb (suc (length m.frames.items)) 2000 (omega (arith, deep)),
      same,
    ) refl)

pub deep-enough : (o : Option FunctionValue) (h : FunctionValue) (g line t : ℕ) (m : Run) (s : Ghosts) (next : Point)
    → o ≡ Some h → m.turns ≡ suc t → length m.frames.items < 1999
    → code.begins h g (record (point m s) { turns = t }) ≡ Goes_on next → code.calls o g line (point m s) ≡ Goes_on next
deep-enough o h g line t m s next is e deep begins =
    called o h g line t (point m s) is e
    ∙ ((rw (
      length-callers (reverse m.frames.items) s.calls m.store.below m.bits.below,
      length-reverse m.frames.items,
      lt-ltb (suc (length m.frames.items)) 2000 (omega (arith, deep)),
    ) refl) ∙ begins)
