use Rattle.std.proofs.Common.{◌≡◌, ◌<◌, ◌∙◌, length, refl, sym, ap, Some, arith, pos}
use Rattle.std.specs.Prelude.{slice_get}
use Rattle.stack_ops.specs.Code.{CodeValue, FunctionValue}
use Rattle.stack_ops.specs.declared.operation.Op.TheVariants as op
use Rattle.stack_machine.proofs.CodeFacts.{CodeFacts, facts}
use Rattle.stack_machine.proofs.Holding.{got}
use Rattle.stack_machine.proofs.Finishing.{Further, starts, function-there, rows-there, op-there, few-ops, op-read, is-ready, goes-further, comes-so, sized-so, roomy-so}
use Rattle.stack_machine.proofs.run.Run.finish.Goals as goal

pub loop-ending-init : goal.loop-ending-init
loop-ending-init g c =
    starts c.args.code.now c.args.self (g.S.Streams.left c.args.io.now) (g.S.Streams.written c.args.io.now)
    (facts c.args.code.now c.requires.checked) c.requires.roomy c.requires.begins c.requires.turns c.requires.written

pub index-f-requires : goal.index-f-requires
index-f-requires g c =
    let code : CodeValue = c.args.code.now in
    let known : CodeFacts code = facts code c.requires.checked in
    let lt = function-there code known (g.S.Streams.left c.loop-ending.io) (g.S.Streams.written c.loop-ending.io) c.loop-ending.here _ c.loop-ending.invariant in
    let within : c.loop-ending.here.function < length c.code.inside.functions.items = rw (sym c.code.view_is) at lt in
    let n = c.code.inside.functions.ok.0 in omega (arith, within, n)

pub index-starts-requires : goal.index-starts-requires
index-starts-requires g c =
    let code : CodeValue = c.args.code.now in
    let known : CodeFacts code = facts code c.requires.checked in
    let lt = function-there code known (g.S.Streams.left c.loop-ending.io) (g.S.Streams.written c.loop-ending.io) c.loop-ending.here _ c.loop-ending.invariant in
    let f : slice_get code.functions c.loop-ending.here.function ≡ Some c.index-f.result.now =
    got code.functions c.code.inside.functions.items c.loop-ending.here.function c.index-f.result.now
    (ap (λ (v : CodeValue). v.functions) c.code.view_is) lt c.index-f.ensures in
    let long = rows-there code known (g.S.Streams.left c.loop-ending.io) (g.S.Streams.written c.loop-ending.io) c.loop-ending.here _ c.loop-ending.invariant c.args.rows.now.items c.index-f.result.now c.requires.rows f in
    let n = c.args.rows.now.ok.0 in omega (arith, long, n)

pub offset_bounds-ops-here : goal.offset_bounds-ops-here
offset_bounds-ops-here g c =
    let code : CodeValue = c.args.code.now in
    let known : CodeFacts code = facts code c.requires.checked in
    let lt = function-there code known (g.S.Streams.left c.loop-ending.io) (g.S.Streams.written c.loop-ending.io) c.loop-ending.here _ c.loop-ending.invariant in
    let f : slice_get code.functions c.loop-ending.here.function ≡ Some c.index-f.result.now =
    got code.functions c.code.inside.functions.items c.loop-ending.here.function c.index-f.result.now
    (ap (λ (v : CodeValue). v.functions) c.code.view_is) lt c.index-f.ensures in
    let a = op-there code known (g.S.Streams.left c.loop-ending.io) (g.S.Streams.written c.loop-ending.io) c.loop-ending.here _ c.loop-ending.invariant c.index-f.result.now f in let b = few-ops code known (g.S.Streams.left c.loop-ending.io) (g.S.Streams.written c.loop-ending.io) c.loop-ending.here _ c.loop-ending.invariant c.index-f.result.now f in record { fits = omega (arith, a, b) }

pub bounds-ops-here : goal.bounds-ops-here
bounds-ops-here g c =
    let code : CodeValue = c.args.code.now in
    let known : CodeFacts code = facts code c.requires.checked in
    let lt = function-there code known (g.S.Streams.left c.loop-ending.io) (g.S.Streams.written c.loop-ending.io) c.loop-ending.here _ c.loop-ending.invariant in
    let f : slice_get code.functions c.loop-ending.here.function ≡ Some c.index-f.result.now =
    got code.functions c.code.inside.functions.items c.loop-ending.here.function c.index-f.result.now
    (ap (λ (v : CodeValue). v.functions) c.code.view_is) lt c.index-f.ensures in
    let ops : c.as_slice-ops.result.now ≡ c.index-f.result.now.ops =
    c.as_slice-ops.ensures.value ∙ ap (λ (v : FunctionValue). v.ops) c.f.view_is in
    let a = op-there code known (g.S.Streams.left c.loop-ending.io) (g.S.Streams.written c.loop-ending.io) c.loop-ending.here _ c.loop-ending.invariant c.index-f.result.now f in rw ops a

pub loop-ending-2-init : goal.loop-ending-2-init
loop-ending-2-init g c =
    let code : CodeValue = c.args.code.now in
    let known : CodeFacts code = facts code c.requires.checked in
    let lt = function-there code known (g.S.Streams.left c.loop-ending.io) (g.S.Streams.written c.loop-ending.io) c.loop-ending.here _ c.loop-ending.invariant in
    let f : slice_get code.functions c.loop-ending.here.function ≡ Some c.index-f.result.now =
    got code.functions c.code.inside.functions.items c.loop-ending.here.function c.index-f.result.now
    (ap (λ (v : CodeValue). v.functions) c.code.view_is) lt c.index-f.ensures in
    let ops : c.as_slice-ops.result.now ≡ c.index-f.result.now.ops =
    c.as_slice-ops.ensures.value ∙ ap (λ (v : FunctionValue). v.ops) c.f.view_is in
    (c.loop-ending.invariant, refl, op-read code known (g.S.Streams.left c.loop-ending.io) (g.S.Streams.written c.loop-ending.io) c.loop-ending.here _ c.loop-ending.invariant c.index-f.result.now f c.as_slice-ops.result.now (op.Push (pos 0)) ops, omega arith)

pub step-requires : goal.step-requires
step-requires g c =
    let code : CodeValue = c.args.code.now in
    let known : CodeFacts code = facts code c.requires.checked in
    let lt = function-there code known (g.S.Streams.left c.loop-ending.io) (g.S.Streams.written c.loop-ending.io) c.loop-ending.here _ c.loop-ending.invariant in
    let f : slice_get code.functions c.loop-ending.here.function ≡ Some c.index-f.result.now =
    got code.functions c.code.inside.functions.items c.loop-ending.here.function c.index-f.result.now
    (ap (λ (v : CodeValue). v.functions) c.code.view_is) lt c.index-f.ensures in
    let is : slice_get code.functions c.loop-ending-2.here.function ≡ Some c.index-f.result.now = rw c.loop-ending-2.invariant.1 f in
    let long = rows-there code known (g.S.Streams.left c.loop-ending.io) (g.S.Streams.written c.loop-ending.io) c.loop-ending.here _ c.loop-ending.invariant c.args.rows.now.items c.index-f.result.now c.requires.rows f in
    let places : slice_get c.args.rows.now.items c.loop-ending-2.here.function ≡ Some c.index-starts.result.now =
    rw c.loop-ending-2.invariant.1 (got c.args.rows.now.items c.args.rows.now.items c.loop-ending.here.function c.index-starts.result.now refl
    long c.index-starts.ensures) in
    record { ready = is-ready code known (g.S.Streams.left c.loop-ending-2.io) (g.S.Streams.written c.loop-ending-2.io) c.loop-ending-2.here _ c.loop-ending-2.invariant.0 c.index-f.result.now is c.loop-ending-2.op.now c.loop-ending-2.invariant.2 c.args.rows.now.items c.index-starts.result.now c.requires.rows places }

pub returns-in-Some-clause-ran : goal.returns-in-Some-clause-ran
returns-in-Some-clause-ran g c =
    let code : CodeValue = c.args.code.now in
    let known : CodeFacts code = facts code c.requires.checked in
    let lt = function-there code known (g.S.Streams.left c.loop-ending.io) (g.S.Streams.written c.loop-ending.io) c.loop-ending.here _ c.loop-ending.invariant in
    let f : slice_get code.functions c.loop-ending.here.function ≡ Some c.index-f.result.now =
    got code.functions c.code.inside.functions.items c.loop-ending.here.function c.index-f.result.now
    (ap (λ (v : CodeValue). v.functions) c.code.view_is) lt c.index-f.ensures in
    let is : slice_get code.functions c.loop-ending-2.here.function ≡ Some c.index-f.result.now = rw c.loop-ending-2.invariant.1 f in
    comes-so code known (g.S.Streams.left c.loop-ending-2.io) (g.S.Streams.written c.loop-ending-2.io) c.loop-ending-2.here _ c.loop-ending-2.invariant.0 c.index-f.result.now is c.loop-ending-2.op.now c.loop-ending-2.invariant.2 c.step.result c.step.new.self
    (g.S.Streams.left c.step.new.io) (g.S.Streams.written c.step.new.io) c.step.ensures.effect c.step.ensures.keeps c.in-Some.ending c.in-Some.is

pub returns-in-Some-clause-roomy : goal.returns-in-Some-clause-roomy
returns-in-Some-clause-roomy g c =
    let code : CodeValue = c.args.code.now in
    let known : CodeFacts code = facts code c.requires.checked in
    let lt = function-there code known (g.S.Streams.left c.loop-ending.io) (g.S.Streams.written c.loop-ending.io) c.loop-ending.here _ c.loop-ending.invariant in
    let f : slice_get code.functions c.loop-ending.here.function ≡ Some c.index-f.result.now =
    got code.functions c.code.inside.functions.items c.loop-ending.here.function c.index-f.result.now
    (ap (λ (v : CodeValue). v.functions) c.code.view_is) lt c.index-f.ensures in
    let is : slice_get code.functions c.loop-ending-2.here.function ≡ Some c.index-f.result.now = rw c.loop-ending-2.invariant.1 f in
    roomy-so code known (g.S.Streams.left c.loop-ending-2.io) (g.S.Streams.written c.loop-ending-2.io) c.loop-ending-2.here _ c.loop-ending-2.invariant.0 c.index-f.result.now is c.loop-ending-2.op.now c.loop-ending-2.invariant.2 c.step.result c.step.new.self
    (g.S.Streams.left c.step.new.io) (g.S.Streams.written c.step.new.io) c.step.ensures.effect c.step.ensures.keeps

pub returns-in-Some-clause-sized : goal.returns-in-Some-clause-sized
returns-in-Some-clause-sized g c =
    let code : CodeValue = c.args.code.now in
    let known : CodeFacts code = facts code c.requires.checked in
    let lt = function-there code known (g.S.Streams.left c.loop-ending.io) (g.S.Streams.written c.loop-ending.io) c.loop-ending.here _ c.loop-ending.invariant in
    let f : slice_get code.functions c.loop-ending.here.function ≡ Some c.index-f.result.now =
    got code.functions c.code.inside.functions.items c.loop-ending.here.function c.index-f.result.now
    (ap (λ (v : CodeValue). v.functions) c.code.view_is) lt c.index-f.ensures in
    let is : slice_get code.functions c.loop-ending-2.here.function ≡ Some c.index-f.result.now = rw c.loop-ending-2.invariant.1 f in
    sized-so code known (g.S.Streams.left c.loop-ending-2.io) (g.S.Streams.written c.loop-ending-2.io) c.loop-ending-2.here _ c.loop-ending-2.invariant.0 c.index-f.result.now is c.loop-ending-2.op.now c.loop-ending-2.invariant.2 c.step.result c.step.new.self
    (g.S.Streams.left c.step.new.io) (g.S.Streams.written c.step.new.io) c.step.ensures.effect c.step.ensures.keeps c.in-Some.ending c.in-Some.is

pub loop-ending-smaller : goal.loop-ending-smaller
loop-ending-smaller g c =
    let code : CodeValue = c.args.code.now in
    let known : CodeFacts code = facts code c.requires.checked in
    let lt = function-there code known (g.S.Streams.left c.loop-ending.io) (g.S.Streams.written c.loop-ending.io) c.loop-ending.here _ c.loop-ending.invariant in
    let f : slice_get code.functions c.loop-ending.here.function ≡ Some c.index-f.result.now =
    got code.functions c.code.inside.functions.items c.loop-ending.here.function c.index-f.result.now
    (ap (λ (v : CodeValue). v.functions) c.code.view_is) lt c.index-f.ensures in
    let is : slice_get code.functions c.loop-ending-2.here.function ≡ Some c.index-f.result.now = rw c.loop-ending-2.invariant.1 f in
    let on : Further code (g.S.Streams.left c.step.new.io) (g.S.Streams.written c.step.new.io) c.loop-ending-2.here c.step.new.self _ =
    goes-further code known (g.S.Streams.left c.loop-ending-2.io) (g.S.Streams.written c.loop-ending-2.io) c.loop-ending-2.here _ c.loop-ending-2.invariant.0 c.index-f.result.now is c.loop-ending-2.op.now c.loop-ending-2.invariant.2 c.step.result c.step.new.self
    (g.S.Streams.left c.step.new.io) (g.S.Streams.written c.step.new.io) c.step.ensures.effect c.step.ensures.keeps c.in-None.is in
    let less = on.lighter in let le = c.loop-ending-2.invariant.3 in omega (arith, less, le)

pub loop-ending-preserved : goal.loop-ending-preserved
loop-ending-preserved g c =
    let code : CodeValue = c.args.code.now in
    let known : CodeFacts code = facts code c.requires.checked in
    let lt = function-there code known (g.S.Streams.left c.loop-ending.io) (g.S.Streams.written c.loop-ending.io) c.loop-ending.here _ c.loop-ending.invariant in
    let f : slice_get code.functions c.loop-ending.here.function ≡ Some c.index-f.result.now =
    got code.functions c.code.inside.functions.items c.loop-ending.here.function c.index-f.result.now
    (ap (λ (v : CodeValue). v.functions) c.code.view_is) lt c.index-f.ensures in
    let is : slice_get code.functions c.loop-ending-2.here.function ≡ Some c.index-f.result.now = rw c.loop-ending-2.invariant.1 f in
    let on : Further code (g.S.Streams.left c.step.new.io) (g.S.Streams.written c.step.new.io) c.loop-ending-2.here c.step.new.self _ =
    goes-further code known (g.S.Streams.left c.loop-ending-2.io) (g.S.Streams.written c.loop-ending-2.io) c.loop-ending-2.here _ c.loop-ending-2.invariant.0 c.index-f.result.now is c.loop-ending-2.op.now c.loop-ending-2.invariant.2 c.step.result c.step.new.self
    (g.S.Streams.left c.step.new.io) (g.S.Streams.written c.step.new.io) c.step.ensures.effect c.step.ensures.keeps c.in-None.is in
    on.under

pub offset_bounds-ops-here-in-loop-ending-2 : goal.offset_bounds-ops-here-in-loop-ending-2
offset_bounds-ops-here-in-loop-ending-2 g c =
    let code : CodeValue = c.args.code.now in
    let known : CodeFacts code = facts code c.requires.checked in
    let lt = function-there code known (g.S.Streams.left c.loop-ending.io) (g.S.Streams.written c.loop-ending.io) c.loop-ending.here _ c.loop-ending.invariant in
    let f : slice_get code.functions c.loop-ending.here.function ≡ Some c.index-f.result.now =
    got code.functions c.code.inside.functions.items c.loop-ending.here.function c.index-f.result.now
    (ap (λ (v : CodeValue). v.functions) c.code.view_is) lt c.index-f.ensures in
    let is : slice_get code.functions c.loop-ending-2.here.function ≡ Some c.index-f.result.now = rw c.loop-ending-2.invariant.1 f in
    let on : Further code (g.S.Streams.left c.step.new.io) (g.S.Streams.written c.step.new.io) c.loop-ending-2.here c.step.new.self _ =
    goes-further code known (g.S.Streams.left c.loop-ending-2.io) (g.S.Streams.written c.loop-ending-2.io) c.loop-ending-2.here _ c.loop-ending-2.invariant.0 c.index-f.result.now is c.loop-ending-2.op.now c.loop-ending-2.invariant.2 c.step.result c.step.new.self
    (g.S.Streams.left c.step.new.io) (g.S.Streams.written c.step.new.io) c.step.ensures.effect c.step.ensures.keeps c.in-None.is in
    let same : c.step.new.self.function ≡ c.loop-ending.here.function = (let e = c.if-here-function.false in omega (arith, e)) in
    let on-is : slice_get code.functions c.step.new.self.function ≡ Some c.index-f.result.now = rw same f in
    let ops : c.as_slice-ops.result.now ≡ c.index-f.result.now.ops =
    c.as_slice-ops.ensures.value ∙ ap (λ (v : FunctionValue). v.ops) c.f.view_is in
    let a = op-there code known (g.S.Streams.left c.step.new.io) (g.S.Streams.written c.step.new.io) c.step.new.self _ on.under c.index-f.result.now on-is in let b = few-ops code known (g.S.Streams.left c.step.new.io) (g.S.Streams.written c.step.new.io) c.step.new.self _ on.under c.index-f.result.now on-is in record { fits = omega (arith, a, b) }

pub bounds-ops-here-in-loop-ending-2 : goal.bounds-ops-here-in-loop-ending-2
bounds-ops-here-in-loop-ending-2 g c =
    let code : CodeValue = c.args.code.now in
    let known : CodeFacts code = facts code c.requires.checked in
    let lt = function-there code known (g.S.Streams.left c.loop-ending.io) (g.S.Streams.written c.loop-ending.io) c.loop-ending.here _ c.loop-ending.invariant in
    let f : slice_get code.functions c.loop-ending.here.function ≡ Some c.index-f.result.now =
    got code.functions c.code.inside.functions.items c.loop-ending.here.function c.index-f.result.now
    (ap (λ (v : CodeValue). v.functions) c.code.view_is) lt c.index-f.ensures in
    let is : slice_get code.functions c.loop-ending-2.here.function ≡ Some c.index-f.result.now = rw c.loop-ending-2.invariant.1 f in
    let on : Further code (g.S.Streams.left c.step.new.io) (g.S.Streams.written c.step.new.io) c.loop-ending-2.here c.step.new.self _ =
    goes-further code known (g.S.Streams.left c.loop-ending-2.io) (g.S.Streams.written c.loop-ending-2.io) c.loop-ending-2.here _ c.loop-ending-2.invariant.0 c.index-f.result.now is c.loop-ending-2.op.now c.loop-ending-2.invariant.2 c.step.result c.step.new.self
    (g.S.Streams.left c.step.new.io) (g.S.Streams.written c.step.new.io) c.step.ensures.effect c.step.ensures.keeps c.in-None.is in
    let same : c.step.new.self.function ≡ c.loop-ending.here.function = (let e = c.if-here-function.false in omega (arith, e)) in
    let on-is : slice_get code.functions c.step.new.self.function ≡ Some c.index-f.result.now = rw same f in
    let ops : c.as_slice-ops.result.now ≡ c.index-f.result.now.ops =
    c.as_slice-ops.ensures.value ∙ ap (λ (v : FunctionValue). v.ops) c.f.view_is in
    let a = op-there code known (g.S.Streams.left c.step.new.io) (g.S.Streams.written c.step.new.io) c.step.new.self _ on.under c.index-f.result.now on-is in rw ops a

pub loop-ending-2-smaller : goal.loop-ending-2-smaller
loop-ending-2-smaller g c =
    let code : CodeValue = c.args.code.now in
    let known : CodeFacts code = facts code c.requires.checked in
    let lt = function-there code known (g.S.Streams.left c.loop-ending.io) (g.S.Streams.written c.loop-ending.io) c.loop-ending.here _ c.loop-ending.invariant in
    let f : slice_get code.functions c.loop-ending.here.function ≡ Some c.index-f.result.now =
    got code.functions c.code.inside.functions.items c.loop-ending.here.function c.index-f.result.now
    (ap (λ (v : CodeValue). v.functions) c.code.view_is) lt c.index-f.ensures in
    let is : slice_get code.functions c.loop-ending-2.here.function ≡ Some c.index-f.result.now = rw c.loop-ending-2.invariant.1 f in
    let on : Further code (g.S.Streams.left c.step.new.io) (g.S.Streams.written c.step.new.io) c.loop-ending-2.here c.step.new.self _ =
    goes-further code known (g.S.Streams.left c.loop-ending-2.io) (g.S.Streams.written c.loop-ending-2.io) c.loop-ending-2.here _ c.loop-ending-2.invariant.0 c.index-f.result.now is c.loop-ending-2.op.now c.loop-ending-2.invariant.2 c.step.result c.step.new.self
    (g.S.Streams.left c.step.new.io) (g.S.Streams.written c.step.new.io) c.step.ensures.effect c.step.ensures.keeps c.in-None.is in
    on.lighter

pub loop-ending-2-preserved : goal.loop-ending-2-preserved
loop-ending-2-preserved g c =
    let code : CodeValue = c.args.code.now in
    let known : CodeFacts code = facts code c.requires.checked in
    let lt = function-there code known (g.S.Streams.left c.loop-ending.io) (g.S.Streams.written c.loop-ending.io) c.loop-ending.here _ c.loop-ending.invariant in
    let f : slice_get code.functions c.loop-ending.here.function ≡ Some c.index-f.result.now =
    got code.functions c.code.inside.functions.items c.loop-ending.here.function c.index-f.result.now
    (ap (λ (v : CodeValue). v.functions) c.code.view_is) lt c.index-f.ensures in
    let is : slice_get code.functions c.loop-ending-2.here.function ≡ Some c.index-f.result.now = rw c.loop-ending-2.invariant.1 f in
    let on : Further code (g.S.Streams.left c.step.new.io) (g.S.Streams.written c.step.new.io) c.loop-ending-2.here c.step.new.self _ =
    goes-further code known (g.S.Streams.left c.loop-ending-2.io) (g.S.Streams.written c.loop-ending-2.io) c.loop-ending-2.here _ c.loop-ending-2.invariant.0 c.index-f.result.now is c.loop-ending-2.op.now c.loop-ending-2.invariant.2 c.step.result c.step.new.self
    (g.S.Streams.left c.step.new.io) (g.S.Streams.written c.step.new.io) c.step.ensures.effect c.step.ensures.keeps c.in-None.is in
    let same : c.step.new.self.function ≡ c.loop-ending.here.function = (let e = c.if-here-function.false in omega (arith, e)) in
    let on-is : slice_get code.functions c.step.new.self.function ≡ Some c.index-f.result.now = rw same f in
    let ops : c.as_slice-ops.result.now ≡ c.index-f.result.now.ops =
    c.as_slice-ops.ensures.value ∙ ap (λ (v : FunctionValue). v.ops) c.f.view_is in
    let less = on.lighter in let le = c.loop-ending-2.invariant.3 in
    (on.under, same, op-read code known (g.S.Streams.left c.step.new.io) (g.S.Streams.written c.step.new.io) c.step.new.self _ on.under c.index-f.result.now on-is c.as_slice-ops.result.now (op.Push (pos 0)) ops, omega (arith, less, le))
