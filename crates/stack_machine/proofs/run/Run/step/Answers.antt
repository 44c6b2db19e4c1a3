use Rattle.std.proofs.Common.{◌≡◌, ◌∙◌, ◌<◌, arith, ap, length, ℤ, refl, sym, subst, Some}
use Rattle.std.specs.Prelude.{slice_get}
use Rattle.std.proofs.lemmas.Bool.{ltb-true}
use Rattle.std.proofs.lemmas.Option.{slice_get_read}
use Rattle.std.specs.Int.{w128}
use Rattle.std.proofs.lemmas.Int.{to_z-of_z}
use Rattle.stack_ops.specs.Code.{CodeValue, FunctionValue}
use Rattle.int_ops.specs.Ranges.{IsNumber}
use Rattle.stack_ops.specs.declared.operation.Op.TheVariants as op
use Rattle.code_runs.specs.CodeRun.{does}
use Rattle.stack_machine.specs.Points.{point, told, with_bytes}
use Rattle.stack_machine.proofs.Numbers.{number-fits}
use Rattle.stack_machine.proofs.run.Run.step.Goals as goal

pub returns-in-Push-clause-effect : goal.returns-in-Push-clause-effect
returns-in-Push-clause-effect g c = λ s.
    let n : IsNumber c.in-Push.n = rw c.in-Push.is at c.requires.ready.number in
    rw c.in-Push.is (subst (λ (k : ℤ). does c.args.code.now c.args.f.now (op.Push k)
    (point c.args.self.now (with_bytes (g.S.Streams.left c.args.io.now) (g.S.Streams.written c.args.io.now) s))
    ≡ told c.push.result (point c.push.new.self (with_bytes (g.S.Streams.left c.args.io.now) (g.S.Streams.written c.args.io.now) s)))
    (to_z-of_z w128 c.in-Push.n (number-fits c.in-Push.n n))
    (c.push.ensures.effect c.args.code.now c.args.f.now (with_bytes (g.S.Streams.left c.args.io.now) (g.S.Streams.written c.args.io.now) s)))

pub returns-in-CaseJump-clause-effect : goal.returns-in-CaseJump-clause-effect
returns-in-CaseJump-clause-effect g c = λ s.
    let n : IsNumber c.in-CaseJump.n = rw c.in-CaseJump.is at c.requires.ready.number in
    rw c.in-CaseJump.is (subst (λ (k : ℤ). does c.args.code.now c.args.f.now (op.CaseJump k c.in-CaseJump.w)
    (point c.args.self.now (with_bytes (g.S.Streams.left c.args.io.now) (g.S.Streams.written c.args.io.now) s))
    ≡ told c.case_jump.result (point c.case_jump.new.self (with_bytes (g.S.Streams.left c.args.io.now) (g.S.Streams.written c.args.io.now) s)))
    (to_z-of_z w128 c.in-CaseJump.n (number-fits c.in-CaseJump.n n))
    (c.case_jump.ensures.effect c.args.code.now c.args.f.now (with_bytes (g.S.Streams.left c.args.io.now) (g.S.Streams.written c.args.io.now) s)))

pub returns-in-Dup-clause-effect : goal.returns-in-Dup-clause-effect
returns-in-Dup-clause-effect g c = λ s. rw c.in-Dup.is (c.dup.ensures.effect c.args.code.now c.args.f.now
    (with_bytes (g.S.Streams.left c.args.io.now) (g.S.Streams.written c.args.io.now) s))

pub returns-in-Drop-clause-effect : goal.returns-in-Drop-clause-effect
returns-in-Drop-clause-effect g c = λ s. rw c.in-Drop.is (c.drop_top.ensures.effect c.args.code.now c.args.f.now
    (with_bytes (g.S.Streams.left c.args.io.now) (g.S.Streams.written c.args.io.now) s))

pub returns-in-Swap-clause-effect : goal.returns-in-Swap-clause-effect
returns-in-Swap-clause-effect g c = λ s. rw c.in-Swap.is (c.swap.ensures.effect c.args.code.now c.args.f.now
    (with_bytes (g.S.Streams.left c.args.io.now) (g.S.Streams.written c.args.io.now) s))

pub returns-in-Over-clause-effect : goal.returns-in-Over-clause-effect
returns-in-Over-clause-effect g c = λ s. rw c.in-Over.is (c.over.ensures.effect c.args.code.now c.args.f.now
    (with_bytes (g.S.Streams.left c.args.io.now) (g.S.Streams.written c.args.io.now) s))

pub returns-in-Convert-clause-effect : goal.returns-in-Convert-clause-effect
returns-in-Convert-clause-effect g c = λ s. rw c.in-Convert.is (c.convert_top.ensures.effect c.args.code.now c.args.f.now
    (with_bytes (g.S.Streams.left c.args.io.now) (g.S.Streams.written c.args.io.now) s))

pub returns-in-Not-clause-effect : goal.returns-in-Not-clause-effect
returns-in-Not-clause-effect g c = λ s. rw c.in-Not.is (c.not.ensures.effect c.args.code.now c.args.f.now
    (with_bytes (g.S.Streams.left c.args.io.now) (g.S.Streams.written c.args.io.now) s))

pub returns-in-LoadLocal-clause-effect : goal.returns-in-LoadLocal-clause-effect
returns-in-LoadLocal-clause-effect g c = λ s. rw c.in-LoadLocal.is (c.load_local.ensures.effect c.args.code.now c.args.f.now
    (with_bytes (g.S.Streams.left c.args.io.now) (g.S.Streams.written c.args.io.now) s))

pub returns-in-StoreLocal-clause-effect : goal.returns-in-StoreLocal-clause-effect
returns-in-StoreLocal-clause-effect g c = λ s. rw c.in-StoreLocal.is (c.store_local.ensures.effect c.args.code.now c.args.f.now
    (with_bytes (g.S.Streams.left c.args.io.now) (g.S.Streams.written c.args.io.now) s))

pub returns-in-LoadGlobal-clause-effect : goal.returns-in-LoadGlobal-clause-effect
returns-in-LoadGlobal-clause-effect g c = λ s. rw c.in-LoadGlobal.is (c.load_global.ensures.effect c.args.code.now c.args.f.now
    (with_bytes (g.S.Streams.left c.args.io.now) (g.S.Streams.written c.args.io.now) s))

pub returns-in-StoreGlobal-clause-effect : goal.returns-in-StoreGlobal-clause-effect
returns-in-StoreGlobal-clause-effect g c = λ s. rw c.in-StoreGlobal.is (c.store_global.ensures.effect c.args.code.now c.args.f.now
    (with_bytes (g.S.Streams.left c.args.io.now) (g.S.Streams.written c.args.io.now) s))

pub returns-in-CheckIndex-clause-effect : goal.returns-in-CheckIndex-clause-effect
returns-in-CheckIndex-clause-effect g c = λ s. rw c.in-CheckIndex.is (c.check_index.ensures.effect c.args.code.now c.args.f.now
    (with_bytes (g.S.Streams.left c.args.io.now) (g.S.Streams.written c.args.io.now) s))

pub returns-in-LoadLocalAt-clause-effect : goal.returns-in-LoadLocalAt-clause-effect
returns-in-LoadLocalAt-clause-effect g c = λ s. rw c.in-LoadLocalAt.is (c.load_local_at.ensures.effect c.args.code.now c.args.f.now
    (with_bytes (g.S.Streams.left c.args.io.now) (g.S.Streams.written c.args.io.now) s))

pub returns-in-StoreLocalAt-clause-effect : goal.returns-in-StoreLocalAt-clause-effect
returns-in-StoreLocalAt-clause-effect g c = λ s. rw c.in-StoreLocalAt.is (c.store_local_at.ensures.effect c.args.code.now c.args.f.now
    (with_bytes (g.S.Streams.left c.args.io.now) (g.S.Streams.written c.args.io.now) s))

pub returns-in-LoadGlobalAt-clause-effect : goal.returns-in-LoadGlobalAt-clause-effect
returns-in-LoadGlobalAt-clause-effect g c = λ s. rw c.in-LoadGlobalAt.is (c.load_global_at.ensures.effect c.args.code.now c.args.f.now
    (with_bytes (g.S.Streams.left c.args.io.now) (g.S.Streams.written c.args.io.now) s))

pub returns-in-StoreGlobalAt-clause-effect : goal.returns-in-StoreGlobalAt-clause-effect
returns-in-StoreGlobalAt-clause-effect g c = λ s. rw c.in-StoreGlobalAt.is (c.store_global_at.ensures.effect c.args.code.now c.args.f.now
    (with_bytes (g.S.Streams.left c.args.io.now) (g.S.Streams.written c.args.io.now) s))

pub returns-in-Jump-clause-effect : goal.returns-in-Jump-clause-effect
returns-in-Jump-clause-effect g c = λ s. rw c.in-Jump.is (c.jump.ensures.effect c.args.code.now c.args.f.now
    (with_bytes (g.S.Streams.left c.args.io.now) (g.S.Streams.written c.args.io.now) s))

pub returns-in-Back-clause-effect : goal.returns-in-Back-clause-effect
returns-in-Back-clause-effect g c = λ s. rw c.in-Back.is (c.back.ensures.effect c.args.code.now c.args.f.now
    (with_bytes (g.S.Streams.left c.args.io.now) (g.S.Streams.written c.args.io.now) s))

pub returns-in-IfZero-clause-effect : goal.returns-in-IfZero-clause-effect
returns-in-IfZero-clause-effect g c = λ s. rw c.in-IfZero.is (c.if_zero.ensures.effect c.args.code.now c.args.f.now
    (with_bytes (g.S.Streams.left c.args.io.now) (g.S.Streams.written c.args.io.now) s))

pub returns-in-IfNot-clause-effect : goal.returns-in-IfNot-clause-effect
returns-in-IfNot-clause-effect g c = λ s. rw c.in-IfNot.is (c.if_not.ensures.effect c.args.code.now c.args.f.now
    (with_bytes (g.S.Streams.left c.args.io.now) (g.S.Streams.written c.args.io.now) s))

pub returns-in-Exit-clause-effect : goal.returns-in-Exit-clause-effect
returns-in-Exit-clause-effect g c = λ s. rw c.in-Exit.is (c.exit.ensures.effect c.args.code.now c.args.f.now
    (with_bytes (g.S.Streams.left c.args.io.now) (g.S.Streams.written c.args.io.now) s))

pub returns-in-Count-clause-effect : goal.returns-in-Count-clause-effect
returns-in-Count-clause-effect g c = λ s. rw c.in-Count.is (c.count.ensures.effect c.args.code.now c.args.f.now
    (with_bytes (g.S.Streams.left c.args.io.now) (g.S.Streams.written c.args.io.now) s))

pub call-requires-clause-cells : goal.call-requires-clause-cells
call-requires-clause-cells g c =
    let lt : c.in-Call.g < length c.args.code.now.functions =
    ltb-true c.in-Call.g (length c.args.code.now.functions) (rw c.in-Call.is at c.requires.ready.cell) in
    let lt' : c.in-Call.g < length c.code.inside.functions.items = rw (sym c.code.view_is) at lt in
    let there : slice_get c.code.inside.functions.items c.in-Call.g ≡ Some c.index.result.now =
    slice_get_read c.code.inside.functions.items _ c.in-Call.g c.index.result.now refl lt' c.index.ensures in
    let is : slice_get c.args.code.now.functions c.in-Call.g ≡ Some c.index.result.now =
    subst (λ (v : CodeValue). slice_get v.functions c.in-Call.g ≡ Some c.index.result.now) c.code.view_is there in
    let called = c.requires.ready.called c.in-Call.g c.index.result.now is in
    called.0

pub call-requires-clause-room : goal.call-requires-clause-room
call-requires-clause-room g c =
    let lt : c.in-Call.g < length c.args.code.now.functions =
    ltb-true c.in-Call.g (length c.args.code.now.functions) (rw c.in-Call.is at c.requires.ready.cell) in
    let lt' : c.in-Call.g < length c.code.inside.functions.items = rw (sym c.code.view_is) at lt in
    let there : slice_get c.code.inside.functions.items c.in-Call.g ≡ Some c.index.result.now =
    slice_get_read c.code.inside.functions.items _ c.in-Call.g c.index.result.now refl lt' c.index.ensures in
    let is : slice_get c.args.code.now.functions c.in-Call.g ≡ Some c.index.result.now =
    subst (λ (v : CodeValue). slice_get v.functions c.in-Call.g ≡ Some c.index.result.now) c.code.view_is there in
    let called = c.requires.ready.called c.in-Call.g c.index.result.now is in
    let a = called.1 in omega (arith, a)

pub call-requires-clause-bits : goal.call-requires-clause-bits
call-requires-clause-bits g c =
    let lt : c.in-Call.g < length c.args.code.now.functions =
    ltb-true c.in-Call.g (length c.args.code.now.functions) (rw c.in-Call.is at c.requires.ready.cell) in
    let lt' : c.in-Call.g < length c.code.inside.functions.items = rw (sym c.code.view_is) at lt in
    let there : slice_get c.code.inside.functions.items c.in-Call.g ≡ Some c.index.result.now =
    slice_get_read c.code.inside.functions.items _ c.in-Call.g c.index.result.now refl lt' c.index.ensures in
    let is : slice_get c.args.code.now.functions c.in-Call.g ≡ Some c.index.result.now =
    subst (λ (v : CodeValue). slice_get v.functions c.in-Call.g ≡ Some c.index.result.now) c.code.view_is there in
    let called = c.requires.ready.called c.in-Call.g c.index.result.now is in
    called.2

pub count-requires-clause-counter : goal.count-requires-clause-counter
count-requires-clause-counter g c = λ v got. rw c.in-Count.is at (c.requires.ready.counter v got)

pub returns-in-Call-clause-effect : goal.returns-in-Call-clause-effect
returns-in-Call-clause-effect g c = λ s.
    let lt : c.in-Call.g < length c.args.code.now.functions =
    ltb-true c.in-Call.g (length c.args.code.now.functions) (rw c.in-Call.is at c.requires.ready.cell) in
    let lt' : c.in-Call.g < length c.code.inside.functions.items = rw (sym c.code.view_is) at lt in
    let there : slice_get c.code.inside.functions.items c.in-Call.g ≡ Some c.index.result.now =
    slice_get_read c.code.inside.functions.items _ c.in-Call.g c.index.result.now refl lt' c.index.ensures in
    let is : slice_get c.args.code.now.functions c.in-Call.g ≡ Some c.index.result.now =
    subst (λ (v : CodeValue). slice_get v.functions c.in-Call.g ≡ Some c.index.result.now) c.code.view_is there in
    let called = c.requires.ready.called c.in-Call.g c.index.result.now is in
    rw c.in-Call.is (c.call.ensures.effect c.args.code.now c.args.f.now (with_bytes (g.S.Streams.left c.args.io.now) (g.S.Streams.written c.args.io.now) s) is)

pub returns-in-GetChar-clause-effect : goal.returns-in-GetChar-clause-effect
returns-in-GetChar-clause-effect g c = λ s. rw c.in-GetChar.is (c.get_char.ensures.effect c.args.code.now c.args.f.now s)

pub returns-in-PutChar-clause-effect : goal.returns-in-PutChar-clause-effect
returns-in-PutChar-clause-effect g c = λ s. rw c.in-PutChar.is (c.put_char.ensures.effect c.args.code.now c.args.f.now s)

pub returns-in-PathBegin-clause-effect : goal.returns-in-PathBegin-clause-effect
returns-in-PathBegin-clause-effect g c = λ s. rw c.in-PathBegin.is (c.path_begin.ensures.effect c.args.code.now c.args.f.now
    (with_bytes (g.S.Streams.left c.args.io.now) (g.S.Streams.written c.args.io.now) s) (sym (c.deref.ensures.value ∙ ap (λ (v : FunctionValue). v.table) c.f.view_is)))

pub returns-in-PathPass-clause-effect : goal.returns-in-PathPass-clause-effect
returns-in-PathPass-clause-effect g c = λ s. rw c.in-PathPass.is (c.path_pass.ensures.effect c.args.code.now c.args.f.now
    (with_bytes (g.S.Streams.left c.args.io.now) (g.S.Streams.written c.args.io.now) s) (sym (c.deref-in-PathPass.ensures.value ∙ ap (λ (v : FunctionValue). v.table) c.f.view_is)))
