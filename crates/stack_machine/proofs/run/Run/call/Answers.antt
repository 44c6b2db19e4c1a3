use Rattle.std.proofs.Common.{◌-◌, ◌∙◌, ◌∷◌, [], ap, refl, arith}
use Rattle.std.specs.Prelude.{reverse}
use Rattle.std.proofs.lemmas.List.{reverse-append}
use Rattle.code_runs.specs.Tables.{words_in}
use Rattle.stack_machine.specs.Bits.{begun_with}
use Rattle.stack_machine.specs.Store.{begun}
use Rattle.stack_machine.specs.declared.run.Run.{Run}
use Rattle.stack_machine.proofs.CallLaws.{begins-is, too-deep, deep-enough}
use Rattle.stack_machine.proofs.run.Run.call.Goals as goal

pub returns-then-len-ge1999-clause-effect : goal.returns-then-len-ge1999-clause-effect
returns-then-len-ge1999-clause-effect c = λ code f s is.
    too-deep _ c.args.called.now c.args.function c.args.line (c.args.self.now.turns - 1) c.args.self.now c.args.self.now s is
    (let e = c.if-self-eq0.false in omega (arith, e))
    (let n = c.args.self.now.frames.ok.0 in let d = c.if-len-ge1999.true in let e = c.len.ensures in omega (arith, n, d, e)) refl

pub returns-clause-effect : goal.returns-clause-effect
returns-clause-effect c = λ code f s is.
    let n : Run = record {
      store = c.begin.new.self;
      bits = c.begin-2.new.self;
      globals = c.args.self.now.globals;
      counts = c.args.self.now.counts;
      frames = c.push_reserved.new.self;
      function = c.args.function;
      at = 0;
      turns = c.args.self.now.turns - 1;
    } in
    deep-enough _ c.args.called.now c.args.function c.args.line (c.args.self.now.turns - 1) c.args.self.now s _ is
    (let e = c.if-self-eq0.false in omega (arith, e))
    (let n = c.args.self.now.frames.ok.0 in let d = c.if-len-ge1999.false in let e = c.len.ensures in omega (arith, n, d, e))
    (begins-is c.args.called.now c.args.function (c.args.self.now.turns - 1) c.args.self.now n s _
    (c.begin.ensures ∙ ap (λ v. begun v.params v.cells c.args.self.now.store) c.called.view_is)
    (c.begin-2.ensures ∙ ap (λ k. begun_with k c.args.self.now.bits) (c.words_in.ensures ∙ ap (λ v. words_in v.paths) c.called.view_is))
    (ap reverse c.push_reserved.ensures.items ∙ reverse-append c.args.self.now.frames.items (_ ∷ [])) refl (omega arith)
    c.place-base.ensures.0 c.place-base.ensures.1 c.place-bits.ensures refl refl refl refl refl)
