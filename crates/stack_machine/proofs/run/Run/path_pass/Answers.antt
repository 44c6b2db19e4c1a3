use Rattle.std.proofs.Common.{◌≡◌, ◌∙◌, ◌+◌, refl, ap, subst, List, Some, arith}
use Rattle.std.specs.Prelude.{ℕ, slice_get}
use Rattle.std.specs.Vec.{with_item}
use Rattle.std.proofs.lemmas.List.{take_rest}
use Rattle.std.proofs.lemmas.Option.{slice_get_read}
use Rattle.word_rules.specs.WordRules.{pass_by, pass_row, words_of}
use Rattle.code_runs.specs.Tables.{front_row}
use Rattle.stack_machine.specs.Bits.{BitsValue}
use Rattle.stack_machine.specs.Counts.{CountsValue}
use Rattle.stack_machine.specs.declared.run.Run.{Run}
use Rattle.stack_machine.proofs.CountOps.{Marked, passes-arc}
use Rattle.stack_machine.proofs.run.Run.path_pass.Goals as goal

pub returns-clause-effect : goal.returns-clause-effect
returns-clause-effect c = λ code f s is.
    let r : Run = c.args.self.now in
    let v : CountsValue = c.index_mut-counts.result.now in
    let w : CountsValue = c.pass_arc.new.self in
    let n : Run = record {
      store = r.store;
      bits = c.pass_arc.new.bits;
      globals = r.globals;
      counts = with_item r.counts r.function w;
      frames = r.frames;
      function = r.function;
      at = r.at + 1;
      turns = r.turns;
    } in
    let there : slice_get r.counts.items r.function ≡ Some v =
    slice_get_read r.counts.items _ r.function v refl c.requires.there c.index_mut-counts.ensures.value in
    let m : Marked r n v w = record {
      there = there;
      counts = refl;
      store = refl;
      frames = refl;
      globals = refl;
      function = refl;
      at = omega arith;
      turns = refl;
    } in
    passes-arc code f r n s v w c.args.w c.args.table.now is m (ap (λ (u : CountsValue). u.counters) c.pass_arc.ensures.counters)
    (ap (λ (b : BitsValue). b.below) c.pass_arc.ensures.bits)
    (subst (λ (l : List ℕ). pass_by (pass_row (front_row 4 l)) (words_of r.bits.bits v.words) ≡ words_of n.bits.bits w.words)
    (take_rest c.args.table.now c.args.start ∙ c.requires.starts) c.pass_arc.ensures.words)
