use Rattle.std.proofs.Common.{◌≡◌, ◌+◌, refl, Some, arith}
use Rattle.std.specs.Prelude.{slice_get}
use Rattle.std.specs.Vec.{with_item}
use Rattle.std.proofs.lemmas.Option.{slice_get_read}
use Rattle.stack_machine.specs.Counts.{CountsValue}
use Rattle.stack_machine.specs.declared.run.Run.{Run}
use Rattle.stack_machine.proofs.CountOps.{Marked, counts-once}
use Rattle.stack_machine.proofs.run.Run.count.Goals as goal

pub returns-clause-effect : goal.returns-clause-effect
returns-clause-effect c = λ code f s.
    let r : Run = c.args.self.now in
    let v : CountsValue = c.index_mut-counts.result.now in
    let w : CountsValue = c.count.new.self in
    let n : Run = record {
      store = r.store;
      bits = r.bits;
      globals = r.globals;
      counts = with_item r.counts r.function w;
      frames = r.frames;
      function = r.function;
      at = r.at + 1;
      turns = r.turns;
    } in
    let there : slice_get r.counts.items r.function ≡ Some v =
    slice_get_read r.counts.items _ r.function v refl c.requires.there c.index_mut-counts.ensures.value in
    let m : Marked r n v w = record {
      there = there;
      counts = refl;
      store = refl;
      frames = refl;
      globals = refl;
      function = refl;
      at = omega arith;
      turns = refl;
    } in
    counts-once code f r n s v w c.args.n m refl c.count.ensures
