use Rattle.std.proofs.Common.{◌∙◌, ◌+◌, ◌≤◌, ℕ, List, sym, ap, subst, arith}
use Rattle.std.specs.Prelude.{ℤ}
use Rattle.std.specs.List.{All}
use Rattle.int_ops.specs.Ranges.{IsNumber}
use Rattle.stack_ops.specs.Code.{CodeValue, FunctionValue}
use Rattle.code_runs.specs.Tables.{words_in}
use Rattle.stack_machine.proofs.CodeFacts.{CodeFacts, facts, all-of, all-at}
use Rattle.stack_machine.proofs.run.Run.with_room.Goals as goal

pub most_numbers-numbers-requires : goal.most_numbers-numbers-requires
most_numbers-numbers-requires c =
    let code : CodeValue = c.args.code.now in
    let known : CodeFacts code = facts code c.requires in
    let is = c.deref.ensures.value ∙ ap (λ (v : CodeValue). v.functions) c.code.view_is in
    subst (λ (fs : List FunctionValue). All (λ (f : FunctionValue). (f.cells ≤ 4096) × (f.depth ≤ 16384)) fs) (sym is)
    (all-of (λ (f : FunctionValue). (f.cells ≤ 4096) × (f.depth ≤ 16384)) code.functions
    (λ i f at. ((known.functions i f at).cells, (known.functions i f at).depth)))

pub most_words-words-requires : goal.most_words-words-requires
most_words-words-requires c =
    let code : CodeValue = c.args.code.now in
    let known : CodeFacts code = facts code c.requires in
    let is = c.deref-2.ensures.value ∙ ap (λ (v : CodeValue). v.functions) c.code.view_is in
    subst (λ (fs : List FunctionValue). All (λ (f : FunctionValue). f.paths ≤ 65536) fs) (sym is)
    (all-of (λ (f : FunctionValue). f.paths ≤ 65536) code.functions (λ i f at. (known.functions i f at).paths))

pub new-requires : goal.new-requires
new-requires c =
    let code : CodeValue = c.args.code.now in
    let known : CodeFacts code = facts code c.requires in
    let is = c.deref-3.ensures.value ∙ ap (λ (v : CodeValue). v.globals) c.code.view_is in
    subst (λ (ns : List ℤ). All IsNumber ns) (sym is) known.globals

pub returns-clause-roomy : goal.returns-clause-roomy
returns-clause-roomy c =
    let code : CodeValue = c.args.code.now in
    let most : ℕ = c.most_numbers-numbers.result in
    let width : ℕ = c.most_words-words.result in
    let is = c.deref.ensures.value ∙ ap (λ (v : CodeValue). v.functions) c.code.view_is in
    let is' = c.deref-2.ensures.value ∙ ap (λ (v : CodeValue). v.functions) c.code.view_is in
    let numbers = subst (λ (fs : List FunctionValue). All (λ (f : FunctionValue). f.cells + f.depth ≤ most) fs) is
    c.most_numbers-numbers.ensures.most in
    let words = subst (λ (fs : List FunctionValue). All (λ (f : FunctionValue). words_in f.paths ≤ width) fs) is'
    c.most_words-words.ensures.most in
    let room = ap (λ s. s.room) c.in_ok-with_room.ensures in
    let wide = ap (λ s. s.room) c.in_ok-with_room-2.ensures in
    record {
      most = most;
      width = width;
      size = λ i f at. (
        all-at (λ (f : FunctionValue). f.cells + f.depth ≤ most) code.functions numbers i f at,
        all-at (λ (f : FunctionValue). words_in f.paths ≤ width) code.functions words i f at,
      );
      cap = c.in_ok-with_capacity.ensures.capacity;
      room = omega (arith, room);
      bits_room = omega (arith, wide);
    }
