use Rattle.std.proofs.Common.{◌≡◌, ◌<◌, ◌≤◌, ◌∙◌, ◌+◌, ◌*◌, List, length, map, refl, sym, ap, subst, Some, arith}
use Rattle.std.specs.Prelude.{ℤ, slice_get}
use Rattle.std.specs.List.{All}
use Rattle.int_ops.specs.Ranges.{IsNumber}
use Rattle.std.proofs.lemmas.List.{length-map, with_items_is}
use Rattle.std.proofs.lemmas.Option.{slice_get_within}
use Rattle.stack_ops.specs.Code.{CodeValue, FunctionValue}
use Rattle.code_runs.specs.Tables.{words_in}
use Rattle.stack_machine.specs.Bits.{BitsValue, begun_with}
use Rattle.stack_machine.specs.Counts.{cleared}
use Rattle.stack_machine.specs.Store.{StoreValue, taken, begun}
use Rattle.stack_machine.proofs.BeginLaws.{begins, main-got}
use Rattle.stack_machine.proofs.CodeFacts.{CodeFacts, facts}
use Rattle.stack_machine.proofs.run.Run.begin.Goals as goal

pub index-main-requires : goal.index-main-requires
index-main-requires c =
    let code : CodeValue = c.args.code.now in
    let known : CodeFacts code = facts code c.requires.checked in
    let lt : code.main < length code.functions =
    slice_get_within code.functions code.main known.sound.main known.sound.there in
    let lt' : c.code.inside.main < length c.code.inside.functions.items =
    subst (λ (v : CodeValue). v.main < length v.functions) (sym c.code.view_is) lt in
    let n = c.code.inside.functions.ok.0 in omega (arith, lt', n)

pub begin-requires-clause-room : goal.begin-requires-clause-room
begin-requires-clause-room c =
    let code : CodeValue = c.args.code.now in
    let f : FunctionValue = c.index-main.result.now in
    let is : slice_get code.functions code.main ≡ Some f =
    main-got code (facts code c.requires.checked) c.code.inside.main c.code.inside.functions.items f
    (ap (λ (v : CodeValue). v.main) c.code.view_is) (ap (λ (v : CodeValue). v.functions) c.code.view_is)
    c.index-main.ensures in
    let size = (c.requires.roomy.size code.main f is).0 in
    let room = c.requires.roomy.room in
    let cells : c.main.inside.cells ≡ f.cells = ap (λ (v : FunctionValue). v.cells) c.main.view_is in
    subst (λ (s : StoreValue). taken s + c.main.inside.cells ≤ s.room + 0) (sym c.clear.ensures)
    (omega (arith, size, room, cells))

pub begin-requires-2 : goal.begin-requires-2
begin-requires-2 c =
    let code : CodeValue = c.args.code.now in
    let f : FunctionValue = c.index-main.result.now in
    let is : slice_get code.functions code.main ≡ Some f =
    main-got code (facts code c.requires.checked) c.code.inside.main c.code.inside.functions.items f
    (ap (λ (v : CodeValue). v.main) c.code.view_is) (ap (λ (v : CodeValue). v.functions) c.code.view_is)
    c.index-main.ensures in
    let size = (c.requires.roomy.size code.main f is).1 in
    let room = c.requires.roomy.bits_room in
    let words : c.words_in.result ≡ words_in f.paths =
    c.words_in.ensures ∙ ap (λ (v : FunctionValue). words_in v.paths) c.main.view_is in
    subst (λ (s : BitsValue). length s.below + length s.bits + c.words_in.result ≤ s.room) (sym c.clear-2.ensures)
    (omega (arith, size, room, words))

pub set-requires-clause-numbers : goal.set-requires-clause-numbers
set-requires-clause-numbers c =
    let code : CodeValue = c.args.code.now in
    let known : CodeFacts code = facts code c.requires.checked in
    let is = c.deref.ensures.value ∙ ap (λ (v : CodeValue). v.globals) c.code.view_is in
    subst (λ (ns : List ℤ). All IsNumber ns) (sym is) known.globals

pub returns-clause-roomy : goal.returns-clause-roomy
returns-clause-roomy c =
    let r = c.requires.roomy in
    let a = ap (λ (s : StoreValue). s.room) c.begin.ensures in
    let b = ap (λ (s : StoreValue). s.room) c.clear.ensures in
    let d = ap (λ (s : BitsValue). s.room) c.begin-2.ensures in
    let e = ap (λ (s : BitsValue). s.room) c.clear-2.ensures in
    record {
      most = r.most;
      width = r.width;
      size = r.size;
      cap = subst (λ n. 2000 ≤ n) (sym c.clear-3.ensures.capacity) r.cap;
      room = subst (λ n. 2001 * r.most + 1 ≤ n) (sym (a ∙ b)) r.room;
      bits_room = subst (λ n. 2001 * r.width ≤ n) (sym (d ∙ e)) r.bits_room;
    }

pub returns-clause-begins : goal.returns-clause-begins
returns-clause-begins c =
    let code : CodeValue = c.args.code.now in
    let f : FunctionValue = c.index-main.result.now in
    let is : slice_get code.functions code.main ≡ Some f =
    main-got code (facts code c.requires.checked) c.code.inside.main c.code.inside.functions.items f
    (ap (λ (v : CodeValue). v.main) c.code.view_is) (ap (λ (v : CodeValue). v.functions) c.code.view_is)
    c.index-main.ensures in
    let main : c.code.inside.main ≡ code.main = ap (λ (v : CodeValue). v.main) c.code.view_is in
    let n = c.args.self.now.counts.ok.0 in
    let a = ap (λ l. length l) c.clear_counts.ensures in
    let b = length-map c.deref_mut.result.now cleared in
    let d = ap (λ l. length l) c.deref_mut.ensures.value in
    begins code _ f c.args.self.now.counts.items c.args.self.now.store.room c.args.self.now.bits.room is
    (c.begin.ensures ∙ (ap (λ (v : FunctionValue). begun 0 v.cells c.clear.new.self) c.main.view_is
    ∙ ap (begun 0 f.cells) c.clear.ensures))
    (c.begin-2.ensures ∙ (ap (λ k. begun_with k c.clear-2.new.self)
    (c.words_in.ensures ∙ ap (λ (v : FunctionValue). words_in v.paths) c.main.view_is)
    ∙ ap (begun_with (words_in f.paths)) c.clear-2.ensures))
    (c.set.ensures ∙ (c.deref.ensures.value ∙ ap (λ (v : CodeValue). v.globals) c.code.view_is))
    (with_items_is c.args.self.now.counts c.clear_counts.new.counts (omega (arith, a, b, d, n))
    ∙ (c.clear_counts.ensures ∙ ap (λ l. map cleared l) c.deref_mut.ensures.value))
    c.requires.sized c.clear-3.ensures.items main refl
