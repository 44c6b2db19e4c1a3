use Rattle.std.proofs.Common.{◌≡◌, ◌∙◌, ◌+◌, ◌<◌, ◌≤◌, ℕ, List, length, ap, sym, subst, refl, Some, arith}
use Rattle.std.specs.Prelude.{slice_get}
use Rattle.std.proofs.lemmas.List.{length_push}
use Rattle.std.proofs.lemmas.Option.{slice_get_read, slice_get_within}
use Rattle.stack_ops.specs.Code.{FunctionValue}
use Rattle.stack_machine.specs.Tables.{StartsAt}
use Rattle.stack_machine.proofs.RowStartLaws.{held-more}
use Rattle.stack_machine.proofs.begin.row_starts.Goals as goal

pub loop-f-preserved : goal.loop-f-preserved
loop-f-preserved c =
    let e = c.in_ok-push.ensures.items in
    let inv = c.loop-f.invariant in
    let lt : c.loop-f.f-index < length c.args.functions.now = c.loop-f-test.true in
    let is : slice_get c.args.functions.now c.loop-f.f-index ≡ Some c.f-item.result =
    slice_get_read c.args.functions.now _ c.loop-f.f-index c.f-item.result refl lt c.f-item.is in
    record {
      long = rw e (length_push c.loop-f.rows.items c.in_ok-of.field-0 ∙ ap (λ n. n + 1) inv.long);
      starts = subst (λ (l : List (List ℕ)). (i : ℕ) (f : FunctionValue) → i < c.loop-f.f-index + 1
          → slice_get c.args.functions.now i ≡ Some f
          → (starts : List ℕ) × (slice_get l i ≡ Some starts) × StartsAt f starts) (sym {A = List (List ℕ)} e)
          (λ i f lt at. held-more c.args.functions.now c.loop-f.rows.items c.loop-f.f-index c.f-item.result
          c.in_ok-of.field-0
          inv.long (λ i lt f at. inv.starts i f lt at) is c.in_ok-of.ensures i lt f at);
    }

pub returns : goal.returns
returns c = λ i f at.
    let lt : i < length c.args.functions.now = slice_get_within c.args.functions.now i f at in
    let end : length c.args.functions.now ≤ c.loop-f.f-index = c.loop-f-test.false in
    c.loop-f.invariant.starts i f (omega arith) at
