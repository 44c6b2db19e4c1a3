use Rattle.std.proofs.Common.{◌≡◌, ◌∙◌, sym, ap, true, false}
use Rattle.gcov_records.specs.declared.fault.FileFault.TheVariants as fault
use Rattle.gcno_format.specs.Layout.{LayoutValue}
use Rattle.gcno_format.specs.Spelling.{sum_of}
use Rattle.gcno_format.proofs.ValueLaws.{bare_differs, bare_holds}
use Rattle.gcno_format.proofs.values.bare_net.Goals as goal

pub returns-then-not-are_same : goal.returns-then-not-are_same
returns-then-not-are_same c = (
  ap (λ (l : LayoutValue). fault.Net l.place) c.layout.view_is,
  bare_differs c.args.layout.now c.in_ok-net.net c.deref.result.now c.deref-2.result.now
      (c.deref.ensures.value ∙ c.in-Ok.ensures) c.in_ok-net.ensures.1
      (c.deref-2.ensures.value ∙ ap (λ (l : LayoutValue). l.arcs) c.layout.view_is)
      (λ e. (let h : true ≡ false = sym (c.are_same.ensures.1 e) ∙ c.if-not-are_same.true in cc)),
)

pub returns-in-Ok-sum_of : goal.returns-in-Ok-sum_of
returns-in-Ok-sum_of c = (
  bare_holds c.args.layout.now c.in_ok-net.net c.deref.result.now c.deref-2.result.now c.deref-3.result.now
      c.in-Ok-sum_of.sum c.in_ok-net.ensures.0 (c.deref.ensures.value ∙ c.in-Ok.ensures) c.in_ok-net.ensures.1
      (c.deref-2.ensures.value ∙ ap (λ (l : LayoutValue). l.arcs) c.layout.view_is)
      (c.are_same.ensures.0 c.if-not-are_same.false) (c.deref-3.ensures.value ∙ c.in-Ok.ensures)
      (c.in-Ok-sum_of.ensures
      ∙ ap (λ (l : LayoutValue). sum_of l.blocks c.deref-3.result.now) c.layout.view_is)
      (c.if-sum-layout.true ∙ ap (λ (l : LayoutValue). l.checksum) c.layout.view_is),
  c.in_ok-net.ensures.1,
)
