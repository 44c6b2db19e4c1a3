use Rattle.std.proofs.Common.{rules, ◌≡◌, ◌≤◌, ◌<◌, sym, ap, subst, ◌∙◌, arith, List, length, get_or, None, false, true}
use Rattle.std.specs.List.{position}
use Rattle.std.specs.List.Sorted.{IsPartitionPoint}
use Rattle.std.proofs.lemmas.List.Sorted.{IsPartitionPoint-from_clause}
use Rattle.cov_base.specs.Net.{joins}
use Rattle.cov_base.specs.declared.net.FlowArc.{FlowArc}
use Rattle.cov_base.proofs.NetLaws.{Ascend, HasShape-from_IsNet}
use Rattle.path_masks.proofs.TableLaws.{get_or_any}
use Rattle.stack_code.specs.Arcs.{is_before}
use Rattle.stack_code.proofs.ArcPlaces.{arcs_partitioned, arc_found, arc_missing}
use Rattle.stack_code.proofs.marks.arc_between.Goals as goal

pub returns-in_err-arc : goal.returns-in_err-arc
returns-in_err-arc c =
    let arcs : List FlowArc = c.arcs-arcs.result.now in
    let up : Ascend arcs =
    subst Ascend (sym c.arcs-arcs.ensures.value) (HasShape-from_IsNet c.args.net.now c.arcs-arcs.ensures.net).ascend in
    let h : IsPartitionPoint (λ y. is_before c.args.from c.args.to y ≡ true)
    (λ y. is_before c.args.from c.args.to y ≡ false) arcs c.partition_point-place.result =
    IsPartitionPoint-from_clause (is_before c.args.from c.args.to) arcs c.partition_point-place.result
    c.partition_point-place.ensures.partitioned (arcs_partitioned c.args.from c.args.to arcs up)
    (λ a r q k. search rules) in
    let past : length arcs ≤ c.partition_point-place.result = search rules in
    let none : c.from_residual.result ≡ None = search rules in
    none ∙ arc_missing c.args.from c.args.to arcs c.partition_point-place.result up h
    (λ d lt. absurd (omega (arith, past, lt)))
    ∙ ap (λ (l : List FlowArc). position (joins c.args.from c.args.to) l) c.arcs-arcs.ensures.value

pub returns-then-is_between : goal.returns-then-is_between
returns-then-is_between c =
    let arcs : List FlowArc = c.arcs-arcs.result.now in
    let up : Ascend arcs =
    subst Ascend (sym c.arcs-arcs.ensures.value) (HasShape-from_IsNet c.args.net.now c.arcs-arcs.ensures.net).ascend in
    let h : IsPartitionPoint (λ y. is_before c.args.from c.args.to y ≡ true)
    (λ y. is_before c.args.from c.args.to y ≡ false) arcs c.partition_point-place.result =
    IsPartitionPoint-from_clause (is_before c.args.from c.args.to) arcs c.partition_point-place.result
    c.partition_point-place.ensures.partitioned (arcs_partitioned c.args.from c.args.to arcs up)
    (λ a r q k. search rules) in
    let within : c.partition_point-place.result < length arcs = search rules in
    let same : c.in_ok-arc.arc.now ≡ get_or arcs c.partition_point-place.result c.in_ok-arc.arc.now = search rules in
    let yes : joins c.args.from c.args.to c.in_ok-arc.arc.now ≡ true = search rules in
    arc_found c.args.from c.args.to arcs c.partition_point-place.result c.in_ok-arc.arc.now within h
    (ap (joins c.args.from c.args.to) (sym same) ∙ yes)
    ∙ ap (λ (l : List FlowArc). position (joins c.args.from c.args.to) l) c.arcs-arcs.ensures.value

pub returns : goal.returns
returns c =
    let arcs : List FlowArc = c.arcs-arcs.result.now in
    let up : Ascend arcs =
    subst Ascend (sym c.arcs-arcs.ensures.value) (HasShape-from_IsNet c.args.net.now c.arcs-arcs.ensures.net).ascend in
    let h : IsPartitionPoint (λ y. is_before c.args.from c.args.to y ≡ true)
    (λ y. is_before c.args.from c.args.to y ≡ false) arcs c.partition_point-place.result =
    IsPartitionPoint-from_clause (is_before c.args.from c.args.to) arcs c.partition_point-place.result
    c.partition_point-place.ensures.partitioned (arcs_partitioned c.args.from c.args.to arcs up)
    (λ a r q k. search rules) in
    let within : c.partition_point-place.result < length arcs = search rules in
    let same : c.in_ok-arc.arc.now ≡ get_or arcs c.partition_point-place.result c.in_ok-arc.arc.now = search rules in
    let no : joins c.args.from c.args.to c.in_ok-arc.arc.now ≡ false = search rules in
    arc_missing c.args.from c.args.to arcs c.partition_point-place.result up h
    (λ d lt. ap (joins c.args.from c.args.to)
    (get_or_any arcs c.partition_point-place.result d c.in_ok-arc.arc.now lt ∙ sym same) ∙ no)
    ∙ ap (λ (l : List FlowArc). position (joins c.args.from c.args.to) l) c.arcs-arcs.ensures.value
