use Rattle.std.proofs.Common.{◌<◌, sym, ◌∙◌, ap, arith, get_or, length, map, []}
use Rattle.std.proofs.lemmas.List.{length-map, get_or-map}
use Rattle.cov_base.specs.Net.{NetValue}
use Rattle.cov_base.proofs.NetLaws.{HasShape-from_IsNet}
use Rattle.cov_base.proofs.net.Net.lines.Goals as goal

pub index-requires : goal.index-requires
index-requires c =
    let n = c.self.inside in
    let net : NetValue = record { blocks = n.blocks; arcs = n.arcs.items; lines = map (λ v. v.items) n.lines.items } in
    let lists = (HasShape-from_IsNet net c.self.invariant).lists in
    omega (arith, lists, length-map n.lines.items (λ v. v.items), ap (λ v. v.blocks) c.self.view_is, n.lines.ok.0)

pub returns-clause-value : goal.returns-clause-value
returns-clause-value c =
    let n = c.self.inside in
    let net : NetValue = record { blocks = n.blocks; arcs = n.arcs.items; lines = map (λ v. v.items) n.lines.items } in
    let lists = (HasShape-from_IsNet net c.self.invariant).lists in
    let within : c.args.block < length n.lines.items = omega (arith, lists, length-map n.lines.items (λ v. v.items), ap (λ v. v.blocks) c.self.view_is) in
    c.deref.ensures.value ∙ ap (λ v. v.items) c.index.ensures
    ∙ sym (get_or-map (λ v. v.items) n.lines.items c.args.block c.index.result.now [] within)
    ∙ ap (λ v. get_or v.lines c.args.block []) c.self.view_is
