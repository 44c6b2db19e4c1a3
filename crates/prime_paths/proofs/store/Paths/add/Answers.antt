use Rattle.std.proofs.Common.{rules, ap, ap₂, ◌∙◌, ◌++◌, ◌∷◌, [], List, ℕ, append_assoc}
use Rattle.prime_paths.specs.declared.store.Span.{Span}
use Rattle.prime_paths.specs.Store.{pieces}
use Rattle.prime_paths.proofs.StoreLaws.{added_parts, pieces_more, on_err}
use Rattle.prime_paths.proofs.store.Paths.add.Goals as goal

pub returns-clause-ok : goal.returns-clause-ok
returns-clause-ok c =
    ap (λ (s : List Span). pieces c.extend_from_slice-2.new.self.items s) c.in_ok-push.ensures.items
    ∙ added_parts c.self.inside.blocks.items c.args.front.now c.args.rest.now c.extend_from_slice-2.new.self.items
    c.self.inside.spans.items c.len-from.result c.len-to.result c.self.invariant.within
    (c.in_ok-extend_from_slice-2.ensures.items
    ∙ ap (λ (l : List ℕ). l ++ c.args.rest.now) c.in_ok-extend_from_slice.ensures.items)
    (search rules) (search rules)
    ∙ ap (λ (l : List (List ℕ)). l ++ (c.args.front.now ++ c.args.rest.now) ∷ []) c.self.view_is

pub returns-in_err-extend_from_slice-2-clause-err : goal.returns-in_err-extend_from_slice-2-clause-err
returns-in_err-extend_from_slice-2-clause-err c = on_err c.from_residual-in_err-extend_from_slice-2.result _
    (ap (λ (l : List ℕ). pieces l c.self.inside.spans.items)
    (c.in_err-extend_from_slice-2.ensures.items ∙ c.in_ok-extend_from_slice.ensures.items)
    ∙ pieces_more c.self.inside.blocks.items c.args.front.now c.self.inside.spans.items c.self.invariant.within
    ∙ c.self.view_is)

pub returns-in_err-push-clause-err : goal.returns-in_err-push-clause-err
returns-in_err-push-clause-err c = on_err c.from_residual-in_err-push.result _
    (ap₂ (λ (l : List ℕ) (s : List Span). pieces l s)
    (c.in_ok-extend_from_slice-2.ensures.items
    ∙ ap (λ (l : List ℕ). l ++ c.args.rest.now) c.in_ok-extend_from_slice.ensures.items
    ∙ append_assoc c.self.inside.blocks.items c.args.front.now c.args.rest.now) c.in_err-push.ensures.items
    ∙ pieces_more c.self.inside.blocks.items (c.args.front.now ++ c.args.rest.now) c.self.inside.spans.items
    c.self.invariant.within
    ∙ c.self.view_is)
