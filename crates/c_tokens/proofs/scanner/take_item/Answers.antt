use Rattle.std.proofs.Common.{◌≤◌, ◌+◌, ◌-◌, ℕ, Bool, List, length, take, drop, sym, ap, ap₂, subst, ◌∙◌, rules}
use Rattle.std.specs.Prelude.{count_by, ◌==◌}
use Rattle.c_tokens.specs.declared.token.Token.{Token}
use Rattle.c_tokens.specs.Items.{front_of, IsItemOf}
use Rattle.c_tokens.specs.Scans.{Reaches}
use Rattle.c_tokens.specs.Tokens.{starts_line}
use Rattle.c_tokens.proofs.ScanLaws.{reached_more, rest_of, line_after-add}
use Rattle.c_tokens.proofs.scanner.take_item.Goals as goal

pub returns-clause-line : goal.returns-clause-line
returns-clause-line c =
    let at = c.args.place.at in
    let text = c.args.text.now in
    let len = c.in-Ok.item.len in
    ap₂ (λ a b. a + b) c.requires.line (c.newlines-lines.ensures.value ∙ ap (λ (r : List ℕ). count_by (λ b. b == 10) (take len r)) (rest_of text at))
    ∙ line_after-add text at len

pub returns-clause-takes : goal.returns-clause-takes
returns-clause-takes c reached =
    let at = c.args.place.at in
    let text = c.args.text.now in
    let len = c.in-Ok.item.len in
    let form = subst (λ (b : Bool). IsItemOf (front_of (take (length text - at) (drop at text))) b (take (length text - at) (drop at text)) (take len (take (length text - at) (drop at text))) c.in-Ok.item.kind)
    c.starts_line.ensures c.in-Ok.ensures.finds in
    subst (λ (l : List Token). Reaches text (at + len) l) (sym c.in_ok-push_token.ensures)
    (reached_more text at len c.args.place.line c.in-Ok.item.kind c.args.tokens.now.items (search rules)
    (subst (λ (r : List ℕ). len ≤ length r) (rest_of text at) c.in-Ok.ensures.len.1) c.requires.line
    (subst (λ (r : List ℕ). IsItemOf (front_of r) (starts_line (take at text)) r (take len r) c.in-Ok.item.kind) (rest_of text at) form)
    reached)
