-- How far a text is cut, one item further, and what that says at its end.
use Rattle.std.proofs.Common.{◌≡◌, ℕ, ◌+◌, ◌≤◌, List, [], ◌++◌, length, take, drop, Option, sym, ap, ap₂, ◌∙◌, subst, arith, append_assoc, cond, ◌-◌, length-drop}
use Rattle.std.specs.Prelude.{count_by, ◌==◌}
use Rattle.std.proofs.lemmas.List.{append-nil, take-append-drop, length-take-le, append_cancel_left, drop_all, take_all}
use Rattle.std.proofs.lemmas.List.Sums.{sum_by-append}
use Rattle.std.proofs.Math.Seq.{take-add}
use Rattle.cov_base.specs.declared.refusal.Refusal.{Refusal}
use Rattle.cov_base.specs.declared.refusal.Refusal.TheVariants.{Refused, NoMemory}
use Rattle.c_tokens.specs.declared.token.LexFault.{LexFault}
use Rattle.c_tokens.specs.declared.token.Token.{Token}
use Rattle.c_tokens.specs.declared.token.TokenKind.{TokenKind}
use Rattle.c_tokens.specs.Spans.{StandInOrder}
use Rattle.c_tokens.specs.Scans.{HasTokens, ScanRefuses, Reaches, RefusesAt}
use Rattle.c_tokens.specs.Tokens.{IsItem, token_at, line_after, Fills, ends, takes, Fails, here, later}
use Rattle.c_tokens.proofs.SpanLaws.{fills-in_order}
use Rattle.c_tokens.proofs.TextLaws.{one_list, list_no_fault, one_failure}

-- the text behind a place, cut in two
cut_text : (text : List ℕ) (at len : ℕ) → drop at text ≡ take len (drop at text) ++ drop (at + len) text
cut_text text at len =
    append_cancel_left (take at text) _ _
    (take-append-drop at text ∙ (sym (take-append-drop (at + len) text)
    ∙ (ap (λ f. f ++ drop (at + len) text) (take-add at len text) ∙ append_assoc (take at text) (take len (drop at text)) (drop (at + len) text))))

-- the text from a place to its end
pub rest_of : (text : List ℕ) (at : ℕ) → take (length text - at) (drop at text) ≡ drop at text
rest_of text at = take_all _ (drop at text) (let size = length-drop at text in omega arith)

pub reached_start : (text : List ℕ) → Reaches text 0 []
reached_start text = record { fills = λ rest h. h; fails = λ fault h. h }

pub reached_more : (text : List ℕ) (at len line : ℕ) (kind : Option TokenKind) (tokens : List Token) → at ≤ length text → len ≤ length (drop at text)
    → line ≡ line_after (take at text) → IsItem (take at text) (drop at text) (take len (drop at text)) kind
    → Reaches text at tokens → Reaches text (at + len) (tokens ++ token_at kind at (at + len) line)
reached_more text at len line kind tokens inside within line_is form reached = record {
  fills = λ rest h. subst (λ (l : List Token). Fills [] text l) (sym (append_assoc tokens (token_at kind at (at + len) line) rest))
      (reached.fills _ (takes {before = take at text} {text = drop at text} (take len (drop at text)) (drop (at + len) text) kind (cut_text text at len) form
      (subst (λ b. Fills b (drop (at + len) text) rest) (take-add at len text) h) (ap (λ t. t ++ rest) same)));
  fails = λ fault h. reached.fails fault (later {before = take at text} {text = drop at text} (take len (drop at text)) (drop (at + len) text) kind (cut_text text at len) form
      (subst (λ b. Fails b (drop (at + len) text) fault) (take-add at len text) h));
}
  where
    start : at ≡ length (take at text)
    start = sym (length-take-le at text inside)

    size : len ≡ length (take len (drop at text))
    size = sym (length-take-le len (drop at text) within)

    same : token_at kind at (at + len) line ≡ token_at kind (length (take at text)) (length (take at text) + length (take len (drop at text))) (line_after (take at text))
    same = ap₂ (λ n l. token_at kind n (n + len) l) start line_is ∙ ap (λ n. token_at kind (length (take at text)) (length (take at text) + n) (line_after (take at text))) size

pub reached_end : (text : List ℕ) (at : ℕ) (tokens : List Token) → length text ≤ at → Reaches text at tokens → HasTokens text tokens
reached_end text at tokens end reached = record {
  splits = splits;
  only = λ other h. one_list h splits;
  no_fault = λ fault h. list_no_fault splits h;
  in_order = subst (λ (n : ℕ). StandInOrder 0 n tokens) (let size : 0 + length text ≡ length text = omega arith in size) (fills-in_order splits);
}
  where
    splits : Fills [] text tokens
    splits = subst (λ (l : List Token). Fills [] text l) (append-nil tokens)
        (reached.fills [] (subst (λ r. Fills (take at text) r []) (sym (drop_all at text end)) (ends {before = take at text})))

pub reached_refuses : (text : List ℕ) (at : ℕ) (tokens : List Token) (refusal : Refusal LexFault) → Reaches text at tokens → RefusesAt text at refusal
    → ScanRefuses text refusal
reached_refuses text at tokens NoMemory reached h = tt
reached_refuses text at tokens (Refused fault) reached h = record {
  stands = stands;
  only = λ other h. one_failure h stands;
  no_list = λ list h. list_no_fault h stands;
}
  where
    stands : Fails [] text fault
    stands = reached.fails fault (here h)

pub line_after-add : (text : List ℕ) (at len : ℕ) → line_after (take at text) + count_by (λ b. b == 10) (take len (drop at text)) ≡ line_after (take (at + len) text)
line_after-add text at len =
    let lines : List ℕ → ℕ = count_by (λ b. b == 10) in
    let parts : lines (take at text ++ take len (drop at text)) ≡ lines (take at text) + lines (take len (drop at text)) =
    sum_by-append (λ b. cond (b == 10) 1 0) (take at text) (take len (drop at text)) in
    let whole = ap lines (take-add at len text) in
    omega arith
