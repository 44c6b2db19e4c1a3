use Rattle.std.proofs.Common.{◌≡◌, ◌≢◌, Some, take, drop, ap, ap₂, sym, ◌∙◌}
use Rattle.std.specs.List.{prefix_len}
use Rattle.c_tokens.specs.Bytes.{is_in}
use Rattle.c_tokens.specs.Words.{look_up}
use Rattle.c_tokens.specs.Literals.{number_from, digit_class, radix, suffixes}
use Rattle.c_tokens.proofs.LiteralLaws.{literal_in-too_big}
use Rattle.c_tokens.proofs.literals.literal_in.Goals as goal

pub returns-in-None : goal.returns-in-None
returns-in-None c =
    let b = c.args.base in
    let body = c.args.body.now in
    let count : prefix_len (is_in (digit_class b)) body ≡ c.run_len-count.result =
    ap (λ k. prefix_len (is_in k) body) (sym c.digit_class.ensures) ∙ sym c.run_len-count.ensures.value in
    let some : prefix_len (is_in (digit_class b)) body ≢ 0 = λ e. c.if-count-eq0.false (sym count ∙ e) in
    let found : look_up suffixes (drop (prefix_len (is_in (digit_class b)) body) body) ≡ Some c.in-Some.suffix =
    ap (λ n. look_up suffixes (drop n body)) count ∙ (ap (look_up suffixes) (sym c.split_at.ensures.back) ∙ (sym c.suffix_of.ensures ∙ c.in-Some.is)) in
    let number : number_from (radix b) 0 (take (prefix_len (is_in (digit_class b)) body) body) ≡ number_from c.radix.result 0 c.split_at.result.0.now =
    ap (λ n. number_from (radix b) 0 (take n body)) count ∙ ap₂ (λ r front. number_from r 0 front) (sym c.radix.ensures) (sym c.split_at.ensures.front) in
    literal_in-too_big b body c.in-Some.suffix some found (λ less. c.in-None.ensures (let same = number in rw (← number) less))
