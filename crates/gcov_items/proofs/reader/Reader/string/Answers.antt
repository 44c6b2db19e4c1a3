use Rattle.std.proofs.Common.{◌≡◌, ◌∙◌, refl, sym, ap, subst, ℕ, List, ◌++◌, ◌+◌, ◌-◌, length, take, drop}
use Rattle.std.proofs.lemmas.List.{drop-drop}
use Rattle.gcov_items.specs.Items.{ReaderValue, Takes, IsNoString, left, string_bytes}
use Rattle.gcov_items.proofs.ReadLaws.{all_behind, no_string, a_string}
use Rattle.gcov_items.proofs.reader.Reader.string.Goals as goal

pub returns-in_default-text_of-clause-err : goal.returns-in_default-text_of-clause-err
returns-in_default-text_of-clause-err c =
    let bytes : List ℕ = c.self.inside.bytes.now in
    let here : List ℕ = take (length bytes - c.self.inside.at) (drop c.self.inside.at bytes) in (
      subst (λ (r : ReaderValue). IsNoString (left r)) c.self.view_is
          (subst IsNoString (all_behind c.self.inside.at bytes)
          (no_string here (take (length here - 4) (drop 4 here)) c.in-Some.n (all_behind 4 here) c.in-Some.ensures.some
          c.if-n-eq0.false c.if-behind-size.false c.in_default-text_of.ensures.none)),
      refl,
    )

pub returns-clause-ok : goal.returns-clause-ok
returns-clause-ok c =
    let bytes : List ℕ = c.self.inside.bytes.now in
    let at : ℕ = c.self.inside.at in
    let n : ℕ = c.in-Some.n in
    let text : List ℕ = c.in-Some-text_of.text.now in
    let here : List ℕ = take (length bytes - at) (drop at bytes) in
    let s = a_string here (take (length here - 4) (drop 4 here)) text n (all_behind 4 here) c.in-Some.ensures.some
    c.if-behind-size.false c.in-Some-text_of.ensures.some in
    let front : drop at bytes ≡ string_bytes text ++ drop (at + (4 + n)) bytes =
    subst (λ (l : List ℕ). l ≡ string_bytes text ++ drop (4 + n) l) (all_behind at bytes) s.0
    ∙ ap (λ (r : List ℕ). string_bytes text ++ r) (drop-drop (4 + n) at bytes) in (
      c.in-Some-text_of.ensures.some.1,
      subst (λ (r : ReaderValue). Takes (string_bytes text) (length (string_bytes text)) r
          (record { bytes = bytes; at = at + (4 + n) })) c.self.view_is
          (record { front = front; bytes = refl; at = ap (λ k. at + k) (sym s.1) }),
    )
