-- At most one list splits a text, at most one fault stands in it, and not both.
use Rattle.std.proofs.Common.{◌≡◌, ℕ, List, [], ◌∷◌, ◌++◌, length, Option, Some, refl, sym, ap, ◌∙◌, subst, arith}
use Rattle.std.proofs.lemmas.List.{append_cancel_left}
use Rattle.c_tokens.specs.declared.token.LexFault.{LexFault}
use Rattle.c_tokens.specs.declared.token.Token.{Token}
use Rattle.c_tokens.specs.declared.token.TokenKind.{TokenKind}
use Rattle.c_tokens.specs.Items.{front_of}
use Rattle.c_tokens.specs.declared.token.Punct.{Punct}
use Rattle.c_tokens.specs.Marks.{marks}
use Rattle.c_tokens.specs.Words.{look_up}
use Rattle.c_tokens.specs.Tokens.{starts_line, IsItem, token_of, Fills, ends, takes, Fails, here, later}
use Rattle.c_tokens.proofs.ItemLaws.{one_item, no_fault, one_fault}

pub nothing_listed : (spelling rest : List ℕ) (m : Punct) → look_up marks spelling ≡ Some m → [] ≡ spelling ++ rest → ⊥
unfolding marks
nothing_listed [] rest m listed is = cc
nothing_listed (b ∷ spelling) rest m listed is = cc

-- no item begins the end of a text
no_item : (before item : List ℕ) (kind : Option TokenKind) → IsItem before [] item kind → ⊥
no_item before item kind is = nothing_listed item is.1.begins.rest is.0 is.1.begins.listed is.1.begins.front

-- the parts of a text that two items cut off are the same
record SameCut (ia ra ib rb : List ℕ) (ka kb : Option TokenKind) : Type 0 where
  items : ia ≡ ib
  rests : ra ≡ rb
  kinds : ka ≡ kb

same_cut : (before text ia ra ib rb : List ℕ) (ka kb : Option TokenKind) → text ≡ ia ++ ra → text ≡ ib ++ rb
    → IsItem before text ia ka → IsItem before text ib kb → SameCut ia ra ib rb ka kb
same_cut before text ia ra ib rb ka kb is_a is_b a b =
    let one = one_item (front_of text) (starts_line before) text ia ib ra rb ka kb is_a is_b a b in
    record {
      items = one.0;
      rests = append_cancel_left ib ra rb (ap (λ i. i ++ ra) (sym one.0) ∙ (sym is_a ∙ is_b));
      kinds = one.1;
    }

joined : (before ia ib : List ℕ) (ka kb : Option TokenKind) (la lb : List Token) → ia ≡ ib → ka ≡ kb → la ≡ lb
    → token_of before ia ka ++ la ≡ token_of before ib kb ++ lb
joined before ia ib ka kb la lb items kinds lists =
    ap (λ i. token_of before i ka ++ la) items ∙ (ap (λ k. token_of before ib k ++ la) kinds ∙ ap (λ l. token_of before ib kb ++ l) lists)

moved : (before ia ra ib rb : List ℕ) (list : List Token) → ia ≡ ib → ra ≡ rb → Fills (before ++ ib) rb list → Fills (before ++ ia) ra list
moved before ia ra ib rb list items rests fills =
    subst (λ i. Fills (before ++ i) ra list) (sym items) (subst (λ r. Fills (before ++ ib) r list) (sym rests) fills)

moved_fault : (before ia ra ib rb : List ℕ) (fault : LexFault) → ia ≡ ib → ra ≡ rb → Fails (before ++ ib) rb fault → Fails (before ++ ia) ra fault
moved_fault before ia ra ib rb fault items rests fails =
    subst (λ i. Fails (before ++ i) ra fault) (sym items) (subst (λ r. Fails (before ++ ib) r fault) (sym rests) fails)

pub one_list : {before text : List ℕ} {la lb : List Token} → Fills before text la → Fills before text lb → la ≡ lb
one_list ends ends = refl
one_list {before = before} ends (takes item rest kind is form more list_is) =
    absurd (no_item before item kind form)
one_list {before = before} (takes item rest kind is form more list_is) ends =
    absurd (no_item before item kind form)
one_list {before = before} {text = text} (takes ia ra ka is_a form_a more_a list_a) (takes ib rb kb is_b form_b more_b list_b) =
    let same = same_cut before text ia ra ib rb ka kb is_a is_b form_a form_b in
    list_a ∙ (joined before ia ib ka kb _ _ same.items same.kinds (one_list more_a (moved before ia ra ib rb _ same.items same.rests more_b)) ∙ sym list_b)

pub list_no_fault : {before text : List ℕ} {list : List Token} {fault : LexFault} → Fills before text list → Fails before text fault → ⊥
list_no_fault ends (here found) = let more = found.more in absurd (omega arith)
list_no_fault {before = before} ends (later item rest kind is form more) = no_item before item kind form
list_no_fault {before = before} {text = text} {fault = fault} (takes item rest kind is form more list_is) (here found) =
    no_fault (front_of text) (starts_line before) text item rest kind (length before) fault is form found.found
list_no_fault {before = before} {text = text} (takes ia ra ka is_a form_a more_a list_a) (later ib rb kb is_b form_b more_b) =
    let same = same_cut before text ia ra ib rb ka kb is_a is_b form_a form_b in
    list_no_fault more_a (moved_fault before ia ra ib rb _ same.items same.rests more_b)

pub one_failure : {before text : List ℕ} {a b : LexFault} → Fails before text a → Fails before text b → a ≡ b
one_failure {before = before} {text = text} {a = a} {b = b} (here found_a) (here found_b) =
    one_fault (front_of text) (starts_line before) text (length before) a b found_a.found found_b.found
one_failure {before = before} {text = text} {a = a} (here found) (later item rest kind is form more) =
    absurd (no_fault (front_of text) (starts_line before) text item rest kind (length before) a is form found.found)
one_failure {before = before} {text = text} {b = b} (later item rest kind is form more) (here found) =
    absurd (no_fault (front_of text) (starts_line before) text item rest kind (length before) b is form found.found)
one_failure {before = before} {text = text} (later ia ra ka is_a form_a more_a) (later ib rb kb is_b form_b more_b) =
    let same = same_cut before text ia ra ib rb ka kb is_a is_b form_a form_b in
    one_failure more_a (moved_fault before ia ra ib rb _ same.items same.rests more_b)
