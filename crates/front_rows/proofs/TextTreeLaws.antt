-- What the scanner and the parser say of the text.
use Rattle.std.proofs.Common.{◌≡◌, ℕ, List, sym, subst}
use Rattle.cov_base.specs.declared.refusal.Refusal.{Refusal}
use Rattle.cov_base.specs.declared.refusal.Refusal.TheVariants as refusal
use Rattle.c_tokens.specs.declared.token.LexFault.{LexFault}
use Rattle.c_tokens.specs.declared.token.Token.{Token}
use Rattle.c_tokens.specs.Scans.{HasTokens, HasFault}
use Rattle.c_tokens.specs.Tokens.{Splits}
use Rattle.c_tree.specs.Tree.{Tree}
use Rattle.c_grammar.specs.declared.fault.ParseFault.{ParseFault}
use Rattle.c_parser.specs.Sources.{Parses, ParseRefuses}
use Rattle.front_rows.specs.declared.text_tree.TextFault.TheVariants as fault
use Rattle.front_rows.specs.TextTree.{IsTreeOf, RefusesText}

-- the tokens have a tree
pub is_tree : {text : List ℕ} {list tokens : List Token} {tree : Tree} → HasTokens text list → tokens ≡ list → Parses text tokens tree
    → IsTreeOf text tree
is_tree {text = text} {tokens = tokens} h t p = record { tokens = tokens; splits = subst (λ ts. Splits text ts) (sym t) h.splits; parses = p }

-- a fault stands in the text
pub not_split : {text : List ℕ} {found : LexFault} → HasFault text found → RefusesText text (refusal.Refused (fault.Lex found))
not_split h = RefusesText.no_tokens h.stands

-- the tokens have no tree
pub not_parsed : {text : List ℕ} {list tokens : List Token} {e : Refusal ParseFault} {found : ParseFault} → HasTokens text list → tokens ≡ list
    → e ≡ refusal.Refused found → ParseRefuses text tokens e → RefusesText text (refusal.Refused (fault.Parse found))
not_parsed {text = text} {tokens = tokens} h t f r =
    RefusesText.no_tree (subst (λ ts. Splits text ts) (sym t) h.splits) (subst (λ x. ParseRefuses text tokens x) f r)

-- memory ran out
pub memory : {text : List ℕ} → RefusesText text refusal.NoMemory
memory = RefusesText.no_memory
