-- The tree of a text.
use Rattle.std.specs.Prelude.{ℕ, List}
use Rattle.cov_base.specs.declared.refusal.Refusal.{Refusal}
use Rattle.cov_base.specs.declared.refusal.Refusal.TheVariants as refusal
use Rattle.c_tokens.specs.declared.token.LexFault.{LexFault}
use Rattle.c_tokens.specs.declared.token.Token.{Token}
use Rattle.c_tokens.specs.Tokens.{Splits, LexFaultAt}
use Rattle.c_tree.specs.Tree.{Tree}
use Rattle.c_grammar.specs.declared.fault.ParseFault.{ParseFault}
use Rattle.c_parser.specs.Sources.{Parses, ParseRefuses}
use Rattle.front_rows.specs.declared.text_tree.TextFault.{TextFault}
use Rattle.front_rows.specs.declared.text_tree.TextFault.TheVariants as fault

-- The tokens that split the text derive this tree and no other, and it has at most 256 levels.
pub record IsTreeOf (text : List ℕ) (tree : Tree) : Type 0 where
  pub tokens : List Token
  pub splits : Splits text tokens
  pub parses : Parses text tokens tree

-- Why a text has no tree: a fault stands in it, or its tokens have none; or memory ran out.
pub data RefusesText (text : List ℕ) : Refusal TextFault → Type 0 where
  no_tokens : {found : LexFault} → LexFaultAt text found → RefusesText text (refusal.Refused (fault.Lex found))
  no_tree : {tokens : List Token} {found : ParseFault} → Splits text tokens → ParseRefuses text tokens (refusal.Refused found)
      → RefusesText text (refusal.Refused (fault.Parse found))
  no_memory : RefusesText text refusal.NoMemory
