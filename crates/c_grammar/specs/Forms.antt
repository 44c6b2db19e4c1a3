-- What the grammar of declarations, statements and sources asks of the next tokens, and what it makes of tokens.
use Rattle.std.specs.Prelude.{ℕ, Bool, true, false, cond, List, [], ◌∷◌, Option, Some, None}
use Rattle.c_tokens.specs.declared.token.Keyword.{Keyword}
use Rattle.c_tokens.specs.declared.token.Keyword.TheVariants as key
use Rattle.c_tokens.specs.declared.token.Punct.TheVariants as mark
use Rattle.c_tokens.specs.declared.token.Token.{Token}
use Rattle.c_tokens.specs.declared.token.TokenKind.{TokenKind}
use Rattle.c_tokens.specs.declared.token.TokenKind.TheVariants as kind
use Rattle.c_tree.specs.declared.expr.Base.{Base}
use Rattle.c_tree.specs.Expr.{Expr}
use Rattle.c_tree.specs.Stmt.{Size, Init, Var, Stmt}
use Rattle.c_tree.specs.Tree.{Param, Head}
use Rattle.c_grammar.specs.declared.begins.StmtForm.{StmtForm}
use Rattle.c_grammar.specs.declared.begins.StmtForm.TheVariants as form
use Rattle.c_grammar.specs.declared.begins.ItemForm.{ItemForm}
use Rattle.c_grammar.specs.declared.begins.ItemForm.TheVariants as label
use Rattle.c_grammar.specs.declared.begins.ParamsForm.{ParamsForm}
use Rattle.c_grammar.specs.declared.begins.ParamsForm.TheVariants as params
use Rattle.c_grammar.specs.Words.{name_of, next_kind, key_at, name_at, behind, next_is, behind_words}

-- a comma is next, and no `}` behind it: a further initialiser follows (C17 6.7.9 paragraph 1)
abbrev pub further_at : List Token → Bool
further_at tokens = cond (next_is mark.Comma tokens) (cond (next_is mark.CloseBrace (behind tokens)) false true) false

-- a variable with the name, the place and the line of a token (own)
abbrev pub variable_at : List ℕ → Base → Token → Size → Init → Var
variable_at text base t s i =
    record { base = base; name = name_of text t; size = s; init = i; place = t.start; line = t.line }

-- the statement that a token of a kind begins (C17 6.8)
abbrev pub form_of : Option TokenKind → StmtForm
form_of (Some (kind.Mark mark.OpenBrace)) = form.Block
form_of (Some (kind.Key key.If)) = form.If
form_of (Some (kind.Key key.While)) = form.While
form_of (Some (kind.Key key.Do)) = form.Do
form_of (Some (kind.Key key.For)) = form.For
form_of (Some (kind.Key key.Switch)) = form.Switch
form_of (Some (kind.Key key.Break)) = form.Break
form_of (Some (kind.Key key.Continue)) = form.Continue
form_of (Some (kind.Key key.Return)) = form.Return
form_of _ = form.Value

-- the statement that the next tokens begin (C17 6.8)
abbrev pub form_at : List Token → StmtForm
form_at tokens = form_of (next_kind tokens)

-- the keyword is there and is `else` (own)
abbrev pub is_else : Option Keyword → Bool
is_else (Some key.Else) = true
is_else _ = false

-- the next token is `else` (own)
abbrev pub else_at : List Token → Bool
else_at tokens = is_else (key_at tokens)

-- the item that a keyword begins (C17 6.8.1)
abbrev pub item_of : Option Keyword → ItemForm
item_of (Some key.Case) = label.Case
item_of (Some key.Default) = label.Default
item_of _ = label.Item

-- the item that the next tokens begin (C17 6.8.1)
abbrev pub item_at : List Token → ItemForm
item_at tokens = item_of (key_at tokens)

-- an expression statement, or an empty one (C17 6.8.3 paragraphs 2 and 3)
abbrev pub value_of : Option Expr → Stmt
value_of None = Stmt.Empty
value_of (Some e) = Stmt.Value e

-- no token is there (own)
abbrev pub none_at : List Token → Bool
none_at [] = true
none_at (t ∷ ts) = false

-- behind the type words stand a name and `(`, so that a function stands here (C17 6.7.6.3, 6.9.1)
abbrev pub function_at : List Token → Bool
function_at tokens = cond (name_at (behind_words tokens)) (next_is mark.OpenParen (behind (behind_words tokens))) false

-- a keyword is there and is `void` (own)
abbrev pub is_void : Option Keyword → Bool
is_void (Some key.Void) = true
is_void _ = false

-- the parameters that the next tokens begin: `)` is none, and so are `void` and `)` (C17 6.7.6.3 paragraph 10)
abbrev pub params_at : List Token → ParamsForm
params_at tokens =
    cond (next_is mark.CloseParen tokens) params.Empty
    (cond (is_void (key_at tokens)) (cond (next_is mark.CloseParen (behind tokens)) params.OnlyVoid params.Listed)
    params.Listed)

-- no parameter is without a name (C17 6.9.1 paragraph 5)
abbrev pub all_named : List Param → Bool
all_named [] = true
all_named (p ∷ ps) = elim (p.name) as (λ name. Bool) [ None ↦ false | Some name ↦ all_named ps ]

-- a function's head with the name, the place and the line of a token (own)
abbrev pub head_at : List ℕ → Base → Token → List Param → Head
head_at text base t params =
    record { base = base; name = name_of text t; params = params; place = t.start; line = t.line }

-- a parameter with the name and the place of a token (own)
abbrev pub named_param : List ℕ → Base → Token → Param
named_param text base t = record { base = base; name = Some (name_of text t); place = t.start }

-- a parameter without a name, at the place of its first word (own)
abbrev pub nameless_param : Base → ℕ → Param
nameless_param base place = record { base = base; name = None; place = place }

-- where the first token begins, or 0 (own)
abbrev pub first_start : List Token → ℕ
first_start [] = 0
first_start (t ∷ ts) = t.start
