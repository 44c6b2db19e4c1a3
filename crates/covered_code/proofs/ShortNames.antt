-- The names of a text's functions are no longer than the text.
use Rattle.std.proofs.Common.{◌≤◌, sym, subst, ℕ, ◌-◌, List, [], ◌∷◌, length, drop, arith}
use Rattle.std.proofs.lemmas.List.{length-take, length-drop}
use Rattle.c_tokens.specs.declared.token.Token.{Token}
use Rattle.c_tree.specs.Sound.{Each}
use Rattle.c_tree.specs.Tree.{Head, Outer}
use Rattle.c_tree.specs.Typed.{TypedFunction, Typed}
use Rattle.c_grammar.specs.Rules.{Listed}
use Rattle.c_grammar.specs.Words.{name_of}
use Rattle.c_syntax.specs.Syntax.{Symbol, Is}
use Rattle.c_typing.specs.Sources.{File, after_outer, typed_functions, defined, at_the_start}
use Rattle.source_graphs.specs.SourceGraphs.{IsSourceOf}

-- ---- in a text

-- the bytes of a token are no more than those of the text
token_short : (text : List ℕ) (t : Token) → length (name_of text t) ≤ length text
token_short text t =
    omega (arith, length-take (t.end - t.start) (drop t.start text), length-drop t.start text)

-- ---- in a tree

-- the name of a function that is defined is no longer than the text
abbrev pub IsShort : List ℕ → Outer → Type 0
IsShort text (Outer.Function head body) = length head.name ≤ length text
IsShort text _ = Unit {0}

head_short : (text : List ℕ) (ts : List Token) (h : Head) → Is text Symbol.function_head ts h
    → length h.name ≤ length text
head_short text _ _ (Is.heads {t = t} type name opens params closes) = token_short text t

outer_short : (text : List ℕ) (ts : List Token) (o : Outer) → Is text Symbol.outer ts o → IsShort text o
outer_short text _ _ (Is.outer_declares vars) = tt
outer_short text _ _ (Is.prototype head ends) = tt
outer_short text _ _ (Is.defines head named opens body closes) = head_short text _ _ head

outers_short : (text : List ℕ) (ts : List Token) (os : List Outer) → Is text (Symbol.following Listed.outers) ts os
    → Each (IsShort text) os
outers_short text _ _ Is.no_members = tt
outers_short text _ _ (Is.next_member first rest) = (outer_short text _ _ first, outers_short text _ _ rest)

-- ---- in a typed source

typed_short : (text : List ℕ) (names : List (List ℕ)) (file : File) (os : List Outer) → Each (IsShort text) os
    → Each (λ (f : TypedFunction). length f.name ≤ length text) (typed_functions names file os)
typed_short text names file [] h = tt
typed_short text names file (Outer.Vars vars ∷ os) h =
    typed_short text names (after_outer names file (Outer.Vars vars)) os h.1
typed_short text names file (Outer.Prototype head ∷ os) h =
    typed_short text names (after_outer names file (Outer.Prototype head)) os h.1
typed_short text names file (Outer.Function head body ∷ os) h =
    (h.0, typed_short text names (after_outer names file (Outer.Function head body)) os h.1)

-- The names of a text's functions are no longer than the text.
pub names_short : {text : List ℕ} {source : Typed} → IsSourceOf text source
    → Each (λ (f : TypedFunction). length f.name ≤ length text) source.functions
names_short {text = text} h =
    subst (λ (t : Typed). Each (λ (f : TypedFunction). length f.name ≤ length text) t.functions) (sym h.is)
    (typed_short text (defined h.tree.outers) at_the_start h.tree.outers
    (outers_short text _ h.tree.outers h.is_tree.source.outers))
