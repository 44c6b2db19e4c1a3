-- Tables of links and of arcs on the tree.
use Rattle.std.proofs.Common.{◌≡◌, sym, subst, ◌∙◌, ℕ, ◌<◌, List, []}
use Rattle.std.proofs.Common.{◌∷◌, ◌++◌, length, get_or, false, inl, inr, arith}
use Rattle.std.specs.Prelude.{Option, Some, None, replicate}
use Rattle.std.specs.List.{All}
use Rattle.std.proofs.lemmas.Bool.{cases_lt}
use Rattle.std.proofs.lemmas.List.{get_or_past, get_or-replicate, length-replicate}
use Rattle.std.proofs.lemmas.List.Elements.{All-nil, All-cons, All-same, All-weaker}
use Rattle.cov_base.specs.declared.net.FlowArc.{FlowArc}
use Rattle.cov_base.specs.Net.{NetValue, IsNet}
use Rattle.cov_base.proofs.NetLaws.{HasShape-from_IsNet}
use Rattle.span_tree.specs.declared.arrival.Arrival.{Arrival}
use Rattle.span_tree.specs.Tree.{exit_alone, arrivals}
use Rattle.span_tree.specs.Tables.{LinkWithin}
use Rattle.span_tree.proofs.Grown.{Came, Grown, arrivals_grown}
use Rattle.span_tree.proofs.Unique.{inside}
use Rattle.std.proofs.lemmas.Option.{slice_get_within}

pub links_none : (n b : ℕ) → get_or (replicate {A = Option ℕ} n None) b None ≡ None
links_none n b = elim (cases_lt b n) [
  | inl l ↦ get_or-replicate n b None None l
  | inr past ↦ get_or_past (replicate {A = Option ℕ} n None) b None
      (let e = length-replicate {A = Option ℕ} n None in omega (arith, e, past))
]

pub on_none : (n i : ℕ) → get_or (replicate n false) i false ≡ false
on_none n i = elim (cases_lt i n) [
  | inl l ↦ get_or-replicate n i false false l
  | inr past ↦ get_or_past (replicate n false) i false (let e = length-replicate n false in omega (arith, e, past))
]

came_within : (net : NetValue) → IsNet net → (before rest : List Arrival) → Grown net.arcs before rest
    → All (λ a. (a.block < net.blocks) × LinkWithin (length net.arcs) a.link) rest
came_within net is before [] grown = All-nil (λ a. (a.block < net.blocks) × LinkWithin (length net.arcs) a.link)
came_within net is before (a ∷ rest) grown =
    All-cons (λ a. (a.block < net.blocks) × LinkWithin (length net.arcs) a.link) a rest (by a.link grown.1)
    (came_within net is (before ++ a ∷ []) rest grown.2)
  where
    by : (link : Option ℕ) → Came net.arcs before a.block link
        → (a.block < net.blocks) × LinkWithin (length net.arcs) link
    by None came = ((let l = (HasShape-from_IsNet net is).least in omega (arith, l, came)), tt)
    by (Some i) (arc, at, entry, joins) = (
      (let h = inside net is i arc at in
          elim joins [ inl e ↦ subst (λ b. b < net.blocks) e.0 h.0 | inr e ↦ subst (λ b. b < net.blocks) e.0 h.1 ]),
      slice_get_within net.arcs i arc at,
    )

-- what came are blocks, by arcs of the net
pub all_within : (net : NetValue) (came : List Arrival) → IsNet net → came ≡ arrivals net
    → All (λ a. (a.block < net.blocks) × LinkWithin (length net.arcs) a.link) came
all_within net came is e =
    let least = (HasShape-from_IsNet net is).least in
    let grown = (arrivals_grown net (omega (arith, least))).grown in
    All-same (λ a. (a.block < net.blocks) × LinkWithin (length net.arcs) a.link) came (exit_alone ++ grown.rest)
    (e ∙ grown.first)
    (All-cons (λ a. (a.block < net.blocks) × LinkWithin (length net.arcs) a.link) (record { block = 1; link = None })
    grown.rest (omega (arith, least), tt) (came_within net is exit_alone grown.rest grown.grown))

pub came_blocks : (net : NetValue) (came : List Arrival) (blocks : ℕ) → IsNet net → came ≡ arrivals net
    → blocks ≡ net.blocks → All (λ a. a.block < blocks) came
came_blocks net came blocks is e b =
    subst (λ n. All (λ a. a.block < n) came) (sym b)
    (All-weaker (λ a. (a.block < net.blocks) × LinkWithin (length net.arcs) a.link) (λ a. a.block < net.blocks)
    (λ a h. h.0) came (all_within net came is e))

pub came_links : (net : NetValue) (came : List Arrival) (arcs : List FlowArc) → IsNet net → came ≡ arrivals net
    → arcs ≡ net.arcs → All (λ a. LinkWithin (length arcs) a.link) came
came_links net came arcs is e b =
    subst (λ l. All (λ a. LinkWithin (length l) a.link) came) (sym b)
    (All-weaker (λ a. (a.block < net.blocks) × LinkWithin (length net.arcs) a.link)
    (λ a. LinkWithin (length net.arcs) a.link) (λ a h. h.1) came (all_within net came is e))
