-- Pruning keeps the order of blocks: so a pruned graph goes on as the graph does, and each of its blocks is entered.
use Rattle.std.proofs.Common.{◌≡◌, refl, sym, ap, subst, ◌∙◌, ℕ, zero, suc, ◌+◌, ◌-◌, ◌<◌, ◌≤◌, ◌==◌, Bool, true, false}
use Rattle.std.proofs.Common.{cond, List, [], ◌∷◌, length, Option, Some, slice_get, ◌⊎◌, inl, inr, arith}
use Rattle.std.proofs.Common.{option_map}
use Rattle.std.proofs.lemmas.Bool.{cond-true, cond-false, both_ways, cases_eq, eq-eqb, ne_eqb}
use Rattle.std.proofs.lemmas.Option.{slice_get_within}
use Rattle.flow_graph.specs.Graph.{Ending, Block, Graph}
use Rattle.flow_graph.specs.Nets.{targets, among, reached, rank_from, new_number, renamed, pruned_graph}
use Rattle.fake_arcs.specs.Tidy.{IsWellMade}
use Rattle.fake_arcs.proofs.Lockstep.{number_two, number_inside}
use Rattle.fake_arcs.proofs.Ranks.{with_numbers, kept_of, rank_low, kept_same, pruned_at}
use Rattle.fake_arcs.proofs.Reaching.{reached_closed}
use Rattle.fake_arcs.proofs.Tidied.{Origin, origin}
use Rattle.lower_agrees.specs.Agreement.{is_back}
use Rattle.stack_code.specs.Orderly.{GoesOn, IsEntered}
use Rattle.stack_code.proofs.Aims.{Aims, aims_of, aims_in}
use Rattle.stack_code.proofs.Levels.{there_is}
use Rattle.orderly_units.proofs.CaseNumbers.{still_numbers}
use Rattle.orderly_units.specs.Laws.{HasCaseNumbers, IsReachedAhead, GoesWell}

-- of two kept numbers the lower has the lower rank
rank_up : (kept : List ℕ) (r n : ℕ) (bs : List Block) (a b : ℕ) → n ≤ a → a < b → a < n + length bs
    → among a kept ≡ true → rank_from r (kept_of kept n bs) a < rank_from r (kept_of kept n bs) b
rank_up kept r n [] a b low lt high m = absurd (omega (arith, low, high))
rank_up kept r n (x ∷ bs) a b low lt high m =
    go (among n kept) refl (cases_eq n a) (λ s l. rank_up kept s (suc n) bs a b l lt (omega (arith, high)) m)
  where
    go : (c : Bool) → among n kept ≡ c → (n ≡ a) ⊎ (n ≡ a → ⊥)
        → ((s : ℕ) → suc n ≤ a → rank_from s (kept_of kept (suc n) bs) a < rank_from s (kept_of kept (suc n) bs) b)
        → rank_from r (cond c (n ∷ kept_of kept (suc n) bs) (kept_of kept (suc n) bs)) a
        < rank_from r (cond c (n ∷ kept_of kept (suc n) bs) (kept_of kept (suc n) bs)) b
    go true e (inl same) later =
        let here : rank_from r (n ∷ kept_of kept (suc n) bs) a ≡ r = cond-true (n == a) r
        (rank_from (suc r) (kept_of kept (suc n) bs) a) (eq-eqb n a same) in
        let there : rank_from r (n ∷ kept_of kept (suc n) bs) b ≡ rank_from (suc r) (kept_of kept (suc n) bs) b =
        cond-false (n == b) r (rank_from (suc r) (kept_of kept (suc n) bs) b)
        (ne_eqb n b (λ h. omega (arith, h, same, lt))) in
        let above = rank_low (suc r) (kept_of kept (suc n) bs) b in omega (arith, here, there, above)
    go true e (inr other) later =
        let here : rank_from r (n ∷ kept_of kept (suc n) bs) a ≡ rank_from (suc r) (kept_of kept (suc n) bs) a =
        cond-false (n == a) r (rank_from (suc r) (kept_of kept (suc n) bs) a) (ne_eqb n a other) in
        let there : rank_from r (n ∷ kept_of kept (suc n) bs) b ≡ rank_from (suc r) (kept_of kept (suc n) bs) b =
        cond-false (n == b) r (rank_from (suc r) (kept_of kept (suc n) bs) b)
        (ne_eqb n b (λ h. omega (arith, h, low, lt))) in
        let more = later (suc r) (omega (arith, low, other)) in omega (arith, here, there, more)
    go false e (inl same) later = absurd (both_ways _ e (subst (λ (i : ℕ). among i kept ≡ true) (sym same) m))
    go false e (inr other) later = later r (omega (arith, low, other))

-- ---- endings with other numbers

module _ (f : ℕ → ℕ) where
  aims_renamed : (P : ℕ → Type 0) (end : Ending) → Aims (λ t. P (f t)) end → Aims P (renamed f end)
  aims_renamed P (Ending.Jump t) h = h
  aims_renamed P (Ending.Back t) h = h
  aims_renamed P (Ending.Branch t e) h = h
  aims_renamed P (Ending.Switch [] default) h = h
  aims_renamed P (Ending.Switch (c ∷ cases) default) h =
      (h.0, aims_renamed P (Ending.Switch cases default) h.1)
  aims_renamed P (Ending.Call g line next) h = h
  aims_renamed P Ending.Return h = tt
  aims_renamed P Ending.Exit h = tt

  aims_again : (P : ℕ → Type 0) (end : Ending) → Aims P (renamed f end) → Aims (λ t. P (f t)) end
  aims_again P (Ending.Jump t) h = h
  aims_again P (Ending.Back t) h = h
  aims_again P (Ending.Branch t e) h = h
  aims_again P (Ending.Switch [] default) h = h
  aims_again P (Ending.Switch (c ∷ cases) default) h = (h.0, aims_again P (Ending.Switch cases default) h.1)
  aims_again P (Ending.Call g line next) h = h
  aims_again P Ending.Return h = tt
  aims_again P Ending.Exit h = tt

  renamed_back : (end : Ending) → is_back (renamed f end) ≡ is_back end
  renamed_back (Ending.Jump t) = refl
  renamed_back (Ending.Back t) = refl
  renamed_back (Ending.Branch t e) = refl
  renamed_back (Ending.Switch cases default) = refl
  renamed_back (Ending.Call g line next) = refl
  renamed_back Ending.Return = refl
  renamed_back Ending.Exit = refl

  renamed_numbers : (end : Ending) → HasCaseNumbers end → HasCaseNumbers (renamed f end)
  renamed_numbers (Ending.Jump t) h = tt
  renamed_numbers (Ending.Back t) h = tt
  renamed_numbers (Ending.Branch t e) h = tt
  renamed_numbers (Ending.Switch cases default) h = still_numbers f cases h
  renamed_numbers (Ending.Call g line next) h = tt
  renamed_numbers Ending.Return h = tt
  renamed_numbers Ending.Exit h = tt

module _ (g : Graph) (made : IsWellMade g) (well : GoesWell g) where
  abbrev kept : List ℕ
  kept = reached g.blocks

  abbrev rank : ℕ → ℕ
  rank t = rank_from 2 kept t

  -- ranks ascend with numbers
  rank_above : (a b : ℕ) → 2 ≤ a → a < 2 + length g.blocks → among a kept ≡ true → a < b → rank a < rank b
  rank_above a b low high m lt =
      subst (λ (l : List ℕ). rank_from 2 l a < rank_from 2 l b) (kept_same g.blocks made.some)
      (rank_up kept 2 2 g.blocks a b low lt high m)

  module _ (k : ℕ) (b : Block) (o : Origin kept 2 2 g.blocks k b) where
    own : rank (2 + o.at) ≡ 2 + k
    own = subst (λ (l : List ℕ). rank_from 2 l (2 + o.at) ≡ 2 + k) (kept_same g.blocks made.some) o.rank

    -- a target of a kept block is kept, and has its rank as its number
    inside : (t : ℕ) → among t (targets o.old.end) ≡ true → (2 ≤ t) × (t < 2 + length g.blocks)
        × (among t kept ≡ true) × (new_number kept t ≡ rank t)
    inside t a =
        let aims = made.aims o.at t o.old o.there a in
        let above = aims.0 in
        let low : 2 ≤ t = omega (arith, above) in
        (low, aims.1, reached_closed g.blocks o.at t o.old o.there o.kept_there a low aims.1, number_inside kept t low)

    within : o.at < length g.blocks
    within = slice_get_within g.blocks o.at o.old o.there

    -- what its targets' ranks have, the targets of the block have
    each_target : (P : ℕ → Type 0) → ((t : ℕ) → among t (targets o.old.end) ≡ true → P (new_number kept t))
        → (t : ℕ) → among t (targets (renamed (new_number kept) o.old.end)) ≡ true → P t
    each_target P h t a =
        aims_in P (renamed (new_number kept) o.old.end) t
        (aims_renamed (new_number kept) P o.old.end (aims_of (λ t. P (new_number kept t)) o.old.end h)) a

    up : is_back o.old.end ≡ false → (t : ℕ) → among t (targets o.old.end) ≡ true → 2 + k < new_number kept t
    up forth t a =
        let i = inside t a in
        let less = (well.on o.at o.old o.there).up forth t a in
        let ranked = rank_above (2 + o.at) t (omega arith) (let w = within in omega (arith, w)) o.kept_there less in
        let e = own in let n = i.3 in omega (arith, ranked, e, n)

    back : is_back o.old.end ≡ true → (t : ℕ) → among t (targets o.old.end) ≡ true → new_number kept t ≤ 2 + k
    back is t a =
        let i = inside t a in
        let le = (well.on o.at o.old o.there).back is t a in
        let e = own in let n = i.3 in
        elim (cases_eq t (2 + o.at)) [
          | inl same ↦ (let equal : rank t ≡ rank (2 + o.at) = ap rank same in omega (arith, equal, e, n))
          | inr other ↦ (let ranked = rank_above t (2 + o.at) i.0 i.1 i.2 (omega (arith, le, other)) in
              omega (arith, ranked, e, n))
        ]

    goes_on : GoesOn k b.end
    goes_on =
        subst (λ (d : Block). GoesOn k d.end) (sym o.same) (record {
          up = λ forth. each_target (λ t. 2 + k < t) (up (sym (renamed_back (new_number kept) o.old.end) ∙ forth));
          back = λ is. each_target (λ t. t ≤ 2 + k) (back (sym (renamed_back (new_number kept) o.old.end) ∙ is));
        })

    numbers : HasCaseNumbers b.end
    numbers =
        subst (λ (d : Block). HasCaseNumbers d.end) (sym o.same)
        (renamed_numbers (new_number kept) o.old.end (well.numbers o.at o.old o.there))

    behind_first : 0 < k → 0 < o.at
    behind_first some = by o.at refl
      where
        by : (i : ℕ) → o.at ≡ i → 0 < i
        by zero e =
            let first : rank 2 ≡ 2 = sym (number_inside kept 2 (omega arith)) ∙ number_two (Some g) in
            let two : 2 + o.at ≡ 2 = omega (arith, e) in
            let same = sym own ∙ ap rank two ∙ first in absurd (omega (arith, some, same))
        by (suc i) e = omega arith

    entered : 0 < k → IsEntered (pruned_graph g).blocks k
    entered some =
        let h : IsReachedAhead g o.at = well.entered o.at (behind_first some) o.kept_there in
        let before = h.entered in
        let from : ℕ = 2 + before.from in
        let low = rank_low 2 kept from in
        let lower = before.lower in
        let w = within in
        let ranked = rank_above from (2 + o.at) (omega arith) (omega (arith, lower, w)) h.is_reached
        (omega (arith, lower)) in
        let e = own in
        let old : slice_get g.blocks (from - 2) ≡ Some before.block =
        (let back_ : from - 2 ≡ before.from = omega arith in
        subst (λ (i : ℕ). slice_get g.blocks i ≡ Some before.block) (sym back_) before.there) in
        record {
          from = rank from - 2;
          lower = omega (arith, low, ranked, e);
          block = with_numbers kept before.block;
          there = pruned_at g.blocks from (omega arith) h.is_reached
              ∙ ap (λ (p : Option Block). option_map (with_numbers kept) p) old;
          ahead = renamed_back (new_number kept) before.block.end ∙ before.ahead;
          leads = subst (λ (t : ℕ). among t (targets (renamed (new_number kept) before.block.end)) ≡ true)
              (number_inside kept (2 + o.at) (omega arith) ∙ own)
              (aims_in (λ t. among (new_number kept t) (targets (renamed (new_number kept) before.block.end)) ≡ true)
              before.block.end (2 + o.at) (aims_again (new_number kept)
              (λ t. among t (targets (renamed (new_number kept) before.block.end)) ≡ true) before.block.end
              (aims_of (λ t. among t (targets (renamed (new_number kept) before.block.end)) ≡ true)
              (renamed (new_number kept) before.block.end) (λ t a. a))) before.leads);
        }

  -- the block at a place of the pruned graph comes from one of the graph
  abbrev from_old : (k : ℕ) (b : Block) → slice_get (pruned_graph g).blocks k ≡ Some b → Origin kept 2 2 g.blocks k b
  from_old k b at = origin kept 2 2 g.blocks k b at

  pub pruned_on : (k : ℕ) (b : Block) → slice_get (pruned_graph g).blocks k ≡ Some b → GoesOn k b.end
  pruned_on k b at = goes_on k b (from_old k b at)

  pub pruned_numbers : (k : ℕ) (b : Block) → slice_get (pruned_graph g).blocks k ≡ Some b → HasCaseNumbers b.end
  pruned_numbers k b at = numbers k b (from_old k b at)

  pub pruned_entered : (k : ℕ) → 0 < k → k < length (pruned_graph g).blocks → IsEntered (pruned_graph g).blocks k
  pruned_entered k some lt =
      let b = there_is (pruned_graph g).blocks k lt in entered k b.0 (from_old k b.0 b.1) some
