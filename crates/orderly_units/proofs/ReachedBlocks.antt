-- Each block of a source's graph that block 2 reaches, it reaches without arcs back; and where an arc back goes.
use Rattle.std.proofs.Common.{◌≡◌, refl, sym, subst, ℕ, zero, suc, ◌+◌, ◌-◌, ◌<◌, ◌≤◌, true, false}
use Rattle.std.proofs.Common.{List, [], length, Some, slice_get, inl, inr, arith}
use Rattle.std.proofs.Common.{◌==◌, eqb-true}
use Rattle.std.proofs.lemmas.Bool.{cases_Bool, or_cases}
use Rattle.c_tree.specs.declared.typed_expr.CellAt.TheVariants as cell
use Rattle.c_tree.specs.Typed.{TypedFunction, Typed}
use Rattle.c_tree.specs.Sound.{SoundFunction, Sound, standing}
use Rattle.flow_graph.specs.Graph.{Block}
use Rattle.flow_graph.specs.Nets.{targets, among, reached}
use Rattle.c_lower.specs.Items.{Name, Close, gives_number, items_of}
use Rattle.c_lower.specs.Lowered.{Named, numbered, block_of, named_blocks, graph_of}
use Rattle.fake_arcs.specs.Tidy.{Way}
use Rattle.fake_arcs.proofs.Reaching.{reached_two, reached_closed, reached_way}
use Rattle.lower_agrees.specs.Agreement.{is_back}
use Rattle.lower_agrees.proofs.Calls.{graph_found}
use Rattle.lower_agrees.proofs.Runs.{Site, Stands, number}
use Rattle.lower_agrees.proofs.Whole.{each_at}
use Rattle.prune_agrees.proofs.Made.{function_made}
use Rattle.stack_code.specs.Orderly.{GoesOn}
use Rattle.orderly_units.specs.Laws.{HasCaseNumbers, IsReachedAhead, GoesWell}
use Rattle.orderly_units.proofs.CaseNumbers.{still_numbers}
use Rattle.orderly_units.proofs.Alive.{OnBack, HaveNumbers}
use Rattle.orderly_units.proofs.NamedBlocks.{FirstKept, blocks_kept}
use Rattle.orderly_units.proofs.AheadBlocks.{Ahead, IsAhead, made_of, Right, NameAhead, first_right, ends_well}

module _ (f : Name → ℕ) where
  -- the number in an arc back
  back_number : (P : Name → Type 0) (Q : ℕ → Type 0) → ((l : Name) → P l → Q (f l)) → (c : Close) → OnBack P c
      → is_back (numbered f c) ≡ true → (t : ℕ) → among t (targets (numbered f c)) ≡ true → Q t
  back_number P Q more (Close.Jump l) h e t a = absurd (let never : false ≡ true = e in cc)
  back_number P Q more (Close.Back l) h e t a = elim (or_cases (t == f l) false a) [
    | inl same ↦ subst Q (sym (eqb-true t (f l) same)) (more l h)
    | inr never ↦ absurd (let no : false ≡ true = never in cc)
  ]
  back_number P Q more (Close.Branch x y) h e t a = absurd (let never : false ≡ true = e in cc)
  back_number P Q more (Close.Select cases default) h e t a = absurd (let never : false ≡ true = e in cc)
  back_number P Q more (Close.CallTo g line l) h e t a = absurd (let never : false ≡ true = e in cc)
  back_number P Q more Close.Leave h e t a = absurd (let never : false ≡ true = e in cc)
  back_number P Q more Close.Quit h e t a = absurd (let never : false ≡ true = e in cc)

  case_numbers : (c : Close) → HaveNumbers c → HasCaseNumbers (numbered f c)
  case_numbers (Close.Jump l) h = tt
  case_numbers (Close.Back l) h = tt
  case_numbers (Close.Branch x y) h = tt
  case_numbers (Close.Select cases default) h = still_numbers f cases h
  case_numbers (Close.CallTo g line l) h = tt
  case_numbers Close.Leave h = tt
  case_numbers Close.Quit h = tt

module _ (source : Typed) (sound : Sound source) (k : ℕ) (f : TypedFunction)
    (at : slice_get source.functions k ≡ Some f) where
  abbrev x : Site
  x = record { source = source; function = k; text = f; callers = [] }

  stands : Stands x
  stands = graph_found source.functions k f at

  abbrev blocks : List Block
  blocks = (graph_of f).blocks

  kept : FirstKept (gives_number f.result) (items_of f)
  kept =
      let own = each_at (SoundFunction source.functions (standing cell.Global 0 sound.global_lengths) sound.global_types
      (length source.globals)) source.functions k f sound.functions at in
      blocks_kept _ _ f own.body

  -- what holds of a block's ending
  right : (i : ℕ) (b : Block) → slice_get blocks i ≡ Some b
      → (c : Named) × (block_of (number x) c ≡ b) × Right x stands i c.close
  right i b e =
      let c = made_of (block_of (number x)) (named_blocks f) i b e in
      (c.0, c.2, first_right x stands kept i c.0 c.1)

  -- an arc back goes to its own block or one before it
  back : (i : ℕ) (b : Block) → slice_get blocks i ≡ Some b → is_back b.end ≡ true → (t : ℕ)
      → among t (targets b.end) ≡ true → t ≤ 2 + i
  back i b e is t a =
      let r = right i b e in
      back_number (number x) (λ l. number x l ≤ 2 + i) (λ t. t ≤ 2 + i) (λ l h. h) r.0.close r.2.back
      (subst (λ (d : Block). is_back d.end ≡ true) (sym r.1) is) t
      (subst (λ (d : Block). among t (targets d.end) ≡ true) (sym r.1) a)

  abbrev NumberAhead : ℕ → Type 0
  NumberAhead t = (j : ℕ) × (t ≡ 2 + j) × IsAhead blocks j

  back_ahead : (i : ℕ) (b : Block) → slice_get blocks i ≡ Some b → IsAhead blocks i → is_back b.end ≡ true → (t : ℕ)
      → among t (targets b.end) ≡ true → NumberAhead t
  back_ahead i b e h is t a =
      let r = right i b e in
      back_number (number x) (NameAhead x stands) NumberAhead (λ l h. h) r.0.close (r.2.on h)
      (subst (λ (d : Block). is_back d.end ≡ true) (sym r.1) is) t
      (subst (λ (d : Block). among t (targets d.end) ≡ true) (sym r.1) a)

  pub numbers : (i : ℕ) (b : Block) → slice_get blocks i ≡ Some b → HasCaseNumbers b.end
  numbers i b e =
      let r = right i b e in
      subst (λ (d : Block). HasCaseNumbers d.end) r.1 (case_numbers (number x) r.0.close r.2.numbers)

  pub goes_on : (i : ℕ) (b : Block) → slice_get blocks i ≡ Some b → GoesOn i b.end
  goes_on i b e = record {
    up = λ forth t a. (ends_well x stands i b e).up forth t a;
    back = back i b e;
  }

  -- a way leads to each block that block 2 reaches without arcs back
  way_ahead : (n t : ℕ) → Way blocks n t → NumberAhead t
  way_ahead zero t way = (0, way, (zero, refl))
  way_ahead (suc n) t (a, i, b, way, same, here, leads_to) =
      let before = way_ahead n a way in
      let e = before.1 in
      let equal : before.0 ≡ i = omega (arith, e, same) in
      let own : IsAhead blocks i = subst (IsAhead blocks) equal before.2 in
      elim (cases_Bool (is_back b.end)) [
        | inl is ↦ back_ahead i b here own is t leads_to
        | inr forth ↦ (let inside = (function_made source sound k f at).aims i t b here leads_to in
            let up = inside.0 in
            let j : t ≡ 2 + (t - 2) = omega (arith, up) in (
              t - 2,
              j,
              (
                suc own.0,
                (
                  i,
                  b,
                  own.1,
                  here,
                  forth,
                  subst (λ (s : ℕ). among s (targets b.end) ≡ true) j leads_to,
                ),
              ),
            ))
      ]

  ahead_reached : (n j : ℕ) → Ahead blocks n j → among (2 + j) (reached blocks) ≡ true
  ahead_reached zero j e =
      let two : 2 ≡ 2 + j = omega (arith, e) in
      subst (λ (t : ℕ). among t (reached blocks) ≡ true) two (reached_two blocks)
  ahead_reached (suc n) j (i, b, way, here, forth, a) =
      let inside = (function_made source sound k f at).aims i (2 + j) b here a in
      reached_closed blocks i (2 + j) b here (ahead_reached n i way) a (omega arith) inside.1

  -- each block behind the first that block 2 reaches is entered from one before it that block 2 reaches
  pub entered : (i : ℕ) → 0 < i → among (2 + i) (reached blocks) ≡ true → IsReachedAhead (graph_of f) i
  entered i some h =
      let way = reached_way blocks (2 + i) h in
      let there = way_ahead way.0 (2 + i) way.1 in
      let e = there.1 in
      let same : there.0 ≡ i = omega (arith, e) in
      by (subst (IsAhead blocks) same there.2)
    where
      by : IsAhead blocks i → IsReachedAhead (graph_of f) i
      by (zero, first) = absurd (omega (arith, some, first))
      by (suc n, (j, b, way, here, forth, a)) =
          let up = (ends_well x stands j b here).up forth (2 + i) a in record {
            entered = record {
              from = j;
              lower = omega (arith, up);
              block = b;
              there = here;
              ahead = forth;
              leads = a;
            };
            is_reached = ahead_reached n j way;
          }

-- Each block of a graph goes well.
pub blocks_well : (source : Typed) (sound : Sound source) (k : ℕ) (f : TypedFunction)
    → slice_get source.functions k ≡ Some f → GoesWell (graph_of f)
blocks_well source sound k f at = record {
  on = goes_on source sound k f at;
  numbers = numbers source sound k f at;
  entered = entered source sound k f at;
}
