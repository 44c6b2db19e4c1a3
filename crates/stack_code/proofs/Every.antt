-- What holds of each of some instructions, by its place.
use Rattle.std.proofs.Common.{◌≡◌, refl, sym, subst, ◌∙◌, ℕ, zero, suc, ◌+◌, ◌≤◌, List, [], ◌∷◌, ◌++◌}
use Rattle.std.proofs.Common.{length, Some, arith}
use Rattle.std.specs.Prelude.{slice_get}
use Rattle.std.proofs.lemmas.Option.{same_Some, none-some}
use Rattle.stack_ops.specs.declared.operation.Op.{Op}
use Rattle.flow_graph.specs.Graph.{Block, Graph}
use Rattle.stack_code.specs.Laying.{block_code, block_size, start_of, codes, starts, graph_code}
use Rattle.stack_code.proofs.LaidLaws.{size_block, start_low, start_high}

-- it holds of each of these, the first of which stands at this place
abbrev pub Every : (ℕ → Op → Type 0) → ℕ → List Op → Type 0
Every Q at [] = Unit {0}
Every Q at (o ∷ os) = Q at o × Every Q (suc at) os

module _ (Q : ℕ → Op → Type 0) where
  pub every_join : (at : ℕ) (xs ys : List Op) → Every Q at xs → Every Q (at + length xs) ys → Every Q at (xs ++ ys)
  every_join at [] ys h k = subst (λ n. Every Q n ys) (omega arith) k
  every_join at (x ∷ xs) ys h k =
      (h.0, every_join (suc at) xs ys h.1 (subst (λ n. Every Q n ys) (omega arith) k))

  pub every_at : (at : ℕ) (os : List Op) (k : ℕ) (o : Op) → Every Q at os → slice_get os k ≡ Some o → Q (at + k) o
  every_at at [] k o h is = absurd (none-some o is)
  every_at at (x ∷ os) zero o h is =
      let n : at ≡ at + 0 = omega arith in subst (λ i. Q i o) n (subst (λ p. Q at p) (same_Some x o is) h.0)
  every_at at (x ∷ os) (suc k) o h is =
      let n : suc at + k ≡ at + suc k = omega arith in subst (λ i. Q i o) n (every_at (suc at) os k o h.1 is)

  -- it holds of the code of some blocks where it holds of that of each
  pub every_block : (m : ℕ → ℕ → List Op) (s : ℕ → ℕ) (a p : ℕ) (bs : List Block)
      → ((x : ℕ) → a ≤ x → s x ≡ start_of m a p bs x)
      → ((i : ℕ) (b : Block) → slice_get bs i ≡ Some b
      → Every Q (s (a + i)) (block_code (m (a + i)) (suc (a + i)) s (s (a + i)) b))
      → Every Q p (codes m s a p bs)
  every_block m s a p [] starts h = tt
  every_block m s a p (b ∷ bs) starts h =
      let here : s a ≡ p = starts a (omega arith) ∙ start_low m a p b bs in
      let n : a + 0 ≡ a = omega arith in
      let size : length (block_code (m a) (suc a) s p b) ≡ block_size (m a) (suc a) b =
      size_block (m a) (suc a) s p b in
      every_join p (block_code (m a) (suc a) s p b) (codes m s (suc a) (p + block_size (m a) (suc a) b) bs)
      (subst (λ k. Every Q k (block_code (m a) (suc a) s k b)) here
      (subst (λ k. Every Q (s k) (block_code (m k) (suc k) s (s k) b)) n (h 0 b refl)))
      (subst (λ k. Every Q (p + k) (codes m s (suc a) (p + block_size (m a) (suc a) b) bs)) (sym size)
      (every_block m s (suc a) (p + block_size (m a) (suc a) b) bs
      (λ x le. starts x (omega (arith, le)) ∙ start_high m a p x b bs le)
      (λ i c at. (let k : a + suc i ≡ suc a + i = omega arith in
      subst (λ k. Every Q (s k) (block_code (m k) (suc k) s (s k) c)) k (h (suc i) c at)))))

  pub every_graph : (m : ℕ → ℕ → List Op) (g : Graph) → Every Q 0 (m 0 2)
      → ((i : ℕ) (b : Block) → slice_get g.blocks i ≡ Some b
      → Every Q (starts m g (2 + i)) (block_code (m (2 + i)) (suc (2 + i)) (starts m g) (starts m g (2 + i)) b))
      → Every Q 0 (graph_code m g)
  every_graph m g first h =
      let rest : List Op = codes m (starts m g) 2 (length (m 0 2)) g.blocks in
      every_join 0 (m 0 2) rest first
      (subst (λ n. Every Q n rest) (omega arith)
      (every_block m (starts m g) 2 (length (m 0 2)) g.blocks (λ x le. refl) h))
