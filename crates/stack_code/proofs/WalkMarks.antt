-- Walks that go on, and their marks.
use Rattle.std.proofs.Common.{◌≡◌, refl, sym, ap, ◌∙◌, ℕ, zero, suc, ◌<◌, List, [], ◌∷◌, ◌++◌}
use Rattle.std.proofs.Common.{length, map, Some, arith, append_assoc}
use Rattle.std.specs.Prelude.{slice_get}
use Rattle.std.proofs.lemmas.Option.{same_Some}
use Rattle.cov_base.specs.Walks.{Walk}
use Rattle.stack_ops.specs.declared.operation.Op.{Op}
use Rattle.code_runs.specs.CodeRun.{Marked, at_index}
use Rattle.flow_graph.specs.WalkRun.{walk_on}
use Rattle.stack_code.specs.Agreement.{along_from, along, marks_of}

-- the marks of a walk that goes on from its last block
along_from_on : (m : ℕ → ℕ → List Op) (x : ℕ) (front : List ℕ) (a b : ℕ)
    → along_from m x ((front ++ a ∷ []) ++ b ∷ []) ≡ along_from m x (front ++ a ∷ []) ++ (m a b ++ [])
along_from_on m x [] a b = sym (append_assoc (m x a) [] (m a b ++ []))
along_from_on m x (y ∷ front) a b = ap (λ l. m x y ++ l) (along_from_on m y front a b)
    ∙ sym (append_assoc (m x y) (along_from m y (front ++ a ∷ [])) (m a b ++ []))

append_nil : {A : Type 0} (xs : List A) → xs ++ [] ≡ xs
append_nil [] = refl
append_nil (x ∷ xs) = ap (λ l. x ∷ l) (append_nil xs)

pub along_on : (m : ℕ → ℕ → List Op) (front : List ℕ) (a b : ℕ)
    → along m ((front ++ a ∷ []) ++ b ∷ []) ≡ along m (front ++ a ∷ []) ++ m a b
along_on m [] a b = append_nil (m a b)
along_on m (x ∷ front) a b = rw (along_from_on m x front a b, append_nil (m a b)) refl

-- what a call of a function has marked
abbrev pub marked_so : ℕ → List Op → Marked
marked_so f os = record { function = f; ops = os }

-- a call that has marked more
abbrev pub adds : List Op → Marked → Marked
adds os k = record k { ops = k.ops ++ os }

-- the walk of this number is one of the function, and has come to the block
pub record Open (walks : List Walk) (n f a : ℕ) : Type 0 where
  pub front : List ℕ
  pub there : slice_get walks n ≡ Some (record { function = f; blocks = front ++ a ∷ [] })

-- it goes on
pub Open_on : (walks : List Walk) (n f a b : ℕ) → Open walks n f a → Open (walk_on n b walks) n f b
Open_on [] n f a b o = absurd (cc)
Open_on (w ∷ ws) zero f a b o = record {
  front = o.front ++ a ∷ [];
  there =
      ap Some (ap (λ (v : Walk). record v { blocks = v.blocks ++ b ∷ [] }) (same_Some w _ o.there));
}
Open_on (w ∷ ws) (suc n) f a b o = let h = Open_on ws n f a b (record { front = o.front; there = o.there }) in
    record { front = h.front; there = h.there }

-- the others stay
pub other_stays : (walks : List Walk) (n m b : ℕ) → m < n → slice_get (walk_on n b walks) m ≡ slice_get walks m
other_stays [] n m b lt = refl
other_stays (w ∷ ws) zero m b lt = absurd (omega (arith, lt))
other_stays (w ∷ ws) (suc n) zero b lt = refl
other_stays (w ∷ ws) (suc n) (suc m) b lt = other_stays ws n m b (omega (arith, lt))

pub added_stays : (walks : List Walk) (w : Walk) (m : ℕ) → m < length walks
    → slice_get (walks ++ w ∷ []) m ≡ slice_get walks m
added_stays [] w m lt = absurd (omega (arith, lt))
added_stays (v ∷ walks) w zero lt = refl
added_stays (v ∷ walks) w (suc m) lt = added_stays walks w m (omega (arith, lt))

pub added_there : (walks : List Walk) (w : Walk) → slice_get (walks ++ w ∷ []) (length walks) ≡ Some w
added_there [] w = refl
added_there (v ∷ walks) w = added_there walks w

pub Open_within : (walks : List Walk) (n f a : ℕ) → Open walks n f a → n < length walks
Open_within [] n f a o = absurd (cc)
Open_within (w ∷ ws) zero f a o = omega arith
Open_within (w ∷ ws) (suc n) f a o = let h = Open_within ws n f a (record { front = o.front; there = o.there }) in
    omega (arith, h)

-- The marks of all walks, when one goes on.
pub marks_on : (m : ℕ → ℕ → ℕ → List Op) (walks : List Walk) (n f a b : ℕ) → Open walks n f a
    → at_index (adds (m f a b)) n (map (marks_of m) walks) ≡ map (marks_of m) (walk_on n b walks)
marks_on m [] n f a b o = refl
marks_on m (w ∷ ws) zero f a b o =
    ap (λ (ms : Marked). ms ∷ map (marks_of m) ws) (by w o.front (same_Some w _ o.there))
  where
    by : (v : Walk) (front : List ℕ) → v ≡ record { function = f; blocks = front ++ a ∷ [] }
        → adds (m f a b) (marks_of m v) ≡ marks_of m (record v { blocks = v.blocks ++ b ∷ [] })
    by v front e =
        rw e (ap (λ (os : List Op). marked_so f os) (sym (along_on (m f) front a b)))
marks_on m (w ∷ ws) (suc n) f a b o = ap (λ l. marks_of m w ∷ l)
    (marks_on m ws n f a b (record { front = o.front; there = o.there }))

-- nothing is marked on the way into the exit
pub at_index_nothing : (n : ℕ) (xs : List Marked) → at_index (adds []) n xs ≡ xs
at_index_nothing n [] = refl
at_index_nothing zero (x ∷ xs) = ap (λ (os : List Op). marked_so x.function os ∷ xs) (append_nil x.ops)
at_index_nothing (suc n) (x ∷ xs) = ap (λ l. x ∷ l) (at_index_nothing n xs)

pub at_index_twice : (n : ℕ) (os ps : List Op) (xs : List Marked)
    → at_index (adds ps) n (at_index (adds os) n xs) ≡ at_index (adds (os ++ ps)) n xs
at_index_twice n os ps [] = refl
at_index_twice zero os ps (x ∷ xs) =
    ap (λ (qs : List Op). marked_so x.function qs ∷ xs) (append_assoc x.ops os ps)
at_index_twice (suc n) os ps (x ∷ xs) = ap (λ l. x ∷ l) (at_index_twice n os ps xs)

pub marks_exit : (m : ℕ → ℕ → ℕ → List Op) (walks : List Walk) (n f a : ℕ) → m f a 1 ≡ [] → Open walks n f a
    → map (marks_of m) walks ≡ map (marks_of m) (walk_on n 1 walks)
marks_exit m walks n f a e o = sym (at_index_nothing n _) ∙ (rw (sym e) (marks_on m walks n f a 1 o))

pub marks_added : (m : ℕ → ℕ → ℕ → List Op) (walks : List Walk) (w : Walk)
    → map (marks_of m) (walks ++ w ∷ []) ≡ map (marks_of m) walks ++ marks_of m w ∷ []
marks_added m [] w = refl
marks_added m (v ∷ walks) w = ap (λ l. marks_of m v ∷ l) (marks_added m walks w)
