-- Records of lines, and the lines of each block.
use Rattle.std.proofs.Common.{◌≡◌, ◌≤◌, ◌<◌, ◌+◌, refl, sym, ap, subst, ◌∙◌, ℕ, zero, suc, Bool, true, false, cond}
use Rattle.std.proofs.Common.{◌==◌, List, [], ◌∷◌, ◌++◌, length, eqb-true, eq-eqb, inl, inr, arith}
use Rattle.std.specs.Prelude.{flat_map}
use Rattle.std.proofs.lemmas.Bool.{cond-false, ne_eqb, cases_lt}
use Rattle.gcov_records.specs.Records.{spelled_from}
use Rattle.gcno_format.specs.Spelling.{lines_record, lines_bytes}
use Rattle.gcno_format.specs.Layout.{LinesValue}
use Rattle.gcno_format.specs.Values.{lines_of, lists_from}

-- records of lines, of ascending blocks from one on and below another
abbrev pub AreRecords : ℕ → ℕ → List LinesValue → Type 0
AreRecords least end [] = Unit {0}
AreRecords least end (r ∷ rs) =
    ((least ≤ r.block) × (r.block < end)) × (0 < length r.lines) × AreRecords (r.block + 1) end rs

abbrev pub record_bytes : LinesValue → List ℕ
record_bytes r = lines_record r.block r.lines

-- later records have no lines of a block
pub no_lines : (b least end : ℕ) (rs : List LinesValue) → b < least → AreRecords least end rs → lines_of b rs ≡ []
no_lines b least end [] lt h = refl
no_lines b least end (r ∷ rs) lt h =
    let below = h.0.0 in
    cond-false (r.block == b) r.lines (lines_of b rs) (ne_eqb r.block b (λ e. absurd (omega (arith, e, below, lt))))
    ∙ no_lines b (r.block + 1) end rs (omega (arith, below, lt)) h.2

-- a record of an earlier block is passed over
pub passed_over : (c n : ℕ) (r : LinesValue) (rs : List LinesValue) → r.block < c
    → lists_from c n (r ∷ rs) ≡ lists_from c n rs
passed_over c zero r rs lt = refl
passed_over c (suc n) r rs lt =
    ap (λ (l : List ℕ). l ∷ lists_from (c + 1) n (r ∷ rs))
    (cond-false (r.block == c) r.lines (lines_of c rs) (ne_eqb r.block c (λ e. absurd (omega (arith, e, lt)))))
    ∙ ap (λ (l : List (List ℕ)). lines_of c rs ∷ l) (passed_over (c + 1) n r rs (omega (arith, lt)))

some_lines : (b : ℕ) (lines : List ℕ) → 0 < length lines → lines_bytes b lines ≡ lines_record b lines
some_lines b [] lt = absurd (omega (arith, lt))
some_lines b (x ∷ xs) lt = refl

weaker : (least other end : ℕ) (rs : List LinesValue) → AreRecords least end rs
    → ((r : LinesValue) → least ≤ r.block → other ≤ r.block) → AreRecords other end rs
weaker least other end [] h w = tt
weaker least other end (r ∷ rs) h w = ((w r h.0.0, h.0.1), h.1, h.2)

-- the lines of the blocks from one on are spelled as the records
pub lists_spelled : (b n end : ℕ) (rs : List LinesValue) → b + n ≡ end → AreRecords b end rs
    → spelled_from b lines_bytes (lists_from b n rs) ≡ flat_map record_bytes rs
lists_spelled b zero end [] e h = refl
lists_spelled b zero end (r ∷ rs) e h = absurd (let l = h.0.0 in let m = h.0.1 in omega (arith, e, l, m))
lists_spelled b (suc n) end [] e h = lists_spelled (b + 1) n end [] (omega (arith, e)) tt
lists_spelled b (suc n) end (r ∷ rs) e h =
    go (r.block == b) refl
    (lists_spelled (b + 1) n end rs (omega (arith, e)))
    (lists_spelled (b + 1) n end (r ∷ rs) (omega (arith, e)))
  where
    here : r.block ≡ b → AreRecords (b + 1) end rs
    here e = subst (λ k. AreRecords (k + 1) end rs) e h.2

    later : (r.block == b) ≡ false → b < r.block
    later t = strict (r.block) b h.0.0 (λ e. (let k : true ≡ false = sym (eq-eqb r.block b e) ∙ t in cc))
      where
        strict : (x y : ℕ) → y ≤ x → (x ≡ y → ⊥) → y < x
        strict x y le ne = elim (cases_lt y x) [
          | inl lt ↦ lt
          | inr ge ↦ absurd (ne (omega (arith, le, ge)))
        ]

    go : (x : Bool) → (r.block == b) ≡ x
        → (AreRecords (b + 1) end rs
        → spelled_from (b + 1) lines_bytes (lists_from (b + 1) n rs) ≡ flat_map record_bytes rs)
        → (AreRecords (b + 1) end (r ∷ rs)
        → spelled_from (b + 1) lines_bytes (lists_from (b + 1) n (r ∷ rs)) ≡ flat_map record_bytes (r ∷ rs))
        → lines_bytes b (cond x r.lines (lines_of b rs))
        ++ spelled_from (b + 1) lines_bytes (lists_from (b + 1) n (r ∷ rs)) ≡ flat_map record_bytes (r ∷ rs)
    go true t ih skip =
        let same = eqb-true r.block b t in
        ap (λ (l : List ℕ). l ++ spelled_from (b + 1) lines_bytes (lists_from (b + 1) n (r ∷ rs)))
        (some_lines b r.lines h.1 ∙ ap (λ k. lines_record k r.lines) (sym same))
        ∙ ap (λ (l : List ℕ). record_bytes r ++ l)
        (ap (λ (l : List (List ℕ)). spelled_from (b + 1) lines_bytes l)
        (passed_over (b + 1) n r rs (omega (arith, same))) ∙ ih (here same))
    go false t ih skip =
        let lt = later t in
        ap (λ (l : List ℕ). lines_bytes b l ++ spelled_from (b + 1) lines_bytes (lists_from (b + 1) n (r ∷ rs)))
        (no_lines b (r.block + 1) end rs (omega (arith, lt)) h.2)
        ∙ skip ((omega (arith, lt), h.0.1), h.1, h.2)
