-- Entries of rows one after another.
use Rattle.std.proofs.Common.{◌≡◌, refl, sym, ap, subst, ◌∙◌, ℕ, suc, zero, ◌+◌, ◌≤◌, ◌<◌, List, [], ◌∷◌, length, get_or, drop, arith}
use Rattle.std.specs.List.{All, fold}
use Rattle.std.proofs.lemmas.List.Elements.{All-head, All-tail}
use native.Mathlib.Numerals.{unary_clauses}
use Rattle.word_rules.specs.WordRules.{BeginEntry, PassEntry, Words, begun, passed, begin_entries, pass_entries}

-- the entry of a begin row at a place
abbrev pub begin_at : List ℕ → ℕ → BeginEntry
begin_at row at = record { word = get_or row at 0; begin = get_or row (at + 1) 0; done = get_or row (at + 2) 0 }

-- the entry of an arc's row at a place
abbrev pub pass_at : List ℕ → ℕ → PassEntry
pass_at row at = record {
  word = get_or row at 0;
  keep = get_or row (at + 1) 0;
  finish = get_or row (at + 2) 0;
  start = get_or row (at + 3) 0;
}

begin_raw : (row : List ℕ) (at : ℕ) → at + 3 ≤ length row → begin_entries (drop at row)
    ≡ record {
      word = get_or row at 0;
      begin = get_or row (suc at) 0;
      done = get_or row
          (suc (suc at)) 0;
    } ∷ begin_entries (drop (suc (suc (suc at))) row)
begin_raw (i ∷ (b ∷ (d ∷ row))) zero l = refl
begin_raw (i ∷ (b ∷ [])) zero l = absurd (omega (arith, l))
begin_raw (i ∷ []) zero l = absurd (omega (arith, l))
begin_raw [] at l = absurd (omega (arith, l))
begin_raw (i ∷ row) (suc at) l = begin_raw row at (omega (arith, l))

pub begin_more : (row : List ℕ) (at : ℕ) → at + 3 ≤ length row
    → begin_entries (drop at row) ≡ begin_at row at ∷ begin_entries (drop (at + 3) row)
begin_more row at l = simp unary_clauses (begin_raw row at l)

pass_raw : (row : List ℕ) (at : ℕ) → at + 4 ≤ length row → pass_entries (drop at row)
    ≡ record {
      word = get_or row at 0;
      keep = get_or row (suc at) 0;
      finish = get_or row (suc (suc at)) 0;
      start =
          get_or row (suc (suc (suc at))) 0;
    } ∷ pass_entries (drop (suc (suc (suc (suc at)))) row)
pass_raw (i ∷ (k ∷ (f ∷ (s ∷ row)))) zero l = refl
pass_raw (i ∷ (k ∷ (f ∷ []))) zero l = absurd (omega (arith, l))
pass_raw (i ∷ (k ∷ [])) zero l = absurd (omega (arith, l))
pass_raw (i ∷ []) zero l = absurd (omega (arith, l))
pass_raw [] at l = absurd (omega (arith, l))
pass_raw (i ∷ row) (suc at) l = pass_raw row at (omega (arith, l))

pub pass_more : (row : List ℕ) (at : ℕ) → at + 4 ≤ length row
    → pass_entries (drop at row) ≡ pass_at row at ∷ pass_entries (drop (at + 4) row)
pass_more row at l = simp unary_clauses (pass_raw row at l)

pub begin_none : (row : List ℕ) (at : ℕ) → length row < at + 3 → begin_entries (drop at row) ≡ []
begin_none (i ∷ (b ∷ (d ∷ row))) zero l = absurd (omega (arith, l))
begin_none (i ∷ (b ∷ [])) zero l = refl
begin_none (i ∷ []) zero l = refl
begin_none [] zero l = refl
begin_none [] (suc at) l = refl
begin_none (i ∷ row) (suc at) l = begin_none row at (omega (arith, l))

pub pass_none : (row : List ℕ) (at : ℕ) → length row < at + 4 → pass_entries (drop at row) ≡ []
pass_none (i ∷ (k ∷ (f ∷ (s ∷ row)))) zero l = absurd (omega (arith, l))
pass_none (i ∷ (k ∷ (f ∷ []))) zero l = refl
pass_none (i ∷ (k ∷ [])) zero l = refl
pass_none (i ∷ []) zero l = refl
pass_none [] zero l = refl
pass_none [] (suc at) l = refl
pass_none (i ∷ row) (suc at) l = pass_none row at (omega (arith, l))

-- one entry more of a begin row
pub begin_step : (row : List ℕ) (at : ℕ) (old new whole : Words) → at + 3 ≤ length row
    → begun old (begin_at row at) ≡ new → fold begun old (begin_entries (drop at row)) ≡ whole
    → fold begun new (begin_entries (drop (at + 3) row)) ≡ whole
begin_step row at old new whole l e h =
    sym (ap (λ ws. fold begun ws (begin_entries (drop (at + 3) row))) e)
    ∙ sym (ap (λ (es : List BeginEntry). fold begun old es) (begin_more row at l)) ∙ h

-- one entry more of the row of an arc
pub pass_step : (row : List ℕ) (at : ℕ) (old new whole : Words) → at + 4 ≤ length row
    → passed old (pass_at row at) ≡ new → fold passed old (pass_entries (drop at row)) ≡ whole
    → fold passed new (pass_entries (drop (at + 4) row)) ≡ whole
pass_step row at old new whole l e h =
    sym (ap (λ ws. fold passed ws (pass_entries (drop (at + 4) row))) e)
    ∙ sym (ap (λ (es : List PassEntry). fold passed old es) (pass_more row at l)) ∙ h

-- the entries that are left name words that are there
pub begin_within : (row : List ℕ) (at n m : ℕ) → at + 3 ≤ length row → n ≡ m
    → All (λ e. e.word < m) (begin_entries (drop at row))
    → (get_or row at 0 < m) × All (λ e. e.word < n) (begin_entries (drop (at + 3) row))
begin_within row at n m l same h =
    let parts : All (λ e. e.word < m) (begin_at row at ∷ begin_entries (drop (at + 3) row)) =
    subst (λ es. All (λ e. e.word < m) es) (begin_more row at l) h in (
      All-head (λ e. e.word < m) (begin_at row at) (begin_entries (drop (at + 3) row)) parts,
      subst (λ k. All (λ e. e.word < k) (begin_entries (drop (at + 3) row))) (sym same)
          (All-tail (λ e. e.word < m) (begin_at row at) (begin_entries (drop (at + 3) row)) parts),
    )

pub pass_within : (row : List ℕ) (at n m : ℕ) → at + 4 ≤ length row → n ≡ m
    → All (λ e. e.word < m) (pass_entries (drop at row))
    → (get_or row at 0 < m) × All (λ e. e.word < n) (pass_entries (drop (at + 4) row))
pass_within row at n m l same h =
    let parts : All (λ e. e.word < m) (pass_at row at ∷ pass_entries (drop (at + 4) row)) =
    subst (λ es. All (λ e. e.word < m) es) (pass_more row at l) h in (
      All-head (λ e. e.word < m) (pass_at row at) (pass_entries (drop (at + 4) row)) parts,
      subst (λ k. All (λ e. e.word < k) (pass_entries (drop (at + 4) row))) (sym same)
          (All-tail (λ e. e.word < m) (pass_at row at) (pass_entries (drop (at + 4) row)) parts),
    )

-- none is left
pub begin_end : (row : List ℕ) (at : ℕ) (last whole : Words) → length row < at + 3
    → fold begun last (begin_entries (drop at row)) ≡ whole → whole ≡ last
begin_end row at last whole l h = sym h ∙ ap (λ (es : List BeginEntry). fold begun last es) (begin_none row at l)

pub pass_end : (row : List ℕ) (at : ℕ) (last whole : Words) → length row < at + 4
    → fold passed last (pass_entries (drop at row)) ≡ whole → whole ≡ last
pass_end row at last whole l h = sym h ∙ ap (λ (es : List PassEntry). fold passed last es) (pass_none row at l)
