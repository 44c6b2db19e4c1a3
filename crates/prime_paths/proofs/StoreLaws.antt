-- One list more in a flat store.
use Rattle.std.proofs.Common.{◌≡◌, refl, ap, ap₂, ◌∙◌, ℕ, ◌-◌, ◌≤◌, List, [], ◌∷◌, ◌++◌, length, take, drop, arith, take_all, length-drop, length-append, append_assoc, slice_range, Ok, Err}
use Rattle.std.specs.Prelude.{Result, OnErr}
use Rattle.std.proofs.Math.Seq.{drop-append_seam}
use Rattle.std.proofs.lemmas.List.{take-append-le, drop-append-le}
use Rattle.std.proofs.lemmas.List.Elements.{All-head, All-tail}
use Rattle.prime_paths.specs.declared.store.Span.{Span}
use Rattle.prime_paths.specs.Store.{pieces, AreWithin}

-- the places of a list
abbrev pub span : ℕ → ℕ → Span
span from to = record { from = from; to = to }

span_more : (bs p : List ℕ) (a b : ℕ) → a ≤ b → b ≤ length bs → slice_range (bs ++ p) a b ≡ slice_range bs a b
span_more bs p a b l m =
    let k = length-drop a bs in
    ap (λ (x : List ℕ). take (b - a) x) (drop-append-le a bs p (omega (arith, l, m)))
    ∙ take-append-le (b - a) (drop a bs) p (omega (arith, k, l, m))

pub pieces_more : (bs p : List ℕ) (ss : List Span) → AreWithin bs ss → pieces (bs ++ p) ss ≡ pieces bs ss
pieces_more bs p [] h = refl
pieces_more bs p (s ∷ ss) h =
    let w = All-head (λ s. (s.from ≤ s.to) × (s.to ≤ length bs)) s ss h in
    ap₂ (λ (x : List ℕ) (l : List (List ℕ)). x ∷ l) (span_more bs p s.from s.to w.0 w.1)
    (pieces_more bs p ss (All-tail (λ s. (s.from ≤ s.to) × (s.to ≤ length bs)) s ss h))

pieces_behind : (bs : List ℕ) (ss : List Span) (s : Span) → pieces bs (ss ++ s ∷ [])
    ≡ pieces bs ss ++ slice_range bs s.from s.to ∷ []
pieces_behind bs [] s = refl
pieces_behind bs (x ∷ ss) s = ap (λ (l : List (List ℕ)). slice_range bs x.from x.to ∷ l) (pieces_behind bs ss s)

last_piece : (bs p : List ℕ) → slice_range (bs ++ p) (length bs) (length (bs ++ p)) ≡ p
last_piece bs p =
    let a = length-append bs p in
    ap (λ (x : List ℕ). take (length (bs ++ p) - length bs) x) (drop-append_seam bs p)
    ∙ take_all (length (bs ++ p) - length bs) p (omega (arith, a))

-- blocks behind the store and a span over them are one list more
pub added : (bs p : List ℕ) (ss : List Span) → AreWithin bs ss
    → pieces (bs ++ p) (ss ++ span (length bs) (length (bs ++ p)) ∷ []) ≡ pieces bs ss ++ p ∷ []
added bs p ss h =
    pieces_behind (bs ++ p) ss (span (length bs) (length (bs ++ p)))
    ∙ ap₂ (λ (l : List (List ℕ)) (x : List ℕ). l ++ x ∷ []) (pieces_more bs p ss h) (last_piece bs p)

-- a front and a rest behind the store, and a span over both
pub added_parts : (bs front rest last : List ℕ) (ss : List Span) (from to : ℕ) → AreWithin bs ss
    → last ≡ (bs ++ front) ++ rest → from ≡ length bs → to ≡ length last
    → pieces last (ss ++ span from to ∷ []) ≡ pieces bs ss ++ (front ++ rest) ∷ []
added_parts bs front rest last ss from to h e f t =
    let whole : last ≡ bs ++ (front ++ rest) = e ∙ append_assoc bs front rest in
    ap₂ (λ (l : List ℕ) (s : Span). pieces l (ss ++ s ∷ [])) whole
    (ap₂ (λ a b. span a b) f (t ∙ ap (λ (l : List ℕ). length l) whole))
    ∙ added bs (front ++ rest) ss h

-- what stands anyway stands after an error
pub on_err : {T F : Type 0} (r : Result T F) (P : Type 0) → P → OnErr r P
on_err (Ok x) P h = tt
on_err (Err e) P h = h
