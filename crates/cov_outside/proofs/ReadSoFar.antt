-- The bytes that the reads so far took.
use Rattle.std.proofs.Common.{◌≡◌, ℕ, ◌+◌, ◌<◌, List, [], ◌++◌, length, take, drop, refl, sym, ◌∙◌, ap, subst, append_assoc, append-nil, arith}
use Rattle.std.specs.Prelude.{Option, Some, None, Ok, Err, Vec}
use Rattle.std.specs.Global.{Global}
use Rattle.std.proofs.lemmas.List.{drop-append-le, drop_all, length-append, take-append-drop}
use Rattle.cov_outside.specs.Outside.{Reads, ReadsAll, TakesSome}
use Rattle.cov_outside.specs.FileCalls.{ReadsRest}
use Rattle.cov_outside.specs.declared.faults.ReadRefusal.TheVariants as read_refusal
use Rattle.cov_outside.specs.declared.faults.LoadFault.TheVariants as load_fault

-- these bytes were taken, where told
abbrev pub ReadSoFar : Option (List ℕ) → Option (List ℕ) → List ℕ → Type 0
ReadSoFar None now done = now ≡ None
ReadSoFar (Some whole) None done = ⊥
ReadSoFar (Some whole) (Some rest) done = whole ≡ done ++ rest

-- before the first read
pub ReadSoFar-none : (whole : Option (List ℕ)) → ReadSoFar whole whole []
ReadSoFar-none None = refl
ReadSoFar-none (Some whole) = refl

-- a further read
pub ReadSoFar-more : (E : Type 0) (whole now next : Option (List ℕ)) (done piece : List ℕ) (n : ℕ) → ReadSoFar whole now done → Reads {E = E} now next (Ok n) piece → ReadSoFar whole next (done ++ take n piece)
ReadSoFar-more E None None next done piece n h k = k
ReadSoFar-more E None (Some now) next done piece n h k = absurd (cc)
ReadSoFar-more E (Some whole) None next done piece n h k = absurd h
ReadSoFar-more E (Some whole) (Some now) next done piece n h k =
    subst (λ o. ReadSoFar (Some whole) o (done ++ take n piece)) (sym k.rest)
    (h ∙ (ap (λ xs. done ++ xs) (sym (take-append-drop n now)) ∙ (sym (append_assoc done (take n now) (drop n now)) ∙ ap (λ xs. (done ++ xs) ++ drop n now) (sym k.front))))

-- at the end
pub ReadSoFar-end : (E : Type 0) (whole now next : Option (List ℕ)) (bytes : Vec ℕ Global) (piece : List ℕ) (n limit : ℕ) → 0 < length piece → n ≡ 0 → ReadSoFar whole now bytes.items
    → Reads {E = E} now next (Ok n) piece → ReadsRest whole limit (Ok bytes)
ReadSoFar-end E None now next bytes piece n limit room zero h k = tt
ReadSoFar-end E (Some whole) None next bytes piece n limit room zero h k = absurd h
ReadSoFar-end E (Some whole) (Some now) next bytes piece n limit room zero h k =
    let no_rest : now ≡ [] = (k.ends room).0 zero in
    sym (h ∙ (ap (λ xs. bytes.items ++ xs) no_rest ∙ append-nil bytes.items))

-- past the limit
pub ReadSoFar-long : (whole now : Option (List ℕ)) (done : List ℕ) (limit : ℕ) → limit < length done → ReadSoFar whole now done → ReadsRest whole limit (Err load_fault.TooLong)
ReadSoFar-long None now done limit long h = tt
ReadSoFar-long (Some whole) None done limit long h = absurd h
ReadSoFar-long (Some whole) (Some rest) done limit long h = omega (arith, ap length h, length-append done rest)

-- what is left behind the bytes that were taken
behind : (whole done rest : List ℕ) → whole ≡ done ++ rest → rest ≡ drop (length done) whole
behind whole done rest e =
    sym (ap (drop (length done)) e
    ∙ (drop-append-le (length done) done rest (omega arith) ∙ ap (λ front. front ++ rest) (drop_all (length done) done (omega arith))))

-- some bytes were taken
pub takes_some : (whole now : Option (List ℕ)) (before done : List ℕ) → whole ≡ Some before → ReadSoFar whole now done
    → TakesSome before now
takes_some None now before done e h = absurd (cc)
takes_some (Some whole) None before done e h = absurd h
takes_some (Some whole) (Some rest) before done e h =
    let same : whole ≡ before = cc in
    let all : before ≡ done ++ rest = sym same ∙ h in
    (length done, omega (arith, ap length all, length-append done rest), ap Some (behind before done rest all))

-- at the end all bytes were read
pub ReadAll-end : (E : Type 0) (whole now next : Option (List ℕ)) (bytes : Vec ℕ Global) (piece : List ℕ) (n limit : ℕ)
    → 0 < length piece → n ≡ 0 → ReadSoFar whole now bytes.items → Reads {E = E} now next (Ok n) piece
    → ReadsAll whole next limit (Ok bytes)
ReadAll-end E None None next bytes piece n limit room zero h k = k
ReadAll-end E None (Some now) next bytes piece n limit room zero h k = absurd (cc)
ReadAll-end E (Some whole) None next bytes piece n limit room zero h k = absurd h
ReadAll-end E (Some whole) (Some now) next bytes piece n limit room zero h k =
    let no_rest : now ≡ [] = (k.ends room).0 zero in (
      sym (h ∙ (ap (λ xs. bytes.items ++ xs) no_rest ∙ append-nil bytes.items)),
      k.rest ∙ ap Some (ap (drop n) no_rest ∙ drop_all n [] (omega arith)),
    )

-- past the limit, the limit and one more byte were taken
pub ReadAll-long : (whole now : Option (List ℕ)) (done : List ℕ) (limit : ℕ) → length done ≡ limit + 1 → ReadSoFar whole now done
    → ReadsAll whole now limit (Err read_refusal.TooLong)
ReadAll-long None now done limit long h = h
ReadAll-long (Some whole) None done limit long h = absurd h
ReadAll-long (Some whole) (Some rest) done limit long h = (
  omega (arith, ap length h, length-append done rest, long),
  ap Some (behind whole done rest h ∙ ap (λ n. drop n whole) long),
)

-- where a read failed or memory ran out, some bytes were taken
pub ReadAll-failed : (whole now : Option (List ℕ)) (done : List ℕ) (limit : ℕ) → ReadSoFar whole now done
    → ReadsAll whole now limit (Err read_refusal.Failed)
ReadAll-failed None now done limit h = h
ReadAll-failed (Some whole) now done limit h = takes_some (Some whole) now whole done refl h

pub ReadAll-wanting : (whole now : Option (List ℕ)) (done : List ℕ) (limit : ℕ) → ReadSoFar whole now done
    → ReadsAll whole now limit (Err read_refusal.NoMemory)
ReadAll-wanting None now done limit h = h
ReadAll-wanting (Some whole) now done limit h = takes_some (Some whole) now whole done refl h

-- a read that failed took nothing
pub ReadSoFar-failed : (E : Type 0) (whole now next : Option (List ℕ)) (done piece : List ℕ) (e : E) → ReadSoFar whole now done
    → Reads {E = E} now next (Err e) piece → ReadSoFar whole next done
ReadSoFar-failed E None None next done piece e h k = k
ReadSoFar-failed E None (Some now) next done piece e h k = absurd (cc)
ReadSoFar-failed E (Some whole) None next done piece e h k = absurd h
ReadSoFar-failed E (Some whole) (Some now) next done piece e h k = subst (λ o. ReadSoFar (Some whole) o done) (sym k) h
