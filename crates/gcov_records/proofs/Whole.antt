-- A format that is spelled and read so is exact.
use Rattle.std.proofs.Common.{◌≡◌, ◌≢◌, ℕ, zero, suc, ◌+◌, ◌<◌, ◌==◌, Bool, true, false, cond, List, [], ◌∷◌}
use Rattle.std.proofs.Common.{◌++◌, length}
use Rattle.std.proofs.Common.{Result, Ok, Err, refl, sym, ap, subst, ◌∙◌, append-nil, arith, eqb-true, eq-eqb}
use Rattle.std.proofs.lemmas.Bool.{cond-true, cond-false, ne_eqb}
use Rattle.std.proofs.lemmas.List.{nil_from_length, length-append}
use Rattle.gcov_records.specs.declared.fault.FileFault.{FileFault}
use Rattle.gcov_records.specs.declared.fault.FileFault.TheVariants as fault
use Rattle.gcov_records.specs.Reading.{Got, Reading, ended, whole}
use Rattle.gcov_records.specs.Exact.{IsExact, IsFront, HasMore}
use Rattle.gcov_records.proofs.Steady.{Steady, Holds, Fails, behind}
use Rattle.gcov_records.proofs.Spelled.{IsBytes, Spells, ok_is}

abbrev failed : (A : Type 0) → FileFault → Result A FileFault
failed A found = Err found

not_nil_left : (xs ys : List ℕ) → xs ++ ys ≡ [] → ys ≡ []
not_nil_left xs ys e = nil_from_length ys (let l = length-append xs ys in let k = ap length e in omega (arith, l, k))

-- the end of what was read
end_ok : {A : Type 0} (n at : ℕ) (v x : A) → cond (n == 0) (Ok v) (Err (fault.Extra at)) ≡ Ok x → (n ≡ 0) × (v ≡ x)
end_ok {A} n at v x e = go (n == 0) refl e
  where
    go : (b : Bool) → (n == 0) ≡ b → cond b (Ok v) (Err (fault.Extra at)) ≡ Ok x → (n ≡ 0) × (v ≡ x)
    go true t e = (eqb-true n 0 t, ok_is v x e)
    go false t e = absurd cc

short_is : (A : Type 0) (m n : ℕ) → failed A (fault.Short m) ≡ failed A (fault.Short n) → m ≡ n
short_is A m n e = cc

end_err : {A : Type 0} (n at : ℕ) (v : A) (found : FileFault)
    → cond (n == 0) (Ok v) (Err (fault.Extra at)) ≡ Err found → (n ≢ 0) × (found ≡ fault.Extra at)
end_err {A} n at v found e = go (n == 0) refl e
  where
    go : (b : Bool) → (n == 0) ≡ b → cond b (Ok v) (Err (fault.Extra at)) ≡ Err found
        → (n ≢ 0) × (found ≡ fault.Extra at)
    go true t e = absurd cc
    go false t e = ((λ z. (let h : true ≡ false = sym (eq-eqb n 0 z) ∙ t in cc)), cc)

pub is_exact : {A : Type 0} (file : Reading A) (spell : A → List ℕ) (Fits : A → Type 0) → Spells file spell Fits
    → Steady file → (bytes : List ℕ) → IsBytes bytes → IsExact Fits spell bytes (whole file bytes)
is_exact {A} file spell Fits s steady bytes fits = record {
  ok = λ x e. ok (file bytes 0) refl x e;
  only = only;
  front = λ f. front f (file bytes 0) (steady.holds bytes 0) refl;
  short = λ n e. short n (file bytes 0) (steady.holds bytes 0) e;
  extra = λ n e. extra n (file bytes 0) (steady.holds bytes 0) refl e;
  more = more_;
}
  where
    ok : (o : Result (Got A) FileFault) → file bytes 0 ≡ o → (x : A) → ended o ≡ Ok x → Fits x × (bytes ≡ spell x)
    ok (Err f) e x h = absurd cc
    ok (Ok g) e x h =
        let p = end_ok (length g.rest) g.at g.value x h in
        let t = s.takes bytes 0 g fits e in
        subst (λ y. Fits y × (bytes ≡ spell y)) p.1 (
          t.1,
          t.0 ∙ (ap (λ (l : List ℕ). spell g.value ++ l) (nil_from_length g.rest p.0) ∙ append-nil (spell g.value)),
        )

    only : (x : A) → Fits x → bytes ≡ spell x → whole file bytes ≡ Ok x
    only x h e = ap (λ (l : List ℕ). ended (file l 0)) (e ∙ sym (append-nil (spell x))) ∙ ap ended (s.again x [] 0 h)

    front : IsFront Fits spell bytes → (o : Result (Got A) FileFault) → Holds file bytes 0 o → file bytes 0 ≡ o
        → ended o ≡ Err (fault.Short (length bytes))
    front f o h e = by o h
      where
        complete : file (bytes ++ f.more) 0 ≡ Ok (record {
          value = f.value;
          rest = [];
          at = 0 + length (spell
              f.value);
        })
        complete = ap (λ (l : List ℕ). file l 0) (f.parts ∙ sym (append-nil (spell f.value)))
            ∙ s.again f.value [] 0 f.fits

        never : Fails (file (bytes ++ f.more) 0) → ⊥
        never k = subst Fails complete k

        by : (o : Result (Got A) FileFault) → Holds file bytes 0 o → ended o ≡ Err (fault.Short (length bytes))
        by (Ok g) h = absurd (f.some (not_nil_left g.rest f.more
            (ap (λ (k : Got A). k.rest) (ok_is (behind g f.more)
            (record { value = f.value; rest = []; at = 0 + length (spell f.value) }) (sym (h.0 f.more) ∙ complete)))))
        by (Err (fault.Short n)) h = ap (λ n. Err (fault.Short n)) (omega (arith, h))
        by (Err (fault.Extra n)) h = absurd h
        by (Err (fault.Magic n)) h = absurd (never (h f.more))
        by (Err (fault.Version n)) h = absurd (never (h f.more))
        by (Err (fault.Tag n)) h = absurd (never (h f.more))
        by (Err (fault.Length n)) h = absurd (never (h f.more))
        by (Err (fault.Text n)) h = absurd (never (h f.more))
        by (Err (fault.Order n)) h = absurd (never (h f.more))
        by (Err (fault.Net n)) h = absurd (never (h f.more))
        by (Err (fault.Number n)) h = absurd (never (h f.more))

    short : (n : ℕ) (o : Result (Got A) FileFault) → Holds file bytes 0 o → ended o ≡ Err (fault.Short n)
        → n ≡ length bytes
    short n (Ok g) h e = absurd (let p = (end_err (length g.rest) g.at g.value (fault.Short n) e).1 in cc)
    short n (Err (fault.Short m)) h e =
        let same : m ≡ n = short_is A m n e in
        omega (arith, same, h)
    short n (Err (fault.Extra m)) h e = absurd h
    short n (Err (fault.Magic m)) h e = absurd cc
    short n (Err (fault.Version m)) h e = absurd cc
    short n (Err (fault.Tag m)) h e = absurd cc
    short n (Err (fault.Length m)) h e = absurd cc
    short n (Err (fault.Text m)) h e = absurd cc
    short n (Err (fault.Order m)) h e = absurd cc
    short n (Err (fault.Net m)) h e = absurd cc
    short n (Err (fault.Number m)) h e = absurd cc

    extra : (n : ℕ) (o : Result (Got A) FileFault) → Holds file bytes 0 o → file bytes 0 ≡ o
        → ended o ≡ Err (fault.Extra n) → HasMore Fits spell bytes n
    extra n (Ok g) h k e =
        let p = end_err (length g.rest) g.at g.value (fault.Extra n) e in
        let t = s.takes bytes 0 g fits k in
        let at : n ≡ g.at = (let q = p.1 in cc) in
        let size = ap length t.0 in
        let parts = length-append (spell g.value) g.rest in
        let here = h.1 in
        record {
          value = g.value;
          fits = t.1;
          more = g.rest;
          some = λ z. p.0 (ap length z);
          parts = t.0;
          size = omega (arith, at, size, parts, here);
        }
    extra n (Err (fault.Extra m)) h k e = absurd h
    extra n (Err (fault.Short m)) h k e = absurd cc
    extra n (Err (fault.Magic m)) h k e = absurd cc
    extra n (Err (fault.Version m)) h k e = absurd cc
    extra n (Err (fault.Tag m)) h k e = absurd cc
    extra n (Err (fault.Length m)) h k e = absurd cc
    extra n (Err (fault.Text m)) h k e = absurd cc
    extra n (Err (fault.Order m)) h k e = absurd cc
    extra n (Err (fault.Net m)) h k e = absurd cc
    extra n (Err (fault.Number m)) h k e = absurd cc

    more_ : (n : ℕ) → HasMore Fits spell bytes n → whole file bytes ≡ Err (fault.Extra n)
    more_ n m =
        ap (λ (l : List ℕ). ended (file l 0)) m.parts
        ∙ (ap ended (s.again m.value m.more 0 m.fits)
        ∙ (cond-false (length m.more == 0) (Ok m.value) (Err (fault.Extra (0 + length (spell m.value))))
        (ne_eqb (length m.more) 0 (λ z. m.some (nil_from_length m.more z)))
        ∙ ap (λ k. Err (fault.Extra k)) (let e = m.size in omega (arith, e))))
