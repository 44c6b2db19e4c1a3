-- How the calls on files join.
use Rattle.std.proofs.Common.{◌≡◌, ◌≢◌, ℕ, ◌+◌, List, [], ◌++◌, length, take, refl, sym, ◌∙◌, ap, subst, append_assoc, append-nil, arith}
use Rattle.std.specs.Prelude.{Option, Some, None, Result, Ok, Err, codes}
use Rattle.std.proofs.lemmas.List.{length-append}
use Rattle.std.proofs.Math.Seq.{take-add, take-length}
use Rattle.cov_outside.specs.Outside.{Files, Reads}
use Rattle.cov_outside.specs.declared.faults.CallFault.{CallFault}
use Rattle.cov_outside.specs.FileCalls.{Told, Puts, KeepsOthers, Creates, Appends, AppendsAll, Renames, ReplacesFile, beside}
use Rattle.cov_outside.proofs.Whole.{rest_from, rest_is}

-- a read after one that took nothing
pub Reads-again : {E : Type 0} (a b c : Option (List ℕ)) (fault : E) (result : Result ℕ E) (x y : List ℕ) → Reads a b (Err fault) x → Reads b c result y → Reads a c result y
Reads-again None b c fault result x y h k = subst (λ o. Reads o c result y) h k
Reads-again (Some before) b c fault result x y h k = subst (λ o. Reads o c result y) h k

-- two facts, one after the other
pub Told-join : (P Q R : Files → Files → Type 0) → ((x y z : Files) → P x y → Q y z → R x z) → (a b c : Option Files) → Told P a b → Told Q b c → Told R a c
Told-join P Q R join None None c h k = k
Told-join P Q R join None (Some y) c h k = absurd (cc)
Told-join P Q R join (Some x) None c h k = absurd h
Told-join P Q R join (Some x) (Some y) None h k = absurd k
Told-join P Q R join (Some x) (Some y) (Some z) h k = join x y z h k

-- a fact that holds where the files stand
pub Told-same : (P : Files → Files → Type 0) → ((x : Files) → P x x) → (a b : Option Files) → b ≡ a → Told P a b
Told-same P same a b e = subst (Told P a) (sym e) (here a)
  where
    here : (a : Option Files) → Told P a a
    here None = refl
    here (Some x) = same x

-- a weaker fact
pub Told-weaker : (P Q : Files → Files → Type 0) → ((x y : Files) → P x y → Q x y) → (a b : Option Files) → Told P a b → Told Q a b
Told-weaker P Q weaker None b h = h
Told-weaker P Q weaker (Some x) None h = absurd h
Told-weaker P Q weaker (Some x) (Some y) h = weaker x y h

-- bytes put after other bytes were put
pub Puts-join : (name first second : List ℕ) (x y z : Files) → KeepsOthers name x y → Puts name second y z → Puts name second x z
Puts-join name first second x y z h k = record { there = k.there; others = λ other apart. k.others other apart ∙ h other apart }

-- a write after one that put nothing
pub Appends-again : (name piece : List ℕ) (fault : CallFault) (result : Result ℕ CallFault) (x y z : Files) → Appends name (Err fault) piece x y → Appends name result piece y z → Appends name result piece x z
Appends-again name piece fault (Ok n) x y z h k = λ old is. Puts-join name [] _ x y z (λ other apart. h other) (k old (h name ∙ is))
Appends-again name piece fault (Err other_fault) x y z h k = λ other. k other ∙ h other

-- no byte put is no change
pub AppendsAll-none : (name : List ℕ) (x : Files) → AppendsAll name (Ok tt) [] x x
AppendsAll-none name x = λ old is. record { there = is ∙ ap Some (sym (append-nil old)); others = λ other apart. refl }

-- a further piece put
pub AppendsAll-more : (name bytes : List ℕ) (at n : ℕ) (x y z : Files) → AppendsAll name (Ok tt) (take at bytes) x y → Appends name (Ok n) (rest_from at bytes) y z
    → AppendsAll name (Ok tt) (take (at + n) bytes) x z
AppendsAll-more name bytes at n x y z h k = λ old is.
    let first = h old is in
    let next = k (old ++ take at bytes) first.there in
    let same : (old ++ take at bytes) ++ take n (rest_from at bytes) ≡ old ++ take (at + n) bytes = rw (rest_is at bytes, take-add at n bytes) (append_assoc old (take at bytes) (take n _)) in
    record { there = next.there ∙ ap Some same; others = λ other apart. next.others other apart ∙ first.others other apart }

-- all pieces put
pub AppendsAll-end : (name bytes : List ℕ) (at : ℕ) (x y : Files) → at ≡ length bytes → AppendsAll name (Ok tt) (take at bytes) x y → AppendsAll name (Ok tt) bytes x y
AppendsAll-end name bytes at x y e h = subst (λ done. AppendsAll name (Ok tt) done x y) (ap (λ n. take n bytes) e ∙ take-length bytes) h

-- a fault after some pieces
pub AppendsAll-fault : (name bytes done piece : List ℕ) (fault told : CallFault) (x y z : Files) → AppendsAll name (Ok tt) done x y → Appends name (Err fault) piece y z
    → AppendsAll name (Err told) bytes x z
AppendsAll-fault name bytes done piece fault told x y z h k = λ old is other apart. k other ∙ (h old is).others other apart

-- all bytes written to a new file
pub created_whole : {File : Type 0} (name_of : File → List ℕ) (file : File) (fresh bytes : List ℕ) (done : Unit {0}) (x y z : Files) → Creates name_of fresh (Ok file) x y
    → AppendsAll (name_of file) (Ok done) bytes y z → Puts fresh bytes x z
created_whole name_of file fresh bytes done x y z h k =
    let more : AppendsAll fresh (Ok done) bytes y z = subst (λ n. AppendsAll n (Ok done) bytes y z) h.0 k in
    let next = more [] h.1.there in
    record { there = next.there; others = λ other apart. next.others other apart ∙ h.1.others other apart }

-- a fault on the way
pub created_fault : {File : Type 0} (name_of : File → List ℕ) (file : File) (fresh bytes : List ℕ) (fault : CallFault) (x y z : Files) → Creates name_of fresh (Ok file) x y
    → AppendsAll (name_of file) (Err fault) bytes y z → KeepsOthers fresh x z
created_fault name_of file fresh bytes fault x y z h k =
    let more : AppendsAll fresh (Err fault) bytes y z = subst (λ n. AppendsAll n (Err fault) bytes y z) h.0 k in
    λ other apart. more [] h.1.there other apart ∙ h.1.others other apart

-- the name beside a name is another
beside_apart : (name : List ℕ) → beside name ≢ name
beside_apart name same = omega (arith, ap length same, length-append name (codes ".new"))

-- the new file renamed
pub renamed_whole : (fresh name bytes : List ℕ) (result : Result (Unit {0}) CallFault) (x y z : Files) → fresh ≡ beside name → Puts fresh bytes x y → Renames fresh name result y z → ReplacesFile name bytes result x z
renamed_whole fresh name bytes (Ok done) x y z e h k = record {
  there = k.moved ∙ h.there;
  gone = subst (λ n. z n ≡ None) e (k.gone (λ same. beside_apart name (sym e ∙ same)));
  others = λ other from to. k.others other (λ f. from (f ∙ e)) to ∙ h.others other (λ f. from (f ∙ e));
}
renamed_whole fresh name bytes (Err fault) x y z e h k = λ other apart. k other ∙ h.others other (λ f. apart (f ∙ e))

-- bytes put under a name leave the others
pub puts_others : (name bytes : List ℕ) (x y : Files) → Puts name bytes x y → KeepsOthers name x y
puts_others name bytes x y h = h.others

-- the file beside removed after a fault
pub removed_beside : {E E' : Type 0} (name fresh bytes : List ℕ) (fault : E) (told : E') (x y z : Files) → fresh ≡ beside name → ReplacesFile name bytes (Err fault) x y → KeepsOthers fresh y z → ReplacesFile name bytes (Err told) x z
removed_beside name fresh bytes fault told x y z e h k = λ other apart. k other (λ f. apart (f ∙ e)) ∙ h other apart
