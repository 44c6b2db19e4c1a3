-- Lists that a function value reads member by member.
use Rattle.std.proofs.Common.{
  ◌≡◌,
  ℕ,
  ◌≤◌,
  true,
  false,
  List,
  [],
  ◌∷◌,
  ◌++◌,
  map,
  nat_cmp,
  max,
  Ok,
  Err,
  refl,
  sym,
  subst,
  ◌∙◌,
  arith,
}
use Rattle.std.specs.Prelude.{Result as Outcome}
use Rattle.std.specs.Ordering.{ord_max}
use denote.Ref.{Bor}
use Rattle.cov_base.specs.declared.refusal.Refusal.{Refusal}
use Rattle.c_tokens.specs.declared.token.Token.{Token}
use Rattle.c_grammar.specs.declared.begins.Following.{Following}
use Rattle.c_grammar.specs.declared.fault.ParseFault.{ParseFault}
use Rattle.c_grammar.specs.declared.found.Found.{Found}
use Rattle.c_grammar.specs.Rules.{Listed, Member, Rule, Result}
use Rattle.c_grammar.specs.Grammar.{member, as_member}
use Rattle.c_grammar.specs.Derivations.{Front}
use Rattle.c_grammar.specs.Lists.{Answers, following_of, follows, member_at, ReadsMembers}
use Rattle.c_grammar.specs.Reads.{Refuses, Fits, Reads}
use Rattle.c_grammar.specs.Grammar.{has_commas}
use Rattle.c_grammar.proofs.Moves.{moved1}
use Rattle.c_grammar.proofs.Lists.{
  Begun,
  begun_none,
  begun_further,
  begun_refused,
  ends,
  past,
  member_read,
  member_further,
  member_last,
  member_refused,
  follows_as,
  member_as,
  greater,
}

-- a list's members as the definitions see them
abbrev pub seen : {H : Type 0} (l : Listed) → (H → Result (member l)) → List H → List (Member l)
seen l view = map (λ x. as_member l (view x))

-- these members were read, of at most so many levels, and the list goes on
abbrev pub Reached : {H : Type 0} → List ℕ → ℕ → Answers H → Following → List Token → List Token → List H → ℕ → Type 0
Reached {H = H} text room post f tokens rest xs n =
    (l : Listed) (view : H → Result (member l)) → following_of l ≡ f → ReadsMembers l view room post
    → Begun (Front text (Rule.list l) tokens) (Front text (Rule.list l) rest) (seen l view xs) n × (n ≤ room)

pub reached_none : {H : Type 0} (text : Bor (List ℕ)) (room : ℕ) (post : Answers H) (f : Following)
    (tokens : List Token) → Reached text.now room post f tokens tokens [] 0
reached_none text room post f tokens l view e h = (begun_none, omega arith)

pub reached_next : {H : Type 0} (text : Bor (List ℕ)) (room : ℕ) (post : Answers H) (f : Following)
    (tokens : List Token) (xs : List H) (ts : Bor (List Token))
    (found : Found H) {new : List H} {next : List Token} {n k : ℕ} → Reached text.now room post f tokens ts.now xs n
    → post text ts (Ok found) → new ≡ xs ++ found.tree ∷ [] → k ≡ ord_max nat_cmp n found.levels
    → follows f found.rest.now ≡ true → next ≡ member_at f found.rest.now
    → Reached text.now room post f tokens next new k
reached_next text room post f tokens xs ts found {n = n} r p e k g s l view q h =
    let b = r l view q h in
    let m = h text ts (Ok found) p in (
      member_further text.now l
          (member_read text.now l (λ x. as_member l (view x))
          (Front text.now (Rule.list l) tokens) xs found.tree e b.0 m.front
          refl k) (follows_as l found.rest.now q ∙ g) (s ∙ member_as l found.rest.now q),
      omega (arith, b.1, m.fits, k, greater n found.levels),
    )

pub reached_end : {H : Type 0} (text : Bor (List ℕ)) (room : ℕ) (post : Answers H) (f : Following) (tokens : List Token)
    (xs : List H) (ts : Bor (List Token))
    (found : Found H) {new : List H} {n k : ℕ} → Reached text.now room post f tokens ts.now xs n → post text ts
    (Ok found)
    → new ≡ xs ++ found.tree ∷ [] → k ≡ ord_max nat_cmp n found.levels → follows f found.rest.now ≡ false
    → (l : Listed) (view : H → Result (member l)) → following_of l ≡ f
    → ReadsMembers l view room post → Fits (Front text.now (Rule.list l) tokens) room (seen l view new) k found.rest.now
reached_end text room post f tokens xs ts found {n = n} r p e k g l view q h =
    let b = r l view q h in
    let m = h text ts (Ok found) p in
    record {
      front = member_last text.now l
          (member_read text.now l (λ x. as_member l (view x))
          (Front text.now (Rule.list l) tokens) xs found.tree e b.0 m.front
          refl k) (follows_as l found.rest.now q ∙ g);
      fits = omega (arith, b.1, m.fits, k, greater n found.levels);
    }

pub reached_refused : {H : Type 0} (text : Bor (List ℕ)) (room : ℕ) (post : Answers H) (f : Following)
    (tokens : List Token) (xs : List H)
    (ts : Bor (List Token)) (e : Refusal ParseFault) {n : ℕ} → Reached text.now room post f tokens ts.now xs n
    → post text ts (Err e)
    → (l : Listed) (view : H → Result (member l)) → following_of l ≡ f
    → ReadsMembers l view room post → Refuses (Front text.now (Rule.list l) tokens) room e
reached_refused text room post f tokens xs ts e r p l view q h =
    member_refused text.now l (r l view q h).0 (h text ts (Err e) p) (omega arith)

-- nothing follows
pub more_ended : {H : Type 0} (text : List ℕ) (l : Listed) (view : H → Result (member l)) (ts : List Token) (room : ℕ)
    {f : Following} {xs : List H} → xs ≡ [] → following_of l ≡ f → follows f ts ≡ false
    → Fits (Front text (Rule.more l) ts) room (seen l view xs) 0 ts
more_ended text l view ts room e q g = record {
  front = moved1 (λ xs. Front text (Rule.more l) ts (seen l view xs) 0 ts) e (ends text l (follows_as l ts q ∙ g));
  fits = omega arith;
}

-- what follows is one more list
pub more_read : {H : Type 0} (text : List ℕ) (l : Listed) (view : H → Result (member l)) (ts us : List Token) (room : ℕ)
    {f : Following} → following_of l ≡ f → follows f ts ≡ true → us ≡ member_at f ts
    → (result : Outcome (Found (List H)) (Refusal ParseFault)) → Reads (seen l view)
    (Front text (Rule.list l) us) room result
    → Reads (seen l view) (Front text (Rule.more l) ts) room result
more_read {H = H} text l view ts us room q g s result h =
    go result (moved1 (λ us. Reads (seen l view) (Front text (Rule.list l) us) room result)
    (sym (s ∙ member_as l ts q)) h)
  where
    b : Begun (Front text (Rule.more l) ts) (Front text (Rule.list l) (past (has_commas l) ts)) [] 0
    b = begun_further text l (follows_as l ts q ∙ g)

    go : (result : Outcome (Found (List H)) (Refusal ParseFault))
        → Reads (seen l view) (Front text (Rule.list l) (past (has_commas l) ts)) room result
        → Reads (seen l view) (Front text (Rule.more l) ts) room result
    go (Ok found) f = record {
      front = subst (λ n. Front text (Rule.more l) ts (seen l view found.tree) n found.rest.now)
          (let e : max 0 found.levels ≡ found.levels = omega arith in e)
          (b.forth (seen l view found.tree) found.levels found.rest.now f.front);
      fits = f.fits;
    }
    go (Err e) f = begun_refused b f
