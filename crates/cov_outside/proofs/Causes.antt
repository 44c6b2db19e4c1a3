-- How the causes of two calls on one object join.
use Rattle.std.proofs.Common.{◌⊎◌, inl, inr, ℕ, ◌≤◌, arith}
use Rattle.cov_outside.specs.Outside.{Rose, HasCause}

-- what rose in a later call rose since an earlier count
pub Rose-earlier : (a b c : ℕ) → a ≤ b → Rose b c → Rose a c
Rose-earlier a b c le (inl rose) = inl (omega arith)
Rose-earlier a b c le (inr full) = inr full

-- what rose in an earlier call still rose after a later call
pub Rose-later : (a b c : ℕ) (fault : Type 0) → Rose a b → HasCause b c fault → Rose a c
Rose-later a b c fault (inl rose) next = let le = next.later in inl (omega arith)
Rose-later a b c fault (inr full) next = inr (next.stays full)

-- without a call no fault has a cause, and none is wanted
pub HasCause-same : (a : ℕ) (fault : Type 0) → (fault → ⊥) → HasCause a a fault
HasCause-same a fault never = record { later = omega arith; stays = λ e. e; risen = λ f. absurd (never f) }

joined : (a b c : ℕ) (first second : Type 0) → HasCause a b first → HasCause b c second → first ⊎ second → Rose a c
joined a b c first second one two (inl f) = Rose-later a b c second (one.risen f) two
joined a b c first second one two (inr f) = Rose-earlier a b c one.later (two.risen f)

-- two calls on one object, whose faults are those of the whole
pub HasCause-join : (a b c : ℕ) (first second whole : Type 0) → HasCause a b first → HasCause b c second → (whole → first ⊎ second) → HasCause a c whole
HasCause-join a b c first second whole one two which =
    record {
      later = (let p = one.later in let q = two.later in omega arith);
      stays = λ e. two.stays (one.stays e);
      risen = λ f. joined a b c first second one two (which f);
    }
