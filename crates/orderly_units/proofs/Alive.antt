-- What comes of a function's items in the order of the text: what the blocks that are alive lead on to, and what has
-- begun. A block is alive where it is the first, or one that is alive leads on to it.
use Rattle.std.proofs.Common.{◌≡◌, refl, sym, ap, subst, ◌∙◌, ℕ, ◌==◌, ◌&&◌, ◌||◌, Bool, true, false, List, [], ◌∷◌}
use Rattle.std.proofs.Common.{Option, Some, ◌⊎◌, inl, inr, eqb-true}
use Rattle.std.specs.Prelude.{ℤ}
use Rattle.std.proofs.lemmas.Bool.{and_parts, and_from, or_cases, or_left, or_right}
use Rattle.code_runs.specs.CodeChecks.{is_number}
use Rattle.c_tree.specs.Sound.{Each}
use Rattle.stack_ops.specs.declared.operation.Op.{Op}
use Rattle.c_lower.specs.Items.{Name, Close, Item, at}
use Rattle.c_lower.specs.Lowered.{is_name}
use Rattle.c_lower.proofs.OrderLaws.{its_own}
use Rattle.lower_agrees.proofs.Targets.{Targets}
use Rattle.orderly_units.proofs.Putting.{GoesOn}

-- the ending leads on to the block of this name, and not back
abbrev pub leads : Name → Close → Bool
leads n (Close.Jump l) = is_name n (Some l)
leads n (Close.Back l) = false
leads n (Close.Branch t f) = is_name n (Some t) || is_name n (Some f)
leads n (Close.Select [] default) = is_name n (Some default)
leads n (Close.Select (c ∷ cases) default) = is_name n (Some c.1) || leads n (Close.Select cases default)
leads n (Close.CallTo f line l) = is_name n (Some l)
leads n Close.Leave = false
leads n Close.Quit = false

-- the names with those that an ending leads on to, where its block is alive
abbrev pub ahead : Bool → Close → (Name → Bool) → Name → Bool
ahead alive c seen n = (alive && leads n c) || seen n

-- the names with that of one more block
abbrev pub begun : Option Name → (Name → Bool) → Name → Bool
begun name names n = is_name n name || names n

-- the name that an arc back has is so
abbrev pub OnBack : (Name → Type 0) → Close → Type 0
OnBack P (Close.Back l) = P l
OnBack P c = Unit {0}

-- the cases of a switch are numbers
abbrev pub HaveNumbers : Close → Type 0
HaveNumbers (Close.Select cases default) = Each (λ (c : ℤ × Name). is_number c.0 ≡ true) cases
HaveNumbers c = Unit {0}

-- An arc back goes to a block that has begun, and where its own is alive, to one that is led on to; cases are numbers.
pub record Ended (seen names : Name → Bool) (alive : Bool) (c : Close) : Type 0 where
  pub on : alive ≡ true → OnBack (λ l. seen l ≡ true) c
  pub back : OnBack (λ l. names l ≡ true) c
  pub numbers : HaveNumbers c

-- So is each ending among the items.
abbrev pub Kept : (Name → Bool) → (Name → Bool) → Bool → List Item → Type 0
Kept seen names alive [] = Unit {0}
Kept seen names alive (Item.Begin l line ∷ is) =
    Kept (ahead alive (Close.Jump l) seen) (begun (Some l) names) (ahead alive (Close.Jump l) seen l) is
Kept seen names alive (Item.Do o line ∷ is) = Kept seen names alive is
Kept seen names alive (Item.End c line ∷ is) = Ended seen names alive c × Kept (ahead alive c seen) names false is

pub on_back_more : (P Q : Name → Type 0) → ((l : Name) → P l → Q l) → (c : Close) → OnBack P c → OnBack Q c
on_back_more P Q more (Close.Jump l) h = tt
on_back_more P Q more (Close.Back l) h = more l h
on_back_more P Q more (Close.Branch t f) h = tt
on_back_more P Q more (Close.Select cases default) h = tt
on_back_more P Q more (Close.CallTo f line l) h = tt
on_back_more P Q more Close.Leave h = tt
on_back_more P Q more Close.Quit h = tt

pub same_name : (l n : Name) → is_name l (Some n) ≡ true → l ≡ n
same_name l n h =
    let both = and_parts (l.node == n.node) (l.part == n.part) h in
    ap (λ (k : ℕ). at k l.part) (eqb-true l.node n.node both.0) ∙ ap (λ (k : ℕ). at n.node k)
    (eqb-true l.part n.part both.1)

-- a name that is led on to is one of the names in the ending
pub leads_in : (B C : Name → Type 0) (c : Close) (n : Name) → Targets B C c → leads n c ≡ true → B n
leads_in B C (Close.Jump l) n t h = subst B (sym (same_name n l h)) t
leads_in B C (Close.Back l) n t h = absurd (let never : false ≡ true = h in cc)
leads_in B C (Close.Branch x y) n t h = elim (or_cases (is_name n (Some x)) (is_name n (Some y)) h) [
  | inl e ↦ subst B (sym (same_name n x e)) t.0
  | inr e ↦ subst B (sym (same_name n y e)) t.1
]
leads_in B C (Close.Select [] default) n t h = subst B (sym (same_name n default h)) t.1
leads_in B C (Close.Select (c ∷ cases) default) n t h =
    elim (or_cases (is_name n (Some c.1)) (leads n (Close.Select cases default)) h) [
      | inl e ↦ subst B (sym (same_name n c.1 e)) t.0.0
      | inr e ↦ leads_in B C (Close.Select cases default) n (t.0.1, t.1) e
    ]
leads_in B C (Close.CallTo f line l) n t h = subst B (sym (same_name n l h)) t
leads_in B C Close.Leave n t h = absurd (let never : false ≡ true = h in cc)
leads_in B C Close.Quit n t h = absurd (let never : false ≡ true = h in cc)

-- what an ending leads on to is so, and what was seen
pub ahead_in : (B C : Name → Type 0) (alive : Bool) (c : Close) (seen : Name → Bool) → Targets B C c
    → ((n : Name) → seen n ≡ true → B n) → (n : Name) → ahead alive c seen n ≡ true → B n
ahead_in B C alive c seen t h n e = elim (or_cases (alive && leads n c) (seen n) e) [
  | inl new ↦ leads_in B C c n t (and_parts alive (leads n c) new).1
  | inr old ↦ h n old
]

-- a block that begins where one is alive is alive
pub enters_alive : (l : Name) (seen : Name → Bool) → ahead true (Close.Jump l) seen l ≡ true
enters_alive l seen =
    or_left (true && is_name l (Some l)) (seen l) (and_from true (is_name l (Some l)) refl (its_own l))

-- ---- endings

-- an ending that goes on has names that are so, goes not back, and is no switch
pub on_targets : (B C : Name → Type 0) (c : Close) → GoesOn B c → Targets B C c
on_targets B C (Close.Jump l) h = h
on_targets B C (Close.Back l) h = absurd h
on_targets B C (Close.Branch t f) h = h
on_targets B C (Close.Select cases default) h = absurd h
on_targets B C (Close.CallTo f line l) h = h
on_targets B C Close.Leave h = absurd h
on_targets B C Close.Quit h = tt

pub on_numbers : (B : Name → Type 0) (c : Close) → GoesOn B c → HaveNumbers c
on_numbers B (Close.Jump l) h = tt
on_numbers B (Close.Back l) h = tt
on_numbers B (Close.Branch t f) h = tt
on_numbers B (Close.Select cases default) h = absurd h
on_numbers B (Close.CallTo f line l) h = tt
on_numbers B Close.Leave h = tt
on_numbers B Close.Quit h = tt

-- where names go in an ending, an arc back goes
pub back_target : (B C : Name → Type 0) (c : Close) → Targets B C c → OnBack C c
back_target B C (Close.Jump l) h = tt
back_target B C (Close.Back l) h = h
back_target B C (Close.Branch t f) h = tt
back_target B C (Close.Select cases default) h = tt
back_target B C (Close.CallTo f line l) h = tt
back_target B C Close.Leave h = tt
back_target B C Close.Quit h = tt

-- ---- items behind which all goes well

-- Where nothing is alive and only these names were seen, all goes well behind: the names in W have begun.
pub record Dead (seen : Name → Bool) (W : Name → Type 0) (is : List Item) : Type 0 where
  pub keeps : (names : Name → Bool) → ((n : Name) → W n → names n ≡ true) → Kept seen names false is

-- Where each name that was seen is one of R, all goes well behind: the names in W have begun and were seen.
pub record Live (R W : Name → Type 0) (is : List Item) : Type 0 where
  pub keeps : (seen names : Name → Bool) (alive : Bool) → ((n : Name) → seen n ≡ true → R n)
      → ((n : Name) → W n → (seen n ≡ true) × (names n ≡ true)) → Kept seen names alive is

-- the same where the open block is alive
pub record FromAlive (R W : Name → Type 0) (is : List Item) : Type 0 where
  pub keeps : (seen names : Name → Bool) → ((n : Name) → seen n ≡ true → R n)
      → ((n : Name) → W n → (seen n ≡ true) × (names n ≡ true)) → Kept seen names true is

module _ (seen : Name → Bool) (W : Name → Type 0) where
  -- a block that was not seen begins dead
  pub dead_begin : (l : Name) (line : Option ℕ) (is : List Item) → seen l ≡ false → Dead seen W is
      → Dead seen W (Item.Begin l line ∷ is)
  dead_begin l line is unseen h = record {
    keeps = λ names has. subst (λ (v : Bool). Kept seen (begun (Some l) names) v is) (sym unseen)
        (h.keeps (begun (Some l) names) (λ n w. or_right (is_name n (Some l)) (names n) (has n w)));
  }

  -- and one more name has begun
  pub dead_head : (l : Name) (line : Option ℕ) (is : List Item) → seen l ≡ false
      → Dead seen (λ n. W n ⊎ (n ≡ l)) is → Dead seen W (Item.Begin l line ∷ is)
  dead_head l line is unseen h = record {
    keeps = λ names has. subst (λ (v : Bool). Kept seen (begun (Some l) names) v is) (sym unseen)
        (h.keeps (begun (Some l) names) (λ n w. elim w [
          | inl old ↦ or_right (is_name n (Some l)) (names n) (has n old)
          | inr e ↦ or_left (is_name n (Some l)) (names n)
              (subst (λ (k : Name). is_name n (Some k) ≡ true) e (its_own n))
        ]));
  }

  pub dead_act : (o : Op) (line : Option ℕ) (is : List Item) → Dead seen W is → Dead seen W (Item.Do o line ∷ is)
  dead_act o line is h = record { keeps = λ names has. h.keeps names has }

  pub dead_end : (c : Close) (line : Option ℕ) (is : List Item) → OnBack W c → HaveNumbers c → Dead seen W is
      → Dead seen W (Item.End c line ∷ is)
  dead_end c line is back numbers h = record {
    keeps = λ names has. (
      record {
        on = λ e. absurd (let never : false ≡ true = e in cc);
        back = on_back_more W (λ l. names l ≡ true) has c back;
        numbers = numbers;
      },
      h.keeps names has,
    );
  }

pub dead_more : (seen : Name → Bool) (W V : Name → Type 0) (is : List Item) → ((n : Name) → W n → V n)
    → Dead seen W is → Dead seen V is
dead_more seen W V is more h = record { keeps = λ names has. h.keeps names (λ n w. has n (more n w)) }

module _ (R W : Name → Type 0) where
  pub live_begin : (l : Name) (line : Option ℕ) (is : List Item) → R l → Live R W is
      → Live R W (Item.Begin l line ∷ is)
  live_begin l line is mine h = record {
    keeps = λ seen names alive within has.
        h.keeps (ahead alive (Close.Jump l) seen) (begun (Some l) names) (ahead alive (Close.Jump l) seen l)
        (ahead_in R W alive (Close.Jump l) seen mine within)
        (λ n w. (
          or_right (alive && is_name n (Some l)) (seen n) (has n w).0,
          or_right (is_name n (Some l)) (names n) (has n w).1,
        ));
  }

  pub live_act : (o : Op) (line : Option ℕ) (is : List Item) → Live R W is → Live R W (Item.Do o line ∷ is)
  live_act o line is h = record { keeps = λ seen names alive within has. h.keeps seen names alive within has }

  pub live_end : (c : Close) (line : Option ℕ) (is : List Item) → Targets R W c → HaveNumbers c → Live R W is
      → Live R W (Item.End c line ∷ is)
  live_end c line is t numbers h = record {
    keeps = λ seen names alive within has. (
      record {
        on = λ e. on_back_more W (λ l. seen l ≡ true) (λ l w. (has l w).0) c (back_target R W c t);
        back = on_back_more W (λ l. names l ≡ true) (λ l w. (has l w).1) c (back_target R W c t);
        numbers = numbers;
      },
      h.keeps (ahead alive c seen) names false (ahead_in R W alive c seen t within)
          (λ n w. (or_right (alive && leads n c) (seen n) (has n w).0, (has n w).1)),
    );
  }

  -- the head of a loop begins alive where a block before it is alive
  pub live_head : (l : Name) (line : Option ℕ) (is : List Item) → R l → Live R (λ n. W n ⊎ (n ≡ l)) is
      → FromAlive R W (Item.Begin l line ∷ is)
  live_head l line is mine h = record {
    keeps = λ seen names within has.
        h.keeps (ahead true (Close.Jump l) seen) (begun (Some l) names) (ahead true (Close.Jump l) seen l)
        (ahead_in R W true (Close.Jump l) seen mine within)
        (λ n w. elim w [
          | inl old ↦ (
            or_right (true && is_name n (Some l)) (seen n) (has n old).0,
            or_right (is_name n (Some l)) (names n) (has n old).1,
          )
          | inr e ↦ subst (λ (k : Name). (ahead true (Close.Jump l) seen k ≡ true) × (begun (Some l) names k ≡ true))
              (sym e) (enters_alive l seen, or_left (is_name l (Some l)) (names l) (its_own l))
        ]);
  }

-- fewer names seen, and more that have begun
pub live_more : (R Q W V : Name → Type 0) (is : List Item) → ((n : Name) → Q n → R n) → ((n : Name) → W n → V n)
    → Live R W is → Live Q V is
live_more R Q W V is less more h = record {
  keeps = λ seen names alive within has.
      h.keeps seen names alive (λ n e. less n (within n e)) (λ n w. has n (more n w));
}
