-- What holds of a function's items, of the blocks that are made of them.
use Rattle.std.proofs.Common.{◌≡◌, ℕ, Bool, true, false, List, [], ◌∷◌, Option, Some, None, arith}
use Rattle.c_tree.specs.Typed.{TypedFunction}
use Rattle.c_tree.specs.Sound.{Scope, Inside, SoundStmts}
use Rattle.c_lower.specs.Items.{Name, Close, Item, stmts_nodes, items_of, gives_number}
use Rattle.c_lower.specs.Lowered.{Named, Opened, opened, shut, left_out}
use Rattle.orderly_units.proofs.Alive.{ahead, begun, Ended, Kept}
use Rattle.orderly_units.proofs.LiveCode.{leaves, live_codes}

-- a block is alive where one that is alive leads on to its name
abbrev pub is_alive : (Name → Bool) → Option Name → Bool
is_alive seen None = false
is_alive seen (Some l) = seen l

-- All goes well in these blocks, where these names were seen, and these have begun.
abbrev pub AllKept : (Name → Bool) → (Name → Bool) → List Named → Type 0
AllKept seen names [] = Unit {0}
AllKept seen names (b ∷ bs) =
    Ended seen (begun b.name names) (is_alive seen b.name) b.close
    × AllKept (ahead (is_alive seen b.name) b.close seen) (begun b.name names) bs

-- the same of the rest of an open block, and the blocks behind it
record Opens (seen names : Name → Bool) (alive : Bool) (o : Opened) : Type 0 where
  pub close : Ended seen names alive o.close
  pub later : AllKept (ahead alive o.close seen) names o.later

-- what is left out behind a closed block, or begins one that nothing enters
left_kept : (seen names : Name → Bool) (c : Close) (line : Option ℕ) (later : List Named)
    → Ended seen names false c → AllKept seen names later → AllKept seen names (left_out c line later)
left_kept seen names (Close.Jump l) line later e h = h
left_kept seen names (Close.Back l) line later e h = h
left_kept seen names (Close.Branch t f) line later e h = (e, h)
left_kept seen names (Close.Select cases default) line later e h = (e, h)
left_kept seen names (Close.CallTo f at l) line later e h = (e, h)
left_kept seen names Close.Leave line later e h = (e, h)
left_kept seen names Close.Quit line later e h = (e, h)

ends_open : (seen names : Name → Bool) (alive gives : Bool) → Opens seen names alive (opened gives [])
ends_open seen names alive true = record { close = record { on = λ e. tt; back = tt; numbers = tt }; later = tt }
ends_open seen names alive false = record { close = record { on = λ e. tt; back = tt; numbers = tt }; later = tt }

mutual
  opened_kept : (gives : Bool) (is : List Item) (seen names : Name → Bool) (alive : Bool) → Kept seen names alive is
      → Opens seen names alive (opened gives is)
  opened_kept gives [] seen names alive h = ends_open seen names alive gives
  opened_kept gives (Item.Begin l line ∷ is) seen names alive h =
      let next : Name → Bool = ahead alive (Close.Jump l) seen in
      let behind = opened_kept gives is next (begun (Some l) names) (next l) h in
      record { close = record { on = λ e. tt; back = tt; numbers = tt }; later = (behind.close, behind.later) }
  opened_kept gives (Item.Do o line ∷ is) seen names alive h =
      let behind = opened_kept gives is seen names alive h in record { close = behind.close; later = behind.later }
  opened_kept gives (Item.End c line ∷ is) seen names alive h =
      record { close = h.0; later = shut_kept gives is (ahead alive c seen) names h.1 }

  shut_kept : (gives : Bool) (is : List Item) (seen names : Name → Bool) → Kept seen names false is
      → AllKept seen names (shut gives is)
  shut_kept gives [] seen names h = tt
  shut_kept gives (Item.Begin l line ∷ is) seen names h =
      let behind = opened_kept gives is seen (begun (Some l) names) (seen l) h in (behind.close, behind.later)
  shut_kept gives (Item.Do o line ∷ is) seen names h =
      let behind = opened_kept gives is seen names false h in (behind.close, behind.later)
  shut_kept gives (Item.End c line ∷ is) seen names h =
      left_kept seen names c line (shut gives is) h.0 (shut_kept gives is seen names h.1)

-- no name
abbrev pub none : Name → Bool
none n = false

-- In the first block and those behind it all goes well: the first is alive.
pub record FirstKept (gives : Bool) (is : List Item) : Type 0 where
  pub first : Ended none none true (opened gives is).close
  pub later : AllKept (ahead true (opened gives is).close none) none (opened gives is).later

-- So it is in each function of a sound source.
pub blocks_kept : (sc : Scope) (i : Inside) (f : TypedFunction) → SoundStmts sc i f.body
    → FirstKept (gives_number f.result) (items_of f)
blocks_kept sc i f sound =
    let h = opened_kept (gives_number f.result) (items_of f) none none true
    ((live_codes sc i (λ l. ⊥) (λ l. Unit {0}) (λ l. ⊥) f.body 0 (stmts_nodes f.body) Close.Leave Close.Leave [] sound
    (omega arith) (λ l low high. tt) (λ l never. absurd never) leaves leaves
    (record { keeps = λ seen names alive within has. tt })).keeps none none true
    (λ l e. absurd (let never : false ≡ true = e in cc)) (λ l never. absurd never)) in
    record { first = h.close; later = h.later }
