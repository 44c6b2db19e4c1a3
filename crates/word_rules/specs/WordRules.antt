-- The word rules on sparse rows: the bits of the paths under way and those of the paths seen, 64 to a word, and what a
-- row makes of them.
use Rattle.std.specs.Prelude.{ℕ, List, [], ◌∷◌, length, replicate, drop, bit_and, bit_or, slice_index_or, slice_set}
use Rattle.std.specs.List.{fold, flat_map}

-- an entry of the row with which a walk begins: word number `word` becomes `begin`, and `done` is added to the words
-- seen
pub record BeginEntry : Type 0 where
  pub word : ℕ
  pub begin : ℕ
  pub done : ℕ

-- an entry of the row of an arc: word number `word` is cut to `keep`, what is left of it in `finish` is added to the
-- words seen, and `start` is added to it
pub record PassEntry : Type 0 where
  pub word : ℕ
  pub keep : ℕ
  pub finish : ℕ
  pub start : ℕ

-- the bits of the paths under way, and those of the paths seen
pub record Words : Type 0 where
  pub bits : List ℕ
  pub seen : List ℕ

-- the words with these bits, and these seen
abbrev pub words_of : List ℕ → List ℕ → Words
words_of bits seen = record { bits = bits; seen = seen }

-- the word of this number, or 0 where there is none
abbrev pub word_at : List ℕ → ℕ → ℕ
word_at words i = slice_index_or words i 0

-- what an entry of a begin row makes of the words
abbrev pub begun : Words → BeginEntry → Words
begun ws e = record {
  bits = slice_set ws.bits e.word e.begin;
  seen = slice_set ws.seen e.word (bit_or (word_at ws.seen e.word) e.done);
}

-- all bits become 0, and then each entry does its part
abbrev pub begin_by : List BeginEntry → Words → Words
begin_by row ws = fold begun (record { bits = replicate (length ws.bits) 0; seen = ws.seen }) row

-- what an entry of an arc's row makes of the words
abbrev pub passed : Words → PassEntry → Words
passed ws e = record {
  bits = slice_set ws.bits e.word (bit_or (bit_and (word_at ws.bits e.word) e.keep) e.start);
  seen = slice_set ws.seen e.word
      (bit_or (word_at ws.seen e.word) (bit_and (bit_and (word_at ws.bits e.word) e.keep) e.finish));
}

-- each entry does its part; words without one stay
abbrev pub pass_by : List PassEntry → Words → Words
pass_by row ws = fold passed ws row

-- how a begin row stands in a table: the number of its entries, and each with its word's number first
abbrev pub begin_spelled : List BeginEntry → List ℕ
begin_spelled row = length row ∷ flat_map (λ e. e.word ∷ e.begin ∷ e.done ∷ []) row

-- how the row of an arc stands in a table: the number of its entries, and each with its word's number first
abbrev pub pass_spelled : List PassEntry → List ℕ
pass_spelled row = length row ∷ flat_map (λ e. e.word ∷ e.keep ∷ e.finish ∷ e.start ∷ []) row

-- the entries that these numbers spell, three for each
abbrev pub begin_entries : List ℕ → List BeginEntry
begin_entries (i ∷ (b ∷ (d ∷ rest))) = record { word = i; begin = b; done = d } ∷ begin_entries rest
begin_entries _ = []

-- the entries that these numbers spell, four for each
abbrev pub pass_entries : List ℕ → List PassEntry
pass_entries (i ∷ (k ∷ (f ∷ (s ∷ rest)))) = record { word = i; keep = k; finish = f; start = s } ∷ pass_entries rest
pass_entries _ = []

-- the entries of a begin row as it stands in a table
abbrev pub begin_row : List ℕ → List BeginEntry
begin_row row = begin_entries (drop 1 row)

-- the entries of the row of an arc as it stands in a table
abbrev pub pass_row : List ℕ → List PassEntry
pass_row row = pass_entries (drop 1 row)
