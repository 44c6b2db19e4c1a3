-- What a reader of items says of words and longs.
use Rattle.std.proofs.Common.{◌≡◌, ℕ, ◌+◌, ◌^◌, ◌<◌, ◌≤◌, Bool, true, false, cond, ltb, List, [], ◌∷◌, ◌++◌, length}
use Rattle.std.proofs.Common.{get_or, take, drop, Result, Ok, Err, refl, sym, ap, subst, ◌∙◌, append_assoc}
use Rattle.std.proofs.Common.{arith, inl, inr}
use Rattle.std.specs.Int.{Width, w32, w64, byte_len, from_le_bytes, to_le_bytes}
use Rattle.std.proofs.lemmas.Bool.{cases_lt, ltb-false, le-ltb, lt-ltb, cond-true, cond-false}
use Rattle.std.proofs.lemmas.List.{take_at, drop_at, take-append-drop, length-append, length-take, get_or-drop}
use Rattle.std.proofs.lemmas.List.{get_or-take, get_or_past}
use Rattle.std.proofs.lemmas.Nat.{le_bytes_4, le_bytes_8, from_le_bytes-to_le_bytes_4, from_le_bytes-to_le_bytes_8}
use Rattle.gcov_items.specs.Items.{ReaderValue, left, Takes}
use Rattle.gcov_records.specs.declared.fault.FileFault.{FileFault}
use Rattle.gcov_records.specs.declared.fault.FileFault.TheVariants as fault
use Rattle.gcov_records.specs.Reading.{Got, Reading, number, short_at}

-- numbers of a width are spelled and read again
pub record IsWide (w : Width) : Type 0 where
  pub limit : ℕ
  pub len : (n : ℕ) → length (to_le_bytes w n) ≡ byte_len w
  pub back : (bytes : List ℕ) → length bytes ≡ byte_len w → ((i : ℕ) → get_or bytes i 0 < 256)
      → to_le_bytes w (from_le_bytes w bytes) ≡ bytes
  pub again : (n : ℕ) → n < limit → from_le_bytes w (to_le_bytes w n) ≡ n
  pub below : (bytes : List ℕ) → ((i : ℕ) → get_or bytes i 0 < 256) → from_le_bytes w bytes < limit

abbrev pub wide32 : IsWide w32
wide32 = record {
  limit = 2 ^ 32;
  len = λ n. refl;
  back = λ bytes len fits. le_bytes_4 bytes _ len fits refl;
  again = λ n lt. from_le_bytes-to_le_bytes_4 n lt;
  below = λ bytes fits. omega (arith, fits 0, fits 1, fits 2, fits 3);
}

abbrev pub wide64 : IsWide w64
wide64 = record {
  limit = 2 ^ 64;
  len = λ n. refl;
  back = λ bytes len fits. le_bytes_8 bytes _ len fits refl;
  again = λ n lt. from_le_bytes-to_le_bytes_8 n lt;
  below = λ bytes fits. omega (arith, fits 0, fits 1, fits 2, fits 3, fits 4, fits 5, fits 6, fits 7);
}

pub number_again : (w : Width) (wide : IsWide w) (n : ℕ) (rest : List ℕ) (at : ℕ) → n < wide.limit
    → number w (to_le_bytes w n ++ rest) at ≡ Ok (record { value = n; rest = rest; at = at + byte_len w })
number_again w wide n rest at lt =
    let len = wide.len n in
    let long : ltb (length (to_le_bytes w n ++ rest)) (byte_len w) ≡ false =
    le-ltb _ _ (let l = length-append (to_le_bytes w n) rest in omega (arith, l, len)) in
    rw (
      long,
      take_at (to_le_bytes w n) rest (byte_len w) len,
      drop_at (to_le_bytes w n) rest (byte_len w) len,
      wide.again n lt,
    ) refl

-- an item that was taken is the number that is read
pub taken : (w : Width) (wide : IsWide w) (n : ℕ) (old new : ReaderValue) → n < wide.limit
    → Takes (to_le_bytes w n) (byte_len w) old new
    → number w (left old) old.at ≡ Ok (record { value = n; rest = left new; at = new.at })
taken w wide n old new lt t =
    ap (λ l. number w l old.at) t.front ∙ (number_again w wide n (left new) old.at lt
    ∙ ap (λ a. Ok (record { value = n; rest = left new; at = a })) (sym t.at))

-- too few bytes end within the item
pub not_taken : (w : Width) (old : ReaderValue) → length (left old) < byte_len w
    → number w (left old) old.at ≡ Err (short_at old)
not_taken w old lt = cond-true _ _ _ (lt-ltb (length (left old)) (byte_len w) lt)
