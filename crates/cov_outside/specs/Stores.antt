-- What the objects in memory hold, as plain values.
use Rattle.std.specs.Prelude.{Result, Err, map, String, Vec, string_bytes, ◌≡◌, ◌+◌, ◌-◌, ◌^◌, ℕ, Bool, true, min, List, [], ◌∷◌, Option, Some, None, bytes_eq, if◌then◌else◌, ◌==◌}
use Rattle.std.specs.List.{list_any}
use Rattle.std.specs.Option.{option_or}
use Rattle.std.specs.Global.{Global}
use Rattle.cov_outside.specs.declared.faults.SinkFault.{SinkFault}
use Rattle.cov_outside.specs.declared.faults.SinkFault.TheVariants as fault

-- the numbers of the calls that fail, the number of the next call, and the count of faults
pub record CallLog : Type 0 where
  pub fails : List ℕ
  pub next : ℕ
  pub faults : ℕ

-- before the first call
abbrev pub new_log : List ℕ → CallLog
new_log fails = record { fails = fails; next = 0; faults = 0 }

-- whether the next call fails
abbrev pub fails_next : CallLog → Bool
fails_next log = list_any (λ n. n == log.next) log.fails

-- one more, up to the greatest u64
abbrev pub one_more : ℕ → ℕ
one_more n = min (n + 1) (2 ^ 64 - 1)

-- the log after a call
abbrev pub log_call : CallLog → CallLog
log_call log =
    record {
      fails = log.fails;
      next = one_more log.next;
      faults = if fails_next log then one_more log.faults else log.faults;
    }

-- a call of this number was counted, and failed exactly where its number is among those that fail
pub record Numbered (before after : CallLog) (fault : Type 0) : Type 0 where
  pub counted : after ≡ log_call before
  pub fails : fails_next before ≡ true → fault
  pub only : fault → fails_next before ≡ true

-- the count of wants of memory once this is the answer of a write
abbrev pub wants_after : Result ℕ SinkFault → ℕ → ℕ
wants_after (Err fault.NoMemory) count = one_more count
wants_after answer count = count

-- the bytes of the last file of that name
abbrev pub last_file : List (List ℕ × List ℕ) → List ℕ → Option (List ℕ)
last_file [] name = None
last_file (f ∷ fs) name = option_or (last_file fs name) (if bytes_eq f.0 name then Some f.1 else None)

-- files as plain names and bytes
abbrev pub plain_files : List (String Global × Vec ℕ Global) → List (List ℕ × List ℕ)
plain_files = map (λ f. (string_bytes f.0, f.1.items))
