-- The file of data is exact.
use Rattle.std.proofs.Common.{◌≡◌, ℕ, ◌+◌, ◌*◌, ◌<◌, ◌≤◌, List, [], ◌++◌, length, refl, sym, ap, subst, ◌∙◌}
use Rattle.std.proofs.Common.{append-nil, arith}
use Rattle.std.specs.List.{All}
use Rattle.gcov_items.specs.Items.{word_bytes, header_bytes}
use Rattle.gcov_records.specs.declared.fault.FileFault.TheVariants as fault
use Rattle.gcov_records.specs.Records.{spelled_from, long_record}
use Rattle.gcov_records.specs.Reading.{Reading, ◌>>=◌, give, word, long, fixed, header, each, longs, long_size, limited}
use Rattle.gcov_records.specs.Exact.{IsExact}
use Rattle.gcov_records.proofs.Items.{wide32}
use Rattle.gcov_records.proofs.Steady.{Steady, give_steady, bind_steady, each_steady}
use Rattle.gcov_records.proofs.Steady.{word_steady, fixed_steady, header_steady, longs_steady}
use Rattle.gcov_records.proofs.Spelled.{IsBytes, Spells, IsThis, this_is, is_this, FitLongs, give_spells, bind_spells}
use Rattle.gcov_records.proofs.Spelled.{respelled, each_spells, fixed_spells, header_spells, longs_spells}
use Rattle.gcov_records.proofs.Spelled.{number_spells}
use Rattle.gcov_records.proofs.Spelled.{word_spells}
use Rattle.gcov_records.proofs.Whole.{is_exact}
use Rattle.gcda_format.specs.Data.{FunctionDataValue, DataValue, count_limit, word_limit, long_limit}
use Rattle.gcda_format.specs.Data.{IsFunctionData, IsData}
use Rattle.gcda_format.specs.Spelling.{magic, version, runs_tag, function_tag, counter_tag, bit_tag, function_bytes}
use Rattle.gcda_format.specs.Spelling.{data_bytes}
use Rattle.gcda_format.specs.Reading.{function_at, data_file, told}

-- ---- functions

abbrev made : ℕ → List ℕ → List ℕ → FunctionDataValue
made checksum counters bits = record { checksum = checksum; counters = counters; bits = bits }

bits_spell : (c : ℕ) (cs : List ℕ) → Spells (longs bit_tag long_limit >>= λ bits. give (made c cs bits))
    (λ y. long_record bit_tag y.bits ++ []) (λ y. FitLongs long_limit y.bits × (y ≡ made c cs y.bits))
bits_spell c cs =
    bind_spells (longs bit_tag long_limit) (λ bits. give (made c cs bits)) (long_record bit_tag) (λ y. [])
    (FitLongs long_limit) (λ bits y. y ≡ made c cs bits) (λ y. y.bits)
    (longs_spells bit_tag long_limit (omega arith) (omega arith)) (λ bits f. give_spells (made c cs bits))
    (λ x y f e. ap (λ (r : FunctionDataValue). r.bits) e)

counters_spell : (c : ℕ)
    → Spells (longs counter_tag count_limit >>= λ counters. longs bit_tag long_limit >>= λ bits. give (made c
    counters bits))
    (λ y. long_record counter_tag y.counters ++ (long_record bit_tag y.bits ++ []))
    (λ y. FitLongs count_limit y.counters × (FitLongs long_limit y.bits × (y ≡ made c y.counters y.bits)))
counters_spell c =
    bind_spells (longs counter_tag count_limit) (λ counters. longs bit_tag long_limit >>= λ bits. give (made c
    counters bits))
    (long_record counter_tag) (λ y. long_record bit_tag y.bits ++ []) (FitLongs count_limit)
    (λ cs y. FitLongs long_limit y.bits × (y ≡ made c cs y.bits)) (λ y. y.counters)
    (longs_spells counter_tag count_limit (omega arith) (omega arith)) (λ cs f. bits_spell c cs)
    (λ x y f e. ap (λ (r : FunctionDataValue). r.counters) e.1)

abbrev behind_number : Reading FunctionDataValue
behind_number =
    word >>= λ checksum. longs counter_tag count_limit >>= λ counters. longs bit_tag long_limit >>= λ bits.
    give (made checksum counters bits)

checksum_spell : Spells behind_number
    (λ y. word_bytes y.checksum ++ (long_record counter_tag y.counters ++ (long_record bit_tag y.bits ++ [])))
    (λ y. (y.checksum < 4294967296) × (FitLongs count_limit y.counters
    × (FitLongs long_limit y.bits × (y ≡ made y.checksum y.counters y.bits))))
checksum_spell =
    bind_spells word
    (λ checksum. longs counter_tag count_limit >>= λ counters. longs bit_tag long_limit >>= λ bits.
    give (made checksum counters bits)) word_bytes
    (λ y. long_record counter_tag y.counters ++ (long_record bit_tag y.bits ++ [])) (λ n. n < 4294967296)
    (λ c y. FitLongs count_limit y.counters × (FitLongs long_limit y.bits × (y ≡ made c y.counters y.bits)))
    (λ y. y.checksum) word_spells (λ c f. counters_spell c)
    (λ x y f e. ap (λ (r : FunctionDataValue). r.checksum) e.1.1)

function_spells : (k : ℕ) → k < 4294967296 → Spells (function_at k) (function_bytes k) IsFunctionData
unfolding function_bytes
function_spells k lt =
    respelled (function_at k)
    (λ y. header_bytes (function_tag, 8) ++ (word_bytes k ++ (word_bytes y.checksum
    ++ (long_record counter_tag y.counters ++ (long_record bit_tag y.bits ++ []))))) (function_bytes k)
    (λ y. IsThis k k × ((y.checksum < 4294967296) × (FitLongs count_limit y.counters
    × (FitLongs long_limit y.bits × (y ≡ made y.checksum y.counters y.bits))))) IsFunctionData
    (header_spells function_tag 8 (fixed k fault.Order >>= λ n. behind_number)
    (λ y. word_bytes k ++ (word_bytes y.checksum
    ++ (long_record counter_tag y.counters ++ (long_record bit_tag y.bits ++ []))))
    (λ y. IsThis k k × ((y.checksum < 4294967296) × (FitLongs count_limit y.counters
    × (FitLongs long_limit y.bits × (y ≡ made y.checksum y.counters y.bits))))) (omega arith) (omega arith)
    (bind_spells (fixed k fault.Order) (λ n. behind_number) word_bytes
    (λ y. word_bytes y.checksum ++ (long_record counter_tag y.counters ++ (long_record bit_tag y.bits ++ [])))
    (IsThis k)
    (λ n y. (y.checksum < 4294967296) × (FitLongs count_limit y.counters
    × (FitLongs long_limit y.bits × (y ≡ made y.checksum y.counters y.bits))))
    (λ y. k) (fixed_spells k fault.Order) (λ n f. checksum_spell) (λ x y f e. is_this k x f)))
    (λ y h. record {
      checksum = (let l = h.1.0 in omega (arith, l));
      few = record {
        counters = (let l = h.1.1.0.few in omega (arith, l));
        bits = (let l = h.1.1.1.0.few in omega (arith, l));
      };
      counts = h.1.1.0.within;
      longs = h.1.1.1.0.within;
    })
    (λ y h. (
      this_is k lt,
      (
        (let l = h.checksum in omega (arith, l)),
        (
          record { few = (let l = h.few.counters in omega (arith, l)); within = h.counts },
          (record { few = (let l = h.few.bits in omega (arith, l)); within = h.longs }, refl),
        ),
      ),
    ))
    (λ y f. ap (λ (l : List ℕ). header_bytes (function_tag, 8) ++ (word_bytes k ++ (word_bytes y.checksum
    ++ (long_record counter_tag y.counters ++ l)))) (append-nil (long_record bit_tag y.bits)))

function_steady : (k : ℕ) → Steady (function_at k)
function_steady k =
    bind_steady (header function_tag 8) (λ h. fixed k fault.Order >>= λ n. behind_number) (header_steady function_tag 8)
    (λ h. bind_steady (fixed k fault.Order) (λ n. behind_number) (fixed_steady k fault.Order (λ at. tt))
    (λ n. bind_steady word (λ checksum. longs counter_tag count_limit >>= λ counters. longs bit_tag long_limit >>= λ
    bits.
    give (made checksum counters bits)) word_steady
    (λ c. bind_steady (longs counter_tag count_limit) (λ counters. longs bit_tag long_limit >>= λ bits.
    give (made c counters bits)) (longs_steady counter_tag count_limit)
    (λ cs. bind_steady (longs bit_tag long_limit) (λ bits. give (made c cs bits)) (longs_steady bit_tag long_limit)
    (λ bits. give_steady (made c cs bits))))))

-- ---- data

abbrev together : ℕ → ℕ → List FunctionDataValue → DataValue
together stamp runs functions = record { stamp = stamp; runs = runs; functions = functions }

-- so many functions, with what is known of those before them
abbrev AreFunctions : ℕ → List FunctionDataValue → Type 0
AreFunctions n fs = (length fs ≡ n) × All IsFunctionData fs

functions_spell : (stamp runs n : ℕ) → n < 4294967296
    → Spells (each 0 n function_at >>= λ functions. give (together stamp runs functions))
    (λ y. spelled_from 0 function_bytes y.functions ++ [])
    (λ y. AreFunctions n y.functions × (y ≡ together stamp runs y.functions))
functions_spell stamp runs n lt =
    bind_spells (each 0 n function_at) (λ functions. give (together stamp runs functions)) (spelled_from 0
    function_bytes)
    (λ y. []) (AreFunctions n) (λ fs y. y ≡ together stamp runs fs) (λ y. y.functions)
    (each_spells function_at function_bytes IsFunctionData 0 n (λ j l. function_spells j (omega (arith, l, lt))))
    (λ fs f. give_spells (together stamp runs fs)) (λ x y f e. ap (λ (r : DataValue). r.functions) e)

abbrev behind_header : ℕ → ℕ → Reading DataValue
behind_header stamp n = word >>= λ runs. each 0 n function_at >>= λ functions. give (together stamp runs functions)

abbrev RunsFit : ℕ → ℕ → DataValue → Type 0
RunsFit stamp n y = (y.runs < 4294967296) × (AreFunctions n y.functions × (y ≡ together stamp y.runs y.functions))

runs_spell : (stamp n : ℕ) → n < 4294967296
    → Spells (behind_header stamp n) (λ y. word_bytes y.runs ++ (spelled_from 0 function_bytes y.functions ++ []))
    (RunsFit stamp n)
runs_spell stamp n lt =
    bind_spells word (λ runs. each 0 n function_at >>= λ functions. give (together stamp runs functions)) word_bytes
    (λ y. spelled_from 0 function_bytes y.functions ++ []) (λ n. n < 4294967296)
    (λ runs y. AreFunctions n y.functions × (y ≡ together stamp runs y.functions)) (λ y. y.runs) word_spells
    (λ runs f. functions_spell stamp runs n lt) (λ x y f e. ap (λ (r : DataValue). r.runs) e.1)

abbrev behind_stamp : ℕ → Reading DataValue
behind_stamp stamp = word >>= λ count. header runs_tag 4 >>= λ h. behind_header stamp count

abbrev StampFit : ℕ → DataValue → Type 0
StampFit stamp y = (length y.functions < 4294967296) × RunsFit stamp (length y.functions) y

count_spell : (stamp : ℕ)
    → Spells (behind_stamp stamp)
    (λ y. word_bytes (length y.functions) ++ (header_bytes (runs_tag, 4)
    ++ (word_bytes y.runs ++ (spelled_from 0 function_bytes y.functions ++ [])))) (StampFit stamp)
count_spell stamp =
    bind_spells word (λ count. header runs_tag 4 >>= λ h. behind_header stamp count) word_bytes
    (λ y. header_bytes (runs_tag, 4) ++ (word_bytes y.runs ++ (spelled_from 0 function_bytes y.functions ++ [])))
    (λ n. n < 4294967296) (λ n y. RunsFit stamp n y) (λ y. length y.functions) word_spells
    (λ n f. header_spells runs_tag 4 (behind_header stamp n)
    (λ y. word_bytes y.runs ++ (spelled_from 0 function_bytes y.functions ++ [])) (RunsFit stamp n)
    (omega arith) (omega arith) (runs_spell stamp n f))
    (λ x y f e. e.1.0.0)

abbrev behind_version : Reading DataValue
behind_version = word >>= λ stamp. behind_stamp stamp

abbrev AllFit : DataValue → Type 0
AllFit y = (y.stamp < 4294967296) × StampFit y.stamp y

stamp_spell : Spells behind_version
    (λ y. word_bytes y.stamp ++ (word_bytes (length y.functions) ++ (header_bytes (runs_tag, 4)
    ++ (word_bytes y.runs ++ (spelled_from 0 function_bytes y.functions ++ []))))) AllFit
stamp_spell =
    bind_spells word (λ stamp. behind_stamp stamp) word_bytes
    (λ y. word_bytes (length y.functions) ++ (header_bytes (runs_tag, 4)
    ++ (word_bytes y.runs ++ (spelled_from 0 function_bytes y.functions ++ [])))) (λ n. n < 4294967296)
    (λ stamp y. StampFit stamp y) (λ y. y.stamp) word_spells (λ stamp f. count_spell stamp)
    (λ x y f e. ap (λ (r : DataValue). r.stamp) e.1.1.1)

pub data_spells : Spells data_file data_bytes IsData
data_spells =
    respelled data_file
    (λ y. word_bytes magic ++ (word_bytes version ++ (word_bytes y.stamp ++ (word_bytes (length y.functions)
    ++ (header_bytes (runs_tag, 4) ++ (word_bytes y.runs ++ (spelled_from 0 function_bytes y.functions ++ [])))))))
    data_bytes
    (λ y. IsThis magic magic × (IsThis version version × AllFit y)) IsData
    (bind_spells (fixed magic fault.Magic) (λ m. fixed version fault.Version >>= λ v. behind_version) word_bytes
    (λ y. word_bytes version ++ (word_bytes y.stamp ++ (word_bytes (length y.functions)
    ++ (header_bytes (runs_tag, 4) ++ (word_bytes y.runs ++ (spelled_from 0 function_bytes y.functions ++ []))))))
    (IsThis magic) (λ m y. IsThis version version × AllFit y) (λ y. magic) (fixed_spells magic fault.Magic)
    (λ m f. bind_spells (fixed version fault.Version) (λ v. behind_version) word_bytes
    (λ y. word_bytes y.stamp ++ (word_bytes (length y.functions)
    ++ (header_bytes (runs_tag, 4) ++ (word_bytes y.runs ++ (spelled_from 0 function_bytes y.functions ++ [])))))
    (IsThis version) (λ v y. AllFit y) (λ y. version) (fixed_spells version fault.Version) (λ v f. stamp_spell)
    (λ x y f e. is_this version x f))
    (λ x y f e. is_this magic x f))
    (λ y h. record {
      stamp = (let l = h.1.1.0 in omega (arith, l));
      runs = (let l = h.1.1.1.1.0 in omega (arith, l));
      few = (let l = h.1.1.1.0 in omega (arith, l));
      functions = h.1.1.1.1.1.0.1;
    })
    (λ y h. (
      this_is magic (omega arith),
      (
        this_is version (omega arith),
        (
          (let l = h.stamp in omega (arith, l)),
          (
            (let l = h.few in omega (arith, l)),
            ((let l = h.runs in omega (arith, l)), ((refl, h.functions), refl)),
          ),
        ),
      ),
    ))
    (λ y f. ap (λ (l : List ℕ). word_bytes magic ++ (word_bytes version ++ (word_bytes y.stamp
    ++ (word_bytes (length y.functions) ++ (header_bytes (runs_tag, 4) ++ (word_bytes y.runs ++ l))))))
    (append-nil (spelled_from 0 function_bytes y.functions)))

data_steady : Steady data_file
data_steady =
    bind_steady (fixed magic fault.Magic) (λ m. fixed version fault.Version >>= λ v. behind_version)
    (fixed_steady magic fault.Magic (λ at. tt))
    (λ m. bind_steady (fixed version fault.Version) (λ v. behind_version) (fixed_steady version fault.Version (λ at.
    tt))
    (λ v. bind_steady word (λ stamp. behind_stamp stamp) word_steady
    (λ stamp. bind_steady word (λ count. header runs_tag 4 >>= λ h. behind_header stamp count) word_steady
    (λ count. bind_steady (header runs_tag 4) (λ h. behind_header stamp count) (header_steady runs_tag 4)
    (λ h. bind_steady word (λ runs. each 0 count function_at >>= λ functions. give (together stamp runs functions))
    word_steady
    (λ runs. bind_steady (each 0 count function_at) (λ functions. give (together stamp runs functions))
    (each_steady 0 count function_at function_steady) (λ functions. give_steady (together stamp runs functions))))))))

-- What bytes are is exact.
pub data_exact : (bytes : List ℕ) → IsBytes bytes → IsExact IsData data_bytes bytes (told bytes)
data_exact bytes fits = is_exact data_file data_bytes IsData data_spells data_steady bytes fits
