-- The last file of a name, as files are put at the end and as they are looked through.
use Rattle.std.proofs.Common.{◌≡◌, ℕ, Bool, true, false, cond, List, [], ◌∷◌, ◌++◌, refl, ap, ◌∙◌}
use Rattle.std.specs.Prelude.{Option, Some, None, String, bytes_eq, string_bytes}
use Rattle.std.specs.Global.{Global, Vec}
use Rattle.std.proofs.lemmas.List.{map-append}
use Rattle.std.specs.Option.{option_or}
use Rattle.cov_outside.specs.Stores.{last_file, plain_files}
use Rattle.cov_outside.specs.Outside.{put_file}

or_put : (b : Bool) (bytes : List ℕ) (before rest : Option (List ℕ)) → option_or (cond b (Some bytes) before) rest ≡ cond b (Some bytes) (option_or before rest)
or_put true bytes before rest = refl
or_put false bytes before rest = refl

at_name : (files : List (List ℕ × List ℕ)) (name bytes other : List ℕ) → last_file (files ++ (name, bytes) ∷ []) other ≡ put_file name bytes (last_file files) other
at_name [] name bytes other = refl
at_name (f ∷ fs) name bytes other =
    ap (λ o. option_or o (cond (bytes_eq f.0 other) (Some f.1) None)) (at_name fs name bytes other) ∙ or_put (bytes_eq name other) bytes (last_file fs other) (cond (bytes_eq f.0 other) (Some f.1) None)

-- a file at the end stands under its name
pub last_file-push : (files : List (List ℕ × List ℕ)) (name bytes : List ℕ) → last_file (files ++ (name, bytes) ∷ []) ≡ put_file name bytes (last_file files)
last_file-push files name bytes = λ i. λ other. at_name files name bytes other i

-- a pair at the end stands under its name
pub plain_files-push : (before after : List (String Global × Vec ℕ)) (plain : List (List ℕ × List ℕ)) (own : String Global) (copy : Vec ℕ) (name bytes : List ℕ) → after ≡ before ++ (own, copy) ∷ [] → plain_files before ≡ plain → string_bytes own ≡ name → copy.items ≡ bytes → Some (last_file (plain_files after)) ≡ Some (put_file name bytes (last_file plain))
plain_files-push before after plain own copy name bytes added seen named copied =
    rw (added, ← seen, ← named, ← copied) (ap Some (ap last_file (map-append (λ f. (string_bytes f.0, f.1.items)) before ((own, copy) ∷ [])) ∙ last_file-push (plain_files before) (string_bytes own) copy.items))
