-- The reading of words, case by case.
use Rattle.std.proofs.Common.{
  ◌≡◌,
  refl,
  sym,
  ap,
  subst,
  ◌∙◌,
  ◌||◌,
  codes,
  map,
  string_bytes,
  cond,
  List,
  [],
  ◌∷◌,
  Bool,
  true,
  false,
  Option,
  Some,
  None,
  Result,
  Ok,
  Err,
  ◌⊎◌,
  inl,
  inr,
}
use Rattle.std.specs.Prelude.{String}
use Rattle.std.specs.declared.alloc.Global.{Global}
use Rattle.std.specs.List.{list_any}
use Rattle.std.specs.Str.{bytes_eq}
use Rattle.std.proofs.lemmas.Bool.{and_parts}
use Rattle.clap.specs.Words.{App, Row, Text, rows_of, found_of, matches_of, fault_of, is_simple, is_simple_and_free, HasMatchesOf}
use Rattle.clap.specs.Values.{kind_of}
use Rattle.clap.specs.Kinds.{Kinds, IsAmong, HasKind}
use Rattle.clap.specs.Faults.{is_free_app}
use Rattle.clap.specs.Simple.{built}
use Rattle.clap.specs.declared.error.Error.{Error}
use Rattle.clap.specs.declared.error.kind.ErrorKind.{ErrorKind}
use Rattle.clap.specs.declared.parser.matches.ArgMatches.{ArgMatches}
use Rattle.cov_base.specs.declared.refusal.Refusal.{Refusal}
use Rattle.cov_base.specs.declared.refusal.Refusal.TheVariants as refusal
use Rattle.cov_words.specs.declared.command.Command.{Command}
use Rattle.cov_words.specs.declared.command.UsageFault.TheVariants as usage
use Rattle.cov_words.specs.declared.command.WordsFault.{WordsFault}
use Rattle.cov_words.specs.declared.command.WordsFault.TheVariants as fault
use Rattle.cov_words.specs.declared.syntax.CommandName.{CommandName}
use Rattle.cov_words.specs.Syntax.{named, app_for}
use Rattle.cov_words.specs.Reading.{
  Reading,
  Faults,
  Misfits,
  unless_refused,
  reading_by,
  reading_as,
  reading_of,
  is_conditions,
  reading,
  Answers,
  IsRefusalOf,
  Matches,
}

-- ---- words that ask for condition coverage

pub any_mapped : (test : Text → Bool) (words : List (String Global)) → list_any (λ word. test (string_bytes word)) words
    ≡ list_any test (map string_bytes words)
any_mapped test [] = refl
any_mapped test (word ∷ words) = ap (λ b. test (string_bytes word) || b) (any_mapped test words)

-- ---- what `clap` makes of the words

pub matched : (app made : App) (words : List Text) (m : ArgMatches) → made ≡ app → is_simple_and_free app ≡ true
    → HasMatchesOf made words m → (is_simple_and_free made ≡ true → fault_of made words ≡ []) → Matches app words (Ok m)
matched app made words m e plain has none =
    let free : is_simple_and_free made ≡ true = subst (λ a. is_simple_and_free a ≡ true) (sym e) plain in
    subst (λ a. Matches a words (Ok m)) e (none free, (has (and_parts (is_simple made) (is_free_app (built made)) free).0).0)

-- the matches are read where `clap` refuses nothing
pub answered : (name : CommandName) (words : List Text) (m : ArgMatches) (result : Result Command (Refusal WordsFault))
    → Matches (app_for name) words (Ok m) → Answers (reading_by name (rows_of (found_of m))) result
    → Answers (reading_as name words) result
answered name words m result h a =
    subst (λ r. Answers r result) (sym (ap (λ k. unless_refused k (reading_by name (matches_of (app_for name) words))) h.0))
    (subst (λ rows. Answers (reading_by name rows) result) h.1 a)

misfit : (kinds : Kinds) (kind : ErrorKind) (r : Reading) → IsAmong kind kinds
    → (found : Kinds) × (unless_refused kinds r ≡ Misfits found) × IsAmong kind found
misfit [] kind r m = absurd m
misfit (k ∷ ks) kind r m = (k ∷ ks, refl, m)

pub refused_by : (name : CommandName) (words : List Text) (e : Refusal WordsFault) → Matches (app_for name) words (Err e)
    → Answers (reading_as name words) (Err e)
refused_by name words refusal.NoMemory h = tt
refused_by name words (refusal.Refused found) h =
    subst (λ f. Answers (reading_as name words) (Err (refusal.Refused f))) (sym h.1)
    (misfit (fault_of (app_for name) words) h.0 (reading_by name (matches_of (app_for name) words)) h.2)

pub first_conditions : (word : Text) (r : Bool) → r ≡ bytes_eq word (codes "-fcondition-coverage") → r ≡ true
    → r ≡ is_conditions word
unfolding is_conditions
first_conditions word r h e = e ∙ ap (λ b. b || bytes_eq word (codes "--conditions")) (sym e ∙ h)

pub other_conditions : (word : Text) (first r : Bool) → first ≡ bytes_eq word (codes "-fcondition-coverage")
    → first ≡ false → r ≡ bytes_eq word (codes "--conditions") → r ≡ is_conditions word
unfolding is_conditions
other_conditions word first r h e k = k ∙ ap (λ b. b || bytes_eq word (codes "--conditions")) (sym e ∙ h)

-- a refusal of `clap` of another kind than want of memory is one by a kind that its definition gives
pub refused_kind : (app made : App) (words : List Text) (e : Error) (kind : ErrorKind) (r : Refusal WordsFault)
    → made ≡ app → is_simple_and_free app ≡ true → kind ≡ kind_of e → IsRefusalOf kind r
    → (is_simple_and_free made ≡ true → HasKind (fault_of made words) e) → Matches app words (Err r)
refused_kind app made words e kind refusal.NoMemory same plain k h has = tt
refused_kind app made words e kind (refusal.Refused found) same plain k h has = (
  kind,
  h.0,
  subst (λ a. IsAmong kind (fault_of a words)) same
      (subst (λ x. IsAmong x (fault_of made words)) (sym k)
      (among (has (subst (λ a. is_simple_and_free a ≡ true) (sym same) plain)))),
)
  where
    among : HasKind (fault_of made words) e → IsAmong (kind_of e) (fault_of made words)
    among (inl o) = absurd (h.1 (k ∙ o))
    among (inr m) = m
