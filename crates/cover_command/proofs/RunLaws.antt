-- Runs on inputs, one name after another.
use Rattle.std.proofs.Common.{◌≡◌, refl, sym, subst, ℕ, ◌+◌, ◌<◌, ◌≤◌, inl, inr, List, [], ◌∷◌, length, map, get_or, drop, string_bytes, arith, ◌^◌, ◌-◌}
use Rattle.std.specs.Prelude.{Option, Result, Ok, Err, String}
use Rattle.std.specs.Global.{Global}
use Rattle.std.proofs.lemmas.List.{drop_all, drop_more}
use Rattle.cov_outside.specs.Outside.{Files, HasCause, Rose}
use Rattle.stack_ops.specs.Code.{CodeValue}
use Rattle.run_counts.specs.Runs.{Told}
use Rattle.cov_answers.specs.declared.answers.End.{End}
use Rattle.cov_answers.specs.declared.answers.End.TheVariants as answer
use Rattle.command_steps.proofs.Laws.{then_next}
use Rattle.cover_command.specs.Cover.{RunsAll, RunsName}

-- what the runs from a name on come to, all runs come to
abbrev pub Behind : Option Files → CodeValue → ℕ → List (String Global) → Told → ℕ → Told → Type 0
Behind files code turns names before k now = (result : Result Told End)
    → RunsAll files code turns (map string_bytes (drop k names)) now result
    → RunsAll files code turns (map string_bytes names) before result

-- so before the first run
pub none_run : (files : Option Files) (code : CodeValue) (turns : ℕ) (names : List (String Global)) (before : Told)
    → Behind files code turns names before 0 before
none_run files code turns names before result h = h

-- and behind one run more
pub one_more : (files : Option Files) (code : CodeValue) (turns k : ℕ) (names : List (String Global))
    (name : String Global) (before now next : Told) → k < length names
    → RunsName files code turns (string_bytes (get_or names k name)) now (Ok next)
    → Behind files code turns names before k now → Behind files code turns names before (k + 1) next
one_more files code turns k names name before now next in_names is behind result h =
    behind result (subst (λ (xs : List (String Global)). RunsAll files code turns (map string_bytes xs) now result)
    (sym (drop_more names k name in_names))
    (then_next (RunsName files code turns (string_bytes (get_or names k name)) now)
    (RunsAll files code turns (map string_bytes (drop (k + 1) names))) next result is h))

-- a run with which the command ends ends all
pub stops_here : (files : Option Files) (code : CodeValue) (turns k : ℕ) (names : List (String Global))
    (name : String Global) (before now : Told) (end : End) → k < length names
    → RunsName files code turns (string_bytes (get_or names k name)) now (Err end)
    → Behind files code turns names before k now → RunsAll files code turns (map string_bytes names) before (Err end)
stops_here files code turns k names name before now end in_names is behind =
    behind (Err end) (subst (λ (xs : List (String Global)). RunsAll files code turns (map string_bytes xs) now (Err end))
    (sym (drop_more names k name in_names)) (inl is))

-- behind the last name all are run
pub all_run : (files : Option Files) (code : CodeValue) (turns k : ℕ) (names : List (String Global)) (before now : Told)
    → length names ≤ k → Behind files code turns names before k now
    → RunsAll files code turns (map string_bytes names) before (Ok now)
all_run files code turns k names before now past behind =
    behind (Ok now) (subst (λ (xs : List (String Global)). RunsAll files code turns (map string_bytes xs) now (Ok now))
    (sym (drop_all k names past)) refl)

-- a count that never fell and then has a cause has it from the start
pub cause_later : (before mid now : ℕ) (fault : Type 0) → HasCause before mid ⊥ → HasCause mid now fault
    → HasCause before now fault
cause_later before mid now fault first second = record {
  later = omega (arith, first.later, second.later);
  stays = λ e. second.stays (first.stays e);
  risen = λ h. rose (second.risen h);
}
  where
    rose : Rose mid now → Rose before now
    rose (inl lt) = inl (omega (arith, first.later, lt))
    rose (inr e) = inr e

-- memory may be wanting before any run
pub runs_out : (files : Option Files) (code : CodeValue) (turns : ℕ) (names : List (List ℕ)) (before : Told)
    → RunsAll files code turns names before (Err answer.NoMemory)
runs_out files code turns [] before = refl
runs_out files code turns (name ∷ names) before = inl (inl tt)

-- a run is the same where the files, the code, the turns and the name are
pub moved : (files now : Option Files) (code code' : CodeValue) (turns turns' : ℕ) (name name' : List ℕ) (before : Told)
    (result : Result Told End) → now ≡ files → code' ≡ code → turns' ≡ turns → name' ≡ name
    → RunsName now code' turns' name' before result → RunsName files code turns name before result
moved files now code code' turns turns' name name' before result a b c d h =
    subst (λ (n : List ℕ). RunsName files code turns n before result) d
    (subst (λ (t : ℕ). RunsName files code t name' before result) c
    (subst (λ (k : CodeValue). RunsName files k turns' name' before result) b
    (subst (λ (f : Option Files). RunsName f code' turns' name' before result) a h)))
