-- Data that are merged and put.
use Rattle.std.proofs.Common.{◌≡◌, sym, subst, ℕ, zero, suc, ◌+◌, ◌≤◌, List, [], ◌∷◌, length, bit_or, arith}
use Rattle.std.specs.Prelude.{Option, Result, Err}
use Rattle.std.specs.List.{All}
use Rattle.cov_outside.specs.Outside.{Files}
use Rattle.gcda_format.specs.Data.{DataValue, FunctionDataValue, FitsRecords, IsFunctionData, IsData, word_limit}
use Rattle.run_merge.specs.Merging.{joined, add_function, add_functions, added}
use Rattle.cov_answers.specs.declared.answers.End.{End}
use Rattle.cov_answers.specs.declared.answers.End.TheVariants as answer
use Rattle.command_steps.specs.Puts.{Replaces}
use Rattle.file_commands.proofs.StopLaws.{Stops}

-- what is joined is no longer
joined_long : (join : ℕ → ℕ → ℕ) (xs ys : List ℕ) → length (joined join xs ys) ≤ length xs
joined_long join [] ys = omega arith
joined_long join (x ∷ xs) [] = omega arith
joined_long join (x ∷ xs) (y ∷ ys) = omega (arith, joined_long join xs ys)

added_long : (fs gs : List FunctionDataValue) → length (add_functions fs gs) ≤ length fs
added_long [] gs = omega arith
added_long (f ∷ fs) [] = omega arith
added_long (f ∷ fs) (g ∷ gs) = omega (arith, added_long fs gs)

-- so records hold what is added
function_fits : (f g : FunctionDataValue) → FitsRecords f → FitsRecords (add_function f g)
function_fits f g fits = record {
  counters = omega (arith, fits.counters, joined_long (λ x y. x + y) f.counters g.counters);
  bits = omega (arith, fits.bits, joined_long bit_or f.bits g.bits);
}

functions_fit : (fs gs : List FunctionDataValue) → All IsFunctionData fs → All FitsRecords (add_functions fs gs)
functions_fit [] gs h k d low = absurd (omega (arith, low))
functions_fit (f ∷ fs) [] h k d low = absurd (omega (arith, low))
functions_fit (f ∷ fs) (g ∷ gs) h zero d low = function_fits f g (h zero d (omega arith)).few
functions_fit (f ∷ fs) (g ∷ gs) h (suc k) d low =
    functions_fit fs gs (λ i e l. h (suc i) e (omega (arith, l))) k d (omega (arith, low))

-- the data of both can be written
pub writable_few : (first second both : DataValue) → IsData first → both ≡ added first second
    → length both.functions ≤ word_limit
writable_few first second both is e =
    subst (λ (d : DataValue). length d.functions ≤ word_limit) (sym e)
    (omega (arith, is.few, added_long first.functions second.functions))

pub writable : (first second both : DataValue) → IsData first → both ≡ added first second
    → All FitsRecords both.functions
writable first second both is e =
    subst (λ (d : DataValue). All FitsRecords d.functions) (sym e)
    (functions_fit first.functions second.functions is.functions)

-- a command that ended at a step left the files
pub stopped : (steps : Result (List ℕ) End → Type 0) (name : List ℕ) (before after : Option Files) (end : End)
    → steps (Err end) → Stops end → after ≡ before → Replaces steps name before after end
stopped steps name before after answer.Done s e h = absurd e
stopped steps name before after answer.FolderFault s e h = h
stopped steps name before after answer.NoMemory s e h = h
stopped steps name before after _ s e h = (s, h)
