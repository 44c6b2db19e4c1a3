-- The text of a run.
use Rattle.std.specs.Prelude.{ℕ, Bool, true, false, List, [], ◌∷◌, ◌++◌, length, codes}
use Rattle.std.specs.Fmt.{decimal}
use Rattle.stack_ops.specs.declared.endings.Outcome.{Outcome}
use Rattle.stack_ops.specs.declared.endings.Outcome.TheVariants as outcome
use Rattle.stack_ops.specs.declared.endings.Trap.{Trap}
use Rattle.stack_ops.specs.declared.endings.Trap.TheVariants as trap

-- a run is closed where its program returned or exited
abbrev pub is_closed : Outcome → Bool
is_closed (outcome.Returned status) = true
is_closed (outcome.Exited status) = true
is_closed (outcome.Trapped why line) = false
is_closed outcome.OutOfTurns = false

-- a trap in words
unfoldable pub trap_words : Trap → List ℕ
trap_words trap.Overflow = codes "overflow"
trap_words trap.DivideByZero = codes "divide by zero"
trap_words trap.ShiftRange = codes "shift range"
trap_words trap.BadIndex = codes "bad index"
trap_words trap.CallDepth = codes "call depth"
trap_words trap.OutputLimit = codes "output limit"

-- a trap and its line
unfoldable pub trap_text : Trap → ℕ → List ℕ
trap_text why line = codes "trapped " ++ (trap_words why ++ (codes " at line " ++ decimal line))

-- an ending in words
unfoldable pub ending_text : Outcome → List ℕ
ending_text (outcome.Returned status) = codes "returned " ++ decimal status
ending_text (outcome.Exited status) = codes "exited " ++ decimal status
ending_text (outcome.Trapped why line) = trap_text why line
ending_text outcome.OutOfTurns = codes "out of turns"

-- an output and a newline, or nothing where there is no output
abbrev pub output_text : List ℕ → List ℕ
output_text [] = []
output_text (b ∷ output) = (b ∷ output) ++ 10 ∷ []

-- the text of a run on the input of this name: how it ended, how many bytes it put, and these
unfoldable pub run_text : List ℕ → Outcome → List ℕ → List ℕ
run_text name ending output =
    codes "run " ++ (name ++ (codes ": " ++ (ending_text ending
    ++ (codes ", " ++ (decimal (length output) ++ (codes " bytes\n" ++ output_text output))))))
