-- The numbers of a code that breaks no rule are few.
use Rattle.std.proofs.Common.{◌≡◌, subst, ℕ, zero, suc, ◌+◌, ◌<◌, ◌≤◌, ◌||◌, List, [], ◌∷◌, length}
use Rattle.std.proofs.Common.{Some, None, arith, true}
use Rattle.std.specs.Prelude.{nat_lt, nat_le, slice_get}
use Rattle.std.proofs.lemmas.Bool.{leb-true, ltb-true}
use Rattle.std.proofs.lemmas.Option.{same_Some, none-some}
use Rattle.cov_base.specs.Limits.{parameter_limit, arc_limit}
use Rattle.stack_ops.specs.Code.{FunctionValue, CodeValue}
use Rattle.code_runs.specs.Limits.{cell_limit, depth_limit, path_limit, number_limit, instruction_limit}
use Rattle.code_runs.specs.Checks.{Rule}
use Rattle.code_runs.specs.CodeChecks.{unless_at, globals_fault, limits_kept, counts_nothing, fields_kept, numbers_in}
use Rattle.code_runs.specs.CodeChecks.{function_items, functions_items, items_fault, values_fault, code_fault}
use Rattle.code_runs.proofs.CheckLaws.{or-none, and-both}
use Rattle.code_runs.proofs.CodeLaws.{unless_at-none}

-- what a function that breaks no rule has at most
pub record IsFew (f : FunctionValue) : Type 0 where
  pub counters : f.counters ≤ 4096
  pub paths : f.paths ≤ 65536

function_few : (c : CodeValue) (k numbers start : ℕ) (f : FunctionValue) → function_items c k numbers start f ≡ None
    → (start + length f.ops ≤ instruction_limit) × (0 < length f.ops) × IsFew f
function_few c k numbers start f items =
    let first = or-none (unless_at (fields_kept c numbers start f) k Rule.Field) _ items in
    let fields : fields_kept c numbers start f ≡ true =
    unless_at-none (fields_kept c numbers start f) k Rule.Field first.0 in
    let both = and-both (limits_kept f) _ fields in
    let others = and-both (c.covered || counts_nothing f) _ both.1 in
    let ends = and-both (nat_le (numbers + numbers_in f) number_limit)
    (nat_le (start + length f.ops) instruction_limit) others.1 in
    let params = and-both (nat_le f.params f.cells) _ both.0 in
    let some = and-both (nat_lt 0 (length f.ops)) _ params.1 in
    let few = and-both (nat_le f.params parameter_limit) _ some.1 in
    let cells = and-both (nat_le f.cells cell_limit) _ few.1 in
    let depth = and-both (nat_le f.depth depth_limit) _ cells.1 in
    let counters = and-both (nat_le f.counters arc_limit) _ depth.1 in
    let paths = and-both (nat_le f.paths path_limit) _ counters.1 in
    let end : start + length f.ops ≤ instruction_limit = leb-true (start + length f.ops) instruction_limit ends.1 in
    let lt : 0 < length f.ops = ltb-true 0 (length f.ops) some.0 in (
      end,
      lt,
      record { counters = leb-true f.counters arc_limit counters.0; paths = leb-true f.paths path_limit paths.0 },
    )

functions_few : (c : CodeValue) (k numbers start : ℕ) (fs : List FunctionValue) → start ≤ instruction_limit
    → functions_items c k numbers start fs ≡ None
    → (start + length fs ≤ instruction_limit) × ((i : ℕ) (f : FunctionValue) → slice_get fs i ≡ Some f → IsFew f)
functions_few c k numbers start [] le items = (omega (arith, le), λ i f is. absurd (none-some f is))
functions_few c k numbers start (g ∷ fs) le items =
    let a = or-none (function_items c k numbers start g) _ items in
    let here = function_few c k numbers start g a.0 in
    let rest = functions_few c (suc k) (numbers + numbers_in g) (start + length g.ops) fs here.0 a.1 in
    let r : start + length g.ops + length fs ≤ instruction_limit = rest.0 in
    let lt : 0 < length g.ops = here.1 in
    (omega (arith, r, lt), λ i f is. among i f is here.2 rest.1)
  where
    among : (i : ℕ) (f : FunctionValue) → slice_get (g ∷ fs) i ≡ Some f → IsFew g
        → ((i : ℕ) (f : FunctionValue) → slice_get fs i ≡ Some f → IsFew f) → IsFew f
    among zero f is h hs = subst IsFew (same_Some g f is) h
    among (suc i) f is h hs = hs i f is

-- a code that breaks no rule has few functions, and each few counters and paths
pub code_few : (c : CodeValue) → code_fault c ≡ None
    → (length c.functions ≤ 1048576) × ((i : ℕ) (f : FunctionValue) → slice_get c.functions i ≡ Some f → IsFew f)
code_few c h =
    let both = or-none (items_fault c) (values_fault c) h in
    let globals = or-none _ _ both.0 in
    by (or-none (globals_fault c.globals) _ globals.1).1
  where
    by : functions_items c 0 0 0 c.functions ≡ None
        → (length c.functions ≤ 1048576) × ((i : ℕ) (f : FunctionValue) → slice_get c.functions i ≡ Some f → IsFew f)
    by items =
        let all = functions_few c 0 0 0 c.functions (omega arith) items in
        let few : 0 + length c.functions ≤ instruction_limit = all.0 in
        (omega (arith, few), all.1)
