-- What can be written of a code that breaks no rule.
use Rattle.std.proofs.Common.{◌≡◌, ℕ, zero, suc, ◌+◌, ◌<◌, ◌≤◌, true, List, [], ◌∷◌, ◌++◌, length, get_or, drop}
use Rattle.std.proofs.Common.{arith, ap, sym, ◌∙◌, append_assoc}
use Rattle.std.proofs.Common.{None}
use Rattle.std.specs.Prelude.{ℤ, nat_lt, nat_le}
use Rattle.std.specs.List.{All, flat_map}
use Rattle.std.proofs.lemmas.List.{at_drop_more}
use Rattle.std.proofs.lemmas.Bool.{ltb-true, leb-true}
use Rattle.cov_base.specs.Limits.{array_limit}
use Rattle.stack_ops.specs.declared.operation.Op.{Op}
use Rattle.stack_ops.specs.Code.{FunctionValue, CodeValue}
use Rattle.code_runs.specs.Limits.{instruction_limit, number_limit}
use Rattle.code_runs.specs.Checks.{Rule}
use Rattle.code_runs.specs.CodeChecks.{is_number, number_there, unless_at, globals_fault, numbers_fault, limits_kept}
use Rattle.code_runs.specs.CodeChecks.{fields_kept, numbers_in, function_items, functions_items}
use Rattle.code_runs.specs.CodeChecks.{items_fault, values_fault, code_fault}
use Rattle.code_runs.proofs.CheckLaws.{or-none, and-both}
use Rattle.code_runs.proofs.CodeLaws.{unless_at-none}
use Rattle.code_file.specs.Spelling.{IsWritable}

globals_numbers : (ns : List ℤ) → globals_fault ns ≡ None → All (λ n. is_number n ≡ true) ns
globals_numbers [] h k d lt = absurd (omega (arith, lt))
globals_numbers (n ∷ ns) h zero d lt =
    unless_at-none (is_number n) 0 Rule.Field (or-none (unless_at (is_number n) 0 Rule.Field) _ h).0
globals_numbers (n ∷ ns) h (suc k) d lt =
    globals_numbers ns (or-none (unless_at (is_number n) 0 Rule.Field) _ h).1 k d (omega (arith, lt))

ops_numbers : (at : ℕ) (os : List Op) → numbers_fault at os ≡ None → All (λ o. number_there o ≡ true) os
ops_numbers at [] h k d lt = absurd (omega (arith, lt))
ops_numbers at (o ∷ os) h zero d lt =
    unless_at-none (number_there o) at Rule.Opcode (or-none (unless_at (number_there o) at Rule.Opcode) _ h).0
ops_numbers at (o ∷ os) h (suc k) d lt =
    ops_numbers (suc at) os (or-none (unless_at (number_there o) at Rule.Opcode) _ h).1 k d (omega (arith, lt))

-- what the fields of a function say of its instructions
fields : (c : CodeValue) (k numbers start : ℕ) (f : FunctionValue) → function_items c k numbers start f ≡ None
    → (0 < length f.ops) × (start + length f.ops ≤ instruction_limit)
fields c k numbers start f h =
    let kept : fields_kept c numbers start f ≡ true =
    unless_at-none (fields_kept c numbers start f) k Rule.Field (or-none _ _ h).0 in
    let limits = and-both (limits_kept f) _ kept in
    let some = and-both (nat_lt 0 (length f.ops)) _ (and-both (nat_le f.params f.cells) _ limits.0).1 in
    let totals = and-both (nat_le (numbers + numbers_in f) number_limit) _ (and-both _ _ limits.1).1 in
    (ltb-true 0 (length f.ops) some.0, leb-true (start + length f.ops) instruction_limit totals.1)

function_writable : (c : CodeValue) (k numbers start : ℕ) (f : FunctionValue)
    → function_items c k numbers start f ≡ None → IsWritable f
function_writable c k numbers start f h = record {
  few = (let t = (fields c k numbers start f h).1 in omega (arith, t));
  numbers = ops_numbers start f.ops (or-none (numbers_fault start f.ops) _ (or-none _ _ h).1).0;
}

functions_writable : (c : CodeValue) (k numbers start : ℕ) (fs : List FunctionValue)
    → functions_items c k numbers start fs ≡ None → All (λ f. IsWritable f) fs
functions_writable c k numbers start [] h i d lt = absurd (omega (arith, lt))
functions_writable c k numbers start (f ∷ fs) h zero d lt =
    function_writable c k numbers start f (or-none (function_items c k numbers start f) _ h).0
functions_writable c k numbers start (f ∷ fs) h (suc i) d lt =
    functions_writable c (suc k) (numbers + numbers_in f) (start + length f.ops) fs
    (or-none (function_items c k numbers start f) _ h).1 i d (omega (arith, lt))

pub functions_few : (c : CodeValue) (k numbers start : ℕ) (fs : List FunctionValue) → start ≤ instruction_limit
    → functions_items c k numbers start fs ≡ None → length fs + start ≤ instruction_limit
functions_few c k numbers start [] le h = omega (arith, le)
functions_few c k numbers start (f ∷ fs) le h =
    let both = or-none (function_items c k numbers start f) _ h in
    let own = fields c k numbers start f both.0 in
    let some = own.0 in
    let rest = functions_few c (suc k) (numbers + numbers_in f) (start + length f.ops) fs own.1 both.1 in
    omega (arith, some, rest)

-- a code that breaks no rule can be written
pub record Writes (c : CodeValue) : Type 0 where
  pub globals : length c.globals ≤ array_limit
  pub numbers : All (λ n. is_number n ≡ true) c.globals
  pub few : length c.functions ≤ instruction_limit
  pub functions : All (λ f. IsWritable f) c.functions

pub writes : (c : CodeValue) → code_fault c ≡ None → Writes c
writes c h =
    let items = (or-none (items_fault c) (values_fault c) h).0 in
    let globals = or-none (unless_at (nat_le (length c.globals) array_limit) 0 Rule.Field) _ items in
    let rest = or-none (globals_fault c.globals) _ globals.1 in
    record {
      globals = leb-true (length c.globals) array_limit (unless_at-none _ 0 Rule.Field globals.0);
      numbers = globals_numbers c.globals rest.0;
      few = (let h = functions_few c 0 0 0 c.functions (omega arith) rest.1 in omega (arith, h));
      functions = functions_writable c 0 0 0 c.functions rest.1;
    }

-- What is written, and what is not yet, are all, and so they are one item on.
pub written_more : {X : Type 0} (f : X → List ℕ) (xs : List X) (i : ℕ) (d : X) (before after all : List ℕ)
    → i < length xs → after ≡ before ++ f (get_or xs i d) → before ++ flat_map f (drop i xs) ≡ all
    → after ++ flat_map f (drop (i + 1) xs) ≡ all
written_more f xs i d before after all lt is so =
    ap (λ (l : List ℕ). l ++ flat_map f (drop (i + 1) xs)) is
    ∙ (append_assoc before (f (get_or xs i d)) (flat_map f (drop (i + 1) xs))
    ∙ (sym (at_drop_more (λ rest. before ++ flat_map f rest) xs i d lt) ∙ so))
