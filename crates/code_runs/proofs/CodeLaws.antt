-- A code that breaks no rule is sound.
use Rattle.std.proofs.Common.{◌≡◌, refl, ℕ, zero, suc, ◌+◌, ◌==◌, Bool, true, false, List, [], ◌∷◌}
use Rattle.std.proofs.Common.{length, Option, Some, None, subst, eqb-true}
use Rattle.std.specs.Prelude.{nat_lt, nat_le, slice_get}
use Rattle.std.proofs.lemmas.Option.{same_Some, none-some}
use Rattle.std.proofs.lemmas.Bool.{ltb-true, leb-true}
use Rattle.stack_ops.specs.Code.{FunctionValue, CodeValue}
use Rattle.code_runs.specs.Checks.{Rule, broken}
use Rattle.code_runs.specs.CodeChecks.{unless_at, limits_kept, fields_kept, numbers_in, function_items, functions_items}
use Rattle.code_runs.specs.CodeChecks.{items_fault, main_kept, counted_from, function_values, functions_values}
use Rattle.code_runs.specs.CodeChecks.{values_fault, globals_fault, code_fault}
use Rattle.code_runs.specs.Sound.{Kept, Sound}
use Rattle.code_runs.proofs.CheckLaws.{or-none, and-both, typed}

pub unless_at-none : (b : Bool) (at : ℕ) (r : Rule) → unless_at b at r ≡ None → b ≡ true
unless_at-none true at r h = refl
unless_at-none false at r h = absurd (cc)

counted-none : (start : ℕ) (b : Option (ℕ × Rule)) → counted_from start b ≡ None → b ≡ None
counted-none start None h = refl
counted-none start (Some b) h = absurd (cc)

function_kept : (c : CodeValue) (k numbers start at : ℕ) (f : FunctionValue) → function_items c k numbers start f ≡ None
    → function_values c at f ≡ None → Kept c f
function_kept c k numbers start at f items values =
    let fields : fields_kept c numbers start f ≡ true =
    unless_at-none (fields_kept c numbers start f) k Rule.Field (or-none _ _ items).0 in
    let limits : limits_kept f ≡ true = (and-both (limits_kept f) _ fields).0 in
    let params = and-both (nat_le f.params f.cells) _ limits in
    let some = and-both (nat_lt 0 (length f.ops)) _ params.1 in
    let kept : broken c f ≡ None = counted-none at (broken c f) (or-none (counted_from at (broken c f)) _ values).0 in
    let depths = typed c f (ltb-true 0 (length f.ops) some.0) kept in
    record { params = leb-true f.params f.cells params.0; depths = depths.0; typed = depths.1 }

functions_kept : (c : CodeValue) (k numbers start at : ℕ) (fs : List FunctionValue)
    → functions_items c k numbers start fs ≡ None → functions_values c at fs ≡ None
    → (i : ℕ) (f : FunctionValue) → slice_get fs i ≡ Some f → Kept c f
functions_kept c k numbers start at [] items values i f is = absurd (none-some f is)
functions_kept c k numbers start at (g ∷ fs) items values zero f is =
    subst (Kept c) (same_Some g f is) (function_kept c k numbers start at g
    (or-none (function_items c k numbers start g) _ items).0 (or-none (function_values c at g) _ values).0)
functions_kept c k numbers start at (g ∷ fs) items values (suc i) f is =
    functions_kept c (suc k) (numbers + numbers_in g) (start + length g.ops) (at + length g.ops) fs
    (or-none (function_items c k numbers start g) _ items).1 (or-none (function_values c at g) _ values).1 i f is

main_there : (o : Option FunctionValue) → main_kept o ≡ true
    → (f : FunctionValue) × (o ≡ Some f) × (f.params ≡ 0) × (f.gives ≡ true)
main_there None h = absurd (cc)
main_there (Some f) h = let both = and-both (f.params == 0) f.gives h in (f, refl, eqb-true f.params 0 both.0, both.1)

-- in a code that breaks no rule each function keeps the rules, and `main` can be the first
pub checked_is_sound : (c : CodeValue) → code_fault c ≡ None → Sound c
checked_is_sound c h =
    let both = or-none (items_fault c) (values_fault c) h in
    let globals = or-none _ _ both.0 in
    let items = or-none (globals_fault c.globals) _ globals.1 in
    let values = or-none _ _ both.1 in
    let main = main_there (slice_get c.functions c.main)
    (unless_at-none (main_kept (slice_get c.functions c.main)) 0 Rule.Field values.0) in
    record {
      main = main.0;
      there = main.1;
      bare = main.2;
      gives = main.3;
      each = functions_kept c 0 0 0 0 c.functions items.1 values.1;
    }
