-- What the items of functions are that break no rule.
use Rattle.std.proofs.Common.{◌≡◌, sym, ap, subst, ◌∙◌, ℕ, suc, ◌+◌, ◌<◌, ◌≤◌, ◌&&◌, true, List, ◌∷◌}
use Rattle.std.proofs.Common.{length, get_or, drop, drop-cons, Option, None, arith}
use Rattle.std.specs.Option.{option_or}
use Rattle.std.specs.Prelude.{nat_le, ◌||◌}
use Rattle.std.proofs.lemmas.Bool.{leb-true}
use Rattle.stack_ops.specs.Code.{FunctionValue, CodeValue}
use Rattle.code_runs.specs.Limits.{number_limit, instruction_limit}
use Rattle.code_runs.specs.Checks.{Rule}
use Rattle.code_runs.specs.Tables.{layout_fault}
use Rattle.code_runs.specs.CodeChecks.{unless_at, limits_kept, counts_nothing, fields_kept, numbers_in}
use Rattle.code_runs.specs.CodeChecks.{numbers_fault, function_items, functions_items, function_values, functions_values}
use Rattle.code_runs.proofs.CheckLaws.{or-none, and-both}
use Rattle.code_runs.proofs.CodeLaws.{unless_at-none}
use Rattle.code_checks.proofs.TableLaws.{of_table-none}

-- the totals of a function whose numbers keep the rules
pub record Totals (numbers start : ℕ) (f : FunctionValue) : Type 0 where
  pub few : numbers + numbers_in f ≤ number_limit
  pub short : start + length f.ops ≤ instruction_limit

pub totals : (c : CodeValue) (numbers start : ℕ) (f : FunctionValue) → fields_kept c numbers start f ≡ true
    → Totals numbers start f
totals c numbers start f h =
    let a = and-both (limits_kept f) ((c.covered || counts_nothing f)
    && (nat_le (numbers + numbers_in f) number_limit && nat_le (start + length f.ops) instruction_limit)) h in
    let b = and-both (c.covered || counts_nothing f)
    (nat_le (numbers + numbers_in f) number_limit && nat_le (start + length f.ops) instruction_limit) a.1 in
    let d = and-both (nat_le (numbers + numbers_in f) number_limit) (nat_le (start + length f.ops) instruction_limit) b.1 in
    record {
      few = leb-true (numbers + numbers_in f) number_limit d.0;
      short = leb-true (start + length f.ops) instruction_limit d.1;
    }

pub fields_known : (c : CodeValue) (k numbers start : ℕ) (f : FunctionValue)
    → function_items c k numbers start f ≡ None → fields_kept c numbers start f ≡ true
fields_known c k numbers start f h =
    unless_at-none (fields_kept c numbers start f) k Rule.Field
    (or-none (unless_at (fields_kept c numbers start f) k Rule.Field) _ h).0

pub layout_known : (c : CodeValue) (k numbers start : ℕ) (f : FunctionValue)
    → function_items c k numbers start f ≡ None → layout_fault f.paths f.passes f.table ≡ None
layout_known c k numbers start f h =
    of_table-none (layout_fault f.paths f.passes f.table)
    (or-none (numbers_fault start f.ops) _
    (or-none (unless_at (fields_kept c numbers start f) k Rule.Field) _ h).1).1

-- the items of these functions break no rule, the first of which begins with instruction `start`
pub record Kept (c : CodeValue) (start : ℕ) (fs : List FunctionValue) : Type 0 where
  pub place : ℕ
  pub numbers : ℕ
  pub items : functions_items c place numbers start fs ≡ None

pub kept_first : (c : CodeValue) (start : ℕ) (f : FunctionValue) (fs : List FunctionValue) → Kept c start (f ∷ fs)
    → (start + length f.ops ≤ instruction_limit) × (layout_fault f.paths f.passes f.table ≡ None)
kept_first c start f fs k =
    let h = (or-none (function_items c k.place k.numbers start f) _ k.items).0 in (
      (totals c k.numbers start f (fields_known c k.place k.numbers start f h)).short,
      layout_known c k.place k.numbers start f h,
    )

pub kept_rest : (c : CodeValue) (start : ℕ) (f : FunctionValue) (fs : List FunctionValue) → Kept c start (f ∷ fs)
    → Kept c (start + length f.ops) fs
kept_rest c start f fs k = record {
  place = suc k.place;
  numbers = k.numbers + numbers_in f;
  items = (or-none (function_items c k.place k.numbers start f) _ k.items).1;
}

-- behind a function that breaks no rule
pub kept_on : (c : CodeValue) (start i long : ℕ) (fs : List FunctionValue) (f : FunctionValue)
    (whole : Option (ℕ × Rule)) → i < length fs → f ≡ get_or fs i f → long ≡ length f.ops
    → function_values c start f ≡ None → Kept c start (drop i fs) → functions_values c start (drop i fs) ≡ whole
    → Kept c (start + long) (drop (i + 1) fs) × (functions_values c (start + long) (drop (i + 1) fs) ≡ whole)
kept_on c start i long fs f whole lt is size none kept told =
    let next : suc i ≡ i + 1 = omega arith in
    let split : drop i fs ≡ f ∷ drop (i + 1) fs =
    drop-cons fs i f lt ∙ (ap (λ (g : FunctionValue). g ∷ drop (suc i) fs) (sym is)
    ∙ ap (λ n. f ∷ drop n fs) next) in
    let own : Kept c start (f ∷ drop (i + 1) fs) = subst (Kept c start) split kept in
    let first : functions_values c start (f ∷ drop (i + 1) fs)
    ≡ functions_values c (start + length f.ops) (drop (i + 1) fs) =
    ap (λ (o : Option (ℕ × Rule)). option_or o (functions_values c (start + length f.ops) (drop (i + 1) fs))) none in (
      subst (λ n. Kept c (start + n) (drop (i + 1) fs)) (sym size) (kept_rest c start f (drop (i + 1) fs) own),
      ap (λ n. functions_values c (start + n) (drop (i + 1) fs)) size
          ∙ (sym first ∙ (sym (ap (functions_values c start) split) ∙ told)),
    )
