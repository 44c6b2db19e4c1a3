use Rattle.std.proofs.Common.{◌≡◌, ℕ, ◌+◌, ◌≤◌, ℤ, length, take, Some, sym, ap, ◌∙◌, arith}
use Rattle.std.proofs.lemmas.Int.{ints}
use Rattle.std.proofs.lemmas.Grind.{common_steps}
use Rattle.int_ops.specs.declared.types.IntType.TheVariants.{Int}
use Rattle.c_tokens.specs.declared.token.LexFault.TheVariants.{BadByte}
use Rattle.c_tokens.specs.declared.token.TokenKind.TheVariants.{Number}
use Rattle.c_tokens.proofs.ReadingLaws.{read_character, read_misfit}
use Rattle.c_tokens.proofs.items.character_item.Goals as goal

pub returns-in-Ok-clause-finds : goal.returns-in-Ok-clause-finds
returns-in-Ok-clause-finds c starts = (
  c.in-Ok.value,
  read_character c.args.text.now c.in-Ok.value c.in-Ok.len (sym c.in-Ok.ensures.value),
  ap (λ (z : ℤ). Some (Number z Int)) (omega (arith, ints) ∙ c.signed_char.ensures),
)

pub returns-in-Err-clause-finds : goal.returns-in-Err-clause-finds
returns-in-Err-clause-finds c starts =
    let within : c.in-Err.misfit ≤ length c.args.text.now = c.in-Err.ensures.misfit in
    let same : c.in-Err.misfit ≡ length (take c.in-Err.misfit c.args.text.now) = grind (arith, common_steps) in (
      take c.in-Err.misfit c.args.text.now,
      read_misfit c.args.text.now c.in-Err.misfit (sym c.in-Err.ensures.value),
      ap (λ (n : ℕ). BadByte (c.args.place + n)) same,
    )
