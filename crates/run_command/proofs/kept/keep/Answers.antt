use Rattle.std.proofs.Common.{◌≡◌, ap, ap₂, sym, ◌∙◌, ◌&&◌, Bool}
use Rattle.stack_ops.specs.Code.{CodeValue}
use Rattle.run_counts.specs.Texts.{is_closed}
use Rattle.run_command.proofs.KeepLaws.{ends_shown, refused_shown, unput_shown, kept_shown}
use Rattle.run_command.proofs.kept.keep.Goals.{then-not-code-via-then-not-code}
use Rattle.run_command.proofs.kept.keep.Goals.{then-not-code-via-else-not-code+then-not-is_closed}
use Rattle.run_command.proofs.kept.keep.Goals as goal

pub returns-then-not-code-clause-keeps : goal.returns-then-not-code-clause-keeps
returns-then-not-code-clause-keeps g c = λ ran shows.
    let covers : c.behind-finished.inside.covered ≡ c.args.finished.now.machine.code.covered =
    ap (λ (x : CodeValue). x.covered) (c.behind-finished.view_is ∙ c.code.ensures) in
    ends_shown _ c.args.turns c.args.name.now c.args.finished.now.machine.code ran c.args.finished.now.ending _
    shows.ending
    (elim c.then-not-code.branch [
      | then-not-code-via-then-not-code w ↦
          ap (λ (b : Bool). b && is_closed c.args.finished.now.ending) (sym covers ∙ w.if-not-code.true)
      | then-not-code-via-else-not-code+then-not-is_closed w ↦
          ap₂ (λ (a b : Bool). a && b) (sym covers ∙ w.if-not-code.false)
          (sym w.is_closed.ensures ∙ w.if-not-is_closed.true)
    ]) c.end_of.ensures

pub returns-in-Ok-put_data-clause-keeps : goal.returns-in-Ok-put_data-clause-keeps
returns-in-Ok-put_data-clause-keeps g c = λ ran shows.
    let covers : c.behind-finished.inside.covered ≡ c.args.finished.now.machine.code.covered =
    ap (λ (x : CodeValue). x.covered) (c.behind-finished.view_is ∙ c.code.ensures) in
    kept_shown _ _ _ c.args.turns c.args.name.now c.args.finished.now.machine.code ran c.args.finished.now.ending
    c.in-Ok.bytes.items _ _ shows.ending
    (sym covers ∙ c.if-not-code.false) (sym c.is_closed.ensures ∙ c.if-not-is_closed.false)
    (c.in-Ok.ensures.steps ran shows) c.deref.ensures.value c.in-Ok.ensures.files c.in-Ok-put_data.ensures.puts
    c.end_of-in-Ok-put_data.ensures

pub returns-in-Ok-clause-keeps : goal.returns-in-Ok-clause-keeps
returns-in-Ok-clause-keeps g c = λ ran shows.
    let covers : c.behind-finished.inside.covered ≡ c.args.finished.now.machine.code.covered =
    ap (λ (x : CodeValue). x.covered) (c.behind-finished.view_is ∙ c.code.ensures) in
    unput_shown _ _ _ c.args.turns c.args.name.now c.args.finished.now.machine.code ran c.args.finished.now.ending
    c.in-Ok.bytes.items _ shows.ending
    (sym covers ∙ c.if-not-code.false) (sym c.is_closed.ensures ∙ c.if-not-is_closed.false)
    (c.in-Ok.ensures.steps ran shows) c.in-Err-put_data.ensures.kind c.in-Ok.ensures.files
    c.in-Err-put_data.ensures.puts

pub returns-clause-keeps : goal.returns-clause-keeps
returns-clause-keeps g c = λ ran shows.
    let covers : c.behind-finished.inside.covered ≡ c.args.finished.now.machine.code.covered =
    ap (λ (x : CodeValue). x.covered) (c.behind-finished.view_is ∙ c.code.ensures) in
    refused_shown _ _ c.args.turns c.args.name.now c.args.finished.now.machine.code ran c.args.finished.now.ending
    c.in-Err.end shows.ending
    (sym covers ∙ c.if-not-code.false) (sym c.is_closed.ensures ∙ c.if-not-is_closed.false)
    (c.in-Err.ensures.steps ran shows) c.in-Err.ensures.files
