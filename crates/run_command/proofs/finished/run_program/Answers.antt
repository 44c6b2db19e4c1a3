use Rattle.std.proofs.Common.{refl, subst, ℕ, List}
use Rattle.code_runs.specs.CodeRun.{CodeRun}
use Rattle.run_command.proofs.finished.run_program.Goals as goal

pub returns-clause-finishes : goal.returns-clause-finishes
returns-clause-finishes g c =
    let code = c.in_ok-code.code in
    let bytes = c.in_ok-bytes.bytes.items in
    let h = c.in_ok-run_code.ensures.shows in
    record {
      begun = record { code = code; input = bytes };
      ran = h.0;
      run = record {
        begins = (code, c.in_ok-code.ensures.told, (bytes, c.in_ok-bytes.ensures.reads, refl));
        comes = subst (λ (input : List ℕ). CodeRun code input c.args.turns h.0) c.deref.ensures.value h.1;
      };
      code = c.in_ok-run_code.ensures.code;
      shows = h.2;
    }
