use Rattle.std.proofs.Common.{◌≡◌}
use Rattle.cov_outside.specs.Outside.{HasCause}
use Rattle.gcda_format.specs.Data.{IsData}
use Rattle.cover_command.specs.Gains.{told_by_runs}
use Rattle.cover_command.proofs.RunLaws.{Behind}
use Rattle.cover_command.proofs.runs.run_names.Given as goal

-- the runs from the name on end all
abbrev pub invariant-loop-k : goal.invariant-loop-k
invariant-loop-k g l = record {
  behind : Behind (g.F.Folder.files l.initial.folder) l.initial.machine.code l.initial.machine.turns l.names
      (told_by_runs l.initial.gained) l.k (told_by_runs l.gained);
  fits : IsData l.gained.counts;
  code : l.machine.code ≡ l.initial.machine.code;
  turns : l.machine.turns ≡ l.initial.machine.turns;
  files : g.F.Folder.files l.folder ≡ g.F.Folder.files l.initial.folder;
  cause : HasCause (g.F.Folder.faults l.initial.folder) (g.F.Folder.faults l.folder) ⊥;
}
