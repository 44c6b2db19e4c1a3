use Rattle.std.proofs.Common.{◌∙◌}
use Rattle.c_types.proofs.SourceLaws.{any_main}
use Rattle.c_types.proofs.sources.defines_main.Goals as goal

pub returns : goal.returns
returns c = c.any_main.ensures ∙ any_main c.args.outers.now
