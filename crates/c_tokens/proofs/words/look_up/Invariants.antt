use Rattle.std.proofs.Common.{◌≡◌, map, drop}
use Rattle.c_tokens.specs.Words.{look_up}
use Rattle.c_tokens.proofs.words.look_up.Given as goal

abbrev pub invariant-loop-spelling : goal.invariant-loop-spelling
invariant-loop-spelling g l =
    look_up (map (λ e. (e.0.now, e.1)) (drop l.spelling-index l.table)) l.word ≡ look_up (map (λ e. (e.0.now, e.1)) l.table) l.word
