use Rattle.std.proofs.Common.{◌≡◌, map, drop}
use Rattle.c_tokens.specs.Marks.{first_mark}
use Rattle.c_tokens.proofs.words.first_mark.Given as goal

abbrev pub invariant-loop-spelling : goal.invariant-loop-spelling
invariant-loop-spelling l =
    first_mark (map (λ m. (m.0.now, m.1)) (drop l.spelling-index l.table)) l.text ≡ first_mark (map (λ m. (m.0.now, m.1)) l.table) l.text
