use Rattle.std.proofs.Common.{◌≡◌, ◌-◌, ◌++◌, flat_map}
use Rattle.prime_paths.specs.Lister.{numbers}
use Rattle.path_masks.specs.Masks.{chunk, width, row_of_move}
use Rattle.path_masks.specs.Tables.{pass_longs, pass_piece}
use Rattle.path_masks.proofs.rows.pass_longs.Given as goal

abbrev pub invariant-loop-word : goal.invariant-loop-word
invariant-loop-word l = l.longs.items ++ pass_longs
    (flat_map (λ i. pass_piece l.arc.from l.arc.to (chunk l.paths i) i) (numbers l.word (width l.paths - l.word)))
    ≡ pass_longs (row_of_move l.arc.from l.arc.to l.paths)
