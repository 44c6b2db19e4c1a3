use Rattle.std.proofs.Common.{◌≡◌, ◌-◌, ◌++◌, flat_map}
use Rattle.prime_paths.specs.Lister.{numbers}
use Rattle.path_masks.specs.Masks.{chunk, width, row_of_start}
use Rattle.path_masks.specs.Tables.{begin_longs, begin_piece}
use Rattle.path_masks.proofs.rows.begin_longs.Given as goal

abbrev pub invariant-loop-word : goal.invariant-loop-word
invariant-loop-word l = l.longs.items ++ begin_longs
    (flat_map (λ i. begin_piece (chunk l.paths i) i) (numbers l.word (width l.paths - l.word)))
    ≡ begin_longs (row_of_start 2 l.paths)
