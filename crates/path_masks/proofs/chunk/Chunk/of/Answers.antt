use Rattle.std.proofs.Common.{refl, arith}
use Rattle.path_masks.proofs.ChunkLaws.{chunk_from}
use Rattle.path_masks.proofs.chunk.Chunk.of.Goals as goal

pub overflow_mul-from : goal.overflow_mul-from
overflow_mul-from c =
    let h = c.requires in
    let l = c.len-count.type_inv in
    let e = c.len-count.ensures in
    omega (arith, h, l, e)

pub returns : goal.returns
returns c = chunk_from c.args.paths.now c.args.word _ c.up_to_64.result c.len-count.result refl c.len-count.ensures
    c.up_to_64.ensures.value
