use Rattle.std.proofs.Common.{◌≡◌, ◌++◌, subst}
use Rattle.gcda_format.specs.Data.{FunctionDataValue}
use Rattle.gcda_format.specs.Spelling.{function_bytes}
use Rattle.gcda_format.proofs.Parts.{function_put}
use Rattle.gcda_format.proofs.writing.put_function.Goals as goal

pub returns : goal.returns
returns c =
    subst (λ (f : FunctionDataValue). c.put_longs-2.new.out.items ≡ c.args.out.now.items ++ function_bytes
    c.args.number f)
    c.function.view_is
    (function_put c.args.number _ c.args.out.now.items c.put_header.new.out.items c.put_word.new.out.items
    c.put_word-2.new.out.items c.put_longs.new.out.items c.put_longs-2.new.out.items c.deref.result.now
    c.deref-2.result.now c.in_ok-put_header.ensures c.in_ok-put_word.ensures c.in_ok-put_word-2.ensures
    c.deref.ensures.value c.in_ok-put_longs.ensures c.deref-2.ensures.value c.in_ok-put_longs-2.ensures)
