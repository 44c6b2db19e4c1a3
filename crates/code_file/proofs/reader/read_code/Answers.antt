use Rattle.std.proofs.Common.{length, arith}
use Rattle.code_file.specs.declared.reader.FileItems.{FileItems}
use Rattle.code_file.specs.Taking.{items_in}
use Rattle.code_file.proofs.PlaceLaws.{reads_err, reads_extra, reads_checked, known_here, fits_known}
use Rattle.code_file.proofs.reader.read_code.Goals as goal

pub returns-in_err-items : goal.returns-in_err-items
returns-in_err-items c =
    reads_err (λ (i : FileItems). items_in i.code i.main_at i.places.items) c.args.bytes.now c.new-reader.result c.take_items.new.reader
    c.in_err-items.field-0.0 c.from_residual.result c.new-reader.ensures c.from_residual.ensures.1
    c.in_err-items.ensures.value

pub returns-then-left-ne0 : goal.returns-then-left-ne0
returns-then-left-ne0 c =
    reads_extra c.args.bytes.now c.new-reader.result c.take_items.new.reader
    (items_in c.in_ok-items.items.code c.in_ok-items.items.main_at c.in_ok-items.items.places.items) c.left.result
    c.place.result c.new-reader.ensures c.in_ok-items.ensures.value c.left.ensures c.if-left-ne0.true c.place.ensures

pub checked-requires-clause-items : goal.checked-requires-clause-items
checked-requires-clause-items c =
    (known_here c.args.bytes.now c.new-reader.result c.take_items.new.reader
    (items_in c.in_ok-items.items.code c.in_ok-items.items.main_at c.in_ok-items.items.places.items) c.left.result
    c.new-reader.ensures c.in_ok-items.ensures.value c.left.ensures c.if-left-ne0.false
    (λ k. omega (arith, c.type_inv.bytes k))).items

pub checked-requires-clause-places : goal.checked-requires-clause-places
checked-requires-clause-places c =
    fits_known (length c.args.bytes.now) c.in_ok-items.items.code c.in_ok-items.items.main_at
    c.in_ok-items.items.places.items
    (known_here c.args.bytes.now c.new-reader.result c.take_items.new.reader
    (items_in c.in_ok-items.items.code c.in_ok-items.items.main_at c.in_ok-items.items.places.items) c.left.result
    c.new-reader.ensures c.in_ok-items.ensures.value c.left.ensures c.if-left-ne0.false
    (λ k. omega (arith, c.type_inv.bytes k))) c.in_ok-items.ensures.places

pub returns : goal.returns
returns c =
    reads_checked c.args.bytes.now c.new-reader.result c.take_items.new.reader
    (items_in c.in_ok-items.items.code c.in_ok-items.items.main_at c.in_ok-items.items.places.items) c.left.result
    c.checked.result c.new-reader.ensures c.in_ok-items.ensures.value c.left.ensures c.if-left-ne0.false
    c.checked.ensures
