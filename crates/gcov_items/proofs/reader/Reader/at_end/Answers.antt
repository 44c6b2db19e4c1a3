use Rattle.std.proofs.Common.{◌≢◌, ◌≤◌, [], length, subst, arith}
use Rattle.gcov_items.specs.Items.{ReaderValue, left}
use Rattle.gcov_items.proofs.ReadLaws.{some_left}
use Rattle.gcov_items.proofs.reader.Reader.at_end.Goals as goal

pub returns : goal.returns
returns c =
    let le : c.self.inside.at ≤ length c.self.inside.bytes.now = c.self.invariant in
    let ne = c.if-self.false in
    subst (λ (r : ReaderValue). left r ≢ []) c.self.view_is
    (some_left c.self.inside.bytes.now c.self.inside.at (omega (arith, le, ne)))
