use Rattle.file_commands.proofs.MergeLaws.{writable_few, writable}
use Rattle.file_commands.proofs.merge.added_file.Goals as goal

pub write_data-requires-clause-few : goal.write_data-requires-clause-few
write_data-requires-clause-few c =
    writable_few c.args.first c.args.second.now c.merge.new.first c.requires.first (c.in_ok-merge.ensures).1

pub write_data-requires-clause-records : goal.write_data-requires-clause-records
write_data-requires-clause-records c =
    writable c.args.first c.args.second.now c.merge.new.first c.requires.first (c.in_ok-merge.ensures).1
