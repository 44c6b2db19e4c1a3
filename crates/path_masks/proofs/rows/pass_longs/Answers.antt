use Rattle.std.proofs.Common.{rules, ap, ◌∙◌, ◌++◌, ◌∷◌, [], List, ℕ}
use Rattle.word_rules.specs.WordRules.{PassEntry}
use Rattle.path_masks.specs.Masks.{chunk, width, row_of_move}
use Rattle.path_masks.specs.Tables.{pass_longs, pass_piece}
use Rattle.path_masks.proofs.TableLaws.{longs_step}
use Rattle.path_masks.proofs.rows.pass_longs.Goals as goal

pub loop-word-preserved : goal.loop-word-preserved
loop-word-preserved c = longs_step (λ (e : PassEntry). e.word ∷ e.keep ∷ e.finish ∷ e.start ∷ [])
    (λ i. pass_piece c.args.arc.now.from c.args.arc.now.to (chunk c.args.paths.now i) i)
    (width c.args.paths.now) c.loop-word.word
    c.loop-word.longs.items c.put_entry.new.longs.items
    (pass_longs (row_of_move c.args.arc.now.from c.args.arc.now.to c.args.paths.now)) (search rules)
    (c.in_ok-put_entry.ensures ∙ ap (λ (q : List (List ℕ)). c.loop-word.longs.items ++ pass_longs
    (pass_piece c.args.arc.now.from c.args.arc.now.to q c.loop-word.word)) c.of.ensures)
    c.loop-word.invariant
