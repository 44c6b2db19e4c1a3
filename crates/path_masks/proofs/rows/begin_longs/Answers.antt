use Rattle.std.proofs.Common.{rules, ap, ◌∙◌, ◌++◌, ◌∷◌, [], List, ℕ}
use Rattle.word_rules.specs.WordRules.{BeginEntry}
use Rattle.path_masks.specs.Masks.{chunk, width, row_of_start}
use Rattle.path_masks.specs.Tables.{begin_longs, begin_piece}
use Rattle.path_masks.proofs.TableLaws.{longs_step}
use Rattle.path_masks.proofs.rows.begin_longs.Goals as goal

pub loop-word-preserved : goal.loop-word-preserved
loop-word-preserved c = longs_step (λ (e : BeginEntry). e.word ∷ e.begin ∷ e.done ∷ [])
    (λ i. begin_piece (chunk c.args.paths.now i) i) (width c.args.paths.now) c.loop-word.word
    c.loop-word.longs.items c.put_begin_entry.new.longs.items (begin_longs (row_of_start 2 c.args.paths.now))
    (search rules)
    (c.in_ok-put_begin_entry.ensures ∙ ap (λ (q : List (List ℕ)). c.loop-word.longs.items ++ begin_longs
    (begin_piece q c.loop-word.word)) c.of.ensures)
    c.loop-word.invariant
