-- The pieces are joined: what was written of each is a front of the line.
use Rattle.std.proofs.Common.{[], ◌∷◌, ◌++◌}
use Rattle.std.proofs.lemmas.Result.{err_from_is_err_and}
use Rattle.cov_answers.specs.Answers.{digits_of}
use Rattle.cov_answers.proofs.WriteLaws.{cut_first, both}
use Rattle.cov_answers.proofs.complaints.write_line.Goals as goal

pub returns-in_err-write_all-2-clause-line : goal.returns-in_err-write_all-2-clause-line
returns-in_err-write_all-2-clause-line g c =
    let p = err_from_is_err_and c.from_residual-in_err-write_all-2.result c.from_residual-in_err-write_all-2.ensures.1 in
    let first = c.args.link.now ++ digits_of c.args.number in
    let second = c.args.second_link.now ++ digits_of c.args.second_number in
    rw (p.1, p.2) (both _ _ _ _ _ c.args.words.now (c.args.name.now ++ (first ++ (second ++ 10 ∷ [])))
    c.in_ok-write_all.ensures.writes
    (cut_first _ _ _ c.args.name.now (first ++ (second ++ 10 ∷ [])) c.in_err-write_all-2.ensures.writes))

pub returns-in_err-write_part-clause-line : goal.returns-in_err-write_part-clause-line
returns-in_err-write_part-clause-line g c =
    let p = err_from_is_err_and c.from_residual-in_err-write_part.result c.from_residual-in_err-write_part.ensures.1 in
    let first = c.args.link.now ++ digits_of c.args.number in
    let second = c.args.second_link.now ++ digits_of c.args.second_number in
    rw (p.1, p.2) (both _ _ _ _ _ c.args.words.now (c.args.name.now ++ (first ++ (second ++ 10 ∷ [])))
    c.in_ok-write_all.ensures.writes
    (both _ _ _ _ _ c.args.name.now (first ++ (second ++ 10 ∷ [])) c.in_ok-write_all-2.ensures.writes
    (cut_first _ _ _ first (second ++ 10 ∷ []) c.in_err-write_part.ensures.part)))

pub returns-in_err-write_part-2-clause-line : goal.returns-in_err-write_part-2-clause-line
returns-in_err-write_part-2-clause-line g c =
    let p = err_from_is_err_and c.from_residual-in_err-write_part-2.result c.from_residual-in_err-write_part-2.ensures.1 in
    let first = c.args.link.now ++ digits_of c.args.number in
    let second = c.args.second_link.now ++ digits_of c.args.second_number in
    rw (p.1, p.2) (both _ _ _ _ _ c.args.words.now (c.args.name.now ++ (first ++ (second ++ 10 ∷ [])))
    c.in_ok-write_all.ensures.writes
    (both _ _ _ _ _ c.args.name.now (first ++ (second ++ 10 ∷ [])) c.in_ok-write_all-2.ensures.writes
    (both _ _ _ _ _ first (second ++ 10 ∷ []) c.in_ok-write_part.ensures.part
    (cut_first _ _ _ second (10 ∷ []) c.in_err-write_part-2.ensures.part))))

pub returns-clause-line : goal.returns-clause-line
returns-clause-line g c =
    let first = c.args.link.now ++ digits_of c.args.number in
    let second = c.args.second_link.now ++ digits_of c.args.second_number in
    both _ _ _ _ _ c.args.words.now (c.args.name.now ++ (first ++ (second ++ 10 ∷ [])))
    c.in_ok-write_all.ensures.writes
    (both _ _ _ _ _ c.args.name.now (first ++ (second ++ 10 ∷ [])) c.in_ok-write_all-2.ensures.writes
    (both _ _ _ _ _ first (second ++ 10 ∷ []) c.in_ok-write_part.ensures.part
    (both _ _ _ _ _ second (10 ∷ []) c.in_ok-write_part-2.ensures.part c.write_all-3.ensures.writes)))
