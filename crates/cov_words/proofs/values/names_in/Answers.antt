use Rattle.std.proofs.Common.{ap, ◌∙◌, ℕ, List, map, string_bytes}
use Rattle.std.specs.Borrow.{Bor}
use Rattle.std.proofs.lemmas.Result.{IfOk-weaker}
use Rattle.clap.specs.Words.{found_of}
use Rattle.cov_words.proofs.ValueLaws.{texts_some, texts_none}
use Rattle.cov_words.proofs.values.names_in.Goals as goal

pub returns-in-Some : goal.returns-in-Some
returns-in-Some c = IfOk-weaker c.owned.result _ _
    (λ names h. h ∙ texts_some (found_of c.args.matches.now) c.args.id.now (map (λ (s : Bor (List ℕ)). s.now) c.in-Some.words.now) c.in-Some.ensures)
    c.owned.ensures

pub returns-in-None : goal.returns-in-None
returns-in-None c = ap (map string_bytes) c.new.ensures.items
    ∙ texts_none (found_of c.args.matches.now) c.args.id.now c.in-None.ensures
