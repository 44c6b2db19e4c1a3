-- A source's name is its stem and `.c`.
use Rattle.std.proofs.Common.{◌≡◌, refl, ℕ, List, ◌++◌, Bool, true, false, codes}
use Rattle.std.specs.Prelude.{◌&&◌, ◌==◌}
use Rattle.std.specs.List.{ends_with}
use Rattle.std.proofs.lemmas.Bool.Decides.{Decides-eqb}
use Rattle.std.proofs.lemmas.Slice.Eq.{ends_is}
use Rattle.cov_words.specs.Values.{is_source_name}
use Rattle.command_steps.specs.Names.{stem}

-- what passes two tests passes the second
second : (a b : Bool) → (a && b) ≡ true → b ≡ true
second true b h = h
second false b h = absurd (cc)

pub named : (source : List ℕ) → is_source_name source ≡ true → source ≡ stem source ++ codes ".c"
named source h =
    (ends_is Decides-eqb source (codes ".c") (ends_with ◌==◌ source (codes ".c")) refl).0 (second _ _ h)
