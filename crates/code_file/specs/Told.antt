-- Reading in two steps: first all items, and then what they are among others.
use Rattle.std.specs.Prelude.{ℕ, ◌==◌, nat_le, ℤ, List, [], map}
use Rattle.cov_base.specs.Limits.{array_limit}
use Rattle.stack_ops.specs.Code.{CodeValue}
use Rattle.code_file.specs.declared.fault.CodeFault.TheVariants as fault
use Rattle.code_file.specs.declared.head.Head.{Head}
use Rattle.code_file.specs.Spelling.{magic, version}
use Rattle.code_file.specs.Reading.{Told, Placed, with_word, with_field, wanted, with_globals, with_functions}

-- the items up to the number of globals
abbrev pub with_head : List ℕ → (Head → List ℕ → ℕ → Told) → Told
with_head bytes then =
    with_word bytes 0 (λ m bytes at. wanted (m == magic) (fault.Magic 0)
    (with_word bytes at (λ v bytes next. wanted (v == version) (fault.Version at)
    (with_word bytes next (λ stamp bytes at.
    with_field (λ n. nat_le n 1) bytes at (λ covered bytes main_at.
    with_word bytes main_at (λ main bytes at.
    with_field (λ n. nat_le n array_limit) bytes at (λ count.
    then (record {
      stamp = stamp;
      covered = covered == 1;
      main = main;
      main_at = main_at;
      globals = count;
    })))))))))

-- a code whose items are right, the place of the number of its main function, and its functions with their places
pub record Items : Type 0 where
  pub code : CodeValue
  pub main_at : ℕ
  pub functions : List Placed

-- a code of its numbers, its globals and its functions
abbrev pub items_of : Head → List ℤ → List Placed → Items
items_of h globals functions = record {
  code = record {
    stamp = h.stamp;
    covered = h.covered;
    main = h.main;
    globals = globals;
    functions = map (λ f. f.function) functions;
  };
  main_at = h.main_at;
  functions = functions;
}

-- all items of a file
abbrev pub with_items : List ℕ → (Items → List ℕ → ℕ → Told) → Told
with_items bytes then =
    with_head bytes (λ h bytes at.
    with_globals h.globals [] bytes at (λ globals bytes at.
    with_word bytes at (λ count bytes at.
    with_functions count h.covered 0 0 [] bytes at (λ functions. then (items_of h globals functions)))))
