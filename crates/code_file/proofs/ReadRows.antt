-- What changed bytes of a worked file are.
use Rattle.std.proofs.Common.{◌≡◌, refl, ℕ, zero, suc, List, [], ◌∷◌, ◌++◌, take}
use Rattle.std.specs.Prelude.{slice_set}
use Rattle.code_file.specs.declared.fault.CodeFault.TheVariants as fault
use Rattle.code_file.specs.Reading.{Told, File, Fault, told}
use Rattle.code_file.proofs.FileRows.{gives_0}

-- the 75 bytes of the code with Push 0, Return
abbrev bytes : List ℕ
bytes =
    100 ∷ 111 ∷ 99 ∷ 112 ∷ 114 ∷ 48 ∷ 50 ∷ 80 ∷ 0 ∷ 0 ∷ 0 ∷ 0 ∷ 0 ∷ 0 ∷ 0 ∷ 0 ∷ 0 ∷ 0 ∷ 0 ∷ 0
    ∷ 0 ∷ 0 ∷ 0 ∷ 0 ∷ 1 ∷ 0 ∷ 0 ∷ 0 ∷ 0 ∷ 0 ∷ 0 ∷ 0 ∷ 0 ∷ 0 ∷ 0 ∷ 0 ∷ 1 ∷ 0 ∷ 0 ∷ 0 ∷ 1 ∷ 0 ∷ 0 ∷ 0
    ∷ 0 ∷ 0 ∷ 0 ∷ 0 ∷ 0 ∷ 0 ∷ 0 ∷ 0 ∷ 0 ∷ 0 ∷ 0 ∷ 0 ∷ 0 ∷ 0 ∷ 0 ∷ 0 ∷ 2 ∷ 0 ∷ 0 ∷ 0
    ∷ 0 ∷ 0 ∷ 0 ∷ 0 ∷ 0 ∷ 0 ∷ 0 ∷ 0 ∷ 0 ∷ 0 ∷ 42 ∷ []

the_file_of_the_code : told bytes ≡ File gives_0
the_file_of_the_code = refl

-- what the first bytes are, for each number of them below this
abbrev cuts : ℕ → List Told
cuts zero = []
cuts (suc n) = told (take n bytes) ∷ cuts n

abbrev shorts : ℕ → List Told
shorts zero = []
shorts (suc n) = Fault (fault.Short n) ∷ shorts n

each_cut_is_short : cuts 75 ≡ shorts 75
each_cut_is_short = refl

one_byte_more : told (bytes ++ 0 ∷ []) ≡ Fault (fault.Extra 75)
one_byte_more = refl

another_magic_word : told (slice_set bytes 3 113) ≡ Fault (fault.Magic 0)
another_magic_word = refl

the_version_of_dense_rows : told (slice_set bytes 6 49) ≡ Fault (fault.Version 4)
the_version_of_dense_rows = refl

neither_counts_nor_not : told (slice_set bytes 12 2) ≡ Fault (fault.Field 12)
neither_counts_nor_not = refl

main_is_not_there : told (slice_set bytes 16 1) ≡ Fault (fault.Field 16)
main_is_not_there = refl

more_parameters_than_cells : told (slice_set bytes 28 1) ≡ Fault (fault.Field 32)
more_parameters_than_cells = refl

no_operand_has_room : told (slice_set bytes 36 0) ≡ Fault (fault.Depth 64)
no_operand_has_room = refl

counters_in_a_plain_code : told (slice_set bytes 48 1) ≡ Fault (fault.Field 48)
counters_in_a_plain_code = refl

no_instruction : told (slice_set bytes 60 0) ≡ Fault (fault.Field 60)
no_instruction = refl

one_instruction_more : told (slice_set bytes 60 3) ≡ Fault (fault.Short 75)
one_instruction_more = refl

no_operation : told (slice_set bytes 64 47) ≡ Fault (fault.Opcode 64)
no_operation = refl

no_number : told (slice_set bytes 65 2) ≡ Fault (fault.Opcode 64)
no_number = refl

a_small_number_marked_as_great : told (slice_set bytes 65 1) ≡ Fault (fault.Opcode 64)
a_small_number_marked_as_great = refl

the_last_leads_on : told (slice_set bytes 74 2) ≡ Fault (fault.Jump 74)
the_last_leads_on = refl
