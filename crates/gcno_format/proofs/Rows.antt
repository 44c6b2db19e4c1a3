-- The notes of a worked program, and what changed bytes of them are.
use Rattle.std.proofs.Common.{◌≡◌, refl, ℕ, zero, suc, List, [], ◌∷◌, ◌++◌, length, take, drop}
use Rattle.std.specs.Prelude.{slice_set, Result, Ok, Err, Option, Some, None, slice_get, ◌-◌}
use Rattle.cov_base.specs.Net.{NetValue}
use Rattle.cov_base.specs.declared.net.ArcKind.TheVariants.{Real}
use Rattle.cov_base.specs.declared.net.FlowArc.{FlowArc}
use Rattle.gcov_records.specs.declared.fault.FileFault.{FileFault}
use Rattle.gcov_records.specs.declared.fault.FileFault.TheVariants as fault
use Rattle.gcno_format.specs.declared.marks.Marked.{Marked}
use Rattle.gcno_format.specs.Marks.{marked}
use Rattle.gcno_format.specs.Notes.{NotesValue}
use Rattle.gcno_format.specs.Spelling.{leaving_bytes, blocks_bytes, lines_record, head_bytes, notes_bytes}
use Rattle.gcno_format.specs.Layout.{LayoutValue, FileValue}
use Rattle.gcno_format.specs.Reading.{laid_out}
use Rattle.gcno_format.specs.Values.{notes_of, wrong_lines, bare_net}

abbrev real : ℕ → ℕ → FlowArc
real a b = record { from = a; to = b; kind = Real }

-- a loop of blocks 3 and 4
abbrev loop : NetValue
loop = record {
  blocks = 6;
  arcs = real 0 2 ∷ real 2 3 ∷ real 3 4 ∷ real 3 5 ∷ real 4 3 ∷ real 5 1 ∷ [];
  lines = [] ∷ [] ∷ (1 ∷ 2 ∷ []) ∷ (3 ∷ []) ∷ (4 ∷ []) ∷ (5 ∷ []) ∷ [];
}

-- the notes of a program whose only function, main, has this net; its stamp and checksum are written as 1 and 2
abbrev one_loop : NotesValue
one_loop = record {
  stamp = 1;
  limit = 10000;
  functions = record {
    name = 109 ∷ 97 ∷ 105 ∷ 110 ∷ [];
    line = 1;
    checksum = 2;
    net = loop;
  } ∷ [];
}

abbrev bytes : List ℕ
bytes =
    111 ∷ 110 ∷ 99 ∷ 103 ∷ 114 ∷ 48 ∷ 49 ∷ 80 ∷ 1 ∷ 0 ∷ 0 ∷ 0 ∷ 16 ∷ 39 ∷ 0 ∷ 0 ∷ 1 ∷ 0 ∷ 0 ∷ 0 ∷ 0 ∷ 0 ∷ 0 ∷ 1
    ∷ 21 ∷ 0 ∷ 0 ∷ 0 ∷ 0 ∷ 0 ∷ 0 ∷ 0 ∷ 2 ∷ 0 ∷ 0 ∷ 0 ∷ 5 ∷ 0 ∷ 0 ∷ 0 ∷ 109 ∷ 97 ∷ 105 ∷ 110 ∷ 0 ∷ 1 ∷ 0 ∷ 0 ∷ 0
    ∷ 0 ∷ 0 ∷ 65 ∷ 1 ∷ 4 ∷ 0 ∷ 0 ∷ 0 ∷ 6 ∷ 0 ∷ 0 ∷ 0 ∷ 0 ∷ 0 ∷ 67 ∷ 1 ∷ 12 ∷ 0 ∷ 0 ∷ 0 ∷ 0 ∷ 0 ∷ 0 ∷ 0 ∷ 2 ∷ 0
    ∷ 0 ∷ 0 ∷ 5 ∷ 0 ∷ 0 ∷ 0 ∷ 0 ∷ 0 ∷ 67 ∷ 1 ∷ 12 ∷ 0 ∷ 0 ∷ 0 ∷ 2 ∷ 0 ∷ 0 ∷ 0 ∷ 3 ∷ 0 ∷ 0 ∷ 0 ∷ 4 ∷ 0 ∷ 0 ∷ 0 ∷ 0
    ∷ 0 ∷ 67 ∷ 1 ∷ 20 ∷ 0 ∷ 0 ∷ 0 ∷ 3 ∷ 0 ∷ 0 ∷ 0 ∷ 4 ∷ 0 ∷ 0 ∷ 0 ∷ 5 ∷ 0 ∷ 0 ∷ 0 ∷ 5 ∷ 0 ∷ 0 ∷ 0 ∷ 1 ∷ 0 ∷ 0 ∷ 0
    ∷ 0 ∷ 0 ∷ 67 ∷ 1 ∷ 12 ∷ 0 ∷ 0 ∷ 0 ∷ 4 ∷ 0 ∷ 0 ∷ 0 ∷ 3 ∷ 0 ∷ 0 ∷ 0 ∷ 0 ∷ 0 ∷ 0 ∷ 0 ∷ 0 ∷ 0 ∷ 67 ∷ 1 ∷ 12 ∷ 0
    ∷ 0 ∷ 0 ∷ 5 ∷ 0 ∷ 0 ∷ 0 ∷ 1 ∷ 0 ∷ 0 ∷ 0 ∷ 1 ∷ 0 ∷ 0 ∷ 0 ∷ 0 ∷ 0 ∷ 69 ∷ 1 ∷ 12 ∷ 0 ∷ 0 ∷ 0 ∷ 2 ∷ 0 ∷ 0 ∷ 0 ∷ 1
    ∷ 0 ∷ 0 ∷ 0 ∷ 2 ∷ 0 ∷ 0 ∷ 0 ∷ 0 ∷ 0 ∷ 69 ∷ 1 ∷ 8 ∷ 0 ∷ 0 ∷ 0 ∷ 3 ∷ 0 ∷ 0 ∷ 0 ∷ 3 ∷ 0 ∷ 0 ∷ 0 ∷ 0 ∷ 0 ∷ 69 ∷ 1
    ∷ 8 ∷ 0 ∷ 0 ∷ 0 ∷ 4 ∷ 0 ∷ 0 ∷ 0 ∷ 4 ∷ 0 ∷ 0 ∷ 0 ∷ 0 ∷ 0 ∷ 69 ∷ 1 ∷ 8 ∷ 0 ∷ 0 ∷ 0 ∷ 5 ∷ 0 ∷ 0 ∷ 0 ∷ 5 ∷ 0 ∷ 0
    ∷ 0 ∷ []

the_bytes_of_the_loop : notes_bytes one_loop ≡ bytes
unfolding head_bytes blocks_bytes leaving_bytes lines_record
the_bytes_of_the_loop = refl

two_hundred_thirty_seven_bytes : length bytes ≡ 237
two_hundred_thirty_seven_bytes = refl

-- the notes that are read, or the fault
abbrev seen : Result FileValue FileFault → Result NotesValue FileFault
seen (Ok file) = Ok (notes_of file)
seen (Err found) = Err found

the_loop_of_the_bytes : seen (laid_out bytes) ≡ Ok one_loop
the_loop_of_the_bytes = refl

-- what is told of the bytes, if they are faulty
abbrev faulty : List ℕ → Option FileFault
faulty changed = err (laid_out changed)
  where
    err : Result FileValue FileFault → Option FileFault
    err (Ok file) = None
    err (Err found) = Some found

-- what the first bytes are told to be, for each number of them below this
abbrev cuts : ℕ → List (Option FileFault)
cuts zero = []
cuts (suc n) = faulty (take n bytes) ∷ cuts n

-- so many cuts, of which the longest has one byte less than this, end within an item or before one that is due
abbrev shorts : ℕ → ℕ → List (Option FileFault) → List (Option FileFault)
shorts at zero more = more
shorts at (suc n) more = Some (fault.Short (at - 1)) ∷ shorts (at - 1) n more

-- A cut is short, but for those behind the record of blocks, and behind each record of arcs or of lines.
each_cut : cuts 237
    ≡ shorts 237 15 (None ∷ shorts 221 15 (None ∷ shorts 205 15 (None ∷ shorts 189 19 (None
    ∷ shorts 169 19 (None ∷ shorts 149 19 (None ∷ shorts 129 27 (None ∷ shorts 101 19 (None
    ∷ shorts 81 19 (None ∷ shorts 61 61 [])))))))))
each_cut = refl

-- ---- bytes behind the file

one_byte_more : faulty (bytes ++ 0 ∷ []) ≡ Some (fault.Short 238)
one_byte_more = refl

a_word_more : faulty (bytes ++ 0 ∷ 0 ∷ 0 ∷ 0 ∷ []) ≡ Some (fault.Extra 237)
a_word_more = refl

another_record_of_lines : faulty (bytes ++ 0 ∷ 0 ∷ 69 ∷ 1 ∷ []) ≡ Some (fault.Short 241)
another_record_of_lines = refl

arcs_behind_lines : faulty (slice_set bytes 191 67) ≡ Some (fault.Extra 189)
arcs_behind_lines = refl

a_byte_behind_no_functions : faulty (slice_set bytes 16 0) ≡ Some (fault.Extra 20)
a_byte_behind_no_functions = refl

no_functions : faulty (take 20 (slice_set bytes 16 0)) ≡ None
no_functions = refl

-- ---- a second function is due

two_functions : List ℕ
two_functions = slice_set bytes 16 2

it_is_missing : faulty two_functions ≡ Some (fault.Short 237)
unfolding two_functions
it_is_missing = refl

a_word_in_its_place : faulty (two_functions ++ 0 ∷ 0 ∷ 0 ∷ 0 ∷ []) ≡ Some (fault.Tag 237)
unfolding two_functions
a_word_in_its_place = refl

arcs_behind_lines_before_it : faulty (slice_set two_functions 191 67) ≡ Some (fault.Tag 189)
unfolding two_functions
arcs_behind_lines_before_it = refl

its_number : faulty (two_functions ++ drop 20 bytes) ≡ Some (fault.Order 245)
unfolding two_functions
its_number = refl

both_of_them : faulty (two_functions ++ slice_set (drop 20 bytes) 8 1) ≡ None
unfolding two_functions
both_of_them = refl

-- ---- faults of items

data_for_notes : faulty (slice_set bytes 0 97) ≡ Some (fault.Magic 0)
data_for_notes = refl

another_version : faulty (slice_set bytes 6 50) ≡ Some (fault.Version 4)
another_version = refl

a_limit_too_great : faulty (slice_set bytes 14 1) ≡ Some (fault.Number 12)
a_limit_too_great = refl

another_tag : faulty (slice_set bytes 23 2) ≡ Some (fault.Tag 20)
another_tag = refl

no_room_for_a_name : faulty (take 28 (slice_set bytes 24 17)) ≡ Some (fault.Length 24)
no_room_for_a_name = refl

more_room_than_the_name : faulty (take 45 (slice_set bytes 24 22)) ≡ Some (fault.Length 24)
more_room_than_the_name = refl

the_name_is_cut : faulty (take 44 (slice_set bytes 24 22)) ≡ Some (fault.Short 44)
the_name_is_cut = refl

the_name_is_longer_than_the_file : faulty (slice_set bytes 36 255) ≡ Some (fault.Short 237)
the_name_is_longer_than_the_file = refl

the_second_function_first : faulty (slice_set bytes 28 1) ≡ Some (fault.Order 28)
the_second_function_first = refl

a_name_with_a_digit_first : faulty (slice_set bytes 40 48) ≡ Some (fault.Text 36)
a_name_with_a_digit_first = refl

a_name_without_an_end : faulty (slice_set bytes 44 97) ≡ Some (fault.Text 36)
a_name_without_an_end = refl

a_name_that_ends_early : faulty (slice_set bytes 42 0) ≡ Some (fault.Text 36)
a_name_that_ends_early = refl

no_record_of_blocks : faulty (slice_set bytes 51 67) ≡ Some (fault.Tag 49)
no_record_of_blocks = refl

two_numbers_of_blocks : faulty (slice_set bytes 53 8) ≡ Some (fault.Length 53)
two_numbers_of_blocks = refl

a_record_without_arcs : faulty (slice_set bytes 65 4) ≡ Some (fault.Length 65)
a_record_without_arcs = refl

half_an_arc : faulty (slice_set bytes 65 16) ≡ Some (fault.Length 65)
half_an_arc = refl

arcs_of_the_same_block : faulty (slice_set bytes 89 0) ≡ Some (fault.Order 89)
arcs_of_the_same_block = refl

a_record_without_lines : faulty (slice_set bytes 173 4) ≡ Some (fault.Length 173)
a_record_without_lines = refl

half_a_line : faulty (slice_set bytes 173 10) ≡ Some (fault.Length 173)
half_a_line = refl

lines_of_the_same_block : faulty (slice_set bytes 197 2) ≡ Some (fault.Order 197)
lines_of_the_same_block = refl

-- ---- flags and lines

-- what the bytes hold of the first function
abbrev first_of : List ℕ → Option LayoutValue
first_of changed = first (laid_out changed)
  where
    first : Result FileValue FileFault → Option LayoutValue
    first (Ok file) = slice_get file.functions 0
    first (Err found) = None

-- whether the flags are those of the net
abbrev own_flags : Option LayoutValue → Option (List Marked)
own_flags None = None
own_flags (Some l) = Some (marked (bare_net l))

abbrev told_flags : Option LayoutValue → Option (List Marked)
told_flags None = None
told_flags (Some l) = Some l.arcs

the_flags_are_those_of_the_net : own_flags (first_of bytes) ≡ told_flags (first_of bytes)
the_flags_are_those_of_the_net = refl

-- the place of the first record of lines that doesn't suit the net
abbrev lines_at_fault : Option LayoutValue → Option ℕ
lines_at_fault None = None
lines_at_fault (Some l) = wrong_lines l.blocks l.lines

the_lines_suit : lines_at_fault (first_of bytes) ≡ None
the_lines_suit = refl

a_line_twice : lines_at_fault (first_of (slice_set bytes 185 1)) ≡ Some 169
a_line_twice = refl

line_0 : lines_at_fault (first_of (slice_set bytes 201 0)) ≡ Some 189
line_0 = refl

lines_of_the_exit : lines_at_fault (first_of (slice_set bytes 177 1)) ≡ Some 169
lines_of_the_exit = refl

lines_of_no_block : lines_at_fault (first_of (slice_set bytes 229 6)) ≡ Some 221
lines_of_no_block = refl
