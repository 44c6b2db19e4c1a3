-- What bytes are by their items: the records of notes, or bytes with a first fault at a place. The items are taken from
-- left to right, each tested once it stands whole together with those before it.
use Rattle.std.specs.Prelude.{ℕ, zero, suc, ◌+◌, ◌-◌, ◌/◌, ◌%◌, ◌==◌, ◌&&◌, not, nat_le, Bool, if◌then◌else◌, List, [], ◌∷◌, length, take, get_or, Result, Ok, Err}
use Rattle.gcov_records.specs.declared.fault.FileFault.{FileFault}
use Rattle.gcov_records.specs.declared.fault.FileFault.TheVariants as fault
use Rattle.gcov_records.specs.Reading.{Got, Reading, ◌>>=◌, give, tested, word, fixed, header, each, whole}
use Rattle.gcno_format.specs.declared.marks.Marked.{Marked}
use Rattle.gcno_format.specs.Marks.{Leaving}
use Rattle.gcno_format.specs.Notes.{is_name, path_limit}
use Rattle.gcno_format.specs.Spelling.{magic, version, function_tag, block_tag, arc_tag, line_tag}
use Rattle.gcno_format.specs.Layout.{
  LinesValue,
  LayoutValue,
  FileValue,
  ProgressValue,
  begun,
  with_arcs,
  with_lines,
  all_begun,
  is_due,
  is_without_lines,
}

-- no item is read
abbrev pub fail : {A : Type 0} → FileFault → Reading A
fail found = λ bytes at. Err found

-- what is read, by the place of its first byte
abbrev pub placed : {A : Type 0} → (ℕ → Reading A) → Reading A
placed item = λ bytes at. item at bytes at

-- the next byte
abbrev pub byte : List ℕ → ℕ → Result (Got ℕ) FileFault
byte [] at = Err (fault.Short at)
byte (b ∷ rest) at = Ok (record { value = b; rest = rest; at = at + 1 })

-- ---- a function's own record and that of its blocks, behind the tag of the first

-- bytes without their last
abbrev pub text_in : List ℕ → List ℕ
text_in bytes = take (length bytes - 1) bytes

-- a name of C with a NUL behind it
abbrev pub is_name_string : List ℕ → Bool
is_name_string bytes = (get_or bytes (length bytes - 1) 1 == 0) && is_name (text_in bytes)

-- The name in a record whose length is this and stands at this place. The string's word and as many bytes as it says
-- are one item: it must fill the record but for four words, and be a name.
abbrev pub name_at : ℕ → ℕ → Reading (List ℕ)
name_at size_place size =
    placed (λ place.
    word >>= λ n.
    tested is_name_string (λ at. fault.Text place)
    (tested (λ bytes. n + 16 == size) (λ at. fault.Length size_place) (each 0 n (λ i. byte))) >>= λ bytes.
    give (text_in bytes))

-- the length of a function's record, which is 18 where its name has one letter
abbrev pub head_size : Reading ℕ
head_size = tested (λ size. nat_le 18 size) fault.Length word

-- the function of this number, whose record begins at this place
abbrev pub head_at : ℕ → ℕ → Reading LayoutValue
head_at k place =
    placed (λ size_place.
    head_size >>= λ size.
    fixed k fault.Order >>= λ number.
    word >>= λ checksum.
    name_at size_place size >>= λ name.
    word >>= λ line.
    header block_tag 4 >>= λ h.
    word >>= λ blocks.
    give (record {
      place = place;
      name = name;
      line = line;
      checksum = checksum;
      blocks = blocks;
      arcs = [];
      lines = [];
    }))

-- ---- records of arcs and of lines, behind the tag

-- the target and the flags of an arc that leaves this block
abbrev pub way : ℕ → ℕ → Reading Marked
way block i = word >>= λ to. word >>= λ flags. give (record { from = block; to = to; flags = flags })

-- a block that is the next in order
abbrev pub ordered : ℕ → Reading ℕ
ordered least = tested (λ block. nat_le least block) fault.Order word

-- the length of a record of a block and of arcs, one at least
abbrev pub arcs_size : Reading ℕ
arcs_size = tested (λ size. nat_le 12 size && (size % 8 == 4)) fault.Length word

-- the length of a record of a block and of lines, one at least
abbrev pub lines_size : Reading ℕ
lines_size = tested (λ size. nat_le 8 size && (size % 4 == 0)) fault.Length word

-- a block that is at least this, and the arcs that leave it
abbrev pub leaving_at : ℕ → Reading Leaving
leaving_at least =
    arcs_size >>= λ size.
    ordered least >>= λ block.
    each 0 (size / 8) (way block) >>= λ arcs.
    give (record { block = block; arcs = arcs })

-- a block that is at least this, and its lines, in a record that begins at this place
abbrev pub lines_at : ℕ → ℕ → Reading LinesValue
lines_at place least =
    lines_size >>= λ size.
    ordered least >>= λ block.
    each 0 (size / 4 - 1) (λ i. word) >>= λ lines.
    give (record { place = place; block = block; lines = lines })

-- ---- records

-- the function with a further record of arcs
abbrev pub arcs_into : ProgressValue → Reading ProgressValue
arcs_into p = leaving_at p.arcs_from >>= λ l. give (with_arcs p l)

-- the function with a further record of lines, which begins at this place
abbrev pub lines_into : ProgressValue → ℕ → Reading ProgressValue
lines_into p place = lines_at place p.lines_from >>= λ r. give (with_lines p r)

-- the next function, whose record begins at this place
abbrev pub function_into : ProgressValue → ℕ → Reading ProgressValue
function_into p place = head_at p.next place >>= λ now. give (begun (all_begun p) now (p.next + 1) p.count)

-- a record that may not stand here: where no function is due, the file has ended before it
abbrev pub wrong_tag : ProgressValue → ℕ → FileFault
wrong_tag p place = if is_due p then fault.Tag place else fault.Extra place

-- a record by its tag and its place: one of arcs before the first of lines, one of lines, or, if one is due, a function
abbrev pub by_tag : ProgressValue → ℕ → ℕ → Reading ProgressValue
by_tag p place tag =
    if (tag == arc_tag) && is_without_lines p.now then arcs_into p
    else if tag == line_tag then lines_into p place
    else if (tag == function_tag) && is_due p then function_into p place
    else fail (wrong_tag p place)

-- the next record
abbrev pub next_record : ProgressValue → Reading ProgressValue
next_record p = placed (λ place. word >>= λ tag. by_tag p place tag)

-- no function is due, and no byte is left
abbrev pub is_over : ProgressValue → List ℕ → Bool
is_over p bytes = not (is_due p) && (length bytes == 0)

-- records up to the end, but at most so many
abbrev pub records : ℕ → ProgressValue → Reading ProgressValue
records zero p = give p
records (suc n) p = λ bytes at. if is_over p bytes then give p bytes at else (next_record p >>= λ q. records n q) bytes at

-- ---- files

-- the function of number 0, with the tag of its record
abbrev pub first_function : Reading LayoutValue
first_function = placed (λ place. fixed function_tag fault.Tag >>= λ t. head_at 0 place)

-- so many functions, with at most so many records behind the first two
abbrev pub functions_of : ℕ → ℕ → Reading (List LayoutValue)
functions_of most zero = give []
functions_of most (suc n) =
    first_function >>= λ now. records most (begun [] now 1 (suc n)) >>= λ p. give (all_begun p)

-- a limit of paths
abbrev pub limit_word : Reading ℕ
limit_word = tested (λ limit. nat_le limit path_limit) fault.Number word

-- notes, with at most so many records
abbrev pub notes_file : ℕ → Reading FileValue
notes_file most =
    fixed magic fault.Magic >>= λ m.
    fixed version fault.Version >>= λ v.
    word >>= λ stamp.
    limit_word >>= λ limit.
    word >>= λ count.
    functions_of most count >>= λ functions.
    give (record { stamp = stamp; limit = limit; functions = functions })

-- what bytes are by their items; they hold fewer records than bytes
abbrev pub laid_out : List ℕ → Result FileValue FileFault
laid_out bytes = whole (notes_file (length bytes)) bytes
