-- Where all that a command needs is there and as it has to be, only the folder and memory can stop its steps.
use Rattle.std.proofs.Common.{◌≡◌, inl, inr, refl, sym, ap, subst, ◌∙◌, ℕ, ◌≤◌, List, length, arith}
use Rattle.std.specs.Prelude.{Option, Some, None, Ok, Err}
use Rattle.cov_base.specs.Limits.{source_limit, file_limit}
use Rattle.cov_outside.specs.Outside.{Files}
use Rattle.gcda_format.specs.Data.{DataValue}
use Rattle.gcda_format.specs.Reading as data_reading
use Rattle.gcno_format.specs.Notes.{NotesValue}
use Rattle.gcno_format.specs.Reading.{laid_out}
use Rattle.gcno_format.specs.Values.{TellsNotes}
use Rattle.path_report.specs.Tally.{TallyValue}
use Rattle.cov_answers.specs.declared.answers.End.{End}
use Rattle.cov_answers.specs.declared.answers.End.TheVariants as answer
use Rattle.command_steps.specs.Names.{data_name, notes_name, source_name}
use Rattle.command_steps.specs.Files.{LoadsFile, ReadsData, ReadsNotes, DataAt, NotesAt}
use Rattle.file_commands.specs.Merge.{AddSteps, SecondSteps}
use Rattle.file_commands.specs.Tallied.{IsTallied}
use Rattle.file_commands.specs.Report.{IsNoted, SourceAt, FindsData, TextSteps, DataSteps, SourceSteps}
use Rattle.file_commands.specs.Laws as laws
use Rattle.file_commands.specs.Laws.{HasData, HasNotes, HasSource, HasCounts, IsOutside}
use Rattle.file_commands.proofs.TallyOnce.{HaveNets, nets_told, told_once, told_whole, tallied_once}
use Rattle.run_merge.specs.Merging.{merge_fault}

-- one option is not two things
some_none : {A : Type 0} (o : Option A) (a : A) → o ≡ Some a → o ≡ None → ⊥
some_none o a s n = cc

pub some_once : {A : Type 0} (o : Option A) (a b : A) → o ≡ Some a → o ≡ Some b → b ≡ a
some_once o a b s t = cc

-- a file that is there and short is loaded
pub loads_there : (files : Files) (name : List ℕ) (limit : ℕ) (bytes : List ℕ) (end : End) → files name ≡ Some bytes
    → length bytes ≤ limit → LoadsFile (Some files) name limit (Err end) → IsOutside end
loads_there files name limit bytes (answer.Missing missing) there fits h =
    absurd (some_none (files name) bytes there h.1)
loads_there files name limit bytes (answer.TooLong long) there fits h =
    let same : h.1.bytes ≡ bytes = some_once (files name) bytes h.1.bytes there h.1.there in
    absurd (omega (arith, ap (λ (bs : List ℕ). length bs) same, h.1.long, fits))
loads_there files name limit bytes answer.FolderFault there fits h = inl refl
loads_there files name limit bytes answer.NoMemory there fits h = inr refl
loads_there files name limit bytes _ there fits h = absurd h

-- data that are there are loaded
read_there : (bytes : List ℕ) (counts : DataValue) (end : End) → data_reading.told bytes ≡ Ok counts
    → ReadsData bytes (Err end) → IsOutside end
read_there bytes counts (answer.BadData fault) reads h =
    absurd (let ok = reads in let err = h in cc)
read_there bytes counts answer.NoMemory reads h = inr refl
read_there bytes counts _ reads h = absurd h

pub data_there : (files : Files) (name : List ℕ) (counts : DataValue) (end : End) → HasData files name counts
    → DataAt (Some files) name (Err end) → IsOutside end
data_there files name counts end has (inl h) =
    loads_there files (data_name name) file_limit has.bytes end has.there has.fits h
data_there files name counts end has (inr h) =
    let same : h.0 ≡ has.bytes = some_once (files (data_name name)) has.bytes h.0 has.there h.1.0 in
    read_there has.bytes counts end has.reads (subst (λ (bs : List ℕ). ReadsData bs (Err end)) same h.2)

pub data_once : (files : Files) (name : List ℕ) (counts others : DataValue) → HasData files name counts
    → DataAt (Some files) name (Ok others) → others ≡ counts
data_once files name counts others has h =
    let same : h.0 ≡ has.bytes = some_once (files (data_name name)) has.bytes h.0 has.there h.1.0 in
    let reads : data_reading.told has.bytes ≡ Ok others =
    subst (λ (bs : List ℕ). data_reading.told bs ≡ Ok others) same h.2 in
    let told = has.reads in cc

-- ---- merge

add_there : (first second : DataValue) (end : End) → merge_fault first second ≡ None
    → AddSteps first second (Err end) → IsOutside end
add_there first second end none (inl h) = absurd (some_none (merge_fault first second) h.0 h.1 none)
add_there first second end none (inr h) = inr h.2

second_there : (files : Files) (b : List ℕ) (first second : DataValue) (end : End) → HasData files b second
    → merge_fault first second ≡ None → SecondSteps (Some files) b first (Err end) → IsOutside end
second_there files b first second end has none (inl h) = data_there files b second end has h
second_there files b first second end has none (inr h) =
    add_there first second end none
    (subst (λ (s : DataValue). AddSteps first s (Err end)) (data_once files b second h.0 has h.1) h.2)

pub merge_succeeds : laws.MergeSucceeds
merge_succeeds files a b first second end one other none (inl h) = data_there files a first end one h
merge_succeeds files a b first second end one other none (inr h) =
    second_there files b first second end other none
    (subst (λ (f : DataValue). SecondSteps (Some files) b f (Err end)) (data_once files a first h.0 one h.1) h.2)

-- ---- report

notes_read : (bytes : List ℕ) (notes : NotesValue) (end : End) → TellsNotes bytes (Ok notes)
    → ReadsNotes bytes (Err end) → IsOutside end
notes_read bytes notes (answer.BadNotes fault) reads h = absurd (told_whole (laid_out bytes) notes fault reads h)
notes_read bytes notes answer.NoMemory reads h = inr refl
notes_read bytes notes _ reads h = absurd h

notes_there : (files : Files) (name : List ℕ) (notes : NotesValue) (end : End) → HasNotes files name notes
    → NotesAt (Some files) name (Err end) → IsOutside end
notes_there files name notes end has (inl h) =
    loads_there files (notes_name name) file_limit has.bytes end has.there has.fits h
notes_there files name notes end has (inr h) =
    let same : h.0 ≡ has.bytes = some_once (files (notes_name name)) has.bytes h.0 has.there h.1.0 in
    notes_read has.bytes notes end has.reads (subst (λ (bs : List ℕ). ReadsNotes bs (Err end)) same h.2)

pub notes_once : (files : Files) (name : List ℕ) (notes others : NotesValue) → HasNotes files name notes
    → NotesAt (Some files) name (Ok others) → others ≡ notes
notes_once files name notes others has h =
    let same : h.0 ≡ has.bytes = some_once (files (notes_name name)) has.bytes h.0 has.there h.1.0 in
    told_once (laid_out has.bytes) notes others has.reads
    (subst (λ (bs : List ℕ). TellsNotes bs (Ok others)) same h.2)

noted_there : (notes : NotesValue) (source : List ℕ) (end : End) → (files : Files) (name : List ℕ)
    → HasSource files name notes source → IsNoted notes source (Err end) → IsOutside end
noted_there notes source (answer.SourceChanged noted given) files name has h =
    absurd (h.2 (h.0 ∙ (has.stamp ∙ sym h.1)))
noted_there notes source _ files name has h = absurd h

source_there : (files : Files) (name : List ℕ) (notes : NotesValue) (source : List ℕ) (end : End)
    → HasSource files name notes source → SourceAt (Some files) name notes (Err end) → IsOutside end
source_there files name notes source end has (inl h) =
    loads_there files (source_name name) source_limit source end has.there has.fits h
source_there files name notes source end has (inr h) =
    let same : h.0 ≡ source = some_once (files (source_name name)) source h.0 has.there h.1.0 in
    noted_there notes source end files name has (subst (λ (bs : List ℕ). IsNoted notes bs (Err end)) same h.2)

pub source_once : (files : Files) (name : List ℕ) (notes : NotesValue) (source other : List ℕ)
    → HasSource files name notes source → SourceAt (Some files) name notes (Ok other) → other ≡ source
source_once files name notes source other has h =
    let same : h.0 ≡ source = some_once (files (source_name name)) source h.0 has.there h.1.0 in
    h.2.0 ∙ same

-- where there is no file, none is loaded
none_there : (files : Files) (name : List ℕ) (end : End) → files (data_name name) ≡ None
    → FindsData (Some files) name (Err end) → IsOutside end
none_there files name (answer.Missing missing) none h = absurd h
none_there files name (answer.TooLong long) none (inl h) =
    absurd (some_none (files (data_name name)) h.1.bytes h.1.there none)
none_there files name answer.FolderFault none h = inl refl
none_there files name answer.NoMemory none h = inr refl
none_there files name _ none (inl h) = absurd h
none_there files name _ none (inr h) = absurd (some_none (files (data_name name)) h.0 h.1.0 none)

-- what is found at a fault is what is loaded
found_load : (files : Files) (name : List ℕ) (end : End) → FindsData (Some files) name (Err end)
    → DataAt (Some files) name (Err end)
found_load files name (answer.Missing missing) h = absurd h
found_load files name _ h = h

pub find_there : (files : Files) (name : List ℕ) (counts : Option DataValue) (end : End) → HasCounts files name counts
    → FindsData (Some files) name (Err end) → IsOutside end
find_there files name None end has h = none_there files name end has h
find_there files name (Some counts) end has h = data_there files name counts end has (found_load files name end h)

pub find_once : (files : Files) (name : List ℕ) (counts found : Option DataValue) → HasCounts files name counts
    → FindsData (Some files) name (Ok found) → found ≡ counts
find_once files name None None has h = refl
find_once files name None (Some other) has h = absurd (some_none (files (data_name name)) h.0 h.1.0 has)
find_once files name (Some counts) None has h = absurd (some_none (files (data_name name)) has.bytes has.there h)
find_once files name (Some counts) (Some other) has h = ap Some (data_once files name counts other has h)

text_there : (name source : List ℕ) (notes : NotesValue) (counts : Option DataValue) (tally : TallyValue) (end : End)
    → HaveNets notes.functions → IsTallied notes counts (Ok tally) → TextSteps name source notes counts (Err end)
    → IsOutside end
text_there name source notes counts tally end nets has (inl h) =
    inr (tallied_once notes counts tally end nets has h)
text_there name source notes counts tally end nets has (inr h) = inr h.2

counts_there : (files : Files) (name source : List ℕ) (notes : NotesValue) (counts : Option DataValue)
    (tally : TallyValue) (end : End) → HaveNets notes.functions → HasCounts files name counts
    → IsTallied notes counts (Ok tally) → DataSteps (Some files) name notes source (Err end) → IsOutside end
counts_there files name source notes counts tally end nets has whole (inl h) = find_there files name counts end has h
counts_there files name source notes counts tally end nets has whole (inr h) =
    text_there name source notes counts tally end nets whole
    (subst (λ (c : Option DataValue). TextSteps name source notes c (Err end))
    (find_once files name counts h.0 has h.1) h.2)

noted_source_there : (files : Files) (name source : List ℕ) (notes : NotesValue) (counts : Option DataValue)
    (tally : TallyValue) (end : End) → HaveNets notes.functions → HasSource files name notes source
    → HasCounts files name counts → IsTallied notes counts (Ok tally)
    → SourceSteps (Some files) name notes (Err end) → IsOutside end
noted_source_there files name source notes counts tally end nets given has whole (inl h) =
    source_there files name notes source end given h
noted_source_there files name source notes counts tally end nets given has whole (inr h) =
    counts_there files name source notes counts tally end nets has whole
    (subst (λ (s : List ℕ). DataSteps (Some files) name notes s (Err end))
    (source_once files name notes source h.0 given h.1) h.2)

pub report_succeeds : laws.ReportSucceeds
report_succeeds files name source notes counts tally end noted given has whole (inl h) =
    notes_there files name notes end noted h
report_succeeds files name source notes counts tally end noted given has whole (inr h) =
    noted_source_there files name source notes counts tally end (nets_told (laid_out noted.bytes) notes noted.reads)
    given has whole (subst (λ (n : NotesValue). SourceSteps (Some files) name n (Err end))
    (notes_once files name notes h.0 noted h.1) h.2)
